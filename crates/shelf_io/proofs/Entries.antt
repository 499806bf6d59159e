-- A list of names and bytes as a map.
use Rattle.std.proofs.Common.{◌≡◌, ◌<◌, ◌≤◌, ℕ, suc, zero, List, [], ◌∷◌, ◌++◌, length, refl, ap, sym, subst, ◌∙◌, Option, Some, None, arith, slice_get, set, get_or, drop, string_bytes}
use Rattle.std.proofs.lemmas.List.{map-set, map-append, length-map}
use Rattle.std.proofs.Math.Seq.{map-set_same}
use Rattle.std.proofs.lemmas.Option.{slice_get_read, slice_get-map}
use Rattle.std.specs.Option.{option_map}
use Rattle.std.specs.Cmp.Lexicographic.{slice_cmp, nat_list_cmp_total}
use Rattle.std.specs.Ordering.{nat_cmp}
use Rattle.std.specs.FinMap.{get, insert, get-empty, from_entries_push, get-from_entries}
use Rattle.shelf_io.specs.MemView.{entries_of, map_of, files_of}
use Rattle.shelf_io.specs.Calls.{IsFirst, OpensAt}
use Rattle.shelf_io.specs.declared.mem_files.MemFile.{MemFile}
use Rattle.shelf_io.proofs.FileMaps.{exact_names, get_new, get_other, insert_twice, insert_crossed}

abbrev pub Entries : Type 0
Entries = List (List ℕ × List ℕ)

-- the name and the bytes of the first entry
head_name : (e : List ℕ × List ℕ) (name bytes : List ℕ) → Some e ≡ Some (name, bytes) → e.0 ≡ name
head_name e name bytes h = cc

head_bytes : (e : List ℕ × List ℕ) (name bytes : List ℕ) → Some e ≡ Some (name, bytes) → e.1 ≡ bytes
head_bytes e name bytes h = cc

-- the first of a name, among the entries behind another one
first_behind : (e : List ℕ × List ℕ) (es : Entries) (name : List ℕ) (i : ℕ) → IsFirst (e ∷ es) name (suc i) → IsFirst es name i
first_behind e es name i h = record { bytes = h.bytes; here = h.here; before = λ k lt. h.before (suc k) (omega arith) }

-- and it isn't that other one
first_other : (e : List ℕ × List ℕ) (es : Entries) (name : List ℕ) (i : ℕ) → IsFirst (e ∷ es) name (suc i) → name ≡ e.0 → ⊥
first_other e es name i h same = h.before 0 (omega arith) e.1 (ap (λ n. Some (n, e.1)) (sym same))

-- the map has the bytes of the first entry of a name
pub get_first : (es : Entries) (name : List ℕ) (i : ℕ) (h : IsFirst es name i) → get (map_of es) name ≡ Some h.bytes
unfolding first_behind
get_first [] name i h = cc
get_first (e ∷ es) name zero h =
    subst (λ (n : List ℕ). get (map_of (e ∷ es)) n ≡ Some e.1) (head_name e name h.bytes h.here) (get_new (map_of es) e.0 e.1)
    ∙ ap Some (head_bytes e name h.bytes h.here)
get_first (e ∷ es) name (suc i) h =
    get_other (map_of es) e.0 e.1 name (first_other e es name i h) ∙ get_first es name i (first_behind e es name i h)

pub get_none : (es : Entries) (name : List ℕ) → ((k : ℕ) (others : List ℕ) → slice_get es k ≡ Some (name, others) → ⊥) → get (map_of es) name ≡ None
get_none [] name none = get-empty (slice_cmp nat_cmp) name
get_none (e ∷ es) name none =
    get_other (map_of es) e.0 e.1 name (λ same. none 0 e.1 (ap (λ n. Some (n, e.1)) (sym same)))
    ∙ get_none es name (λ k others h. none (suc k) others h)

-- other bytes in the place of those of the first entry of a name
pub set_first : (es : Entries) (name : List ℕ) (i : ℕ) (bytes : List ℕ) → IsFirst es name i → map_of (set es i (name, bytes)) ≡ insert (map_of es) name bytes
set_first [] name i bytes h = let e = h.here in cc
set_first (e ∷ es) name zero bytes h =
    sym (insert_twice (map_of es) name e.1 bytes)
    ∙ ap (λ n. insert (insert (map_of es) n e.1) name bytes) (sym (head_name e name h.bytes h.here))
set_first (e ∷ es) name (suc i) bytes h =
    ap (λ m. insert m e.0 e.1) (set_first es name i bytes (first_behind e es name i h))
    ∙ insert_crossed (map_of es) name bytes e.0 e.1 (first_other e es name i h)

-- an entry of a new name
pub push_new : (es : Entries) (name bytes : List ℕ) → get (map_of es) name ≡ None → map_of (es ++ (name, bytes) ∷ []) ≡ insert (map_of es) name bytes
push_new es name bytes none = from_entries_push nat_list_cmp_total exact_names es name bytes (sym (get-from_entries nat_list_cmp_total es name) ∙ none)

entry_within : (es : Entries) (e : List ℕ × List ℕ) (k : ℕ) → slice_get es k ≡ Some e → k < length es
entry_within [] e k h = cc
entry_within (x ∷ es) e zero h = omega arith
entry_within (x ∷ es) e (suc k) h = omega (arith, entry_within es e k h)

pub first_within : (es : Entries) (name : List ℕ) (i : ℕ) → IsFirst es name i → i < length es
first_within es name i h = entry_within es (name, h.bytes) i h.here

-- no entry has the name, where none of the first i has it and there are no more
pub none_of_all : (es : Entries) (name : List ℕ) (i : ℕ) → length es ≤ i
    → ((k : ℕ) → k < i → (others : List ℕ) → slice_get es k ≡ Some (name, others) → ⊥) → get (map_of es) name ≡ None
none_of_all es name i le none = get_none es name (λ k others h. none k (omega (arith, entry_within es (name, others) k h)) others h)

-- one entry stands at one place
one_entry : (o : Option (List ℕ × List ℕ)) (p q : List ℕ × List ℕ) → o ≡ Some p → o ≡ Some q → p ≡ q
one_entry o p q a b = cc

-- it has one name
pub one_name : (o : Option (List ℕ × List ℕ)) (a b x y : List ℕ) → o ≡ Some (a, x) → o ≡ Some (b, y) → a ≡ b
one_name o a b x y p q = ap (λ e. e.0) (one_entry o (a, x) (b, y) p q)

-- the files of a list, and what is found and set there

abbrev entry_of : MemFile → (List ℕ × List ℕ)
entry_of f = (string_bytes f.name, f.bytes.items)

pub entries_length : (fs : List MemFile) → length (entries_of fs) ≡ length fs
entries_length fs = length-map fs entry_of

-- the file that is read at an index
pub file_at : (fs : List MemFile) (i : ℕ) (f : MemFile) → i < length fs → f ≡ get_or fs i f → slice_get (entries_of fs) i ≡ Some (string_bytes f.name, f.bytes.items)
file_at fs i f lt is = slice_get-map entry_of fs i ∙ ap (option_map entry_of) (slice_get_read fs (length fs) i f refl lt is)

-- the file that was found has the name, and its bytes are those of the map
pub record IsNamedFile (fs : List MemFile) (name : List ℕ) (i : ℕ) (f : MemFile) : Type 0 where
  pub named : string_bytes f.name ≡ name
  pub bytes : get (files_of fs) name ≡ Some f.bytes.items

pub named_file : (fs : List MemFile) (name : List ℕ) (i : ℕ) (f : MemFile) → IsFirst (entries_of fs) name i → f ≡ get_or fs i f → IsNamedFile fs name i f
named_file fs name i f h is =
    let lt : i < length fs = omega (arith, first_within (entries_of fs) name i h, entries_length fs) in
    let at = file_at fs i f lt is in
    let same = one_entry _ (string_bytes f.name, f.bytes.items) (name, h.bytes) at h.here in
    record {
      named = ap (λ e. e.0) same;
      bytes = get_first (entries_of fs) name i h ∙ ap (λ e. Some e.1) (sym same);
    }

-- another file in the place of the one that was found
pub set_named_file : (fs : List MemFile) (name : List ℕ) (i : ℕ) (g : MemFile) → IsFirst (entries_of fs) name i → string_bytes g.name ≡ name → files_of (set fs i g) ≡ insert (files_of fs) name g.bytes.items
set_named_file fs name i g h same =
    ap map_of (map-set entry_of fs i g ∙ ap (λ n. set (entries_of fs) i (n, g.bytes.items)) same)
    ∙ set_first (entries_of fs) name i g.bytes.items h

-- a file that differs in nothing that is seen
pub set_alike : (fs : List MemFile) (i : ℕ) (f g : MemFile) → f ≡ get_or fs i f → g.name ≡ f.name → g.bytes.items ≡ f.bytes.items → entries_of (set fs i g) ≡ entries_of fs
set_alike fs i f g is name bytes =
    map-set_same entry_of fs i g f (ap (λ n. (string_bytes n, g.bytes.items)) name ∙ ap (λ bs. (string_bytes f.name, bs)) bytes ∙ ap entry_of is)

-- a file more, of a new name
pub pushed : (fs : List MemFile) (f : MemFile) (name : List ℕ) → string_bytes f.name ≡ name → get (files_of fs) name ≡ None → files_of (fs ++ f ∷ []) ≡ insert (files_of fs) name f.bytes.items
pushed fs f name same none =
    ap map_of (map-append entry_of fs (f ∷ []) ∙ ap (λ n. entries_of fs ++ (n, f.bytes.items) ∷ []) same)
    ∙ push_new (entries_of fs) name f.bytes.items none

-- the first file of a name is opened
pub opens_at : (es : Entries) (name : List ℕ) (i : ℕ) → IsFirst es name i → OpensAt es name (record { file = i; at = 0 })
opens_at es name i h = record { bytes = h.bytes; found = get_first es name i h; opened = ap (option_map (λ e. (e.0, drop 0 e.1))) h.here }
