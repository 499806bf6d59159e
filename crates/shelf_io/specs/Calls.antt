-- What the private calls of a shelf in memory find, read and add.
use Rattle.std.specs.Prelude.{◌≡◌, ◌<◌, ℕ, List, drop, take, length, min, Option, Some, IfSome, slice_get}
use Rattle.std.specs.Option.{option_map}
use Rattle.std.specs.FinMap.{get}
use Rattle.shelf_io.specs.Shelf.{with_added}
use Rattle.shelf_io.specs.MemView.{map_of, files_of, opened_of, making_of}
use Rattle.shelf_io.specs.declared.mem_files.MemFile.{MemFile}
use Rattle.shelf_io.specs.declared.mem_work.ReadHead.{ReadHead}
use Rattle.shelf_io.specs.declared.mem_work.Work.{Work}
use Rattle.shelf_io.specs.declared.mem_work.Work.TheVariants.{Reading}

-- the entry at i has this name, and none before it has
pub record IsFirst (entries : List (List ℕ × List ℕ)) (name : List ℕ) (i : ℕ) : Type 0 where
  pub bytes : List ℕ
  pub here : slice_get entries i ≡ Some (name, bytes)
  pub before : (k : ℕ) → k < i → (others : List ℕ) → slice_get entries k ≡ Some (name, others) → ⊥

-- a read head stands at the start of the file of this name, with all its bytes unread
pub record OpensAt (entries : List (List ℕ × List ℕ)) (name : List ℕ) (head : ReadHead) : Type 0 where
  pub bytes : List ℕ
  pub found : get (map_of entries) name ≡ Some bytes
  pub opened : opened_of entries (Reading head) ≡ Some (name, bytes)

-- as many unread bytes as fit stand in the buffer, and are no longer unread
pub record ReadsOn (file : List ℕ × List ℕ) (n : ℕ) (buf : List ℕ) (after : Option (List ℕ × List ℕ)) : Type 0 where
  pub fits : n ≡ min (length buf) (length file.1)
  pub bytes : take n buf ≡ take n file.1
  pub rest : after ≡ Some (file.0, drop n file.1)

-- the same of the open file before and after
abbrev pub ReadsNext : List (List ℕ × List ℕ) → Work → ℕ → List ℕ → Work → Type 0
ReadsNext entries old n buf new = IfSome (opened_of entries old) (λ file. ReadsOn file n buf (opened_of entries new))

-- the name of the open file
abbrev pub open_name_of : List (List ℕ × List ℕ) → Work → Option (List ℕ)
open_name_of entries work = option_map (λ file. file.0) (opened_of entries work)

-- the files got more bytes at the end of the one that is being made
abbrev pub AddsTo : Work → List ℕ → List MemFile → List MemFile → Type 0
AddsTo work bytes old new = Some (files_of new) ≡ with_added (making_of work) bytes (Some (files_of old))
