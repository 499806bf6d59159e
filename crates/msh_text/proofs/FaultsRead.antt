-- What reading gives, and the first fault.
use Rattle.std.proofs.Common.{◌≡◌, ◌∙◌, ℕ, List, [], ◌∷◌, ◌++◌, Option, Some, None, Result, Err, inl, inr, refl, sym, ap, append_assoc}
use Rattle.mesh_words.specs.declared.kinds.MshKind.{MshKind}
use Rattle.space3.specs.declared.mesh.Mesh.{Mesh}
use Rattle.msh_text.specs.declared.refusal.MshErr.{MshErr}
use Rattle.msh_text.specs.FirstFault.{Line, Progress, Passes, stays, goes, kind_on, next, end_kind, fault_at, FaultOnRow, FaultAtEnd, IsFirstFaultFrom}
use Rattle.msh_text.specs.Calls.Reading.{unless, step_by, read}

pub read-end : (p : Progress) (last : ℕ) (o : Option MshKind) → end_kind p ≡ o → read p [] last ≡ unless last o p.mesh
unfolding read
read-end p last o e = ap (λ (k : Option MshKind). unless last k p.mesh) e

pub read-on : (p : Progress) (line : Line) (lines : List Line) (last : ℕ) → kind_on p line.1 ≡ None → read p (line ∷ lines) last ≡ read (next p line.1) lines last
unfolding read
read-on p line lines last e = ap (λ (k : Option MshKind). step_by k line.0 (read (next p line.1) lines last)) e

pub read-fault : (p : Progress) (line : Line) (lines : List Line) (last : ℕ) (kind : MshKind) → kind_on p line.1 ≡ Some kind → read p (line ∷ lines) last ≡ Err (fault_at line.0 kind)
unfolding read
read-fault p line lines last kind e = ap (λ (k : Option MshKind). step_by k line.0 (read (next p line.1) lines last)) e

-- rows without a fault are read over
pub read-passes : (p : Progress) (lines more : List Line) (q : Progress) (last : ℕ) → Passes p lines q → read p (lines ++ more) last ≡ read q more last
read-passes p [] more q last stays = refl
read-passes p (line ∷ lines) more q last (goes e passes) = read-on p line (lines ++ more) last e ∙ read-passes (next p line.1) lines more q last passes

pub same_fault : (f : MshErr) (line : ℕ) → f.line ≡ line → fault_at line f.kind ≡ f
same_fault f line e = ap (λ (n : ℕ). fault_at n f.kind) (sym e)

pub read-on_row : (p : Progress) (lines : List Line) (last : ℕ) (f : MshErr) → FaultOnRow p lines f → read p lines last ≡ Err f
read-on_row p lines last f h =
    ap (λ (ls : List Line). read p ls last) h.whole ∙ read-passes p h.before (h.line ∷ h.after) h.there last h.passes ∙ read-fault h.there h.line h.after last f.kind h.kind
    ∙ ap Err (same_fault f h.line.0 h.number)

all_of : (lines : List Line) → lines ++ [] ≡ lines
all_of [] = refl
all_of (line ∷ lines) = ap (λ (ls : List Line). line ∷ ls) (all_of lines)

pub read-at_end : (p : Progress) (lines : List Line) (last : ℕ) (f : MshErr) → FaultAtEnd p lines last f → read p lines last ≡ Err f
read-at_end p lines last f h =
    ap (λ (ls : List Line). read p ls last) (sym (all_of lines)) ∙ read-passes p lines [] h.there last h.passes ∙ read-end h.there last (Some f.kind) h.kind
    ∙ ap Err (same_fault f last h.number)

-- a first fault is what is read
pub read-first : (p : Progress) (lines : List Line) (last : ℕ) (f : MshErr) → IsFirstFaultFrom p lines last f → read p lines last ≡ Err f
read-first p lines last f (inl h) = read-on_row p lines last f h
read-first p lines last f (inr h) = read-at_end p lines last f h

-- what is read as a fault is the first fault
later : (p : Progress) (line : Line) (lines : List Line) (last : ℕ) (f : MshErr) → kind_on p line.1 ≡ None → IsFirstFaultFrom (next p line.1) lines last f → IsFirstFaultFrom p (line ∷ lines) last f
later p line lines last f e (inl h) =
    inl (record { before = line ∷ h.before; line = h.line; after = h.after; there = h.there; whole = ap (λ (ls : List Line). line ∷ ls) h.whole; passes = goes e h.passes; kind = h.kind; number = h.number })
later p line lines last f e (inr h) = inr (record { there = h.there; passes = goes e h.passes; kind = h.kind; number = h.number })

at_end : (p : Progress) (last : ℕ) (o : Option MshKind) (f : MshErr) → end_kind p ≡ o → unless last o p.mesh ≡ Err f → IsFirstFaultFrom p [] last f
at_end p last (Some kind) f e r =
    let same : fault_at last kind ≡ f = cc in
    inr (record { there = p; passes = stays; kind = e ∙ ap (λ (g : MshErr). Some g.kind) same; number = ap (λ (g : MshErr). g.line) (sym same) })
at_end p last None f e r = absurd cc

on_row : (p : Progress) (line : Line) (lines : List Line) (last : ℕ) (o : Option MshKind) (f : MshErr) → kind_on p line.1 ≡ o → step_by o line.0 (read (next p line.1) lines last) ≡ Err f
    → (read (next p line.1) lines last ≡ Err f → IsFirstFaultFrom (next p line.1) lines last f) → IsFirstFaultFrom p (line ∷ lines) last f
on_row p line lines last (Some kind) f e r more =
    let same : fault_at line.0 kind ≡ f = cc in
    inl (record { before = []; line = line; after = lines; there = p; whole = refl; passes = stays; kind = e ∙ ap (λ (g : MshErr). Some g.kind) same; number = ap (λ (g : MshErr). g.line) (sym same) })
on_row p line lines last None f e r more = later p line lines last f e (more r)

read-step : (p : Progress) (line : Line) (lines : List Line) (last : ℕ) → read p (line ∷ lines) last ≡ step_by (kind_on p line.1) line.0 (read (next p line.1) lines last)
unfolding read
read-step p line lines last = refl

pub first-read : (p : Progress) (lines : List Line) (last : ℕ) (f : MshErr) → read p lines last ≡ Err f → IsFirstFaultFrom p lines last f
first-read p [] last f r = at_end p last (end_kind p) f refl (sym (read-end p last (end_kind p) refl) ∙ r)
first-read p (line ∷ lines) last f r = on_row p line lines last (kind_on p line.1) f refl (sym (read-step p line lines last) ∙ r) (first-read (next p line.1) lines last f)

pub same_Err : (r : Result Mesh MshErr) (f g : MshErr) → r ≡ Err f → r ≡ Err g → f ≡ g
same_Err r f g a b = cc

pub one_first : (p : Progress) (lines : List Line) (last : ℕ) (f g : MshErr) → IsFirstFaultFrom p lines last f → IsFirstFaultFrom p lines last g → f ≡ g
one_first p lines last f g a b = same_Err (read p lines last) f g (read-first p lines last f a) (read-first p lines last g b)

pub kept : (p : Progress) (shared more : List Line) (last : ℕ) (f : MshErr) → FaultOnRow p shared f → IsFirstFaultFrom p (shared ++ more) last f
kept p shared more last f h =
    inl (record {
      before = h.before;
      line = h.line;
      after = h.after ++ more;
      there = h.there;
      whole = ap (λ (ls : List Line). ls ++ more) h.whole ∙ append_assoc h.before (h.line ∷ h.after) more;
      passes = h.passes;
      kind = h.kind;
      number = h.number;
    })
