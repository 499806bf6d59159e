-- Reading rows without their line numbers and without saying which fault.
use Rattle.std.proofs.Common.{◌≡◌, ℕ, List, [], ◌∷◌, Option, Some, None, Result, Ok, Err, refl, ap}
use Rattle.mesh_words.specs.declared.kinds.MshKind.{MshKind}
use Rattle.space3.specs.declared.mesh.Mesh.{Mesh}
use Rattle.msh_text.specs.declared.refusal.MshErr.{MshErr}
use Rattle.mesh_words.specs.Rows.{Row}
use Rattle.msh_text.specs.FirstFault.{Line, Progress, kind_on, next, end_kind}
use Rattle.msh_text.specs.Calls.Reading.{unless, step_by, read}
use Rattle.msh_text.specs.Texts.{rows_of}

abbrev pub ended : {X : Type 0} → Option MshKind → X → Option X
ended (Some kind) x = None
ended None x = Some x

abbrev pub onward : {X : Type 0} → Option MshKind → Option X → Option X
onward (Some kind) o = None
onward None o = o

unfoldable pub gets : Progress → List Row → Option (Mesh)
gets p [] = ended (end_kind p) p.mesh
gets p (row ∷ rows) = onward (kind_on p row) (gets (next p row) rows)

abbrev pub ok_of : Result Mesh MshErr → Option (Mesh)
ok_of (Ok ns) = Some ns
ok_of (Err f) = None

end_same : (o : Option MshKind) (last : ℕ) (ns : Mesh) → ok_of (unless last o ns) ≡ ended o ns
end_same (Some kind) last ns = refl
end_same None last ns = refl

step_same : (o : Option MshKind) (line : ℕ) (r : Result Mesh MshErr) (g : Option (Mesh)) → ok_of r ≡ g → ok_of (step_by o line r) ≡ onward o g
step_same (Some kind) line r g e = refl
step_same None line r g e = e

pub gets-read : (p : Progress) (lines : List Line) (last : ℕ) → ok_of (read p lines last) ≡ gets p (rows_of lines)
unfolding read gets
gets-read p [] last = end_same (end_kind p) last p.mesh
gets-read p (line ∷ lines) last = step_same (kind_on p line.1) line.0 (read (next p line.1) lines last) _ (gets-read (next p line.1) lines last)

pub gets-on : (p : Progress) (row : Row) (rows : List Row) → kind_on p row ≡ None → gets p (row ∷ rows) ≡ gets (next p row) rows
unfolding gets
gets-on p row rows e = ap (λ (o : Option MshKind). onward o (gets (next p row) rows)) e

pub gets-end : (p : Progress) → end_kind p ≡ None → gets p [] ≡ Some p.mesh
unfolding gets
gets-end p e = ap (λ (o : Option MshKind). ended o p.mesh) e

-- what follows from a row that is passed
through : {P : Type 0} (o : Option MshKind) (g : Option (Mesh)) (ns : Mesh) → onward o g ≡ Some ns → (o ≡ None → g ≡ Some ns → P) → P
through (Some kind) g ns e then = absurd cc
through None g ns e then = then refl e

pub gets-through : {P : Type 0} (p : Progress) (row : Row) (rows : List Row) (ns : Mesh) → gets p (row ∷ rows) ≡ Some ns → (kind_on p row ≡ None → gets (next p row) rows ≡ Some ns → P) → P
unfolding gets
gets-through p row rows ns e then = through (kind_on p row) (gets (next p row) rows) ns e then

at_end : {P : Type 0} (o : Option MshKind) (ms ns : Mesh) → ended o ms ≡ Some ns → (o ≡ None → ms ≡ ns → P) → P
at_end (Some kind) ms ns e then = absurd cc
at_end None ms ns e then = then refl cc

pub gets-at_end : {P : Type 0} (p : Progress) (ns : Mesh) → gets p [] ≡ Some ns → (end_kind p ≡ None → p.mesh ≡ ns → P) → P
unfolding gets
gets-at_end p ns e then = at_end (end_kind p) p.mesh ns e then
