-- Texts that were made piece by piece.
use Rattle.std.proofs.Common.{◌≡◌, ◌∙◌, ℕ, ℤ, List, ◌∷◌, ◌++◌, append_assoc}
use Rattle.std.specs.Prelude.{codes, decimal}
use Rattle.std.specs.Fmt.{signed_decimal}
use Rattle.std.specs.List.{flat_map}
use Rattle.line_search.specs.declared.end.FrameEnd.{FrameEnd}
use Rattle.line_search.specs.declared.step.Step.{Step}
use Rattle.space3.specs.declared.mesh.Mesh.{Mesh}
use Rattle.space3.specs.declared.vectors.V3.{V3}
use Rattle.report_text.specs.Lines.{sum_line}
use Rattle.report_text.specs.Traces.{node_line, step_text, trace_text}
use Rattle.report_text.specs.Words.{end_words}

joined_5 : (text first x y z end : List ℕ) → ((((text ++ first) ++ x) ++ y) ++ z) ++ end ≡ text ++ ((((first ++ x) ++ y) ++ z) ++ end)
joined_5 text first x y z end = simp append_assoc

joined_7 : (first x y z end : List ℕ) → (((first ++ (32 ∷ x)) ++ (32 ∷ y)) ++ (32 ∷ z)) ++ end ≡ ((((((first ++ codes " ") ++ x) ++ codes " ") ++ y) ++ codes " ") ++ z) ++ end
joined_7 first x y z end = simp append_assoc

-- a number and a vector
pub node_written : (text t1 t2 t3 t4 t5 : List ℕ) (number : ℕ) (d : V3) → t1 ≡ text ++ decimal number → t2 ≡ t1 ++ (codes " " ++ signed_decimal d.x) → t3 ≡ t2 ++ (codes " " ++ signed_decimal d.y)
    → t4 ≡ t3 ++ (codes " " ++ signed_decimal d.z) → t5 ≡ t4 ++ codes "\n" → t5 ≡ text ++ node_line (number, d)
node_written text t1 t2 t3 t4 t5 number d e1 e2 e3 e4 e5 =
    let x = signed_decimal d.x in
    let y = signed_decimal d.y in
    let z = signed_decimal d.z in
    let parts : t5 ≡ ((((text ++ decimal number) ++ (32 ∷ x)) ++ (32 ∷ y)) ++ (32 ∷ z)) ++ codes "\n" = cc in
    parts ∙ joined_5 text (decimal number) (32 ∷ x) (32 ∷ y) (32 ∷ z) (codes "\n") ∙ (λ i. text ++ joined_7 (decimal number) x y z (codes "\n") i)

-- three sums
pub sums_written : (t1 t2 t3 t4 t5 : List ℕ) (x y z : ℤ) → t1 ≡ codes "sum" → t2 ≡ t1 ++ (codes " " ++ signed_decimal x) → t3 ≡ t2 ++ (codes " " ++ signed_decimal y)
    → t4 ≡ t3 ++ (codes " " ++ signed_decimal z) → t5 ≡ t4 ++ codes "\n" → t5 ≡ sum_line x y z
sums_written t1 t2 t3 t4 t5 x y z e1 e2 e3 e4 e5 =
    let parts : t5 ≡ (((codes "sum" ++ (32 ∷ signed_decimal x)) ++ (32 ∷ signed_decimal y)) ++ (32 ∷ signed_decimal z)) ++ codes "\n" = cc in
    parts ∙ joined_7 (codes "sum") (signed_decimal x) (signed_decimal y) (signed_decimal z) (codes "\n")

joined_6 : (head frame steps end ending feed : List ℕ) → (((((head ++ (codes " " ++ frame)) ++ feed) ++ steps) ++ end) ++ ending) ++ feed ≡ ((((((head ++ codes " ") ++ frame) ++ feed) ++ steps) ++ end) ++ ending) ++ feed
joined_6 head frame steps end ending feed = simp append_assoc

-- a trace
pub trace_written : (t1 t2 t3 t4 t5 t6 t7 : List ℕ) (mesh : Mesh) (frame : ℕ) (steps : List Step) (end : FrameEnd) → t1 ≡ codes "trace 1\nframe" → t2 ≡ t1 ++ (codes " " ++ decimal frame) → t3 ≡ t2 ++ codes "\n"
    → t4 ≡ t3 ++ flat_map (step_text mesh.numbers) steps → t5 ≡ t4 ++ codes "end " → t6 ≡ t5 ++ end_words end → t7 ≡ t6 ++ codes "\n" → t7 ≡ trace_text mesh frame steps end
unfolding trace_text
trace_written t1 t2 t3 t4 t5 t6 t7 mesh frame steps end e1 e2 e3 e4 e5 e6 e7 =
    let written = flat_map (step_text mesh.numbers) steps in
    let parts : t7 ≡ (((((codes "trace 1\nframe" ++ (codes " " ++ decimal frame)) ++ codes "\n") ++ written) ++ codes "end ") ++ end_words end) ++ codes "\n" = cc in
    parts ∙ joined_6 (codes "trace 1\nframe") (decimal frame) written (codes "end ") (end_words end) (codes "\n")
