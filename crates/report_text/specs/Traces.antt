-- The trace of a frame: the steps that it took, and how it ended. A text is a list of bytes.
use Rattle.std.specs.Prelude.{◌++◌, ◌&&◌, ℕ, pos, Bool, List, codes, decimal, not}
use Rattle.std.specs.Fmt.{signed_decimal}
use Rattle.std.specs.List.{filter, flat_map, zip}
use Rattle.std.specs.Ordering.{int_eq}
use Rattle.line_search.specs.declared.end.FrameEnd.{FrameEnd}
use Rattle.line_search.specs.declared.step.DirKind.{DirKind}
use Rattle.line_search.specs.declared.step.DirKind.TheVariants as kinds
use Rattle.line_search.specs.declared.step.Step.{Step}
use Rattle.space3.specs.declared.mesh.Mesh.{Mesh}
use Rattle.space3.specs.declared.vectors.V3.{V3}
use Rattle.report_text.specs.Words.{end_words}

-- of which method a direction is
abbrev pub method_word : DirKind → List ℕ
method_word kinds.Newton = codes "newton"
method_word kinds.Jacobi = codes "jacobi"

-- the line of a step: its method, how often its direction was halved, and the potential before and after
abbrev pub step_line : Step → List ℕ
step_line step =
    codes "step " ++ method_word step.kind ++ codes " " ++ decimal step.half ++ codes " " ++ signed_decimal step.upper
    ++ codes " " ++ signed_decimal step.lower ++ codes "\n"

-- the line of a node: its number in the file, and its direction before it was halved, in grid units
abbrev pub node_line : ℕ × V3 → List ℕ
node_line node =
    decimal node.0 ++ codes " " ++ signed_decimal node.1.x ++ codes " " ++ signed_decimal node.1.y ++ codes " "
    ++ signed_decimal node.1.z ++ codes "\n"

abbrev pub is_zero : V3 → Bool
is_zero d = int_eq d.x (pos 0) && int_eq d.y (pos 0) && int_eq d.z (pos 0)

-- the lines of the nodes whose direction isn't 0, in the file's order
abbrev pub node_lines : (numbers : List ℕ) (direction : List V3) → List ℕ
node_lines numbers direction = flat_map node_line (filter (λ node. not (is_zero node.1)) (zip numbers direction))

-- a step and its direction
abbrev pub step_text : (numbers : List ℕ) → Step → List ℕ
step_text numbers step = step_line step ++ node_lines numbers step.direction

-- the form of the text and the frame's number, the steps in order, and the frame's end
unfoldable pub trace_text : Mesh → (frame : ℕ) → List Step → FrameEnd → List ℕ
trace_text mesh frame steps end =
    codes "trace 1\nframe " ++ decimal frame ++ codes "\n" ++ flat_map (step_text mesh.numbers) steps ++ codes "end "
    ++ end_words end ++ codes "\n"
