-- The text of each line of the console. A text is a list of bytes, and a line ends with a line feed.
use Rattle.std.specs.Prelude.{◌++◌, ℕ, ℤ, List, codes, decimal}
use Rattle.std.specs.Fmt.{signed_decimal}
use Rattle.mesh_words.specs.declared.kinds.MshKind.{MshKind}
use Rattle.mesh_words.specs.declared.kinds.MshKind.TheVariants as faults
use Rattle.msh_text.specs.declared.refusal.MshErr.{MshErr}
use Rattle.boundary.specs.declared.pairs.PairKind.{PairKind}
use Rattle.boundary.specs.declared.pairs.PairKind.TheVariants.{VE, VT, EE, ET}
use Rattle.scene_toml.specs.declared.refusal.SceneErr.{SceneErr}
use Rattle.scene_toml.specs.declared.refusal.SceneErr.TheVariants as scenes
use Rattle.line_search.specs.declared.end.FrameEnd.{FrameEnd}
use Rattle.report_text.specs.declared.line.Line.{Line}
use Rattle.report_text.specs.declared.line.Line.TheVariants as lines
use Rattle.report_text.specs.Words.{end_words, printed, spaced}

-- how the program is called
abbrev pub usage_line : List ℕ
usage_line = codes "usage: ipc check DIGITS MESH OUT | run SCENE | gen N\n"

-- a mesh of so many nodes and tetrahedra is accepted
abbrev pub accepted_line : (nodes tets : ℕ) → List ℕ
accepted_line nodes tets = codes "mesh nodes " ++ decimal nodes ++ codes " tets " ++ decimal tets ++ codes "\n"

-- a frame is shown, with its end
abbrev pub frame_line : (frame : ℕ) → FrameEnd → List ℕ
frame_line frame end = codes "frame " ++ decimal frame ++ codes " " ++ end_words end ++ codes "\n"

-- so many bytes of a file were taken, one more than its limit
abbrev pub too_long_line : (name : List ℕ) (taken : ℕ) → List ℕ
too_long_line name taken = codes "too long " ++ printed name ++ codes " " ++ decimal taken ++ codes "\n"

-- a value of a scene is out of range
abbrev pub range_line : (key : List ℕ) (value : ℤ) → List ℕ
range_line key value =
    codes "scene refused: out of range " ++ printed key ++ codes " " ++ signed_decimal value ++ codes "\n"

-- a scene is refused
abbrev pub scene_line : SceneErr → List ℕ
scene_line scenes.NotToml = codes "scene refused: not toml\n"
scene_line (scenes.UnknownKey key) = codes "scene refused: unknown key " ++ printed key ++ codes "\n"
scene_line (scenes.Missing key) = codes "scene refused: missing key " ++ printed key ++ codes "\n"
scene_line (scenes.WrongType key) = codes "scene refused: wrong type " ++ printed key ++ codes "\n"
scene_line (scenes.OutOfRange key value) = range_line key value

-- what is wrong with a mesh's text
abbrev pub fault_words : MshKind → List ℕ
fault_words faults.Truncated = codes "truncated"
fault_words faults.NoFormat = codes "no format"
fault_words faults.Misplaced = codes "misplaced"
fault_words faults.BadCount = codes "bad count"
fault_words faults.Fields = codes "fields"
fault_words faults.Version = codes "version"
fault_words faults.Binary = codes "binary"
fault_words faults.BadNumber = codes "bad number"
fault_words faults.TooManyNodes = codes "too many nodes"
fault_words faults.DuplicateNode = codes "duplicate node"
fault_words faults.OffGrid = codes "off grid"
fault_words faults.OutOfBox = codes "out of box"
fault_words faults.ElementType = codes "element type"
fault_words faults.UnknownNode = codes "unknown node"
fault_words faults.RepeatedNode = codes "repeated node"
fault_words faults.TooManyTets = codes "too many tets"
fault_words faults.NoTets = codes "no tets"

-- a mesh's text is refused for its first fault
abbrev pub mesh_line : MshErr → List ℕ
mesh_line err = codes "mesh refused: line " ++ decimal err.line ++ codes " " ++ fault_words err.kind ++ codes "\n"

abbrev pub kind_word : PairKind → List ℕ
kind_word VE = codes "VE"
kind_word VT = codes "VT"
kind_word EE = codes "EE"
kind_word ET = codes "ET"

-- two parts of the surface meet, a pair of this kind with these nodes
abbrev pub meets_line : PairKind → (a b : List ℕ) → List ℕ
meets_line kind a b =
    codes "geometry refused: meets " ++ kind_word kind ++ spaced a ++ codes " /" ++ spaced b ++ codes "\n"

-- the sums of all coordinates
abbrev pub sum_line : (x y z : ℤ) → List ℕ
sum_line x y z =
    codes "sum " ++ signed_decimal x ++ codes " " ++ signed_decimal y ++ codes " " ++ signed_decimal z ++ codes "\n"

-- the text of a line
abbrev pub text_of_line : Line → List ℕ
text_of_line lines.Usage = usage_line
text_of_line (lines.Accepted nodes tets) = accepted_line nodes tets
text_of_line lines.Start = codes "frame 0 start\n"
text_of_line (lines.Frame frame end) = frame_line frame end
text_of_line (lines.ReadFault name) = codes "read fault " ++ printed name ++ codes "\n"
text_of_line (lines.WriteFault name) = codes "write fault " ++ printed name ++ codes "\n"
text_of_line (lines.TooLong name taken) = too_long_line name taken
text_of_line (lines.Scene err) = scene_line err
text_of_line (lines.MeshText err) = mesh_line err
text_of_line (lines.FaceThrice numbers) = codes "surface refused: face thrice" ++ spaced numbers ++ codes "\n"
text_of_line (lines.FaceSame numbers) = codes "surface refused: face same" ++ spaced numbers ++ codes "\n"
text_of_line (lines.Triangles count) = codes "surface refused: triangles " ++ decimal count ++ codes "\n"
text_of_line (lines.NotPositive number) = codes "geometry refused: not positive " ++ decimal number ++ codes "\n"
text_of_line (lines.Thin number) = codes "geometry refused: thin " ++ decimal number ++ codes "\n"
text_of_line (lines.Long number) = codes "geometry refused: long " ++ decimal number ++ codes "\n"
text_of_line (lines.TooHeavy number) = codes "geometry refused: too heavy " ++ decimal number ++ codes "\n"
text_of_line (lines.Meets kind a b) = meets_line kind a b
text_of_line (lines.Sum x y z) = sum_line x y z
