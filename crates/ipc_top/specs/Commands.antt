-- The commands.
use Rattle.std.specs.Prelude.{◌&&◌, ◌-◌, ◌==◌, ℕ, List, [], ◌∷◌, codes, nat_le, not, slice_index, if◌then◌else◌, Option, Some, None, option_map}
use Rattle.std.specs.Option.{option_and_then}
use Rattle.std.specs.Str.{bytes_eq}
use Rattle.line_fields.specs.Lines.{whole_of}
use Rattle.work_gen.specs.declared.stack.TheConstants.{MOST_BLOCKS}

-- to check the mesh of a file on the grid of so many digits, and write it as frame 0 under a name; to run the scene of
-- a file; to run the stated stack of so many blocks
pub data Command : Type 0 where
  Check : (digits : ℕ) (mesh out : List ℕ) → Command
  RunScene : (scene : List ℕ) → Command
  RunStack : (blocks : ℕ) → Command

-- a word of one digit
abbrev pub digit_of : List ℕ → Option ℕ
digit_of (byte ∷ []) = if nat_le 48 byte && nat_le byte 57 then Some (byte - 48) else None
digit_of word = None

-- how many blocks a word asks for: a number from 1 to the most, without a zero before it
abbrev pub blocks_of : List ℕ → Option ℕ
blocks_of word =
    option_and_then
    (λ n. if nat_le 1 n && nat_le n MOST_BLOCKS && not (slice_index word 0 == 48) then Some n else None) (whole_of word)

-- the command that the words are; other words are none
abbrev pub command_of : List (List ℕ) → Option Command
command_of (name ∷ digits ∷ mesh ∷ out ∷ []) =
    if bytes_eq name (codes "check") then option_map (λ count. Check count mesh out) (digit_of digits) else None
command_of (name ∷ word ∷ []) =
    if bytes_eq name (codes "run") then Some (RunScene word)
    else if bytes_eq name (codes "gen") then option_map RunStack (blocks_of word)
    else None
command_of words = None
