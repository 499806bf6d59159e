-- What lines are made of. A text is a list of bytes.
use Rattle.std.specs.Prelude.{◌++◌, ◌||◌, ℕ, List, map, codes, decimal, nat_lt, if◌then◌else◌}
use Rattle.std.specs.List.{flat_map}
use Rattle.line_search.specs.declared.end.FrameEnd.{FrameEnd}
use Rattle.line_search.specs.declared.end.FrameEnd.TheVariants as ends

-- a byte below 32 or above 126 is printed as `?`
abbrev pub printed_byte : ℕ → ℕ
printed_byte b = if nat_lt b 32 || nat_lt 126 b then 63 else b

-- a name or a key as lines print it
abbrev pub printed : List ℕ → List ℕ
printed name = map printed_byte name

-- numbers, each after a space
abbrev pub spaced : List ℕ → List ℕ
spaced numbers = flat_map (λ n. codes " " ++ decimal n) numbers

-- how a frame ended, and after how many steps
abbrev pub end_words : FrameEnd → List ℕ
end_words (ends.Converged steps) = codes "converged " ++ decimal steps
end_words (ends.Stalled steps) = codes "stalled " ++ decimal steps
end_words (ends.Budget steps) = codes "budget " ++ decimal steps
