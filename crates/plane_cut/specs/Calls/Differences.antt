-- The differences of the points of two lists.
use Rattle.std.specs.Prelude.{List, map}
use Rattle.std.specs.List.{flat_map}
use Rattle.space3.specs.declared.vectors.V3.{V3}
use Rattle.space3.specs.Vectors.{difference}

-- a - b for each b
abbrev pub differences_from : V3 → List V3 → List V3
differences_from a ys = map (difference a) ys

-- a - b for each a of the first list and each b of the second
abbrev pub differences : List V3 → List V3 → List V3
differences xs ys = flat_map (λ a. differences_from a ys) xs
