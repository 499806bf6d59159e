-- Boxes over the start and the end of a motion.
use Rattle.std.specs.Prelude.{List, ◌++◌}
use Rattle.space3.specs.declared.vectors.V3.{V3}
use Rattle.space3.specs.Boxes.{BoxesTouch}
use Rattle.safe_motion.specs.declared.motion.Move.{Move}
use Rattle.safe_motion.specs.Moments.{start_places, end_places}

-- the places at the start and at the end
abbrev pub both_ends : List Move → List V3
both_ends moves = start_places moves ++ end_places moves

-- the boxes over start and end touch
abbrev pub SweptBoxesTouch : List Move → List Move → Type 0
SweptBoxesTouch xs ys = BoxesTouch (both_ends xs) (both_ends ys)
