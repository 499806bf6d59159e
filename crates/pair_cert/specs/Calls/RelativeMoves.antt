-- The relative moves that a value of the code holds.
use Rattle.std.specs.Prelude.{List, take}
use Rattle.safe_motion.specs.declared.motion.Move.{Move}
use Rattle.pair_cert.specs.declared.moves.RelativeMoves.{RelativeMoves}

-- the first `count`
abbrev pub moves_in : RelativeMoves → List Move
moves_in moves = take moves.count moves.at
