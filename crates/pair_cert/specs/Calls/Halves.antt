-- The halves of a move.
use Rattle.std.specs.Prelude.{pos}
use Rattle.space3.specs.Vectors.{multiple, sum_of}
use Rattle.safe_motion.specs.declared.motion.Move.{Move}
use Rattle.pair_cert.specs.declared.moves.Half.{Half}
use Rattle.pair_cert.specs.declared.moves.Half.TheVariants.{First, Second}

-- the first or the second half of a move, times 2
abbrev pub half_of : Half → Move → Move
half_of First m = record { start = multiple (pos 2) m.start; end = sum_of m.start m.end }
half_of Second m = record { start = sum_of m.start m.end; end = multiple (pos 2) m.end }
