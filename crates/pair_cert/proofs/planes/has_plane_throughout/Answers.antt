use Rattle.std.proofs.Common.{◌^◌, sym, subst, arith}
use Rattle.std.specs.Prelude.{All}
use Rattle.space3.specs.Vectors.{Within}
use Rattle.pair_cert.specs.Calls.RelativeMoves.{moves_in}
use Rattle.pair_cert.proofs.Separations.{rows_within}
use Rattle.pair_cert.proofs.Tallies.{stays}
use Rattle.pair_cert.proofs.planes.has_plane_throughout.Goals as goal

pub returns-then-is_plane_guessed-clause-tally : goal.returns-then-is_plane_guessed-clause-tally
returns-then-is_plane_guessed-clause-tally c = stays 1 c.args.tally.now.n (omega arith)

pub has_plane-requires-clause-range : goal.has_plane-requires-clause-range
has_plane-requires-clause-range c = subst (All (Within (2 ^ 29))) (sym c.ends.ensures) (rows_within (moves_in c.args.moves.now) c.requires)
