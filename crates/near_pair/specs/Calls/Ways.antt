-- Ways between the points of a pair, and a foot as the code has it.
use Rattle.std.specs.Prelude.{◌≡◌}
use Rattle.space3.specs.declared.vectors.V3.{V3}
use Rattle.space3.specs.Vectors.{difference}
use Rattle.vec_q.specs.Raws.{raws}
use Rattle.nearest.specs.Feet.{Foot}
use Rattle.near_pair.specs.declared.found.FootQ.{FootQ}
use Rattle.near_pair.specs.declared.found.TriangleWays.{TriangleWays}
use Rattle.near_pair.specs.declared.found.EdgeWays.{EdgeWays}

abbrev pub foot_of : FootQ → Foot
foot_of f = record { start = f.start.raw; end = f.end.raw; num = f.num.raw; den = f.den.raw }

-- the ways from the corners of a triangle to a point, and those of its edges
pub record AreWaysOf (w : TriangleWays) (p a b c : V3) : Type 0 where
  pub from_a : raws w.from_a ≡ difference p a
  pub from_b : raws w.from_b ≡ difference p b
  pub from_c : raws w.from_c ≡ difference p c
  pub ab : raws w.ab ≡ difference b a
  pub ac : raws w.ac ≡ difference c a
  pub bc : raws w.bc ≡ difference c b

-- the two edges, and the ways between their ends
pub record AreEdgeWaysOf (w : EdgeWays) (a0 a1 b0 b1 : V3) : Type 0 where
  pub a : raws w.a ≡ difference a1 a0
  pub b : raws w.b ≡ difference b1 b0
  pub b0_to_a0 : raws w.b0_to_a0 ≡ difference a0 b0
  pub b0_to_a1 : raws w.b0_to_a1 ≡ difference a1 b0
  pub b1_to_a0 : raws w.b1_to_a0 ≡ difference a0 b1
  pub b1_to_a1 : raws w.b1_to_a1 ≡ difference a1 b1
  pub a0_to_b0 : raws w.a0_to_b0 ≡ difference b0 a0
  pub a0_to_b1 : raws w.a0_to_b1 ≡ difference b1 a0
