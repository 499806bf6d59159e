-- Certificates on the intervals into which a step is halved.
use Rattle.std.specs.Prelude.{ℕ, ◌+◌, ◌*◌, ◌^◌, ◌<◌, zero, suc, pos, ℤ, ◌+ℤ◌, ◌<ℤ◌, List, ◌⊎◌}
use Rattle.space3.specs.declared.vectors.V3.{V3}
use Rattle.space3.specs.Vectors.{difference, determinant}
use Rattle.safe_motion.specs.declared.motion.Move.{Move}
use Rattle.safe_motion.specs.declared.motion.Corners.{Corners}
use Rattle.safe_motion.specs.declared.motion.Edges.{Edges}
use Rattle.safe_motion.specs.Moments.{place_at, places_at, IsStill}
use Rattle.safe_motion.specs.Meeting.{Separates}

-- the vector separates the two parts at both ends of the interval from j / n to (j + 1) / n
pub record Serves (normal : V3) (xs ys : List Move) (j n : ℕ) : Type 0 where
  pub before : Separates normal (places_at j n xs) (places_at j n ys)
  pub after : Separates normal (places_at (j + 1) n xs) (places_at (j + 1) n ys)

-- some vector serves the interval from j / n to (j + 1) / n
pub record IsServed (xs ys : List Move) (j n : ℕ) : Type 0 where
  pub normal : V3
  pub serves : Serves normal xs ys j n

-- each of the 2^depth equal intervals of the step is served by a vector of its own
abbrev pub PairCertificate : ℕ → List Move → List Move → Type 0
PairCertificate depth xs ys = (j : ℕ) → j < 2 ^ depth → IsServed xs ys j (2 ^ depth)

-- the edges from the first corner at p / q, times q
abbrev pub edges_at : ℕ → ℕ → Corners → Edges
edges_at p q t = record {
  u = difference (place_at p q t.second) (place_at p q t.first);
  v = difference (place_at p q t.third) (place_at p q t.first);
  w = difference (place_at p q t.fourth) (place_at p q t.first);
}

-- the determinant of the edges: six times the signed volume, times q^3
abbrev pub volume_at : ℕ → ℕ → Corners → ℤ
volume_at p q t = let e = edges_at p q t in determinant e.u e.v e.w

-- The four Bernstein coefficients of the determinant between two moments are positive; the middle two are taken
-- three times.
pub record ArePositive (s t : Edges) : Type 0 where
  pub first : pos 0 <ℤ determinant s.u s.v s.w
  pub second : pos 0 <ℤ (determinant t.u s.v s.w +ℤ determinant s.u t.v s.w +ℤ determinant s.u s.v t.w)
  pub third : pos 0 <ℤ (determinant t.u t.v s.w +ℤ determinant t.u s.v t.w +ℤ determinant s.u t.v t.w)
  pub fourth : pos 0 <ℤ determinant t.u t.v t.w

-- the Bernstein coefficients of the interval from j / n to (j + 1) / n are positive
abbrev pub StaysPositive : Corners → ℕ → ℕ → Type 0
StaysPositive t j n = ArePositive (edges_at j n t) (edges_at (j + 1) n t)

-- those of each of the 2^depth equal intervals of the step are
abbrev pub VolumeCertificate : ℕ → Corners → Type 0
VolumeCertificate depth t = (j : ℕ) → j < 2 ^ depth → StaysPositive t j (2 ^ depth)

-- none of the four corners moves
pub record AreStill (t : Corners) : Type 0 where
  pub first : IsStill t.first
  pub second : IsStill t.second
  pub third : IsStill t.third
  pub fourth : IsStill t.fourth

-- The fact holds of the interval from j / n to (j + 1) / n, or of both its halves, and so on down to so many
-- halvings.
abbrev pub ByHalves : (ℕ → ℕ → Type 0) → ℕ → ℕ → ℕ → Type 0
ByHalves P zero j n = P j n
ByHalves P (suc depth) j n = P j n ⊎ (ByHalves P depth (2 * j) (2 * n) × ByHalves P depth (2 * j + 1) (2 * n))
