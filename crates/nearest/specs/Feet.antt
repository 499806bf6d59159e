-- The foot of a point on a line, and the candidates with an edge or with points alone.
use Rattle.std.specs.Prelude.{ℤ, pos, ◌-ℤ◌, List, Option}
use Rattle.space3.specs.declared.vectors.V3.{V3}
use Rattle.space3.specs.Vectors.{difference, dot_product, cross_product, squared_length}
use Rattle.nearest.specs.Candidates.{Candidate}

-- the foot of the point p on the line through s and t: weights of s and t over `den`, and the squared distance num / den
pub record Foot : Type 0 where
  pub start : ℤ
  pub end : ℤ
  pub num : ℤ
  pub den : ℤ

-- by the ways q = p − s and e = t − s
abbrev pub foot_by : V3 → V3 → Foot
foot_by q e = record {
  start = squared_length e -ℤ dot_product q e;
  end = dot_product q e;
  num = squared_length (cross_product q e);
  den = squared_length e;
}

abbrev pub foot_on : V3 → V3 → V3 → Foot
foot_on p s t = foot_by (difference p s) (difference t s)

-- a point against the inside of an edge, with these weights on both parts
abbrev pub foot_candidate : Foot → List (Option ℤ) → List (Option ℤ) → Candidate
foot_candidate foot left right = record { left = left; right = right; num = foot.num; den = foot.den }

-- a point against another
abbrev pub points_candidate : V3 → V3 → List (Option ℤ) → List (Option ℤ) → Candidate
points_candidate a b left right = record { left = left; right = right; num = squared_length (difference a b); den = pos 1 }
