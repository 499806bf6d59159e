-- What is found on the way, and the candidate that it stands for.
use Rattle.std.specs.Prelude.{◌≡◌, ℤ, pos, ◌*ℤ◌, List, [], ◌∷◌, Some, None}
use Rattle.nearest.specs.Candidates.{Candidate, IsFirstLeast}
use Rattle.nearest.specs.Feet.{Foot, foot_candidate}
use Rattle.nearest.specs.PointAndTriangle.{side_candidate}
use Rattle.nearest.specs.RoundedWeights.{rounded_weights}
use Rattle.nearest.specs.TwoEdges.{first_alone, second_alone, both_ends}
use Rattle.near_pair.specs.declared.found.Found.{Found}
use Rattle.near_pair.specs.declared.found.Face.{Face}
use Rattle.near_pair.specs.declared.found.Inner.{Inner}
use Rattle.near_pair.specs.declared.found.Side.{Side}
use Rattle.near_pair.specs.declared.found.Side.TheVariants.{Ab, Ac, Bc, FromA0, FromA1, FromB0, FromB1}

-- the same distance and the rounded weights
pub record FoundTells (found : Found) (k : Candidate) : Type 0 where
  pub num : found.num.raw ≡ k.num
  pub den : found.den.raw ≡ k.den
  pub weights : found.weights ≡ rounded_weights k

-- the first least of the candidates was found
pub record IsFound (found : Found) (candidates : List Candidate) : Type 0 where
  pub candidate : Candidate
  pub taken : IsFirstLeast candidates candidate
  pub tells : FoundTells found candidate

-- the candidate of a foot on this edge
abbrev pub placed : Side → Foot → Candidate
placed Ab foot = side_candidate foot (Some foot.start ∷ Some foot.end ∷ None ∷ [])
placed Ac foot = side_candidate foot (Some foot.start ∷ None ∷ Some foot.end ∷ [])
placed Bc foot = side_candidate foot (None ∷ Some foot.start ∷ Some foot.end ∷ [])
placed FromA0 foot = foot_candidate foot (first_alone foot.den) (both_ends foot)
placed FromA1 foot = foot_candidate foot (second_alone foot.den) (both_ends foot)
placed FromB0 foot = foot_candidate foot (both_ends foot) (first_alone foot.den)
placed FromB1 foot = foot_candidate foot (both_ends foot) (second_alone foot.den)

-- the weights of a point and of two ends
abbrev pub weights_on : Side → ℤ → ℤ → List ℤ
weights_on Ab start end = pos 65536 ∷ start ∷ end ∷ pos 0 ∷ []
weights_on Ac start end = pos 65536 ∷ start ∷ pos 0 ∷ end ∷ []
weights_on Bc start end = pos 65536 ∷ pos 0 ∷ start ∷ end ∷ []
weights_on FromA0 start end = pos 65536 ∷ pos 0 ∷ start ∷ end ∷ []
weights_on FromA1 start end = pos 0 ∷ pos 65536 ∷ start ∷ end ∷ []
weights_on FromB0 start end = start ∷ end ∷ pos 65536 ∷ pos 0 ∷ []
weights_on FromB1 start end = start ∷ end ∷ pos 0 ∷ pos 65536 ∷ []

-- the candidate of a foot on a triangle's plane
abbrev pub face_of : Face → Candidate
face_of f = record {
  left = Some f.den.raw ∷ [];
  right = Some f.of_a.raw ∷ Some f.of_b.raw ∷ Some f.of_c.raw ∷ [];
  num = f.height.raw *ℤ f.height.raw;
  den = f.den.raw;
}

-- the candidate of the feet of a common perpendicular
abbrev pub inner_of : Inner → Candidate
inner_of f = record {
  left = Some f.of_a0.raw ∷ Some f.of_a1.raw ∷ [];
  right = Some f.of_b0.raw ∷ Some f.of_b1.raw ∷ [];
  num = f.height.raw *ℤ f.height.raw;
  den = f.den.raw;
}
