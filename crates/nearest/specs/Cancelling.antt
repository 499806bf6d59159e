-- Vectors that add up to 0 but for roundings.
use Rattle.std.specs.Prelude.{pos, negsuc, List, map}
use Rattle.whole_laws.specs.Ranges.{IsFrom}
use Rattle.space3.specs.declared.vectors.V3.{V3}
use Rattle.nearest.specs.RoundedWeights.{total}

-- each component of the sum is from −3 to 0: what roundings down of four numbers may leave
pub record AlmostCancel (vectors : List V3) : Type 0 where
  pub x : IsFrom (negsuc 2) (pos 0) (total (map (λ v. v.x) vectors))
  pub y : IsFrom (negsuc 2) (pos 0) (total (map (λ v. v.y) vectors))
  pub z : IsFrom (negsuc 2) (pos 0) (total (map (λ v. v.z) vectors))
