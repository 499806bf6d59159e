use Rattle.std.proofs.Common.{◌≡◌, ◌∙◌, ◌^◌, ◌<◌, ℤ, pos, ◌+ℤ◌, neg_ℤ, unsigned_abs, ap, arith}
use Rattle.std.proofs.lemmas.Int.{ints}
use Rattle.num_q.specs.Rounding.{cut_of}
use Rattle.num_q.proofs.Bounds.{cut_same}
use Rattle.space3.specs.Vectors.{vector}
use Rattle.neo_hooke.proofs.laws.pulls_are_balanced.Goals as goal

-- along an axis
balanced : (a b c : ℤ) → unsigned_abs (neg_ℤ (a +ℤ b +ℤ c)) < 2 ^ 90 → cut_of 90 (neg_ℤ (a +ℤ b +ℤ c)) +ℤ (a +ℤ (b +ℤ c)) ≡ pos 0
balanced a b c h = ap (λ (z : ℤ). z +ℤ (a +ℤ (b +ℤ c))) (cut_same 90 (neg_ℤ (a +ℤ b +ℤ c)) h) ∙ none a b c
  where
    none : (a b c : ℤ) → neg_ℤ (a +ℤ b +ℤ c) +ℤ (a +ℤ (b +ℤ c)) ≡ pos 0
    none a b c = omega (arith, ints)

pub returns : goal.returns
returns c = λ m h. λ i. vector
    (balanced m.first.x m.second.x m.third.x h.x i)
    (balanced m.first.y m.second.y m.third.y h.y i)
    (balanced m.first.z m.second.z m.third.z h.z i)
