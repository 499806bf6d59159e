-- Lower bounds of a squared distance, and what carries one from some weights to others.
use Rattle.std.proofs.Common.{◌≡◌, ℤ, pos, ◌+ℤ◌, ◌-ℤ◌, ◌*ℤ◌, ◌≤ℤ◌, ◌<ℤ◌, [], ◌∷◌, arith}
use Rattle.std.proofs.lemmas.Int.{ints}
use Rattle.whole_laws.proofs.Ring.{ring, v, ◌⊕◌, ◌⊖◌, ◌⊗◌}
use Rattle.whole_laws.proofs.Order.{sq_nonneg_ℤ, mul_pos_ℤ, mul_nonneg_ℤ, add_nonneg_ℤ, nonneg_of_mul_ℤ, nonneg_from_le, le_from_nonneg}

-- twice a number that is not negative
pub twice-nonneg : (a : ℤ) → pos 0 ≤ℤ a → pos 0 ≤ℤ (pos 2 *ℤ a)
twice-nonneg a h = omega (arith, ints)

-- num / den is at most the squared distance dist of weights with the sum S, which is dist / S²
pub record IsUnder (num den S dist : ℤ) : Type 0 where
  pub under : (num *ℤ (S *ℤ S)) ≤ℤ (den *ℤ dist)

-- a bound at other weights, whose distance is no greater, is one here
pub carried : (num den S dist S' dist' : ℤ) → pos 0 ≤ℤ den → pos 0 <ℤ S' → (dist' *ℤ (S *ℤ S)) ≤ℤ (dist *ℤ (S' *ℤ S')) → IsUnder num den S' dist' → IsUnder num den S dist
carried num den S dist S' dist' hd hs nearer u = record {
  under = le_from_nonneg _ _ (nonneg_of_mul_ℤ (S' *ℤ S') (den *ℤ dist -ℤ num *ℤ (S *ℤ S)) (mul_pos_ℤ S' S' hs hs)
      (rw split (add_nonneg_ℤ _ _ (mul_nonneg_ℤ den _ hd (nonneg_from_le _ _ nearer)) (mul_nonneg_ℤ (S *ℤ S) _ (sq_nonneg_ℤ S) (nonneg_from_le _ _ u.under)))));
}
  where
    split : (S' *ℤ S') *ℤ (den *ℤ dist -ℤ num *ℤ (S *ℤ S))
        ≡ den *ℤ (dist *ℤ (S' *ℤ S') -ℤ dist' *ℤ (S *ℤ S)) +ℤ (S *ℤ S) *ℤ (den *ℤ dist' -ℤ num *ℤ (S' *ℤ S'))
    split =
        ring (num ∷ den ∷ S ∷ dist ∷ S' ∷ dist' ∷ [])
        ((v 4 ⊗ v 4) ⊗ (v 1 ⊗ v 3 ⊖ v 0 ⊗ (v 2 ⊗ v 2)))
        (v 1 ⊗ (v 3 ⊗ (v 4 ⊗ v 4) ⊖ v 5 ⊗ (v 2 ⊗ v 2)) ⊕ (v 2 ⊗ v 2) ⊗ (v 1 ⊗ v 5 ⊖ v 0 ⊗ (v 4 ⊗ v 4))) tt

-- a bound of one candidate is one of a candidate with no greater distance
pub lesser_under : (num den num' den' S dist : ℤ) → pos 0 ≤ℤ den → pos 0 <ℤ den' → (num *ℤ den') ≤ℤ (num' *ℤ den) → IsUnder num' den' S dist → IsUnder num den S dist
lesser_under num den num' den' S dist hd hd' lesser u = record {
  under = le_from_nonneg _ _ (nonneg_of_mul_ℤ den' (den *ℤ dist -ℤ num *ℤ (S *ℤ S)) hd'
      (rw split (add_nonneg_ℤ _ _ (mul_nonneg_ℤ den _ hd (nonneg_from_le _ _ u.under)) (mul_nonneg_ℤ (S *ℤ S) _ (sq_nonneg_ℤ S) (nonneg_from_le _ _ lesser)))));
}
  where
    split : den' *ℤ (den *ℤ dist -ℤ num *ℤ (S *ℤ S))
        ≡ den *ℤ (den' *ℤ dist -ℤ num' *ℤ (S *ℤ S)) +ℤ (S *ℤ S) *ℤ (num' *ℤ den -ℤ num *ℤ den')
    split =
        ring (num ∷ den ∷ num' ∷ den' ∷ S ∷ dist ∷ [])
        (v 3 ⊗ (v 1 ⊗ v 5 ⊖ v 0 ⊗ (v 4 ⊗ v 4)))
        (v 1 ⊗ (v 3 ⊗ v 5 ⊖ v 2 ⊗ (v 4 ⊗ v 4)) ⊕ (v 4 ⊗ v 4) ⊗ (v 2 ⊗ v 1 ⊖ v 0 ⊗ v 3)) tt
