-- A contact that stands has the least energy.
use Rattle.std.proofs.Common.{◌≡◌, ℕ, ◌≤◌, ◌^◌, ℤ, pos, ◌+ℤ◌, ◌-ℤ◌, ◌*ℤ◌, ◌≤ℤ◌, List, [], ◌∷◌, map, refl, sym, ◌∙◌, ap, subst, arith}
use Rattle.std.proofs.lemmas.Int.{ints}
use Rattle.std.specs.Prelude.{zip}
use Rattle.num_q.specs.Rounding.{floor_of, cut_of}
use Rattle.num_q.proofs.Bounds.{cut_mono}
use Rattle.fixed_log.proofs.Roots.{root-is}
use Rattle.whole_laws.proofs.Floors.{floor_mono}
use Rattle.whole_laws.proofs.Products.{scale_le_ℤ}
use Rattle.whole_laws.proofs.Ring.{ring, v, num, ◌⊕◌, ◌⊖◌, ◌⊗◌}
use Rattle.space3.specs.declared.vectors.V3.{V3}
use Rattle.space3.specs.Vectors.{origin, difference, dot_product}
use Rattle.space3.proofs.Combinations.{same_vector}
use Rattle.vec_q.specs.Rows.{vector_of}
use Rattle.nearest.specs.SignedWeights.{signed_sum}
use Rattle.friction_lag.specs.Contacts.{LaggedContact, length_of}
use Rattle.friction_lag.specs.Friction.{across, slide_of, slip_of, smooth_length, friction_energy}
use Rattle.friction_lag.proofs.SmoothLengths.{least_length}

-- places that didn't move
no_motion : (signed : List ℤ) (places : List V3) → signed_sum signed (map (λ pair. difference pair.0 pair.1) (zip places places)) ≡ origin
no_motion [] places = refl
no_motion (w ∷ ws) [] = refl
no_motion (w ∷ ws) (x ∷ xs) = same_vector _ _ (one w x.x _ (ap (λ (r : V3). r.x) (no_motion ws xs))) (one w x.y _ (ap (λ (r : V3). r.y) (no_motion ws xs))) (one w x.z _ (ap (λ (r : V3). r.z) (no_motion ws xs)))
  where
    one : (w x s : ℤ) → s ≡ pos 0 → w *ℤ (x -ℤ x) +ℤ s ≡ pos 0
    one w x s e = ap (λ t. w *ℤ (x -ℤ x) +ℤ t) e ∙ ring (w ∷ x ∷ []) (v 0 ⊗ (v 1 ⊖ v 1) ⊕ num (pos 0)) (num (pos 0)) tt

no_slide : (n : V3) → across n origin ≡ origin
no_slide n = same_vector _ _ (one n.x) (one n.y) (one n.z)
  where
    along : dot_product origin n ≡ pos 0
    along = ring (n.x ∷ n.y ∷ n.z ∷ []) (num (pos 0) ⊗ v 0 ⊕ num (pos 0) ⊗ v 1 ⊕ num (pos 0) ⊗ v 2) (num (pos 0)) tt

    one : (m : ℤ) → pos 0 -ℤ floor_of (dot_product origin n *ℤ m) (pos (2 ^ 32)) ≡ pos 0
    one m = ap (λ z. pos 0 -ℤ floor_of (z *ℤ m) (pos (2 ^ 32))) along ∙ ap (λ z. pos 0 -ℤ floor_of z (pos (2 ^ 32))) (ring (m ∷ []) (num (pos 0) ⊗ v 0) (num (pos 0)) tt)

no_length : length_of origin ≡ 0
no_length = sym (root-is 0 0 (omega arith) (omega arith) (omega arith))

standing : (c : LaggedContact) → length_of (slide_of c c.from) ≡ 0
standing c = ap length_of (ap (across (vector_of c.normal)) (no_motion c.signed c.from) ∙ no_slide (vector_of c.normal)) ∙ no_length

pub least_energy : (c : LaggedContact) (friction slip : ℤ) (places : List V3) → pos 0 ≤ℤ (friction *ℤ c.force) → 65536 ≤ slip_of slip → friction_energy c friction slip c.from ≤ℤ friction_energy c friction slip places
least_energy c friction slip places load wide =
    subst (λ (n : ℕ). cut_of 90 (floor_of (friction *ℤ c.force *ℤ smooth_length n (slip_of slip)) (pos (2 ^ 24))) ≤ℤ friction_energy c friction slip places) (sym (standing c))
    (cut_mono 90 _ _ (floor_mono _ _ (pos (2 ^ 24)) (omega (arith, ints)) (scale_le_ℤ (friction *ℤ c.force) (smooth_length 0 (slip_of slip)) (smooth_length (length_of (slide_of c places)) (slip_of slip)) load (least_length _ (slip_of slip) wide))))

pub wide_slip : (slip : ℤ) → pos 1 ≤ℤ slip → 65536 ≤ slip_of slip
wide_slip slip h = omega (arith, ints)
