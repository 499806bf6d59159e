-- Without a load there is no friction.
use Rattle.std.proofs.Common.{◌≡◌, ◌∙◌, ◌^◌, ℕ, ℤ, pos, ◌*ℤ◌, List, [], ◌∷◌, map, length, sym, ap, subst, arith}
use Rattle.std.specs.Prelude.{replicate, slice_index_or}
use Rattle.num_q.specs.Rounding.{floor_of, cut_of}
use Rattle.whole_laws.proofs.Ring.{ring, v, num, ◌⊗◌}
use Rattle.space3.specs.declared.vectors.V3.{V3}
use Rattle.space3.specs.Vectors.{origin, vector}
use Rattle.list_laws.proofs.Fours.{map-four}
use Rattle.vec_q.specs.Matrices.{unit_times}
use Rattle.vec_q.specs.Rows.{components, rows_of}
use Rattle.nearest.specs.Cancelling.{AlmostCancel}
use Rattle.nearest.specs.SignedWeights.{AreBalanced}
use Rattle.friction_lag.specs.Contacts.{LaggedContact, length_of}
use Rattle.friction_lag.specs.Friction.{drag_of, friction_blocks, friction_energy, friction_gradient, pull, pull_at, slide_of, slip_of, smooth_length, smooth_rate}
use Rattle.friction_lag.proofs.Pulls.{pulls_cancel}

-- nothing times a number
none : (load a : ℤ) → load ≡ pos 0 → load *ℤ a ≡ pos 0
none load a e = ap (λ z. z *ℤ a) e ∙ ring (a ∷ []) (num (pos 0) ⊗ v 0) (num (pos 0)) tt

pub no_energy : (c : LaggedContact) (friction slip : ℤ) (places : List V3) → friction *ℤ c.force ≡ pos 0 → friction_energy c friction slip places ≡ pos 0
no_energy c friction slip places e =
    ap (λ z. cut_of 90 (floor_of z (pos (2 ^ 24)))) (none (friction *ℤ c.force) (smooth_length (length_of (slide_of c places)) (slip_of slip)) e)

no_drag : (c : LaggedContact) (friction slip : ℤ) (slide : V3) → friction *ℤ c.force ≡ pos 0 → drag_of c friction slip slide ≡ pos 0
no_drag c friction slip slide e =
    ap (λ z. floor_of z (pos (2 ^ 16))) (none (friction *ℤ c.force) (smooth_rate (length_of slide) (slip_of slip)) e)

no_pull : (slide : V3) (weight : ℤ) → pull_at (pos 0) slide weight ≡ origin
no_pull slide weight = λ t. vector (along slide.x t) (along slide.y t) (along slide.z t)
  where
    along : (s : ℤ) → pull (pos 0) s weight ≡ pos 0
    along s =
        ap (λ z. cut_of 90 (floor_of (floor_of z (pos (2 ^ 32)) *ℤ weight) (pos (2 ^ 16)))) (none (pos 0) s (λ _. pos 0))
        ∙ ap (λ z. cut_of 90 (floor_of z (pos (2 ^ 16)))) (none (pos 0) weight (λ _. pos 0))

stands : (c : LaggedContact) (friction slip : ℤ) (places : List V3) → friction *ℤ c.force ≡ pos 0 → friction_gradient c friction slip places ≡ map (λ _. origin) c.signed
stands c friction slip places e =
    let slide = slide_of c places in
    ap (λ z. map (pull_at z slide) c.signed) (no_drag c friction slip slide e) ∙ (λ t. map (λ weight. no_pull slide weight t) c.signed)

pub no_pulls : (c : LaggedContact) (friction slip : ℤ) (places : List V3) → friction *ℤ c.force ≡ pos 0 → length c.signed ≡ 4 → map components (friction_gradient c friction slip places) ≡ replicate 4 (replicate 3 (pos 0))
no_pulls c friction slip places e four =
    ap (map components) (stands c friction slip places e ∙ map-four (λ _. origin) c.signed (pos 0) four)

pub nothing_cancels : (c : LaggedContact) (friction slip : ℤ) (places : List V3) → friction *ℤ c.force ≡ pos 0 → length c.signed ≡ 4 → AreBalanced c.signed → AlmostCancel (friction_gradient c friction slip places)
nothing_cancels c friction slip places e four balanced =
    subst AlmostCancel (sym (stands c friction slip places e ∙ (λ t. map (λ weight. sym (no_pull origin weight) t) c.signed)))
    (pulls_cancel (pos 0) origin c.signed (omega arith) (record { x = omega arith; y = omega arith; z = omega arith }) four balanced)

pub no_blocks : (c : LaggedContact) (friction slip : ℤ) (places : List V3) → friction *ℤ c.force ≡ pos 0 → friction_blocks c friction slip places ≡ replicate 4 (replicate 4 (replicate 3 (replicate 3 (pos 0))))
no_blocks c friction slip places e = λ t. map (λ i. map (λ j. rows_of (unit_times (entry i j t))) (0 ∷ 1 ∷ 2 ∷ 3 ∷ [])) (0 ∷ 1 ∷ 2 ∷ 3 ∷ [])
  where
    weight : ℕ → ℤ
    weight k = slice_index_or c.signed k (pos 0)

    entry : (i j : ℕ) → cut_of 86 (floor_of (drag_of c friction slip (slide_of c places) *ℤ weight i *ℤ weight j) (pos (2 ^ 48))) ≡ pos 0
    entry i j = ap (λ z. cut_of 86 (floor_of z (pos (2 ^ 48)))) (none _ (weight j) (none _ (weight i) (no_drag c friction slip (slide_of c places) e)))
