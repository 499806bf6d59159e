-- The nearest whole number to a quotient.
use Rattle.std.proofs.Common.{◌≡◌, ℕ, zero, suc, ◌≤◌, ◌<◌, ◌^◌, ℤ, pos, negsuc, ◌+ℤ◌, ◌-ℤ◌, ◌*ℤ◌, ◌≤ℤ◌, ◌<ℤ◌, unsigned_abs, [], ◌∷◌, ◌∙◌, sym, ap, subst, arith}
use Rattle.std.proofs.Math.Pow.{pow_mono}
use Rattle.std.proofs.lemmas.Int.{ints}
use Rattle.whole_laws.proofs.Floors.{floor_law}
use Rattle.whole_laws.proofs.Laws.{mul_assoc_ℤ}
use Rattle.whole_laws.proofs.Order.{mul_nonneg_ℤ, le_from_nonneg}
use Rattle.whole_laws.proofs.Ring.{ring, v, num, ◌⊕◌, ◌⊖◌, ◌⊗◌}
use Rattle.num_q.specs.Rounding.{floor_of, round_of, rounding_error}

-- d is at most half of b away from zero, and less on its lower side
record IsHalf (b d : ℤ) : Type 0 where
  low : (pos 0 -ℤ b) <ℤ (pos 2 *ℤ d)
  high : (pos 2 *ℤ d) ≤ℤ b

half_away : (a b : ℤ) → pos 0 <ℤ b → IsHalf b (b *ℤ round_of a b -ℤ a)
half_away a b p =
    let r = round_of a b in
    let f = floor_law (pos 2 *ℤ a +ℤ b) (pos 2 *ℤ b) (omega (arith, ints)) in
    let e : (pos 2 *ℤ b) *ℤ r ≡ pos 2 *ℤ (b *ℤ r) = mul_assoc_ℤ (pos 2) b r in
    linear a b (b *ℤ r) (subst (λ (z : ℤ). z ≤ℤ (pos 2 *ℤ a +ℤ b)) e f.low) (subst (λ (z : ℤ). (pos 2 *ℤ a +ℤ b) <ℤ (z +ℤ pos 2 *ℤ b)) e f.high)
  where
    linear : (a b t : ℤ) → (pos 2 *ℤ t) ≤ℤ (pos 2 *ℤ a +ℤ b) → (pos 2 *ℤ a +ℤ b) <ℤ (pos 2 *ℤ t +ℤ pos 2 *ℤ b) → IsHalf b (t -ℤ a)
    linear a b t h k = record { low = omega (arith, ints); high = omega (arith, ints) }

-- ---- no other whole number is nearer
times_up : (b e : ℤ) → pos 0 <ℤ b → pos 0 <ℤ e → b ≤ℤ (b *ℤ e)
times_up b e p q =
    le_from_nonneg b (b *ℤ e) (subst (λ (z : ℤ). pos 0 ≤ℤ z) (ring (b ∷ e ∷ []) (v 0 ⊗ (v 1 ⊖ num (pos 1))) (v 0 ⊗ v 1 ⊖ v 0) tt) (mul_nonneg_ℤ b (e -ℤ pos 1) (omega (arith, ints)) (omega (arith, ints))))

times_down : (b e : ℤ) → pos 0 <ℤ b → e <ℤ pos 0 → (b *ℤ e) ≤ℤ (pos 0 -ℤ b)
times_down b e p q =
    turned b (b *ℤ e) (subst (λ (z : ℤ). b ≤ℤ z) (ring (b ∷ e ∷ []) (v 0 ⊗ (num (pos 0) ⊖ v 1)) (num (pos 0) ⊖ v 0 ⊗ v 1) tt) (times_up b (pos 0 -ℤ e) p (omega (arith, ints))))
  where
    turned : (b t : ℤ) → b ≤ℤ (pos 0 -ℤ t) → t ≤ℤ (pos 0 -ℤ b)
    turned b t h = omega (arith, ints)

beyond : (b d x : ℤ) → IsHalf b d → b ≤ℤ x → unsigned_abs d < unsigned_abs (d +ℤ x)
beyond b d x h k = linear b d x h.low h.high k
  where
    linear : (b d x : ℤ) → (pos 0 -ℤ b) <ℤ (pos 2 *ℤ d) → (pos 2 *ℤ d) ≤ℤ b → b ≤ℤ x → unsigned_abs d < unsigned_abs (d +ℤ x)
    linear b d x h l k = omega (arith, ints)

before : (b d x : ℤ) → IsHalf b d → x ≤ℤ (pos 0 -ℤ b) → unsigned_abs d ≤ unsigned_abs (d +ℤ x)
before b d x h k = linear b d x h.low h.high k
  where
    linear : (b d x : ℤ) → (pos 0 -ℤ b) <ℤ (pos 2 *ℤ d) → (pos 2 *ℤ d) ≤ℤ b → x ≤ℤ (pos 0 -ℤ b) → unsigned_abs d ≤ unsigned_abs (d +ℤ x)
    linear b d x h l k = omega (arith, ints)

-- the number e after the rounded one
none_nearer : (b d e : ℤ) → pos 0 <ℤ b → IsHalf b d → unsigned_abs d ≤ unsigned_abs (d +ℤ b *ℤ e)
none_nearer b d (pos zero) p h = rw (ring (b ∷ d ∷ []) (v 1 ⊕ v 0 ⊗ num (pos 0)) (v 1) tt) (omega arith)
none_nearer b d (pos (suc k)) p h = omega (arith, beyond b d (b *ℤ pos (suc k)) h (times_up b (pos (suc k)) p (omega (arith, ints))))
none_nearer b d (negsuc k) p h = before b d (b *ℤ negsuc k) h (times_down b (negsuc k) p (omega (arith, ints)))

as_near_is_less : (b d e : ℤ) → pos 0 <ℤ b → IsHalf b d → unsigned_abs d ≡ unsigned_abs (d +ℤ b *ℤ e) → e ≤ℤ pos 0
as_near_is_less b d (pos zero) p h same = omega (arith, ints)
as_near_is_less b d (pos (suc k)) p h same = absurd (omega (arith, same, beyond b d (b *ℤ pos (suc k)) h (times_up b (pos (suc k)) p (omega (arith, ints)))))
as_near_is_less b d (negsuc k) p h same = omega (arith, ints)

another : (a b r n : ℤ) → b *ℤ n -ℤ a ≡ (b *ℤ r -ℤ a) +ℤ b *ℤ (n -ℤ r)
another a b r n = ring (b ∷ n ∷ r ∷ a ∷ []) (v 0 ⊗ v 1 ⊖ v 3) ((v 0 ⊗ v 2 ⊖ v 3) ⊕ v 0 ⊗ (v 1 ⊖ v 2)) tt

pub nearest : (a b n : ℤ) → pos 0 <ℤ b → rounding_error a b (round_of a b) ≤ rounding_error a b n
nearest a b n p =
    let r = round_of a b in
    subst (λ (z : ℤ). unsigned_abs (b *ℤ r -ℤ a) ≤ unsigned_abs z) (sym (another a b r n)) (none_nearer b (b *ℤ r -ℤ a) (n -ℤ r) p (half_away a b p))

pub halves_upwards : (a b n : ℤ) → pos 0 <ℤ b → rounding_error a b (round_of a b) ≡ rounding_error a b n → n ≤ℤ round_of a b
halves_upwards a b n p same =
    let r = round_of a b in
    less n r (as_near_is_less b (b *ℤ r -ℤ a) (n -ℤ r) p (half_away a b p) (same ∙ ap unsigned_abs (another a b r n)))
  where
    less : (n r : ℤ) → (n -ℤ r) ≤ℤ pos 0 → n ≤ℤ r
    less n r h = omega (arith, ints)

-- ---- it is no greater than what is divided
round_size : (a b r : ℤ) → pos 0 <ℤ b → IsHalf b (b *ℤ r -ℤ a) → unsigned_abs r ≤ unsigned_abs a
round_size a b (pos zero) p h = omega arith
round_size a b (pos (suc k)) p h =
    let r = pos (suc k) in
    above a b r (b *ℤ r) h.high (omega (arith, ints)) (subst (λ (z : ℤ). pos 0 ≤ℤ z)
    (ring (b ∷ r ∷ []) ((v 0 ⊖ num (pos 1)) ⊗ (num (pos 2) ⊗ v 1 ⊖ num (pos 1))) (num (pos 2) ⊗ (v 0 ⊗ v 1) ⊖ v 0 ⊖ num (pos 2) ⊗ v 1 ⊕ num (pos 1)) tt)
    (mul_nonneg_ℤ (b -ℤ pos 1) (pos 2 *ℤ r -ℤ pos 1) (omega (arith, ints)) (omega (arith, ints))))
  where
    above : (a b r t : ℤ) → (pos 2 *ℤ (t -ℤ a)) ≤ℤ b → pos 0 <ℤ r → pos 0 ≤ℤ (pos 2 *ℤ t -ℤ b -ℤ pos 2 *ℤ r +ℤ pos 1) → unsigned_abs r ≤ unsigned_abs a
    above a b r t h q k = omega (arith, ints)
round_size a b (negsuc k) p h =
    let r = negsuc k in
    below a b r (b *ℤ r) h.low (omega (arith, ints)) (subst (λ (z : ℤ). pos 0 ≤ℤ z)
    (ring (b ∷ r ∷ []) ((v 0 ⊖ num (pos 1)) ⊗ (num (pos 0) ⊖ num (pos 2) ⊗ v 1 ⊖ num (pos 1))) (num (pos 0) ⊖ num (pos 2) ⊗ (v 0 ⊗ v 1) ⊖ v 0 ⊕ num (pos 2) ⊗ v 1 ⊕ num (pos 1)) tt)
    (mul_nonneg_ℤ (b -ℤ pos 1) (pos 0 -ℤ pos 2 *ℤ r -ℤ pos 1) (omega (arith, ints)) (omega (arith, ints))))
  where
    below : (a b r t : ℤ) → (pos 0 -ℤ b) <ℤ (pos 2 *ℤ (t -ℤ a)) → r <ℤ pos 0 → pos 0 ≤ℤ (pos 0 -ℤ pos 2 *ℤ t -ℤ b +ℤ pos 2 *ℤ r +ℤ pos 1) → unsigned_abs r ≤ unsigned_abs a
    below a b r t h q k = omega (arith, ints)

-- ---- what `round_into` computes
pub doubled_below : (a b : ℤ) (m n : ℕ) → unsigned_abs a < 2 ^ m → unsigned_abs b < 2 ^ n → m ≤ 124 → n ≤ 124 → unsigned_abs (pos 2 *ℤ a +ℤ b) < 2 ^ 126
doubled_below a b m n h k i j = linear a b (omega (arith, pow_mono {i = m} {j = 124} i)) (omega (arith, pow_mono {i = n} {j = 124} j))
  where
    linear : (a b : ℤ) → unsigned_abs a < 2 ^ 124 → unsigned_abs b < 2 ^ 124 → unsigned_abs (pos 2 *ℤ a +ℤ b) < 2 ^ 126
    linear a b h k = omega (arith, ints)

pub round_below : (q t d a b : ℤ) (m k : ℕ) → q ≡ floor_of (t *ℤ pos 1) d → t ≡ pos 2 *ℤ a +ℤ b → d ≡ pos 2 *ℤ b → pos 0 <ℤ b → unsigned_abs a < 2 ^ m → m ≤ k → unsigned_abs q < 2 ^ k
round_below q t d a b m k e u w p h i =
    let same : q ≡ round_of a b = e ∙ (λ s. floor_of (ring (t ∷ []) (v 0 ⊗ num (pos 1)) (v 0) tt s) d) ∙ (λ s. floor_of (u s) (w s)) in
    rw same (omega (arith, round_size a b (round_of a b) p (half_away a b p), pow_mono {i = m} {j = k} i))
