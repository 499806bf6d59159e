-- Sums of two numbers by shares, as at a moment between two others, and the cubic of four such numbers.
use Rattle.std.proofs.Common.{◌≡◌, ℕ, zero, suc, ◌<◌, ℤ, pos, negsuc, ◌+ℤ◌, ◌-ℤ◌, ◌*ℤ◌, ◌≤ℤ◌, ◌<ℤ◌, [], ◌∷◌, sym, arith}
use Rattle.std.proofs.lemmas.Int.{ints, by_lt_z}
use Rattle.whole_laws.proofs.Ring.{ring, v, ◌⊕◌, ◌⊖◌, ◌⊗◌}
use Rattle.whole_laws.proofs.Order.{mul_pos_ℤ, mul_nonneg_ℤ, add_pos_ℤ, nonneg_of_pos}

-- two numbers that are not negative, and not both 0
pub record AreShares (s r : ℤ) : Type 0 where
  pub first : pos 0 ≤ℤ s
  pub second : pos 0 ≤ℤ r
  pub some : pos 0 <ℤ (s +ℤ r)

-- one of two shares is positive
pub by_share : {P : Type 0} (s r : ℤ) → AreShares s r → (pos 0 <ℤ s → P) → (pos 0 <ℤ r → P) → P
by_share s r h f g = by_lt_z (pos 0) s f (λ low. g (other s r low h.some))
  where
    other : (s r : ℤ) → s ≤ℤ pos 0 → pos 0 <ℤ (s +ℤ r) → pos 0 <ℤ r
    other s r h k = omega (arith, ints)

-- a sum of two numbers of which the first is positive
pub pos_add_ℤ : (a b : ℤ) → pos 0 <ℤ a → pos 0 ≤ℤ b → pos 0 <ℤ (a +ℤ b)
pos_add_ℤ a b h k = omega (arith, ints)

-- the blend of two positive numbers is positive
pub blend_pos : (s r a b : ℤ) → AreShares s r → pos 0 <ℤ a → pos 0 <ℤ b → pos 0 <ℤ (s *ℤ a +ℤ r *ℤ b)
blend_pos s r a b h ha hb =
    by_share s r h
    (λ p. pos_add_ℤ _ _ (mul_pos_ℤ s a p ha) (mul_nonneg_ℤ r b h.second (nonneg_of_pos b hb)))
    (λ p. add_pos_ℤ _ _ (mul_nonneg_ℤ s a h.first (nonneg_of_pos a ha)) (mul_pos_ℤ r b p hb))

-- the squares of shares are shares
squares : (s r : ℤ) → AreShares s r → AreShares (s *ℤ s) (r *ℤ r)
squares s r h = record {
  first = mul_nonneg_ℤ s s h.first h.first;
  second = mul_nonneg_ℤ r r h.second h.second;
  some = by_share s r h
      (λ p. pos_add_ℤ _ _ (mul_pos_ℤ s s p p) (mul_nonneg_ℤ r r h.second h.second))
      (λ p. add_pos_ℤ _ _ (mul_nonneg_ℤ s s h.first h.first) (mul_pos_ℤ r r p p));
}

-- a cubic whose four numbers are positive is positive
pub cubic_pos : (s r d m n e : ℤ) → AreShares s r → pos 0 <ℤ d → pos 0 <ℤ m → pos 0 <ℤ n → pos 0 <ℤ e →
    pos 0 <ℤ (s *ℤ s *ℤ s *ℤ d +ℤ s *ℤ s *ℤ r *ℤ m +ℤ s *ℤ r *ℤ r *ℤ n +ℤ r *ℤ r *ℤ r *ℤ e)
cubic_pos s r d m n e h hd hm hn he =
    let split : s *ℤ s *ℤ s *ℤ d +ℤ s *ℤ s *ℤ r *ℤ m +ℤ s *ℤ r *ℤ r *ℤ n +ℤ r *ℤ r *ℤ r *ℤ e
    ≡ (s *ℤ (s *ℤ s *ℤ d) +ℤ r *ℤ (r *ℤ r *ℤ e)) +ℤ (s *ℤ r) *ℤ (s *ℤ m +ℤ r *ℤ n) =
    ring (s ∷ r ∷ d ∷ m ∷ n ∷ e ∷ [])
    (v 0 ⊗ v 0 ⊗ v 0 ⊗ v 2 ⊕ v 0 ⊗ v 0 ⊗ v 1 ⊗ v 3 ⊕ v 0 ⊗ v 1 ⊗ v 1 ⊗ v 4 ⊕ v 1 ⊗ v 1 ⊗ v 1 ⊗ v 5)
    ((v 0 ⊗ (v 0 ⊗ v 0 ⊗ v 2) ⊕ v 1 ⊗ (v 1 ⊗ v 1 ⊗ v 5)) ⊕ (v 0 ⊗ v 1) ⊗ (v 0 ⊗ v 3 ⊕ v 1 ⊗ v 4)) tt in
    rw split (pos_add_ℤ _ _ ends (mul_nonneg_ℤ _ _ (mul_nonneg_ℤ s r h.first h.second) (nonneg_of_pos _ (blend_pos s r m n h hm hn))))
  where
    ends : pos 0 <ℤ (s *ℤ (s *ℤ s *ℤ d) +ℤ r *ℤ (r *ℤ r *ℤ e))
    ends =
        by_share s r h
        (λ p. pos_add_ℤ _ _ (mul_pos_ℤ _ _ p (mul_pos_ℤ _ _ (mul_pos_ℤ s s p p) hd)) (mul_nonneg_ℤ _ _ h.second (mul_nonneg_ℤ _ _ (mul_nonneg_ℤ r r h.second h.second) (nonneg_of_pos e he))))
        (λ p. add_pos_ℤ _ _ (mul_nonneg_ℤ _ _ h.first (mul_nonneg_ℤ _ _ (mul_nonneg_ℤ s s h.first h.first) (nonneg_of_pos d hd))) (mul_pos_ℤ _ _ p (mul_pos_ℤ _ _ (mul_pos_ℤ r r p p) he)))

-- cancel a factor that is not negative
pub pos_of_times_nat : (n : ℕ) (x : ℤ) → pos 0 <ℤ (pos n *ℤ x) → pos 0 <ℤ x
pos_of_times_nat zero x h = absurd (omega (arith, ints))
pos_of_times_nat (suc n) (pos zero) h = absurd (omega (arith, ints))
pos_of_times_nat (suc n) (pos (suc x)) h = omega (arith, ints)
pos_of_times_nat (suc n) (negsuc x) h = absurd (omega (arith, ints))

-- cancel a positive factor of both sides
pub same_of_times_nat : (n : ℕ) (a b : ℤ) → 0 < n → pos n *ℤ a ≡ pos n *ℤ b → a ≡ b
same_of_times_nat n a b some e =
    by_lt_z a b (λ h. absurd (none a b h e))
    (λ h. by_lt_z b a (λ l. absurd (none b a l (sym e))) (λ l. both a b h l))
  where
    both : (a b : ℤ) → b ≤ℤ a → a ≤ℤ b → a ≡ b
    both a b h k = omega (arith, ints)

    apart : (a b : ℤ) → a <ℤ b → pos 0 <ℤ (b -ℤ a)
    apart a b h = omega (arith, ints)

    natural : (n : ℕ) → 0 < n → pos 0 <ℤ pos n
    natural n h = omega (arith, ints)

    nothing : (x y : ℤ) → x ≡ y → pos 0 <ℤ (y -ℤ x) → ⊥
    nothing x y e h = absurd (omega (arith, ints))

    none : (a b : ℤ) → a <ℤ b → pos n *ℤ a ≡ pos n *ℤ b → ⊥
    none a b h e =
        let spread : pos n *ℤ (b -ℤ a) ≡ pos n *ℤ b -ℤ pos n *ℤ a = ring (pos n ∷ a ∷ b ∷ []) (v 0 ⊗ (v 2 ⊖ v 1)) (v 0 ⊗ v 2 ⊖ v 0 ⊗ v 1) tt in
        nothing _ _ e (rw spread at (mul_pos_ℤ (pos n) (b -ℤ a) (natural n some) (apart a b h)))
