-- A search that tries an interval, then both its halves, down to a depth.
use Rattle.std.proofs.Common.{◌≡◌, ◌∙◌, ℕ, suc, ◌+◌, ◌*◌, Bool, true, false, refl, sym, subst, inl, inr}
use Rattle.std.specs.Prelude.{IsTrue, ◌↔◌}
use Rattle.safe_motion.specs.Certificates.{ByHalves}
use Rattle.safe_motion.proofs.Halving.{whole}

differ : false ≡ true → ⊥
differ e = cc

-- it ends where the whole interval passes
pub ends_early : (P : ℕ → ℕ → Type 0) (depth j n : ℕ) → P j n → IsTrue true ↔ ByHalves P depth j n
ends_early P depth j n h = (λ t. whole P depth j n h, λ h. refl)

-- and where it doesn't and no halving is left
pub ends_without : (P : ℕ → ℕ → Type 0) (depth j n : ℕ) → depth ≡ 0 → (P j n → ⊥) → IsTrue false ↔ ByHalves P depth j n
ends_without P depth j n e no' = subst (λ m. IsTrue false ↔ ByHalves P m j n) (sym e) (λ t. absurd (differ t), λ p. absurd (no' p))

-- else it goes on
by_both : (P : ℕ → ℕ → Type 0) (d j n : ℕ) → (P j n → ⊥) → ByHalves P (suc d) j n → ByHalves P d (2 * j) (2 * n) × ByHalves P d (2 * j + 1) (2 * n)
by_both P d j n no' h = elim h [ inl p ↦ absurd (no' p) | inr both ↦ both ]

-- the first half has passed
pub second_decides : (P : ℕ → ℕ → Type 0) (depth d j n : ℕ) (a b : Bool) → depth ≡ suc d → (P j n → ⊥) → a ≡ true
    → IsTrue a ↔ ByHalves P d (2 * j) (2 * n) → IsTrue b ↔ ByHalves P d (2 * j + 1) (2 * n) → IsTrue b ↔ ByHalves P depth j n
second_decides P depth d j n a b e no' passed first second =
    subst (λ m. IsTrue b ↔ ByHalves P m j n) (sym e) (λ t. inr (first.0 passed, second.0 t), λ p. second.1 (by_both P d j n no' p).1)

-- the first half has failed
pub first_decides : (P : ℕ → ℕ → Type 0) (depth d j n : ℕ) (a : Bool) → depth ≡ suc d → (P j n → ⊥) → a ≡ false
    → IsTrue a ↔ ByHalves P d (2 * j) (2 * n) → IsTrue a ↔ ByHalves P depth j n
first_decides P depth d j n a e no' failed first =
    subst (λ m. IsTrue a ↔ ByHalves P m j n) (sym e) (λ t. absurd (differ (sym failed ∙ t)), λ p. first.1 (by_both P d j n no' p).0)
