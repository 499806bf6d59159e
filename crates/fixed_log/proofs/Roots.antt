-- The root by bits is the root.
use Rattle.std.proofs.Common.{◌≡◌, ℕ, zero, suc, ◌+◌, ◌*◌, ◌^◌, ◌≤◌, ◌<◌, Bool, true, false, refl, sym, ◌∙◌, subst, ◌⊎◌, inl, inr, arith, mul-le-mul}
use Rattle.std.specs.Prelude.{nat_le, if◌then◌else◌}
use Rattle.std.proofs.lemmas.Bool.{cases_lt}
use Rattle.fixed_log.specs.Root.{IsRoot, root_by_bits, root_of}

-- between the square of r and that of the next number
record IsBetweenSquares (n r : ℕ) : Type 0 where
  pub low : r * r ≤ n
  pub high : n < (r + 1) * (r + 1)

yes : (m n : ℕ) → m ≤ n → nat_le m n ≡ true
yes m n h = grind arith

not_yet : (m n : ℕ) → n < m → nat_le m n ≡ false
not_yet m n h = grind arith

step : (k r n : ℕ) → root_by_bits (suc k) r n ≡ (if nat_le ((r + 2 ^ k) * (r + 2 ^ k)) n then root_by_bits k (r + 2 ^ k) n else root_by_bits k r n)
unfolding root_by_bits
step k r n = refl

last : (r n : ℕ) → root_by_bits zero r n ≡ r
unfolding root_by_bits
last r n = refl

double : (k : ℕ) → 2 ^ suc k ≡ 2 ^ k + 2 ^ k
double k = omega arith

further : (k r : ℕ) → r + 2 ^ suc k ≡ r + 2 ^ k + 2 ^ k
further k r = omega (arith, double k)

between : (k r n : ℕ) → r * r ≤ n → n < (r + 2 ^ k) * (r + 2 ^ k) → IsBetweenSquares n (root_by_bits k r n)
between zero r n low high = subst (IsBetweenSquares n) (sym (last r n)) (record { low = low; high = high })
between (suc k) r n low high = elim (cases_lt n ((r + 2 ^ k) * (r + 2 ^ k))) [
  | inl below ↦ subst (IsBetweenSquares n) (sym (step k r n ∙ chosen (not_yet ((r + 2 ^ k) * (r + 2 ^ k)) n below))) (between k r n low below)
  | inr above ↦
      subst (IsBetweenSquares n) (sym (step k r n ∙ chosen (yes ((r + 2 ^ k) * (r + 2 ^ k)) n above)))
      (between k (r + 2 ^ k) n above (subst (λ m. n < m * m) (further k r) high))
]
  where
    chosen : {b : Bool} → nat_le ((r + 2 ^ k) * (r + 2 ^ k)) n ≡ b →
        (if nat_le ((r + 2 ^ k) * (r + 2 ^ k)) n then root_by_bits k (r + 2 ^ k) n else root_by_bits k r n) ≡ (if b then root_by_bits k (r + 2 ^ k) n else root_by_bits k r n)
    chosen e i = if e i then root_by_bits k (r + 2 ^ k) n else root_by_bits k r n

is_root : (n r : ℕ) → IsBetweenSquares n r → IsRoot n r
is_root n r b = record { at_most = b.low; greatest = λ s h. not_above s h (cases_lt r s) }
  where
    clash : (m k : ℕ) → m ≤ k → k ≤ n → n < m → ⊥
    clash m k h l i = omega arith

    not_above : (s : ℕ) → s * s ≤ n → (r < s) ⊎ (s ≤ r) → s ≤ r
    not_above s h (inl above) = let a : r + 1 ≤ s = omega arith in absurd (clash ((r + 1) * (r + 1)) (s * s) (mul-le-mul a a) h b.high)
    not_above s h (inr below) = below

pub root_of-law : (n : ℕ) → n < 2 ^ 126 → IsRoot n (root_of n)
root_of-law n h = is_root n (root_of n) (between 63 0 n (omega arith) h)

pub one_root : (n r s : ℕ) → IsRoot n r → IsRoot n s → r ≡ s
one_root n r s h k = both (k.greatest r h.at_most) (h.greatest s k.at_most)
  where
    both : {m n : ℕ} → m ≤ n → n ≤ m → m ≡ n
    both h k = omega arith

pub root-is : (n r : ℕ) → n < 2 ^ 126 → r * r ≤ n → n < (r + 1) * (r + 1) → r ≡ root_of n
root-is n r h low high = one_root n r (root_of n) (is_root n r (record { low = low; high = high })) (root_of-law n h)
