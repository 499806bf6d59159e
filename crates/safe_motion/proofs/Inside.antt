-- What is straight in time at a moment inside an interval, from its values at the two ends.
use Rattle.std.proofs.Common.{◌≡◌, ℕ, zero, suc, ◌+◌, ◌*◌, ◌/◌, ◌<◌, ◌≤◌, ℤ, pos, ◌+ℤ◌, ◌-ℤ◌, ◌*ℤ◌, ◌≤ℤ◌, ◌<ℤ◌, [], ◌∷◌, inl, inr, arith, mul-le-mul_right}
use Rattle.std.proofs.lemmas.Int.{ints}
use Rattle.std.proofs.lemmas.Bool.{cases_lt}
use Rattle.std.proofs.Math.Nat.{div-mul-le_self}
use Rattle.space3.specs.declared.vectors.V3.{V3}
use Rattle.space3.specs.Vectors.{dot_product, difference}
use Rattle.whole_laws.proofs.Ring.{ring, v, num, ◌⊕◌, ◌⊖◌, ◌⊗◌}
use Rattle.whole_laws.proofs.Blends.{AreShares, blend_pos, pos_of_times_nat}
use Rattle.safe_motion.specs.declared.motion.Move.{Move}
use Rattle.safe_motion.specs.Moments.{IsFraction, IsInside, place_at}
use Rattle.space3.proofs.VectorForms.{components, at, ◌⊕₃◌, ◌⊖₃◌, ◌⊗₃◌, dot}

-- the number at p / q, times q, that goes straight from a to b
abbrev pub blend : ℕ → ℕ → ℤ → ℤ → ℤ
blend p q a b = (pos q -ℤ pos p) *ℤ a +ℤ pos p *ℤ b

-- the shares of the ends of the interval from j / n to (j + 1) / n in the moment p / q, times n
abbrev pub early_share : ℕ → ℕ → ℕ → ℕ → ℤ
early_share p q j n = pos (j + 1) *ℤ pos q -ℤ pos p *ℤ pos n

abbrev pub late_share : ℕ → ℕ → ℕ → ℕ → ℤ
late_share p q j n = pos p *ℤ pos n -ℤ pos j *ℤ pos q

gap : (a b : ℕ) → a ≤ b → pos 0 ≤ℤ (pos b -ℤ pos a)
gap a b h = omega (arith, ints)

pub shares : (p q j n : ℕ) → IsInside p q j n → AreShares (early_share p q j n) (late_share p q j n)
shares p q j n h = record {
  first = gap (p * n) ((j + 1) * q) h.high;
  second = gap (j * q) (p * n) h.low;
  some = total (j * q) (p * n) ((j + 1) * q) q (omega arith) h.divisor;
}
  where
    total : (a m b q : ℕ) → b ≡ a + q → 0 < q → pos 0 <ℤ ((pos b -ℤ pos m) +ℤ (pos m -ℤ pos a))
    total a m b q e h = omega (arith, ints)

pub blend-between : (p q j n : ℕ) (a b : ℤ) → pos n *ℤ blend p q a b ≡ early_share p q j n *ℤ blend j n a b +ℤ late_share p q j n *ℤ blend (j + 1) n a b
blend-between p q j n a b =
    ring (pos p ∷ pos q ∷ pos j ∷ pos n ∷ a ∷ b ∷ [])
    (v 3 ⊗ ((v 1 ⊖ v 0) ⊗ v 4 ⊕ v 0 ⊗ v 5))
    (((v 2 ⊕ num (pos 1)) ⊗ v 1 ⊖ v 0 ⊗ v 3) ⊗ ((v 3 ⊖ v 2) ⊗ v 4 ⊕ v 2 ⊗ v 5) ⊕ (v 0 ⊗ v 3 ⊖ v 2 ⊗ v 1) ⊗ ((v 3 ⊖ (v 2 ⊕ num (pos 1))) ⊗ v 4 ⊕ (v 2 ⊕ num (pos 1)) ⊗ v 5))
    tt

-- positive at both ends of an interval, so positive inside
pub blend_inside : (p q j n : ℕ) (a b : ℤ) → IsInside p q j n → pos 0 <ℤ blend j n a b → pos 0 <ℤ blend (j + 1) n a b → pos 0 <ℤ blend p q a b
blend_inside p q j n a b h before after = pos_of_times_nat n (blend p q a b) (rw (blend-between p q j n a b) (blend_pos _ _ _ _ (shares p q j n h) before after))

-- how far two moving points are apart along a vector is straight in time
pub dot-place : (n : V3) (a b : Move) (p q : ℕ) → dot_product n (difference (place_at p q a) (place_at p q b)) ≡ blend p q (dot_product n (difference a.start b.start)) (dot_product n (difference a.end b.end))
dot-place n a b p q =
    ring ((pos q -ℤ pos p) ∷ pos p ∷ components (n ∷ a.start ∷ a.end ∷ b.start ∷ b.end ∷ []))
    (dot (at 2) ((v 0 ⊗₃ at 5 ⊕₃ v 1 ⊗₃ at 8) ⊖₃ (v 0 ⊗₃ at 11 ⊕₃ v 1 ⊗₃ at 14)))
    (v 0 ⊗ dot (at 2) (at 5 ⊖₃ at 11) ⊕ v 1 ⊗ dot (at 2) (at 8 ⊖₃ at 14))
    tt

-- a moment from 0 to 1 is inside one of n equal intervals
pub some_interval : (p q n : ℕ) → 0 < n → IsFraction p q → (j : ℕ) × (j < n) × IsInside p q j n
some_interval p q zero h f = absurd (omega arith)
some_interval p q (suc k) h f =
    let d = p * suc k / q in
    elim (cases_lt d (suc k)) [
      | inl below ↦ (d, below, record { divisor = f.divisor; low = div-mul-le_self (p * suc k) q; high = under (p * suc k) q f.divisor })
      | inr past ↦ (
        k,
        omega arith,
        record {
          divisor = f.divisor;
          low = omega (arith, mul-le-mul_right q past, div-mul-le_self (p * suc k) q);
          high = omega (arith, mul-le-mul_right (suc k) f.within);
        },
      )
    ]
  where
    under : (m q : ℕ) → 0 < q → m ≤ (m / q + 1) * q
    under m q h = omega arith
