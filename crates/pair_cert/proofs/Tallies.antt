-- Counts of plane decisions that follow one another.
use Rattle.std.proofs.Common.{◌≡◌, ℕ, suc, ◌+◌, ◌-◌, ◌*◌, ◌^◌, ◌<◌, ◌≤◌, min, subst, arith, lit<, pow-suc}
use Rattle.std.proofs.Math.Nat.{one-le-pow}
use Rattle.pair_cert.specs.Tallies.{RisesAtMost, intervals_within}

pub rises_more : (m n old new : ℕ) → m ≤ n → RisesAtMost m old new → RisesAtMost n old new
rises_more m n old new l r = record { by = r.by; few = omega (arith, r.few); risen = r.risen }

pub rises_then : (m n old mid new : ℕ) → RisesAtMost m old mid → RisesAtMost n mid new → RisesAtMost (m + n) old new
rises_then m n old mid new r s = record { by = r.by + s.by; few = omega (arith, r.few, s.few); risen = both old mid new r.by s.by r.risen s.risen }
  where
    both : (old mid new i j : ℕ) → mid ≡ min (old + i) (2 ^ 64 - 1) → new ≡ min (mid + j) (2 ^ 64 - 1) → new ≡ min (old + (i + j)) (2 ^ 64 - 1)
    both old mid new i j e f = omega arith

-- a count that stays
pub stays : (m n : ℕ) → n < 2 ^ 64 → RisesAtMost m n n
stays m n l = record { by = 0; few = omega arith; risen = omega arith }

-- one interval, and both halves
pub whole_and_halves : (depth : ℕ) → (depth ≡ 0 → ⊥) → (1 + intervals_within (depth - 1)) + intervals_within (depth - 1) ≡ intervals_within depth
whole_and_halves depth h = total depth (2 ^ (depth - 1 + 1)) (2 ^ (depth + 1)) (double depth h) (one-le-pow (depth - 1 + 1) 2 (lit< tt))
  where
    total : (depth p q : ℕ) → q ≡ p * 2 → 1 ≤ p → (1 + (p - 1)) + (p - 1) ≡ q - 1
    total depth p q e l = omega arith

    next : (depth : ℕ) → (depth ≡ 0 → ⊥) → suc (depth - 1 + 1) ≡ depth + 1
    next depth h = omega arith

    double : (depth : ℕ) → (depth ≡ 0 → ⊥) → 2 ^ (depth + 1) ≡ 2 ^ (depth - 1 + 1) * 2
    double depth h = subst (λ n. 2 ^ n ≡ 2 ^ (depth - 1 + 1) * 2) (next depth h) (pow-suc 2 (depth - 1 + 1))

pub one_interval : (depth : ℕ) → 1 ≤ intervals_within depth
one_interval depth = some (2 ^ depth) (2 ^ (depth + 1)) (double depth) (one-le-pow depth 2 (lit< tt))
  where
    some : (p q : ℕ) → q ≡ p * 2 → 1 ≤ p → 1 ≤ q - 1
    some p q e l = omega arith

    double : (depth : ℕ) → 2 ^ (depth + 1) ≡ 2 ^ depth * 2
    double depth = subst (λ n. 2 ^ n ≡ 2 ^ depth * 2) (omega arith) (pow-suc 2 depth)
