-- Pairs that are not nearer than dhat.
use Rattle.std.proofs.Common.{◌≡◌, ℕ, ◌≤◌, ◌<◌, ℤ, pos, true, false, ap, arith, w64, to_z, of_z}
use mir.Val.{SFits}
use Rattle.std.specs.Int.{w128}
use Rattle.std.proofs.lemmas.Int.{to_z-of_z}
use Rattle.std.specs.Prelude.{nat_lt, if◌then◌else◌}
use Rattle.near_pair.specs.declared.near.Near.{Near}
use Rattle.near_pair.specs.Answers.{squared_distance}
use Rattle.barrier_term.specs.Barrier.{reach_of, if_active}

not_below : (m n : ℕ) → n ≤ m → nat_lt m n ≡ false
not_below m n h = grind arith

pub far_away : (dhat : ℤ) (near : Near) (formula : ℕ → ℕ → ℤ) → reach_of dhat ≤ squared_distance near → if_active dhat near formula ≡ pos 0
far_away dhat near formula h =
    ap (λ b. if b then formula (squared_distance near) (reach_of dhat) else pos 0) (not_below (squared_distance near) (reach_of dhat) h)

below : (m n : ℕ) → m < n → nat_lt m n ≡ true
below m n h = grind arith

pub is_active : (dhat : ℤ) (near : Near) (formula : ℕ → ℕ → ℤ) → squared_distance near < reach_of dhat → if_active dhat near formula ≡ formula (squared_distance near) (reach_of dhat)
is_active dhat near formula h =
    ap (λ b. if b then formula (squared_distance near) (reach_of dhat) else pos 0) (below (squared_distance near) (reach_of dhat) h)

-- numbers that go to their bits and back
pub passed_on : (f : ℤ → ℕ → ℕ → ℤ) (kappa dhat : ℤ) (near : Near) → SFits w64 kappa → SFits w64 dhat → if_active (to_z w64 (of_z w64 dhat)) near (f (to_z w64 (of_z w64 kappa))) ≡ if_active dhat near (f kappa)
passed_on f kappa dhat near h k i = if_active (to_z-of_z w64 dhat k i) near (f (to_z-of_z w64 kappa h i))

pub back_zero : (z : ℤ) → z ≡ pos 0 → to_z w128 (of_z w128 z) ≡ pos 0
back_zero z e = ap (λ t. to_z w128 (of_z w128 t)) e
