-- Lists of numbers that are written element by element.
use Rattle.std.specs.Prelude.{ℕ, ◌≤◌, ◌<◌, ◌+◌, ◌^◌, ℤ, pos, ◌-ℤ◌, neg_ℤ, List, map, All, unsigned_abs}
use Rattle.num_q.specs.Rounding.{floor_of, cut_of}
use Rattle.num_q.specs.declared.divisors.Divisor.{Divisor}

-- all numbers are below 2^44 in absolute value
abbrev pub AreShort : List ℤ → Type 0
AreShort xs = All (λ x. unsigned_abs x < 2 ^ 44) xs

-- the numbers that are divided by
abbrev pub numbers_of : List Divisor → List ℤ
numbers_of divisors = map (λ divisor. pos divisor.number) divisors

-- a number of a product, with so many bits less, cut; and what is left of the right side
abbrev pub shortened : (shift : ℕ) → ℤ → ℤ
shortened shift number = cut_of 44 (floor_of number (pos (2 ^ (16 + shift))))

abbrev pub left_over : (shift : ℕ) → (target number : ℤ) → ℤ
left_over shift target number = cut_of 44 (target -ℤ floor_of number (pos (2 ^ (16 + shift))))

-- a slope of 100 bits
abbrev pub size_of : ℤ → ℕ
size_of slope = unsigned_abs (cut_of 100 slope)

-- the greatest size of some slopes, and 0 of none
pub record IsGreatest (slopes : List ℤ) (most : ℕ) : Type 0 where
  pub above : All (λ slope. size_of slope ≤ most) slopes
  pub least : (bound : ℕ) → 0 < bound → All (λ slope. size_of slope < bound) slopes → most < bound

-- a number of the right side
abbrev pub target_number : (shift : ℕ) → ℤ → ℤ
target_number shift slope = floor_of (neg_ℤ (cut_of 100 slope)) (pos (2 ^ shift))
