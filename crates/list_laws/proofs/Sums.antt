-- Sums of whole numbers.
use Rattle.std.proofs.Common.{◌≡◌, ◌∙◌, ℕ, ◌+◌, ℤ, pos, ◌+ℤ◌, ◌≤ℤ◌, List, [], ◌∷◌, ◌++◌, map, ap, arith}
use Rattle.std.specs.Prelude.{All}
use Rattle.std.specs.List.{range_with_len, sum}
use Rattle.std.proofs.lemmas.Int.{ints}
use Rattle.std.proofs.lemmas.List.FromFn.{map-range_with_len_more}
use Rattle.std.proofs.lemmas.List.Elements.{All-head, All-tail}
use Rattle.std.proofs.lemmas.List.Sums.{sum_by-cons}
use Rattle.list_laws.specs.Sums.{total}

-- a sum of natural numbers, the first one apart
pub sum_head : (w : ℕ) (ws : List ℕ) → sum (w ∷ ws) ≡ w + sum ws
sum_head w ws = sum_by-cons (λ x. x) w ws

-- the sum of a list and one number more
pub total-push : (xs : List ℤ) (x : ℤ) → total (xs ++ x ∷ []) ≡ total xs +ℤ x
total-push [] x = swapped x
  where
    swapped : (x : ℤ) → x +ℤ pos 0 ≡ pos 0 +ℤ x
    swapped x = omega (arith, ints)
total-push (y ∷ ys) x = ap (λ (t : ℤ). y +ℤ t) (total-push ys x) ∙ regrouped y (total ys) x
  where
    regrouped : (a b c : ℤ) → a +ℤ (b +ℤ c) ≡ (a +ℤ b) +ℤ c
    regrouped a b c = omega (arith, ints)

-- a sum over the numbers below i + 1
pub total_more : (f : ℕ → ℤ) (i : ℕ) → total (map f (range_with_len 0 (i + 1))) ≡ total (map f (range_with_len 0 i)) +ℤ f i
total_more f i = ap total (map-range_with_len_more f 0 i i (omega arith)) ∙ total-push (map f (range_with_len 0 i)) (f i)

-- the sum of numbers that are not negative is not negative
pub total_nonneg : (xs : List ℤ) → All (λ x. pos 0 ≤ℤ x) xs → pos 0 ≤ℤ total xs
total_nonneg [] h = record { le = tt }
total_nonneg (x ∷ xs) h = both x (total xs) (All-head (λ x. pos 0 ≤ℤ x) x xs h) (total_nonneg xs (All-tail (λ x. pos 0 ≤ℤ x) x xs h))
  where
    both : (a b : ℤ) → pos 0 ≤ℤ a → pos 0 ≤ℤ b → pos 0 ≤ℤ (a +ℤ b)
    both a b h k = omega (arith, ints)
