-- Signed weights are balanced, none is greater than 1, and there are as many as weights.
use Rattle.std.proofs.Common.{◌≡◌, ℕ, ◌≤◌, ℤ, pos, ◌+ℤ◌, neg_ℤ, ◌≤ℤ◌, List, [], ◌∷◌, ◌++◌, length, map, take, drop, unsigned_abs, refl, ◌∙◌, ap, arith}
use Rattle.std.proofs.lemmas.Int.{ints, clamps}
use Rattle.std.specs.Prelude.{All}
use Rattle.std.specs.Int.{int_min, int_max}
use Rattle.std.proofs.lemmas.List.{length-append, length-map, take-append-drop}
use Rattle.std.proofs.lemmas.List.Elements.{All-nil, All-cons, All-head, All-tail, All-weaker}
use Rattle.space3.specs.Vectors.{AtMost}
use Rattle.nearest.specs.declared.limits.TheConstants.{ONE}
use Rattle.nearest.specs.RoundedWeights.{total, AreOfTwoParts}
use Rattle.nearest.specs.SignedWeights.{signed_weights, AreBalanced}

abbrev IsNonneg : ℤ → Type 0
IsNonneg w = pos 0 ≤ℤ w

-- what all weights of two lists give together
total-joined : (f : ℤ → ℤ) (xs ys : List ℤ) → total (map f (xs ++ ys)) ≡ total (map f xs) +ℤ total (map f ys)
total-joined f [] ys = nothing_before (total (map f ys))
  where
    nothing_before : (t : ℤ) → t ≡ pos 0 +ℤ t
    nothing_before t = omega (arith, ints)
total-joined f (x ∷ xs) ys = ap (λ t. f x +ℤ t) (total-joined f xs ys) ∙ grouped (f x) (total (map f xs)) (total (map f ys))
  where
    grouped : (a b c : ℤ) → a +ℤ (b +ℤ c) ≡ (a +ℤ b) +ℤ c
    grouped a b c = omega (arith, ints)

above-kept : (xs : List ℤ) → All IsNonneg xs → total (map (int_max (pos 0)) xs) ≡ total xs
above-kept [] h = refl
above-kept (x ∷ xs) h = both x _ _ (All-head IsNonneg x xs h) (above-kept xs (All-tail IsNonneg x xs h))
  where
    both : (x s t : ℤ) → pos 0 ≤ℤ x → s ≡ t → int_max (pos 0) x +ℤ s ≡ x +ℤ t
    both x s t h e = omega (arith, ints, clamps)

above-turned : (xs : List ℤ) → All IsNonneg xs → total (map (int_max (pos 0)) (map neg_ℤ xs)) ≡ pos 0
above-turned [] h = refl
above-turned (x ∷ xs) h = both x _ (All-head IsNonneg x xs h) (above-turned xs (All-tail IsNonneg x xs h))
  where
    both : (x s : ℤ) → pos 0 ≤ℤ x → s ≡ pos 0 → int_max (pos 0) (neg_ℤ x) +ℤ s ≡ pos 0
    both x s h e = omega (arith, ints, clamps)

below-kept : (xs : List ℤ) → All IsNonneg xs → total (map (int_min (pos 0)) xs) ≡ pos 0
below-kept [] h = refl
below-kept (x ∷ xs) h = both x _ (All-head IsNonneg x xs h) (below-kept xs (All-tail IsNonneg x xs h))
  where
    both : (x s : ℤ) → pos 0 ≤ℤ x → s ≡ pos 0 → int_min (pos 0) x +ℤ s ≡ pos 0
    both x s h e = omega (arith, ints, clamps)

below-turned : (xs : List ℤ) → All IsNonneg xs → total (map (int_min (pos 0)) (map neg_ℤ xs)) ≡ neg_ℤ (total xs)
below-turned [] h = refl
below-turned (x ∷ xs) h = both x _ (total xs) (All-head IsNonneg x xs h) (below-turned xs (All-tail IsNonneg x xs h))
  where
    both : (x s t : ℤ) → pos 0 ≤ℤ x → s ≡ neg_ℤ t → int_min (pos 0) (neg_ℤ x) +ℤ s ≡ neg_ℤ (x +ℤ t)
    both x s t h e = omega (arith, ints, clamps)

pub balanced : (split : ℕ) (weights : List ℤ) → AreOfTwoParts split weights → AreBalanced (signed_weights split weights)
balanced split weights w = record {
  above = total-joined (int_max (pos 0)) xs (map neg_ℤ ys) ∙ sum _ _ (above-kept xs w.left.each ∙ w.left.all) (above-turned ys w.right.each);
  below = total-joined (int_min (pos 0)) xs (map neg_ℤ ys) ∙ difference _ _ (total ys) (below-kept xs w.left.each) (below-turned ys w.right.each) w.right.all;
}
  where
    xs : List ℤ
    xs = take split weights

    ys : List ℤ
    ys = drop split weights

    sum : (a b : ℤ) → a ≡ pos 65536 → b ≡ pos 0 → a +ℤ b ≡ pos 65536
    sum a b e f = omega (arith, ints)

    difference : (a b c : ℤ) → a ≡ pos 0 → b ≡ neg_ℤ c → c ≡ pos 65536 → a +ℤ b ≡ neg_ℤ (pos 65536)
    difference a b c e f g = omega (arith, ints)

-- each is at most 1 in absolute value, and all add up to 0
total_above : (xs : List ℤ) → pos 0 ≤ℤ total (map (int_max (pos 0)) xs)
total_above [] = omega (arith, ints)
total_above (x ∷ xs) = both x _ (total_above xs)
  where
    both : (x s : ℤ) → pos 0 ≤ℤ s → pos 0 ≤ℤ (int_max (pos 0) x +ℤ s)
    both x s h = omega (arith, ints, clamps)

total_below : (xs : List ℤ) → total (map (int_min (pos 0)) xs) ≤ℤ pos 0
total_below [] = omega (arith, ints)
total_below (x ∷ xs) = both x _ (total_below xs)
  where
    both : (x s : ℤ) → s ≤ℤ pos 0 → (int_min (pos 0) x +ℤ s) ≤ℤ pos 0
    both x s h = omega (arith, ints, clamps)

-- where the two sums are within some bounds, each weight is
each_within : (a b : ℤ) (xs : List ℤ) → total (map (int_max (pos 0)) xs) ≤ℤ a → b ≤ℤ total (map (int_min (pos 0)) xs) → All (λ w. (b ≤ℤ w) × (w ≤ℤ a)) xs
each_within a b [] h k = All-nil (λ w. (b ≤ℤ w) × (w ≤ℤ a))
each_within a b (x ∷ xs) h k =
    All-cons (λ w. (b ≤ℤ w) × (w ≤ℤ a)) x xs (low x _ k (total_below xs), high x _ h (total_above xs))
    (each_within a b xs (less x _ h) (more x _ k))
  where
    low : (x s : ℤ) → b ≤ℤ (int_min (pos 0) x +ℤ s) → s ≤ℤ pos 0 → b ≤ℤ x
    low x s h k = omega (arith, ints, clamps)

    high : (x s : ℤ) → (int_max (pos 0) x +ℤ s) ≤ℤ a → pos 0 ≤ℤ s → x ≤ℤ a
    high x s h k = omega (arith, ints, clamps)

    less : (x s : ℤ) → (int_max (pos 0) x +ℤ s) ≤ℤ a → s ≤ℤ a
    less x s h = omega (arith, ints, clamps)

    more : (x s : ℤ) → b ≤ℤ (int_min (pos 0) x +ℤ s) → b ≤ℤ s
    more x s h = omega (arith, ints, clamps)

pub each_at_most : (weights : List ℤ) → AreBalanced weights → All (AtMost ONE) weights
each_at_most weights h =
    All-weaker (λ w. (neg_ℤ (pos 65536) ≤ℤ w) × (w ≤ℤ pos 65536)) (AtMost ONE) (λ w k. record { bound = small w k.0 k.1 }) weights
    (each_within (pos 65536) (neg_ℤ (pos 65536)) weights (same_le _ _ h.above) (le_same _ _ h.below))
  where
    small : (w : ℤ) → neg_ℤ (pos 65536) ≤ℤ w → w ≤ℤ pos 65536 → unsigned_abs w ≤ 65536
    small w h k = omega (arith, ints)

    same_le : (a b : ℤ) → a ≡ b → a ≤ℤ b
    same_le a b e = omega (arith, ints)

    le_same : (a b : ℤ) → a ≡ b → b ≤ℤ a
    le_same a b e = omega (arith, ints)

-- the sum of all weights, and that of their absolute values
pub total-zero : (weights : List ℤ) → AreBalanced weights → total weights ≡ pos 0
total-zero weights h = split_total weights ∙ together _ _ h.above h.below
  where
    split_total : (xs : List ℤ) → total xs ≡ total (map (int_max (pos 0)) xs) +ℤ total (map (int_min (pos 0)) xs)
    split_total [] = refl
    split_total (x ∷ xs) = both x (total xs) _ _ (split_total xs)
      where
        both : (x t a b : ℤ) → t ≡ a +ℤ b → x +ℤ t ≡ (int_max (pos 0) x +ℤ a) +ℤ (int_min (pos 0) x +ℤ b)
        both x t a b e = omega (arith, ints, clamps)

    together : (a b : ℤ) → a ≡ pos 65536 → b ≡ neg_ℤ (pos 65536) → a +ℤ b ≡ pos 0
    together a b e f = omega (arith, ints)

-- turning signs keeps the count
pub length-signed : (split : ℕ) (weights : List ℤ) → length (signed_weights split weights) ≡ length weights
length-signed split weights =
    omega (arith, length-append (take split weights) (map neg_ℤ (drop split weights)), length-map (drop split weights) neg_ℤ, length-append (take split weights) (drop split weights), ap length (take-append-drop split weights))
