-- Points of parts whose boxes have a gap are as far apart.
use Rattle.std.proofs.Common.{◌≡◌, ℕ, ℤ, pos, ◌+ℤ◌, ◌-ℤ◌, ◌*ℤ◌, ◌≤ℤ◌, ◌<ℤ◌, Bool, false, List, [], ◌∷◌, map, length, ◌⊎◌, inl, inr, ap, refl, sym, ◌∙◌, subst, arith}
use Rattle.std.proofs.lemmas.Int.{ints, fold-int_min_bounds, fold-int_max_bounds}
use Rattle.std.proofs.lemmas.Bool.{and_cases}
use Rattle.std.proofs.lemmas.List.{length-map}
use Rattle.std.proofs.lemmas.List.Elements.{All-cons, All-from_recursion, All-head, All-tail}
use Rattle.std.specs.Prelude.{All, Option, Some, None, int_le, ◌&&◌}
use Rattle.list_laws.proofs.Elements.{All-append_left, All-append_right}
use Rattle.space3.specs.declared.vectors.V3.{V3}
use Rattle.space3.specs.Boxes.{least_of, greatest_of, box_of, are_within}
use Rattle.space3.specs.Vectors.{difference, squared_length}
use Rattle.space3.proofs.BoxLemmas.{gap_within, gap_test}
use Rattle.whole_laws.proofs.Ring.{ring, v, ◌⊕◌, ◌⊖◌, ◌⊗◌}
use Rattle.whole_laws.proofs.Order.{mul_nonneg_ℤ, add_nonneg_ℤ, sq_nonneg_ℤ, nonneg_of_mul_ℤ, nonneg_of_pos, nonneg_from_le, le_from_nonneg}
use Rattle.nearest.specs.Candidates.{Candidate, IsFirstLeast, IsPositiveIfListed, IsValid}
use Rattle.nearest.specs.Distances.{IsDistance, listed_sum, listed_total}
use Rattle.nearest.specs.PointAndTriangle.{triangle_candidates}
use Rattle.nearest.specs.TwoEdges.{edges_candidates}
use Rattle.nearest.proofs.OfPoints.{each_vt, each_ee}
use Rattle.nearest.proofs.OneTaken.{at_place}

-- ---- along one axis
-- the sum of the listed numbers, each times its weight
abbrev number_sum : List (Option ℤ) → List ℤ → ℤ
number_sum (Some w ∷ ws) (z ∷ zs) = w *ℤ z +ℤ number_sum ws zs
number_sum (None ∷ ws) (z ∷ zs) = number_sum ws zs
number_sum [] zs = pos 0
number_sum (w ∷ ws) [] = pos 0

sum-x : (ws : List (Option ℤ)) (xs : List V3) → (listed_sum ws xs).x ≡ number_sum ws (map (λ p. p.x) xs)
sum-x [] xs = refl
sum-x (Some w ∷ ws) [] = refl
sum-x (None ∷ ws) [] = refl
sum-x (Some w ∷ ws) (x ∷ xs) = ap (λ (n : ℤ). w *ℤ x.x +ℤ n) (sum-x ws xs)
sum-x (None ∷ ws) (x ∷ xs) = sum-x ws xs

sum-y : (ws : List (Option ℤ)) (xs : List V3) → (listed_sum ws xs).y ≡ number_sum ws (map (λ p. p.y) xs)
sum-y [] xs = refl
sum-y (Some w ∷ ws) [] = refl
sum-y (None ∷ ws) [] = refl
sum-y (Some w ∷ ws) (x ∷ xs) = ap (λ (n : ℤ). w *ℤ x.y +ℤ n) (sum-y ws xs)
sum-y (None ∷ ws) (x ∷ xs) = sum-y ws xs

sum-z : (ws : List (Option ℤ)) (xs : List V3) → (listed_sum ws xs).z ≡ number_sum ws (map (λ p. p.z) xs)
sum-z [] xs = refl
sum-z (Some w ∷ ws) [] = refl
sum-z (None ∷ ws) [] = refl
sum-z (Some w ∷ ws) (x ∷ xs) = ap (λ (n : ℤ). w *ℤ x.z +ℤ n) (sum-z ws xs)
sum-z (None ∷ ws) (x ∷ xs) = sum-z ws xs

-- the sum is no less than the least of the numbers times the sum of the weights
above_step : (w t low z r : ℤ) → pos 0 <ℤ w → low ≤ℤ z → (t *ℤ low) ≤ℤ r → ((w +ℤ t) *ℤ low) ≤ℤ (w *ℤ z +ℤ r)
above_step w t low z r hw hz hr =
    le_from_nonneg _ _ (subst (λ (n : ℤ). pos 0 ≤ℤ n) (sym split)
    (add_nonneg_ℤ (w *ℤ (z -ℤ low)) (r -ℤ t *ℤ low) (mul_nonneg_ℤ w (z -ℤ low) (nonneg_of_pos w hw) (nonneg_from_le low z hz)) (nonneg_from_le (t *ℤ low) r hr)))
  where
    split : (w *ℤ z +ℤ r) -ℤ (w +ℤ t) *ℤ low ≡ w *ℤ (z -ℤ low) +ℤ (r -ℤ t *ℤ low)
    split = ring (w ∷ t ∷ low ∷ z ∷ r ∷ []) ((v 0 ⊗ v 3 ⊕ v 4) ⊖ (v 0 ⊕ v 1) ⊗ v 2) (v 0 ⊗ (v 3 ⊖ v 2) ⊕ (v 4 ⊖ v 1 ⊗ v 2)) tt

above_least : (ws : List (Option ℤ)) (zs : List ℤ) (low : ℤ) → length ws ≡ length zs → All IsPositiveIfListed ws → All (λ z. low ≤ℤ z) zs → (listed_total ws *ℤ low) ≤ℤ number_sum ws zs
above_least [] zs low e h k = omega (arith, ints)
above_least (w ∷ ws) [] low e h k = absurd (omega arith)
above_least (None ∷ ws) (z ∷ zs) low e h k = above_least ws zs low (omega arith) (All-tail IsPositiveIfListed None ws h) (All-tail (λ z. low ≤ℤ z) z zs k)
above_least (Some w ∷ ws) (z ∷ zs) low e h k =
    above_step w (listed_total ws) low z (number_sum ws zs) (All-head IsPositiveIfListed (Some w) ws h) (All-head (λ z. low ≤ℤ z) z zs k)
    (above_least ws zs low (omega arith) (All-tail IsPositiveIfListed (Some w) ws h) (All-tail (λ z. low ≤ℤ z) z zs k))

-- and no more than the greatest times it
below_step : (w t high z r : ℤ) → pos 0 <ℤ w → z ≤ℤ high → r ≤ℤ (t *ℤ high) → (w *ℤ z +ℤ r) ≤ℤ ((w +ℤ t) *ℤ high)
below_step w t high z r hw hz hr =
    le_from_nonneg _ _ (subst (λ (n : ℤ). pos 0 ≤ℤ n) (sym split)
    (add_nonneg_ℤ (w *ℤ (high -ℤ z)) (t *ℤ high -ℤ r) (mul_nonneg_ℤ w (high -ℤ z) (nonneg_of_pos w hw) (nonneg_from_le z high hz)) (nonneg_from_le r (t *ℤ high) hr)))
  where
    split : (w +ℤ t) *ℤ high -ℤ (w *ℤ z +ℤ r) ≡ w *ℤ (high -ℤ z) +ℤ (t *ℤ high -ℤ r)
    split = ring (w ∷ t ∷ high ∷ z ∷ r ∷ []) ((v 0 ⊕ v 1) ⊗ v 2 ⊖ (v 0 ⊗ v 3 ⊕ v 4)) (v 0 ⊗ (v 2 ⊖ v 3) ⊕ (v 1 ⊗ v 2 ⊖ v 4)) tt

below_greatest : (ws : List (Option ℤ)) (zs : List ℤ) (high : ℤ) → length ws ≡ length zs → All IsPositiveIfListed ws → All (λ z. z ≤ℤ high) zs → number_sum ws zs ≤ℤ (listed_total ws *ℤ high)
below_greatest [] zs high e h k = omega (arith, ints)
below_greatest (w ∷ ws) [] high e h k = absurd (omega arith)
below_greatest (None ∷ ws) (z ∷ zs) high e h k = below_greatest ws zs high (omega arith) (All-tail IsPositiveIfListed None ws h) (All-tail (λ z. z ≤ℤ high) z zs k)
below_greatest (Some w ∷ ws) (z ∷ zs) high e h k =
    below_step w (listed_total ws) high z (number_sum ws zs) (All-head IsPositiveIfListed (Some w) ws h) (All-head (λ z. z ≤ℤ high) z zs k)
    (below_greatest ws zs high (omega arith) (All-tail IsPositiveIfListed (Some w) ws h) (All-tail (λ z. z ≤ℤ high) z zs k))

-- each number is between the least and the greatest
least-below : (x : ℤ) (xs : List ℤ) → All (λ z. least_of (x ∷ xs) ≤ℤ z) (x ∷ xs)
least-below x xs = let bounds = fold-int_min_bounds x xs (least_of (x ∷ xs)) refl in All-cons (λ z. least_of (x ∷ xs) ≤ℤ z) x xs bounds.0 bounds.1

greatest-above : (x : ℤ) (xs : List ℤ) → All (λ z. z ≤ℤ greatest_of (x ∷ xs)) (x ∷ xs)
greatest-above x xs = let bounds = fold-int_max_bounds x xs (greatest_of (x ∷ xs)) refl in All-cons (λ z. z ≤ℤ greatest_of (x ∷ xs)) x xs bounds.0 bounds.1

-- where the lesser numbers end by g before the greater begin, the sums are apart by as much
apart_by : (g d low high l r : ℤ) → pos 0 <ℤ d → g ≤ℤ (low -ℤ high) → l ≤ℤ (d *ℤ high) → (d *ℤ low) ≤ℤ r → (d *ℤ g) ≤ℤ (r -ℤ l)
apart_by g d low high l r hd hg hl hr =
    le_from_nonneg _ _ (subst (λ (n : ℤ). pos 0 ≤ℤ n) (sym split)
    (add_nonneg_ℤ (d *ℤ (low -ℤ high -ℤ g)) ((d *ℤ high -ℤ l) +ℤ (r -ℤ d *ℤ low)) (mul_nonneg_ℤ d (low -ℤ high -ℤ g) (nonneg_of_pos d hd) (nonneg_from_le g (low -ℤ high) hg))
    (add_nonneg_ℤ (d *ℤ high -ℤ l) (r -ℤ d *ℤ low) (nonneg_from_le l (d *ℤ high) hl) (nonneg_from_le (d *ℤ low) r hr))))
  where
    split : (r -ℤ l) -ℤ d *ℤ g ≡ d *ℤ (low -ℤ high -ℤ g) +ℤ ((d *ℤ high -ℤ l) +ℤ (r -ℤ d *ℤ low))
    split = ring (g ∷ d ∷ low ∷ high ∷ l ∷ r ∷ []) ((v 5 ⊖ v 4) ⊖ v 1 ⊗ v 0) (v 1 ⊗ (v 2 ⊖ v 3 ⊖ v 0) ⊕ ((v 1 ⊗ v 3 ⊖ v 4) ⊕ (v 5 ⊖ v 1 ⊗ v 2))) tt

-- weights of one part, which add up to d
record AreOfPart (d : ℤ) (ws : List (Option ℤ)) (count : ℕ) : Type 0 where
  counted : length ws ≡ count
  positive : All IsPositiveIfListed ws
  whole : listed_total ws ≡ d

sums_apart : (g d : ℤ) (ws us : List (Option ℤ)) (x y : ℤ) (xs ys : List ℤ) → pos 0 <ℤ d → AreOfPart d ws (length (x ∷ xs)) → AreOfPart d us (length (y ∷ ys)) → g ≤ℤ (least_of (y ∷ ys) -ℤ greatest_of (x ∷ xs)) →
    (d *ℤ g) ≤ℤ (number_sum us (y ∷ ys) -ℤ number_sum ws (x ∷ xs))
sums_apart g d ws us x y xs ys hd left right gap =
    apart_by g d (least_of (y ∷ ys)) (greatest_of (x ∷ xs)) (number_sum ws (x ∷ xs)) (number_sum us (y ∷ ys)) hd gap
    (subst (λ (t : ℤ). number_sum ws (x ∷ xs) ≤ℤ (t *ℤ greatest_of (x ∷ xs))) left.whole (below_greatest ws (x ∷ xs) (greatest_of (x ∷ xs)) left.counted left.positive (greatest-above x xs)))
    (subst (λ (t : ℤ). (t *ℤ least_of (y ∷ ys)) ≤ℤ number_sum us (y ∷ ys)) right.whole (above_least us (y ∷ ys) (least_of (y ∷ ys)) right.counted right.positive (least-below y ys)))

-- ---- squares
-- a number that is far from 0 on one side has a great square
squared_apart : (a b : ℤ) → pos 0 ≤ℤ a → a ≤ℤ b → (a *ℤ a) ≤ℤ (b *ℤ b)
squared_apart a b ha h =
    le_from_nonneg _ _ (subst (λ (n : ℤ). pos 0 ≤ℤ n) (sym split)
    (mul_nonneg_ℤ (b -ℤ a) (b +ℤ a) (nonneg_from_le a b h) (both a b ha h)))
  where
    split : b *ℤ b -ℤ a *ℤ a ≡ (b -ℤ a) *ℤ (b +ℤ a)
    split = ring (a ∷ b ∷ []) (v 1 ⊗ v 1 ⊖ v 0 ⊗ v 0) ((v 1 ⊖ v 0) ⊗ (v 1 ⊕ v 0)) tt

    both : (a b : ℤ) → pos 0 ≤ℤ a → a ≤ℤ b → pos 0 ≤ℤ (b +ℤ a)
    both a b ha h = omega (arith, ints)

-- the two sums l and r are apart by a, on the one side or the other

abbrev IsApart : ℤ → ℤ → ℤ → Type 0
IsApart a l r = (a ≤ℤ (r -ℤ l)) ⊎ (a ≤ℤ (l -ℤ r))

apart_square : (a l r : ℤ) → pos 0 ≤ℤ a → IsApart a l r → (a *ℤ a) ≤ℤ ((l -ℤ r) *ℤ (l -ℤ r))
apart_square a l r ha (inl h) = subst (λ (n : ℤ). (a *ℤ a) ≤ℤ n) same (squared_apart a (r -ℤ l) ha h)
  where
    same : (r -ℤ l) *ℤ (r -ℤ l) ≡ (l -ℤ r) *ℤ (l -ℤ r)
    same = ring (l ∷ r ∷ []) ((v 1 ⊖ v 0) ⊗ (v 1 ⊖ v 0)) ((v 0 ⊖ v 1) ⊗ (v 0 ⊖ v 1)) tt
apart_square a l r ha (inr h) = squared_apart a (l -ℤ r) ha h

-- one component is apart
abbrev OneApart : ℤ → V3 → V3 → Type 0
OneApart a l r = IsApart a l.x r.x ⊎ (IsApart a l.y r.y ⊎ IsApart a l.z r.z)

vectors_apart : (a : ℤ) (l r : V3) → pos 0 ≤ℤ a → OneApart a l r → (a *ℤ a) ≤ℤ squared_length (difference l r)
vectors_apart a l r ha (inl h) = with_two (a *ℤ a) _ _ _ (apart_square a l.x r.x ha h) (sq_nonneg_ℤ (l.y -ℤ r.y)) (sq_nonneg_ℤ (l.z -ℤ r.z))
  where
    with_two : (s p q t : ℤ) → s ≤ℤ p → pos 0 ≤ℤ q → pos 0 ≤ℤ t → s ≤ℤ (p +ℤ q +ℤ t)
    with_two s p q t h k m = omega (arith, ints)
vectors_apart a l r ha (inr (inl h)) = with_two (a *ℤ a) _ _ _ (sq_nonneg_ℤ (l.x -ℤ r.x)) (apart_square a l.y r.y ha h) (sq_nonneg_ℤ (l.z -ℤ r.z))
  where
    with_two : (s p q t : ℤ) → pos 0 ≤ℤ p → s ≤ℤ q → pos 0 ≤ℤ t → s ≤ℤ (p +ℤ q +ℤ t)
    with_two s p q t h k m = omega (arith, ints)
vectors_apart a l r ha (inr (inr h)) = with_two (a *ℤ a) _ _ _ (sq_nonneg_ℤ (l.x -ℤ r.x)) (sq_nonneg_ℤ (l.y -ℤ r.y)) (apart_square a l.z r.z ha h)
  where
    with_two : (s p q t : ℤ) → pos 0 ≤ℤ p → pos 0 ≤ℤ q → s ≤ℤ t → s ≤ℤ (p +ℤ q +ℤ t)
    with_two s p q t h k m = omega (arith, ints)

-- ---- the gap of two boxes
beyond : (g r : ℤ) → int_le g r ≡ false → r ≤ℤ g
beyond g r e = grind (arith, ints)

-- the gap along an axis, from both sides
gap_cases : (reach : ℕ) (al ag bl bg : ℤ) → gap_within reach al ag bl bg ≡ false → (pos reach ≤ℤ (bl -ℤ ag)) ⊎ (pos reach ≤ℤ (al -ℤ bg))
gap_cases reach al ag bl bg e =
    elim (and_cases (int_le (bl -ℤ ag) (pos reach)) (int_le (al -ℤ bg) (pos reach)) (sym (gap_test reach al ag bl bg) ∙ e)) [
      | inl h ↦ inl (beyond (bl -ℤ ag) (pos reach) h)
      | inr h ↦ inr (beyond (al -ℤ bg) (pos reach) h)
    ]

abbrev gap_between : ℕ → List ℤ → List ℤ → Bool
gap_between reach xs ys = gap_within reach (least_of xs) (greatest_of xs) (least_of ys) (greatest_of ys)

axis_apart : (reach : ℕ) (d : ℤ) (ws us : List (Option ℤ)) (x y : ℤ) (xs ys : List ℤ) → pos 0 <ℤ d → AreOfPart d ws (length (x ∷ xs)) → AreOfPart d us (length (y ∷ ys)) → gap_between reach (x ∷ xs) (y ∷ ys) ≡ false →
    IsApart (d *ℤ pos reach) (number_sum ws (x ∷ xs)) (number_sum us (y ∷ ys))
axis_apart reach d ws us x y xs ys hd left right e =
    elim (gap_cases reach (least_of (x ∷ xs)) (greatest_of (x ∷ xs)) (least_of (y ∷ ys)) (greatest_of (y ∷ ys)) e) [
      | inl gap ↦ inl (sums_apart (pos reach) d ws us x y xs ys hd left right gap)
      | inr gap ↦ inr (sums_apart (pos reach) d us ws y x ys xs hd right left gap)
    ]

as_many : {d : ℤ} {ws : List (Option ℤ)} (axis : V3 → ℤ) (x : V3) (xs : List V3) → AreOfPart d ws (length (x ∷ xs)) → AreOfPart d ws (length (map axis (x ∷ xs)))
as_many axis x xs part = record { counted = part.counted ∙ sym (length-map (x ∷ xs) axis); positive = part.positive; whole = part.whole }

points_apart : (reach : ℕ) (d : ℤ) (ws us : List (Option ℤ)) (x y : V3) (xs ys : List V3) → pos 0 <ℤ d → AreOfPart d ws (length (x ∷ xs)) → AreOfPart d us (length (y ∷ ys)) → are_within reach (box_of (x ∷ xs)) (box_of (y ∷ ys)) ≡ false →
    OneApart (d *ℤ pos reach) (listed_sum ws (x ∷ xs)) (listed_sum us (y ∷ ys))
points_apart reach d ws us x y xs ys hd left right e =
    elim (and_cases (gap_between reach (map (λ p. p.x) (x ∷ xs)) (map (λ p. p.x) (y ∷ ys)) && gap_between reach (map (λ p. p.y) (x ∷ xs)) (map (λ p. p.y) (y ∷ ys))) (gap_between reach (map (λ p. p.z) (x ∷ xs)) (map (λ p. p.z) (y ∷ ys))) e) [
      | inl xy ↦ elim (and_cases (gap_between reach (map (λ p. p.x) (x ∷ xs)) (map (λ p. p.x) (y ∷ ys))) (gap_between reach (map (λ p. p.y) (x ∷ xs)) (map (λ p. p.y) (y ∷ ys))) xy) [
        | inl h ↦ inl (moved (sum-x ws (x ∷ xs)) (sum-x us (y ∷ ys)) (axis_apart reach d ws us x.x y.x (map (λ p. p.x) xs) (map (λ p. p.x) ys) hd (as_many (λ p. p.x) x xs left) (as_many (λ p. p.x) y ys right) h))
        | inr h ↦ inr (inl (moved (sum-y ws (x ∷ xs)) (sum-y us (y ∷ ys)) (axis_apart reach d ws us x.y y.y (map (λ p. p.y) xs) (map (λ p. p.y) ys) hd (as_many (λ p. p.y) x xs left) (as_many (λ p. p.y) y ys right) h)))
      ]
      | inr h ↦ inr (inr (moved (sum-z ws (x ∷ xs)) (sum-z us (y ∷ ys)) (axis_apart reach d ws us x.z y.z (map (λ p. p.z) xs) (map (λ p. p.z) ys) hd (as_many (λ p. p.z) x xs left) (as_many (λ p. p.z) y ys right) h)))
    ]
  where
    moved : {l r m n : ℤ} → l ≡ m → r ≡ n → IsApart (d *ℤ pos reach) m n → IsApart (d *ℤ pos reach) l r
    moved {r = r} {m = m} e f h = subst (λ (s : ℤ). IsApart (d *ℤ pos reach) s r) (sym e) (subst (λ (t : ℤ). IsApart (d *ℤ pos reach) m t) (sym f) h)

-- ---- the candidate
-- a candidate that is a distance of points of two parts
far_boxes : (reach : ℕ) (k : Candidate) (x y : V3) (xs ys : List V3) → IsValid k → IsDistance k (x ∷ xs) (y ∷ ys) → length k.left ≡ length (x ∷ xs) → length k.right ≡ length (y ∷ ys) →
    are_within reach (box_of (x ∷ xs)) (box_of (y ∷ ys)) ≡ false → (k.den *ℤ (pos reach *ℤ pos reach)) ≤ℤ k.num
far_boxes reach k x y xs ys valid far left right e =
    le_from_nonneg _ _ (nonneg_of_mul_ℤ k.den (k.num -ℤ k.den *ℤ (pos reach *ℤ pos reach)) valid.divisor
    (subst (λ (n : ℤ). pos 0 ≤ℤ n) (sym split) (nonneg_from_le ((k.den *ℤ pos reach) *ℤ (k.den *ℤ pos reach)) (k.num *ℤ k.den)
    (subst (λ (n : ℤ). ((k.den *ℤ pos reach) *ℤ (k.den *ℤ pos reach)) ≤ℤ n) (sym far.distance)
    (vectors_apart (k.den *ℤ pos reach) (listed_sum k.left (x ∷ xs)) (listed_sum k.right (y ∷ ys)) (mul_nonneg_ℤ k.den (pos reach) (nonneg_of_pos k.den valid.divisor) (natural reach))
    (points_apart reach k.den k.left k.right x y xs ys valid.divisor
    (record { counted = left; positive = All-append_left IsPositiveIfListed k.left k.right valid.weights; whole = far.left })
    (record { counted = right; positive = All-append_right IsPositiveIfListed k.left k.right valid.weights; whole = far.right }) e))))))
  where
    split : k.den *ℤ (k.num -ℤ k.den *ℤ (pos reach *ℤ pos reach)) ≡ k.num *ℤ k.den -ℤ (k.den *ℤ pos reach) *ℤ (k.den *ℤ pos reach)
    split = ring (k.den ∷ pos reach ∷ k.num ∷ []) (v 0 ⊗ (v 2 ⊖ v 0 ⊗ (v 1 ⊗ v 1))) (v 2 ⊗ v 0 ⊖ (v 0 ⊗ v 1) ⊗ (v 0 ⊗ v 1)) tt

    natural : (n : ℕ) → pos 0 ≤ℤ pos n
    natural n = omega (arith, ints)

-- a weight for each point of both parts
abbrev HasWeights : ℕ → ℕ → Candidate → Type 0
HasWeights m n k = (length k.left ≡ m) × (length k.right ≡ n)

-- the squared distance of the candidate that is taken, num / den, is at least the square of the reach
abbrev pub IsBeyond : ℕ → Candidate → Type 0
IsBeyond reach k = (k.den *ℤ (pos reach *ℤ pos reach)) ≤ℤ k.num

far_taken : (reach : ℕ) (cs : List Candidate) (k : Candidate) (x y : V3) (xs ys : List V3) → IsFirstLeast cs k → All (λ c. IsDistance c (x ∷ xs) (y ∷ ys)) cs → All (HasWeights (length (x ∷ xs)) (length (y ∷ ys))) cs →
    are_within reach (box_of (x ∷ xs)) (box_of (y ∷ ys)) ≡ false → IsBeyond reach k
far_taken reach cs k x y xs ys first each sized =
    let lengths = at_place (HasWeights (length (x ∷ xs)) (length (y ∷ ys))) cs first.place k first.there sized in
    far_boxes reach k x y xs ys first.valid (at_place (λ c. IsDistance c (x ∷ xs) (y ∷ ys)) cs first.place k first.there each) lengths.0 lengths.1

pub far_vt : (reach : ℕ) (p a b c : V3) (k : Candidate) → IsFirstLeast (triangle_candidates p a b c) k → are_within reach (box_of (p ∷ [])) (box_of (a ∷ b ∷ c ∷ [])) ≡ false → IsBeyond reach k
far_vt reach p a b c k first =
    far_taken reach (triangle_candidates p a b c) k p a [] (b ∷ c ∷ []) first (each_vt p a b c)
    (All-from_recursion (HasWeights 1 3) (triangle_candidates p a b c) ((refl, refl), ((refl, refl), ((refl, refl), ((refl, refl), ((refl, refl), ((refl, refl), ((refl, refl), tt))))))))

pub far_ee : (reach : ℕ) (a0 a1 b0 b1 : V3) (k : Candidate) → IsFirstLeast (edges_candidates a0 a1 b0 b1) k → are_within reach (box_of (a0 ∷ a1 ∷ [])) (box_of (b0 ∷ b1 ∷ [])) ≡ false → IsBeyond reach k
far_ee reach a0 a1 b0 b1 k first =
    far_taken reach (edges_candidates a0 a1 b0 b1) k a0 b0 (a1 ∷ []) (b1 ∷ []) first (each_ee a0 a1 b0 b1)
    (All-from_recursion (HasWeights 2 2) (edges_candidates a0 a1 b0 b1) ((refl, refl), ((refl, refl), ((refl, refl), ((refl, refl), ((refl, refl), ((refl, refl), ((refl, refl), ((refl, refl), ((refl, refl), tt))))))))))
