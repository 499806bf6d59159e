-- Weighted sums of rows: they are closed under combinations, and the weights of one row alone.
use Rattle.std.proofs.Common.{◌≡◌, ℕ, zero, suc, ◌+◌, ◌*◌, ◌<◌, ℤ, pos, negsuc, ◌+ℤ◌, ◌*ℤ◌, ◌<ℤ◌, List, [], ◌∷◌, length, refl, ◌∙◌, ap, arith, ◌⊎◌, inl, inr}
use Rattle.std.proofs.lemmas.Int.{ints}
use Rattle.std.specs.List.{All, sum}
use Rattle.std.proofs.lemmas.List.Elements.{All-nil, All-cons, All-weaker}
use Rattle.space3.specs.declared.vectors.V3.{V3}
use Rattle.space3.specs.Vectors.{origin}
use Rattle.space3.specs.Weights.{weighted_sum}
use Rattle.whole_laws.proofs.Ring.{ring, v, ◌⊕◌, ◌⊗◌}
use Rattle.list_laws.proofs.Sums.{sum_head}
use Rattle.plane_cut.specs.Planes.{HasPlane, HasWeights}
use Rattle.space3.proofs.Combinations.{mixed, same_vector}
use Rattle.plane_cut.proofs.Elimination.{IsClosed, plane_or_zero}

-- i·us + j·ws
abbrev pub mixed_weights : ℕ → ℕ → List ℕ → List ℕ → List ℕ
mixed_weights i j [] ws = []
mixed_weights i j (u ∷ us) [] = []
mixed_weights i j (u ∷ us) (w ∷ ws) = (i * u + j * w) ∷ mixed_weights i j us ws

pub length-mixed : (i j : ℕ) (us ws : List ℕ) → length us ≡ length ws → length (mixed_weights i j us ws) ≡ length us
length-mixed i j [] ws e = refl
length-mixed i j (u ∷ us) [] e = absurd (omega arith)
length-mixed i j (u ∷ us) (w ∷ ws) e = omega (arith, length-mixed i j us ws (omega arith))

pub sum-mixed : (i j : ℕ) (us ws : List ℕ) → length us ≡ length ws → sum (mixed_weights i j us ws) ≡ i * sum us + j * sum ws
sum-mixed i j [] [] e = omega arith
sum-mixed i j [] (w ∷ ws) e = absurd (omega arith)
sum-mixed i j (u ∷ us) [] e = absurd (omega arith)
sum-mixed i j (u ∷ us) (w ∷ ws) e =
    rw (sum_head (i * u + j * w) (mixed_weights i j us ws), sum_head u us, sum_head w ws, sum-mixed i j us ws (omega arith)) (spread i j u w (sum us) (sum ws))
  where
    spread : (i j u w s t : ℕ) → (i * u + j * w) + (i * s + j * t) ≡ i * (u + s) + j * (w + t)
    spread i j u w s t = omega arith

pub weighted-mixed : (i j : ℕ) (us ws : List ℕ) (rows : List V3) → length us ≡ length rows → length ws ≡ length rows →
    weighted_sum (mixed_weights i j us ws) rows ≡ mixed (pos i) (pos j) (weighted_sum us rows) (weighted_sum ws rows)
weighted-mixed i j [] [] [] e f = same_vector _ _ (zeros i j) (zeros i j) (zeros i j)
  where
    zeros : (i j : ℕ) → pos 0 ≡ pos i *ℤ pos 0 +ℤ pos j *ℤ pos 0
    zeros i j = omega (arith, ints)
weighted-mixed i j [] (w ∷ ws) [] e f = absurd (omega arith)
weighted-mixed i j [] ws (r ∷ rows) e f = absurd (omega arith)
weighted-mixed i j (u ∷ us) ws [] e f = absurd (omega arith)
weighted-mixed i j (u ∷ us) [] (r ∷ rows) e f = absurd (omega arith)
weighted-mixed i j (u ∷ us) (w ∷ ws) (r ∷ rows) e f =
    let h = weighted-mixed i j us ws rows (omega arith) (omega arith) in
    let a = weighted_sum us rows in
    let b = weighted_sum ws rows in
    same_vector _ _
    (ap (λ z. pos (i * u + j * w) *ℤ r.x +ℤ z) (ap (λ (t : V3). t.x) h) ∙ one i j u w r.x a.x b.x)
    (ap (λ z. pos (i * u + j * w) *ℤ r.y +ℤ z) (ap (λ (t : V3). t.y) h) ∙ one i j u w r.y a.y b.y)
    (ap (λ z. pos (i * u + j * w) *ℤ r.z +ℤ z) (ap (λ (t : V3). t.z) h) ∙ one i j u w r.z a.z b.z)
  where
    one : (i j u w : ℕ) (x a b : ℤ) → pos (i * u + j * w) *ℤ x +ℤ (pos i *ℤ a +ℤ pos j *ℤ b) ≡ pos i *ℤ (pos u *ℤ x +ℤ a) +ℤ pos j *ℤ (pos w *ℤ x +ℤ b)
    one i j u w x a b =
        let r : (pos i *ℤ pos u +ℤ pos j *ℤ pos w) *ℤ x +ℤ (pos i *ℤ a +ℤ pos j *ℤ b) ≡ pos i *ℤ (pos u *ℤ x +ℤ a) +ℤ pos j *ℤ (pos w *ℤ x +ℤ b) =
        ring (pos i ∷ pos j ∷ pos u ∷ pos w ∷ x ∷ a ∷ b ∷ []) ((v 0 ⊗ v 2 ⊕ v 1 ⊗ v 3) ⊗ v 4 ⊕ (v 0 ⊗ v 5 ⊕ v 1 ⊗ v 6)) (v 0 ⊗ (v 2 ⊗ v 4 ⊕ v 5) ⊕ v 1 ⊗ (v 3 ⊗ v 4 ⊕ v 6)) tt in
        r

-- z is a weighted sum of the rows, with weights that are not all 0
pub record IsSum (rows : List V3) (z : V3) : Type 0 where
  pub weights : List ℕ
  pub each : length weights ≡ length rows
  pub some : 0 < sum weights
  pub same : weighted_sum weights rows ≡ z

below_both : (i s : ℕ) → 0 < i → 0 < s → 0 < i * s
below_both (suc i) (suc s) h k = omega arith
below_both zero s h k = absurd (omega arith)
below_both (suc i) zero h k = absurd (omega arith)

pub some_mixed : (i j : ℕ) (us ws : List ℕ) → 0 < i → length us ≡ length ws → 0 < sum us → 0 < sum (mixed_weights i j us ws)
some_mixed i j us ws hi e h = omega (arith, sum-mixed i j us ws e, below_both i (sum us) hi h)

sum_joins : (rows : List V3) (i j : ℤ) (a b : V3) → pos 0 <ℤ i → pos 0 <ℤ j → IsSum rows a → IsSum rows b → IsSum rows (mixed i j a b)
sum_joins rows (negsuc i) j a b hi hj f g = absurd (omega (arith, ints))
sum_joins rows (pos i) (negsuc j) a b hi hj f g = absurd (omega (arith, ints))
sum_joins rows (pos i) (pos j) a b hi hj f g = record {
  weights = mixed_weights i j f.weights g.weights;
  each = omega (arith, length-mixed i j f.weights g.weights (omega arith), f.each);
  some = some_mixed i j f.weights g.weights (omega (arith, ints)) (omega (arith, f.each, g.each)) f.some;
  same = weighted-mixed i j f.weights g.weights rows f.each g.each ∙ (λ t. mixed (pos i) (pos j) (f.same t) (g.same t));
}

pub sums_closed : (rows : List V3) → IsClosed (IsSum rows)
sums_closed rows = record { joins = sum_joins rows }

-- z by itself is a weighted sum, with weights of the sum 1
pub record IsOne (rows : List V3) (z : V3) : Type 0 where
  pub weights : List ℕ
  pub each : length weights ≡ length rows
  pub one : sum weights ≡ 1
  pub same : weighted_sum weights rows ≡ z

abbrev no_weights : List V3 → List ℕ
no_weights [] = []
no_weights (r ∷ rows) = 0 ∷ no_weights rows

length-no : (rows : List V3) → length (no_weights rows) ≡ length rows
length-no [] = refl
length-no (r ∷ rows) = omega (arith, length-no rows)

sum-no : (rows : List V3) → sum (no_weights rows) ≡ 0
sum-no [] = refl
sum-no (r ∷ rows) = omega (arith, sum_head 0 (no_weights rows), sum-no rows)

taken : (k : ℕ) (x t u : ℤ) → t ≡ u → pos k *ℤ x +ℤ t ≡ pos k *ℤ x +ℤ u
taken k x t u e = ap (λ z. pos k *ℤ x +ℤ z) e

weighted-no : (rows : List V3) → weighted_sum (no_weights rows) rows ≡ origin
weighted-no [] = refl
weighted-no (r ∷ rows) =
    let h = weighted-no rows in
    same_vector _ _ (ap (λ z. pos 0 *ℤ r.x +ℤ z) (ap (λ (t : V3). t.x) h) ∙ nothing r.x) (ap (λ z. pos 0 *ℤ r.y +ℤ z) (ap (λ (t : V3). t.y) h) ∙ nothing r.y) (ap (λ z. pos 0 *ℤ r.z +ℤ z) (ap (λ (t : V3). t.z) h) ∙ nothing r.z)
  where
    nothing : (x : ℤ) → pos 0 *ℤ x +ℤ pos 0 ≡ pos 0
    nothing x = omega (arith, ints)

one_here : (r : V3) (rows : List V3) → IsOne (r ∷ rows) r
one_here r rows =
    let h = weighted-no rows in record {
      weights = 1 ∷ no_weights rows;
      each = omega (arith, length-no rows);
      one = omega (arith, sum_head 1 (no_weights rows), sum-no rows);
      same = same_vector _ _ (ap (λ z. pos 1 *ℤ r.x +ℤ z) (ap (λ (t : V3). t.x) h) ∙ itself r.x) (ap (λ z. pos 1 *ℤ r.y +ℤ z) (ap (λ (t : V3). t.y) h) ∙ itself r.y) (ap (λ z. pos 1 *ℤ r.z +ℤ z) (ap (λ (t : V3). t.z) h) ∙ itself r.z);
    }
  where
    itself : (x : ℤ) → pos 1 *ℤ x +ℤ pos 0 ≡ x
    itself x = omega (arith, ints)

one_later : (r : V3) (rows : List V3) (z : V3) → IsOne rows z → IsOne (r ∷ rows) z
one_later r rows z o = record {
  weights = 0 ∷ o.weights;
  each = omega (arith, o.each);
  one = omega (arith, sum_head 0 o.weights, o.one);
  same = same_vector _ _ (skipped r.x (weighted_sum o.weights rows).x) (skipped r.y (weighted_sum o.weights rows).y) (skipped r.z (weighted_sum o.weights rows).z) ∙ o.same;
}
  where
    skipped : (x t : ℤ) → pos 0 *ℤ x +ℤ t ≡ t
    skipped x t = omega (arith, ints)

pub each_one : (rows : List V3) → All (IsOne rows) rows
each_one [] = All-nil (IsOne [])
each_one (r ∷ rows) =
    All-cons (IsOne (r ∷ rows)) r rows (one_here r rows) (All-weaker (IsOne rows) (IsOne (r ∷ rows)) (λ z o. one_later r rows z o) rows (each_one rows))

sum_of_one : (rows : List V3) (z : V3) → IsOne rows z → IsSum rows z
sum_of_one rows z o = record { weights = o.weights; each = o.each; some = omega (arith, o.one); same = o.same }

-- a plane, or weights
pub alternative : (rows : List V3) → HasPlane rows ⊎ HasWeights rows
alternative rows = named (plane_or_zero (IsSum rows) (sums_closed rows) rows (All-weaker (IsOne rows) (IsSum rows) (sum_of_one rows) rows (each_one rows)))
  where
    named : HasPlane rows ⊎ IsSum rows origin → HasPlane rows ⊎ HasWeights rows
    named (inl p) = inl p
    named (inr s) = inr (s.weights, record { each = s.each; some = s.some; balanced = s.same })
