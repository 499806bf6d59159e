-- Rounded weights are not negative, and together they are 1 in each part.
use Rattle.std.proofs.Common.{◌≡◌, suc, ℤ, pos, ◌+ℤ◌, ◌-ℤ◌, ◌*ℤ◌, ◌≤ℤ◌, ◌<ℤ◌, List, [], ◌∷◌, ◌++◌, take, drop, length, refl, sym, ◌∙◌, ap, subst, arith}
use Rattle.std.proofs.lemmas.Int.{ints}
use Rattle.std.specs.Prelude.{All, Option, Some, None}
use Rattle.std.proofs.lemmas.List.Elements.{All-nil, All-cons, All-head, All-tail}
use Rattle.whole_laws.proofs.Floors.{floor_law, floor_nonneg}
use Rattle.whole_laws.proofs.Ring.{ring, v, num, ◌⊕◌, ◌⊖◌, ◌⊗◌}
use Rattle.whole_laws.proofs.Order.{nonneg_of_mul_ℤ}
use Rattle.nearest.specs.Candidates.{Candidate, IsPositiveIfListed, IsValid}
use Rattle.nearest.specs.Distances.{listed_total}
use Rattle.nearest.specs.RoundedWeights.{share, shares_of, total, part_of, rounded_weights, AreCoefficients, AreOfTwoParts}

share-nonneg : (d w : ℤ) → pos 0 <ℤ d → pos 0 <ℤ w → pos 0 ≤ℤ share d w
share-nonneg d w hd hw = floor_nonneg (w *ℤ pos 65536) d hd (scaled w hw)
  where
    scaled : (w : ℤ) → pos 0 <ℤ w → pos 0 ≤ℤ (w *ℤ pos 65536)
    scaled w h = omega (arith, ints)

zero_nonneg : pos 0 ≤ℤ pos 0
zero_nonneg = omega (arith, ints)

each_share : (d : ℤ) (ws : List (Option ℤ)) → pos 0 <ℤ d → All IsPositiveIfListed ws → All (λ w. pos 0 ≤ℤ w) (shares_of d ws)
each_share d [] hd h = All-nil (λ w. pos 0 ≤ℤ w)
each_share d (Some w ∷ ws) hd h = All-cons (λ w. pos 0 ≤ℤ w) _ _ (share-nonneg d w hd (All-head IsPositiveIfListed (Some w) ws h)) (each_share d ws hd (All-tail IsPositiveIfListed (Some w) ws h))
each_share d (None ∷ ws) hd h = All-cons (λ w. pos 0 ≤ℤ w) _ _ zero_nonneg (each_share d ws hd (All-tail IsPositiveIfListed None ws h))

-- the shares are rounded down
total_share : (d : ℤ) (ws : List (Option ℤ)) → pos 0 <ℤ d → (d *ℤ total (shares_of d ws)) ≤ℤ (listed_total ws *ℤ pos 65536)
total_share d [] hd = rw (ring (d ∷ []) (v 0 ⊗ num (pos 0)) (num (pos 0)) tt) zero_nonneg
total_share d (Some w ∷ ws) hd =
    rw (ring (d ∷ share d w ∷ total (shares_of d ws) ∷ []) (v 0 ⊗ (v 1 ⊕ v 2)) (v 0 ⊗ v 1 ⊕ v 0 ⊗ v 2) tt)
    (both _ _ w (listed_total ws) (floor_law (w *ℤ pos 65536) d hd).low (total_share d ws hd))
  where
    both : (a b w t : ℤ) → a ≤ℤ (w *ℤ pos 65536) → b ≤ℤ (t *ℤ pos 65536) → (a +ℤ b) ≤ℤ ((w +ℤ t) *ℤ pos 65536)
    both a b w t h k = omega (arith, ints)
total_share d (None ∷ ws) hd =
    rw (ring (d ∷ total (shares_of d ws) ∷ []) (v 0 ⊗ (num (pos 0) ⊕ v 1)) (v 0 ⊗ v 1) tt) (total_share d ws hd)

-- what is left for the first listed point
rest-nonneg : (d w t s : ℤ) → pos 0 <ℤ d → pos 0 <ℤ w → w +ℤ t ≡ d → (d *ℤ s) ≤ℤ (t *ℤ pos 65536) → pos 0 ≤ℤ (pos 65536 -ℤ s)
rest-nonneg d w t s hd hw e h = nonneg_of_mul_ℤ d (pos 65536 -ℤ s) hd (rw (ring (d ∷ s ∷ []) (v 0 ⊗ (num (pos 65536) ⊖ v 1)) (num (pos 65536) ⊗ v 0 ⊖ v 0 ⊗ v 1) tt) (left d w t (d *ℤ s) hw e h))
  where
    left : (d w t m : ℤ) → pos 0 <ℤ w → w +ℤ t ≡ d → m ≤ℤ (t *ℤ pos 65536) → pos 0 ≤ℤ (pos 65536 *ℤ d -ℤ m)
    left d w t m h e k = omega (arith, ints)

pub coefficients : (d : ℤ) (ws : List (Option ℤ)) → pos 0 <ℤ d → All IsPositiveIfListed ws → listed_total ws ≡ d → AreCoefficients (part_of d ws)
coefficients d [] hd h e = absurd (omega (arith, ints))
coefficients d (Some w ∷ ws) hd h e = record {
  each = All-cons (λ w. pos 0 ≤ℤ w) _ _ (rest-nonneg d w (listed_total ws) (total (shares_of d ws)) hd (All-head IsPositiveIfListed (Some w) ws h) e (total_share d ws hd))
      (each_share d ws hd (All-tail IsPositiveIfListed (Some w) ws h));
  all = together (total (shares_of d ws));
}
  where
    together : (s : ℤ) → (pos 65536 -ℤ s) +ℤ s ≡ pos 65536
    together s = omega (arith, ints)
coefficients d (None ∷ ws) hd h e =
    let c = coefficients d ws hd (All-tail IsPositiveIfListed None ws h) e in record {
      each = All-cons (λ w. pos 0 ≤ℤ w) _ _ zero_nonneg c.each;
      all = nothing_more _ ∙ c.all;
    }
  where
    nothing_more : (s : ℤ) → pos 0 +ℤ s ≡ s
    nothing_more s = omega (arith, ints)

-- ---- both parts
pub length-shares : (d : ℤ) (ws : List (Option ℤ)) → length (shares_of d ws) ≡ length ws
length-shares d [] = refl
length-shares d (Some w ∷ ws) = ap suc (length-shares d ws)
length-shares d (None ∷ ws) = ap suc (length-shares d ws)

pub length-part : (d : ℤ) (ws : List (Option ℤ)) → length (part_of d ws) ≡ length ws
length-part d [] = refl
length-part d (Some w ∷ ws) = ap suc (length-shares d ws)
length-part d (None ∷ ws) = ap suc (length-part d ws)

take-front : (xs ys : List ℤ) → take (length xs) (xs ++ ys) ≡ xs
take-front [] ys = refl
take-front (x ∷ xs) ys = ap (λ zs. x ∷ zs) (take-front xs ys)

drop-front : (xs ys : List ℤ) → drop (length xs) (xs ++ ys) ≡ ys
drop-front [] ys = refl
drop-front (x ∷ xs) ys = drop-front xs ys

all_front : (xs ys : List (Option ℤ)) → All IsPositiveIfListed (xs ++ ys) → All IsPositiveIfListed xs
all_front [] ys h = All-nil IsPositiveIfListed
all_front (x ∷ xs) ys h = All-cons IsPositiveIfListed x xs (All-head IsPositiveIfListed x (xs ++ ys) h) (all_front xs ys (All-tail IsPositiveIfListed x (xs ++ ys) h))

all_back : (xs ys : List (Option ℤ)) → All IsPositiveIfListed (xs ++ ys) → All IsPositiveIfListed ys
all_back [] ys h = h
all_back (x ∷ xs) ys h = all_back xs ys (All-tail IsPositiveIfListed x (xs ++ ys) h)

pub of_two_parts : (k : Candidate) → IsValid k → listed_total k.left ≡ k.den → listed_total k.right ≡ k.den → AreOfTwoParts (length k.left) (rounded_weights k)
of_two_parts k valid e f =
    let n = length-part k.den k.left in record {
      left = subst AreCoefficients (sym (take-front (part_of k.den k.left) (part_of k.den k.right)) ∙ ap (λ m. take m (rounded_weights k)) n)
          (coefficients k.den k.left valid.divisor (all_front k.left k.right valid.weights) e);
      right = subst AreCoefficients (sym (drop-front (part_of k.den k.left) (part_of k.den k.right)) ∙ ap (λ m. drop m (rounded_weights k)) n)
          (coefficients k.den k.right valid.divisor (all_back k.left k.right valid.weights) f);
    }
