-- The squared distance of parts whose boxes have a gap.
use Rattle.std.proofs.Common.{◌≡◌, ℕ, ◌*◌, ◌/◌, ◌≤◌, ◌<◌, ℤ, pos, ◌*ℤ◌, ◌≤ℤ◌, ◌<ℤ◌, false, List, [], ◌∷◌, max, unsigned_abs, inl, inr, sym, subst, arith}
use Rattle.std.proofs.lemmas.Int.{ints}
use Rattle.std.proofs.Math.Nat.{le-div_iff_mul-le}
use Rattle.space3.specs.declared.vectors.V3.{V3}
use Rattle.space3.specs.Boxes.{box_of, are_within}
use Rattle.nearest.specs.Candidates.{Candidate, IsFirstLeast, nearest_in}
use Rattle.nearest.proofs.FarBoxes.{IsBeyond, far_vt, far_ee}
use Rattle.nearest.proofs.FirstFound.{first_found}
use Rattle.nearest.proofs.SomeTaken.{some_taken_vt, some_taken_ee}
use Rattle.near_pair.specs.Answers.{AreFourPoints, near_between, near_by, squared_distance}

-- in natural numbers
quotient : (num den : ℤ) (reach : ℕ) → pos 0 <ℤ den → (den *ℤ (pos reach *ℤ pos reach)) ≤ℤ num → 256 * (reach * reach) ≤ max 1 (256 * unsigned_abs num / unsigned_abs den)
quotient num den reach hd h = by (unsigned_abs num) (unsigned_abs den) reach (magnitude_some den hd) (magnitudes num den (reach * reach) hd h)
  where
    magnitude_some : (d : ℤ) → pos 0 <ℤ d → 0 < unsigned_abs d
    magnitude_some d h = omega (arith, ints)

    by : (n d r : ℕ) → 0 < d → d * (r * r) ≤ n → 256 * (r * r) ≤ max 1 (256 * n / d)
    by n d r hd h = least_of_both (256 * (r * r)) (256 * n / d) ((le-div_iff_mul-le hd).1 (omega (arith, h)))
      where
        least_of_both : (a b : ℕ) → a ≤ b → a ≤ max 1 b
        least_of_both a b h = omega arith

    magnitudes : (n d : ℤ) (s : ℕ) → pos 0 <ℤ d → (d *ℤ pos s) ≤ℤ n → unsigned_abs d * s ≤ unsigned_abs n
    magnitudes n d s hd h = whole (unsigned_abs d * s) n (subst (λ (e : ℤ). (e *ℤ pos s) ≤ℤ n) (is_natural d hd) h)
      where
        is_natural : (d : ℤ) → pos 0 <ℤ d → d ≡ pos (unsigned_abs d)
        is_natural d h = omega (arith, ints)

        whole : (m : ℕ) (n : ℤ) → pos m ≤ℤ n → m ≤ unsigned_abs n
        whole m n h = omega (arith, ints)

far_by : (reach : ℕ) (candidates : List Candidate) (k : Candidate) → IsFirstLeast candidates k → IsBeyond reach k → 256 * (reach * reach) ≤ squared_distance (near_by (nearest_in candidates))
far_by reach candidates k first far =
    subst (λ found. 256 * (reach * reach) ≤ squared_distance (near_by found)) (sym (first_found candidates k first)) (quotient k.num k.den reach first.valid.divisor far)

-- it is at least the square of a reach that the gap is above
pub far_pair : (reach : ℕ) (first second : List V3) → AreFourPoints first second → are_within reach (box_of first) (box_of second) ≡ false → 256 * (reach * reach) ≤ squared_distance (near_between first second)
far_pair reach (p ∷ []) (a ∷ b ∷ c ∷ []) h e = let some = some_taken_vt p a b c in far_by reach _ some.0 some.1 (far_vt reach p a b c some.0 some.1 e)
far_pair reach (a0 ∷ a1 ∷ []) (b0 ∷ b1 ∷ []) h e = let some = some_taken_ee a0 a1 b0 b1 in far_by reach _ some.0 some.1 (far_ee reach a0 a1 b0 b1 some.0 some.1 e)
far_pair reach [] second (inl h) e = absurd (omega (arith, h.0))
far_pair reach [] second (inr h) e = absurd (omega (arith, h.0))
far_pair reach (p ∷ []) [] (inl h) e = absurd (omega (arith, h.1))
far_pair reach (p ∷ []) (a ∷ []) (inl h) e = absurd (omega (arith, h.1))
far_pair reach (p ∷ []) (a ∷ b ∷ []) (inl h) e = absurd (omega (arith, h.1))
far_pair reach (p ∷ []) (a ∷ b ∷ c ∷ d ∷ ys) (inl h) e = absurd (omega (arith, h.1))
far_pair reach (p ∷ []) second (inr h) e = absurd (omega (arith, h.0))
far_pair reach (a0 ∷ a1 ∷ xs) second (inl h) e = absurd (omega (arith, h.0))
far_pair reach (a0 ∷ a1 ∷ []) [] (inr h) e = absurd (omega (arith, h.1))
far_pair reach (a0 ∷ a1 ∷ []) (b0 ∷ []) (inr h) e = absurd (omega (arith, h.1))
far_pair reach (a0 ∷ a1 ∷ []) (b0 ∷ b1 ∷ b2 ∷ ys) (inr h) e = absurd (omega (arith, h.1))
far_pair reach (a0 ∷ a1 ∷ a2 ∷ xs) second (inr h) e = absurd (omega (arith, h.0))
