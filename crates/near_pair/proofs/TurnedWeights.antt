-- Weights whose sign is turned, as words of 64 bits.
use Rattle.std.proofs.Common.{◌≡◌, ℕ, ◌≤◌, ◌<◌, ◌^◌, ℤ, pos, ◌+ℤ◌, neg_ℤ, ◌≤ℤ◌, List, [], ◌∷◌, length, get_or, unsigned_abs, ◌⊎◌, inl, inr, sym, ◌∙◌, ap, subst, arith, w64, to_z, of_z}
use Rattle.std.proofs.lemmas.Int.{ints}
use Rattle.std.specs.Int.{w128}
use Rattle.std.specs.Prelude.{All}
use Rattle.std.proofs.lemmas.List.Elements.{recursion_from_All}
use Rattle.whole_laws.proofs.Order.{clean, size_back}
use Rattle.space3.specs.Vectors.{AtMost}
use Rattle.nearest.specs.declared.limits.TheConstants.{ONE}
use Rattle.nearest.specs.RoundedWeights.{AreOfTwoParts}
use Rattle.nearest.specs.SignedWeights.{signed_weights, AreBalanced}
use Rattle.nearest.proofs.Balance.{balanced, each_at_most}

abbrev back : ℤ → ℤ
back z = to_z w64 (of_z w64 z)

kept : (a : ℤ) → unsigned_abs a ≤ 65536 → back a ≡ a
kept a h = clean w64 a 65536 h (omega arith)

turned : (b t : ℤ) → unsigned_abs b ≤ 65536 → t ≡ neg_ℤ (back b) → back t ≡ neg_ℤ b
turned b t h e = ap back e ∙ ap (λ z. back (neg_ℤ z)) (kept b h) ∙ kept (neg_ℤ b) (same b h)
  where
    same : (b : ℤ) → unsigned_abs b ≤ 65536 → unsigned_abs (neg_ℤ b) ≤ 65536
    same b h = omega (arith, ints)

abbrev IsNonneg : ℤ → Type 0
IsNonneg w = pos 0 ≤ℤ w

-- numbers that are not negative and add up to 1
one_of_one : (a : ℤ) → a +ℤ pos 0 ≡ pos 65536 → unsigned_abs a ≤ 65536
one_of_one a e = omega (arith, ints)

first_of_two : (a b : ℤ) → pos 0 ≤ℤ a → pos 0 ≤ℤ b → a +ℤ (b +ℤ pos 0) ≡ pos 65536 → unsigned_abs a ≤ 65536
first_of_two a b h k e = omega (arith, ints)

second_of_two : (a b : ℤ) → pos 0 ≤ℤ a → pos 0 ≤ℤ b → a +ℤ (b +ℤ pos 0) ≡ pos 65536 → unsigned_abs b ≤ 65536
second_of_two a b h k e = omega (arith, ints)

first_of_three : (a b c : ℤ) → pos 0 ≤ℤ a → pos 0 ≤ℤ b → pos 0 ≤ℤ c → a +ℤ (b +ℤ (c +ℤ pos 0)) ≡ pos 65536 → unsigned_abs a ≤ 65536
first_of_three a b c h k l e = omega (arith, ints)

second_of_three : (a b c : ℤ) → pos 0 ≤ℤ a → pos 0 ≤ℤ b → pos 0 ≤ℤ c → a +ℤ (b +ℤ (c +ℤ pos 0)) ≡ pos 65536 → unsigned_abs b ≤ 65536
second_of_three a b c h k l e = omega (arith, ints)

third_of_three : (a b c : ℤ) → pos 0 ≤ℤ a → pos 0 ≤ℤ b → pos 0 ≤ℤ c → a +ℤ (b +ℤ (c +ℤ pos 0)) ≡ pos 65536 → unsigned_abs c ≤ 65536
third_of_three a b c h k l e = omega (arith, ints)

pub turned_vt : (xs : List ℤ) (t u w : ℤ) → length xs ≡ 4 → AreOfTwoParts 1 xs → t ≡ neg_ℤ (back (get_or xs 1 (pos 0))) → u ≡ neg_ℤ (back (get_or xs 2 (pos 0))) → w ≡ neg_ℤ (back (get_or xs 3 (pos 0))) →
    (back (get_or xs 0 (pos 0)) ∷ back t ∷ back u ∷ back w ∷ []) ≡ signed_weights 1 xs
turned_vt [] t u w n p e f g = absurd (omega arith)
turned_vt (a ∷ []) t u w n p e f g = absurd (omega arith)
turned_vt (a ∷ b ∷ []) t u w n p e f g = absurd (omega arith)
turned_vt (a ∷ b ∷ c ∷ []) t u w n p e f g = absurd (omega arith)
turned_vt (a ∷ b ∷ c ∷ d ∷ []) t u w n p e f g =
    let h = recursion_from_All IsNonneg (b ∷ c ∷ d ∷ []) p.right.each in
    let at_b = first_of_three b c d h.0 h.1.0 h.1.1.0 p.right.all in
    let at_c = second_of_three b c d h.0 h.1.0 h.1.1.0 p.right.all in
    let at_d = third_of_three b c d h.0 h.1.0 h.1.1.0 p.right.all in
    λ i. kept a (one_of_one a p.left.all) i ∷ turned b t at_b e i ∷ turned c u at_c f i ∷ turned d w at_d g i ∷ []
turned_vt (a ∷ b ∷ c ∷ d ∷ x ∷ xs) t u w n p e f g = absurd (omega arith)

pub turned_ee : (xs : List ℤ) (u w : ℤ) → length xs ≡ 4 → AreOfTwoParts 2 xs → u ≡ neg_ℤ (back (get_or xs 2 (pos 0))) → w ≡ neg_ℤ (back (get_or xs 3 (pos 0))) →
    (back (get_or xs 0 (pos 0)) ∷ back (get_or xs 1 (pos 0)) ∷ back u ∷ back w ∷ []) ≡ signed_weights 2 xs
turned_ee [] u w n p f g = absurd (omega arith)
turned_ee (a ∷ []) u w n p f g = absurd (omega arith)
turned_ee (a ∷ b ∷ []) u w n p f g = absurd (omega arith)
turned_ee (a ∷ b ∷ c ∷ []) u w n p f g = absurd (omega arith)
turned_ee (a ∷ b ∷ c ∷ d ∷ []) u w n p f g =
    let h = recursion_from_All IsNonneg (a ∷ b ∷ []) p.left.each in
    let k = recursion_from_All IsNonneg (c ∷ d ∷ []) p.right.each in
    λ i. kept a (first_of_two a b h.0 h.1.0 p.left.all) i ∷ kept b (second_of_two a b h.0 h.1.0 p.left.all) i
    ∷ turned c u (first_of_two c d k.0 k.1.0 p.right.all) f i ∷ turned d w (second_of_two c d k.0 k.1.0 p.right.all) g i ∷ []
turned_ee (a ∷ b ∷ c ∷ d ∷ x ∷ xs) u w n p f g = absurd (omega arith)

-- the second kind of pair, where it is not the first
pub is_second : (split : ℕ) → (split ≡ 1) ⊎ (split ≡ 2) → (split ≡ 1 → ⊥) → split ≡ 2
is_second split (inl e) h = absurd (h e)
is_second split (inr e) h = e

pub balanced_as : (split n : ℕ) (ws xs : List ℤ) → split ≡ n → AreOfTwoParts split ws → xs ≡ signed_weights n ws → AreBalanced xs
balanced_as split n ws xs e p f = subst AreBalanced (sym f) (balanced n ws (subst (λ m. AreOfTwoParts m ws) e p))

pub each_as : (split n : ℕ) (ws xs : List ℤ) → split ≡ n → AreOfTwoParts split ws → xs ≡ signed_weights n ws → All (AtMost ONE) xs
each_as split n ws xs e p f = each_at_most xs (balanced_as split n ws xs e p f)

-- a weight as a word of 128 bits
pub small_back : (a : ℤ) → unsigned_abs a ≤ 65536 → unsigned_abs (to_z w128 (of_z w128 (back a))) < 2 ^ 17
small_back a h = omega (arith, size_back w128 (back a) 65536 65536 (size_back w64 a 65536 65536 h (omega arith) (omega arith)) (omega arith) (omega arith))
