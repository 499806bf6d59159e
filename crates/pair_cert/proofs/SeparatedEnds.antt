-- Points that a vector separates at both ends of a step.
use Rattle.std.proofs.Common.{◌≡◌, ◌∙◌, ℕ, ◌+◌, ◌<◌, ℤ, pos, ◌-ℤ◌, ◌<ℤ◌, ◌≤ℤ◌, List, [], ◌∷◌, length, take, get_or, map, refl, subst, sym, arith}
use Rattle.std.specs.List.{zip}
use Rattle.std.specs.Int.{int_max}
use Rattle.std.specs.Prelude.{All, int_le, false}
use Rattle.std.proofs.lemmas.Int.{ints, clamps}
use Rattle.std.proofs.lemmas.List.Elements.{All-more, All-weaker}
use Rattle.space3.specs.declared.vectors.V3.{V3}
use Rattle.space3.specs.Vectors.{difference, dot_product, origin}
use Rattle.space3.proofs.VectorForms.{components, at, ◌⊖₃◌, dot}
use Rattle.whole_laws.proofs.Ring.{ring, ◌⊖◌}
use Rattle.safe_motion.specs.declared.motion.Move.{Move}
use Rattle.safe_motion.specs.Certificates.{IsServed}
use Rattle.safe_motion.specs.Meeting.{Separates}
use Rattle.safe_motion.specs.Moments.{end_places, places_at, start_places}
use Rattle.safe_motion.proofs.Ends.{place-end, place-start}
use Rattle.pair_cert.specs.Parts.{move_between}
use Rattle.pair_cert.proofs.SweptBoxes.{ends, starts}

-- one more point below the greatest
pub greatest_more : (n : V3) (points : List V3) (i : ℕ) (g d r : ℤ) → i < length points → All (λ p. dot_product n p ≤ℤ g) (take i points) → d ≡ dot_product n (get_or points i origin) → r ≡ int_max g d → All (λ p. dot_product n p ≤ℤ r) (take (i + 1) points)
greatest_more n points i g d r l so_far here most =
    All-more (λ p. dot_product n p ≤ℤ r) points i origin l
    (All-weaker (λ p. dot_product n p ≤ℤ g) (λ p. dot_product n p ≤ℤ r) (λ p h. first (dot_product n p) h) (take i points) so_far)
    (subst (λ e. e ≤ℤ r) here second)
  where
    first : (e : ℤ) → e ≤ℤ g → e ≤ℤ r
    first e h = omega (arith, ints, clamps, most)

    second : d ≤ℤ r
    second = omega (arith, ints, clamps, most)

-- one more point past the level
pub past_more : (n : V3) (points : List V3) (i : ℕ) (level d : ℤ) → i < length points → All (λ p. level <ℤ dot_product n p) (take i points) → d ≡ dot_product n (get_or points i origin) → int_le d level ≡ false → All (λ p. level <ℤ dot_product n p) (take (i + 1) points)
past_more n points i level d l so_far here test =
    All-more (λ p. level <ℤ dot_product n p) points i origin l so_far (subst (λ e. level <ℤ e) here (past d level test))
  where
    past : (a b : ℤ) → int_le a b ≡ false → b <ℤ a
    past a b e = grind (arith, ints)

-- a level between the products
pub separated_by_level : (n : V3) (xs ys : List V3) (level : ℤ) → All (λ y. dot_product n y ≤ℤ level) ys → All (λ x. level <ℤ dot_product n x) xs → Separates n xs ys
separated_by_level n xs ys level below above =
    All-weaker (λ x. level <ℤ dot_product n x) (λ x. All (λ y. pos 0 <ℤ dot_product n (difference x y)) ys)
    (λ x h. All-weaker (λ y. dot_product n y ≤ℤ level) (λ y. pos 0 <ℤ dot_product n (difference x y)) (λ y k. subst (λ e. pos 0 <ℤ e) (sym (apart x y)) (past (dot_product n x) (dot_product n y) h k)) ys below) xs above
  where
    apart : (a b : V3) → dot_product n (difference a b) ≡ dot_product n a -ℤ dot_product n b
    apart a b = ring (components (n ∷ a ∷ b ∷ [])) (dot (at 0) (at 3 ⊖₃ at 6)) (dot (at 0) (at 3) ⊖ dot (at 0) (at 6)) tt

    past : (e f : ℤ) → level <ℤ e → f ≤ℤ level → pos 0 <ℤ (e -ℤ f)
    past e f h k = omega (arith, ints)

-- ---- the places of moves at both ends
at_start : (moves : List Move) → places_at 0 1 moves ≡ start_places moves
at_start [] = refl
at_start (m ∷ ms) = λ i. place-start m i ∷ at_start ms i

at_end : (moves : List Move) → places_at 1 1 moves ≡ end_places moves
at_end [] = refl
at_end (m ∷ ms) = λ i. place-end m i ∷ at_end ms i

separates_along : (n : V3) {ps xs qs ys : List V3} → ps ≡ xs → qs ≡ ys → Separates n xs ys → Separates n ps qs
separates_along n {ps} {xs} {qs} {ys} e f h = subst (λ (rs : List V3). Separates n rs qs) (sym e) (subst (λ (rs : List V3). Separates n xs rs) (sym f) h)

-- a vector that separates both lists at both ends serves the whole step
pub served_by_ends : (n : V3) (xs ys us vs : List V3) → length xs ≡ length us → length ys ≡ length vs → Separates n xs ys → Separates n us vs → IsServed (map move_between (zip xs us)) (map move_between (zip ys vs)) 0 1
served_by_ends n xs ys us vs e f h k =
    let first = map move_between (zip xs us) in
    let second = map move_between (zip ys vs) in
    record {
      normal = n;
      serves = record {
        before = separates_along n (at_start first ∙ starts xs us e) (at_start second ∙ starts ys vs f) h;
        after = separates_along n (at_end first ∙ ends xs us e) (at_end second ∙ ends ys vs f) k;
      };
    }
