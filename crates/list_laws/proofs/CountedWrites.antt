-- Writes to a list of values, one for each number from 0 on.
use Rattle.std.proofs.Common.{◌≡◌, ℕ, zero, suc, ◌+◌, ◌<◌, List, ◌∷◌, map, set, get_or, replicate, refl, ap, ◌∙◌, sym, subst, arith, zero-add, inl, inr}
use Rattle.std.specs.Prelude.{All}
use Rattle.std.specs.List.{range_with_len}
use Rattle.std.proofs.lemmas.Bool.{cases_eq}
use Rattle.std.proofs.lemmas.Grind.{get_or-set_at}
use Rattle.std.proofs.lemmas.List.{get_or-set_other, length-set, same_lists}
use Rattle.std.proofs.lemmas.List.FromFn.{length-map-range_with_len, get_or-map-range_with_len, length-range_with_len, get_or-range_with_len}

-- the value of a number
pub get_or-counted : {X : Type 0} (f : ℕ → X) (count k : ℕ) (d : X) → k < count → get_or (map f (range_with_len 0 count)) k d ≡ f k
get_or-counted f count k d l = get_or-map-range_with_len f 0 count k k d l (omega arith)

-- a write of what another function gives there, where the two agree on all other numbers
pub set-counted : {X : Type 0} (f g : ℕ → X) (count i : ℕ) (x : X) → i < count → x ≡ g i → ((k : ℕ) → (i ≡ k → ⊥) → f k ≡ g k) → set (map f (range_with_len 0 count)) i x ≡ map g (range_with_len 0 count)
set-counted {X} f g count i x there e same =
    same_lists (set old i x) (map g (range_with_len 0 count))
    (length-set old i x ∙ length-map-range_with_len f 0 count ∙ sym (length-map-range_with_len g 0 count))
    (λ k d l. each k d (omega (arith, l, length-set old i x, length-map-range_with_len f 0 count)))
  where
    old : List X
    old = map f (range_with_len 0 count)

    each : (k : ℕ) (d : X) → k < count → get_or (set (map f (range_with_len 0 count)) i x) k d ≡ get_or (map g (range_with_len 0 count)) k d
    each k d l =
        elim (cases_eq k i) [
          | inl p ↦ get_or-set_at (map f (range_with_len 0 count)) i k x d p (omega (arith, there, length-map-range_with_len f 0 count)) ∙ e ∙ ap g (sym p) ∙ sym (get_or-counted g count k d l)
          | inr q ↦ get_or-set_other (map f (range_with_len 0 count)) i k x d q ∙ get_or-counted f count k d l ∙ same k (λ p. q (sym p)) ∙ sym (get_or-counted g count k d l)
        ]

-- what holds of each number below n holds of the n numbers from 0 on
pub All-counted : (P : ℕ → Type 0) (n : ℕ) → ((i : ℕ) → i < n → P i) → All P (range_with_len 0 n)
All-counted P n h = λ k d l.
    let below : k < n = omega (arith, l, length-range_with_len 0 n) in
    subst P (sym (get_or-range_with_len 0 n k d below ∙ zero-add k)) (h k below)

-- equal values, one for each number
pub replicate-counted : {X : Type 0} (x : X) (a n : ℕ) → replicate n x ≡ map (λ (k : ℕ). x) (range_with_len a n)
replicate-counted x a zero = refl
replicate-counted {X} x a (suc n) = ap (λ (xs : List X). x ∷ xs) (replicate-counted x (a + 1) n)
