-- Loops that write one element at a turn.
use Rattle.std.proofs.Common.{◌≡◌, ◌∙◌, ℕ, zero, suc, ◌+◌, ◌<◌, ℤ, pos, List, [], ◌∷◌, length, take, set, get_or, map, refl, sym, ap, subst, arith, unsigned_abs, ◌^◌, to_z, of_z}
use Rattle.std.specs.Int.{w64}
use Rattle.whole_laws.proofs.Order.{clean}
use Rattle.std.specs.Prelude.{All}
use Rattle.std.specs.List.{range_with_len}
use Rattle.std.proofs.lemmas.List.{take_all, take_more_set}
use Rattle.std.proofs.lemmas.List.FromFn.{fill_by_all}
use Rattle.std.proofs.lemmas.List.{get_or-map, length-map}
use Rattle.list_laws.proofs.Pushes.{all_more, counted_more}
use Rattle.sparse_cg.specs.Systems.{combined}
use Rattle.sparse_cg.specs.Calls.Fronts.{IsFront}

pub front_more : {X : Type 0} (P : X → Type 0) (f : ℕ → X) (out : List X) (i : ℕ) (v : X) → i < length out → v ≡ f i → P v → IsFront P f out i → IsFront P f (set out i v) (i + 1)
front_more P f out i v there is holds front = record {
  value = counted_more f i v (take i out) (take (i + 1) (set out i v)) front.value is (take_more_set out i v there);
  each = all_more P v (take i out) (take (i + 1) (set out i v)) front.each holds (take_more_set out i v there);
}

-- one more short number, that goes through a type of 64 bits
pub front_kept : (f : ℕ → ℤ) (out : List ℤ) (i : ℕ) (r : ℤ) → i < length out → r ≡ f i → unsigned_abs r < 2 ^ 44 → IsFront (λ x. unsigned_abs x < 2 ^ 44) f out i
    → IsFront (λ x. unsigned_abs x < 2 ^ 44) f (set out i (to_z w64 (of_z w64 r))) (i + 1)
front_kept f out i r there is short front =
    let back = clean w64 r (2 ^ 44) (omega arith) (omega arith) in
    front_more (λ (x : ℤ). unsigned_abs x < 2 ^ 44) f out i (to_z w64 (of_z w64 r)) there (back ∙ is) (rw back short) front

pub front_value : {X : Type 0} (P : X → Type 0) (f : ℕ → X) (out : List X) (n : ℕ) → length out ≡ n → IsFront P f out n → out ≡ map f (range_with_len 0 n)
front_value P f out n e front = sym (take_all n out (omega arith)) ∙ front.value

pub front_each : {X : Type 0} (P : X → Type 0) (f : ℕ → X) (out : List X) (n : ℕ) → length out ≡ n → IsFront P f out n → All P out
front_each P f out n e front = subst (All P) (take_all n out (omega arith)) front.each

-- ---- the values of numbers as those of lists
length_combined : (f : ℤ → ℤ → ℤ) (xs ys : List ℤ) → length ys ≡ length xs → length (combined f xs ys) ≡ length xs
length_combined f [] ys e = refl
length_combined f (x ∷ xs) [] e = absurd (none (length xs) e)
  where
    none : (n : ℕ) → 0 ≡ suc n → ⊥
    none n e = omega arith
length_combined f (x ∷ xs) (y ∷ ys) e = ap suc (length_combined f xs ys (omega arith))

at_combined : (f : ℤ → ℤ → ℤ) (xs ys : List ℤ) (k : ℕ) (d : ℤ) → k < length xs → length ys ≡ length xs → get_or (combined f xs ys) k d ≡ f (get_or xs k (pos 0)) (get_or ys k (pos 0))
at_combined f [] ys k d h e = absurd (omega arith)
at_combined f (x ∷ xs) [] k d h e = absurd (none (length xs) e)
  where
    none : (n : ℕ) → 0 ≡ suc n → ⊥
    none n e = omega arith
at_combined f (x ∷ xs) (y ∷ ys) zero d h e = refl
at_combined f (x ∷ xs) (y ∷ ys) (suc k) d h e = at_combined f xs ys k d (omega arith) (omega arith)

pub combined_counted : (f : ℤ → ℤ → ℤ) (xs ys : List ℤ) (n : ℕ) → length xs ≡ n → length ys ≡ n → map (λ k. f (get_or xs k (pos 0)) (get_or ys k (pos 0))) (range_with_len 0 n) ≡ combined f xs ys
combined_counted f xs ys n e u =
    sym (fill_by_all (λ k. f (get_or xs k (pos 0)) (get_or ys k (pos 0))) (combined f xs ys) n (pos 0) (length_combined f xs ys (u ∙ sym e) ∙ e) (λ k l. at_combined f xs ys k (pos 0) (omega arith) (u ∙ sym e)))

pub map_counted : (f : ℤ → ℤ) (xs : List ℤ) (n : ℕ) → length xs ≡ n → map (λ k. f (get_or xs k (pos 0))) (range_with_len 0 n) ≡ map f xs
map_counted f xs n e =
    sym (fill_by_all (λ k. f (get_or xs k (pos 0))) (map f xs) n (pos 0) (length-map xs f ∙ e) (λ k l. get_or-map f xs k (pos 0) (pos 0) (omega arith)))
