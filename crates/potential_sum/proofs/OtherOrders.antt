-- Sums in another order.
use Rattle.std.proofs.Common.{◌≡◌, ◌∙◌, ℕ, zero, suc, ◌<◌, ℤ, pos, ◌+ℤ◌, ◌-ℤ◌, List, [], ◌∷◌, length, set, get_or, map, refl, ap, sym, arith, inl, inr}
use Rattle.std.specs.List.{swap}
use Rattle.std.specs.List.Sorted.{IsPermutation}
use Rattle.std.proofs.lemmas.Int.{ints}
use Rattle.std.proofs.lemmas.Bool.Decides.{eqb_tells}
use Rattle.std.proofs.lemmas.Grind.{get_or-set_at}
use Rattle.std.proofs.lemmas.List.{get_or-set_other, length-set}
use Rattle.std.proofs.lemmas.List.Edits.{swap_is}
use Rattle.std.proofs.lemmas.List.Sorted.{IsPermutation-keeps, IsPermutation-map}
use Rattle.list_laws.specs.Sums.{total}
use Rattle.space3.specs.declared.vectors.V3.{V3}
use Rattle.space3.specs.Vectors.{vector}
use Rattle.vec_q.specs.Matrices.{M3, columns}
use Rattle.potential_sum.specs.Contributions.{vector_total}
use Rattle.potential_sum.specs.Matrix.{block_total}

-- ---- of numbers
total-set : (xs : List ℤ) (i : ℕ) (new d : ℤ) → i < length xs → total (set xs i new) ≡ total xs +ℤ new -ℤ get_or xs i d
total-set [] i new d there = absurd (omega arith)
total-set (x ∷ xs) zero new d there = exchanged x new (total xs)
  where
    exchanged : (x new rest : ℤ) → new +ℤ rest ≡ (x +ℤ rest) +ℤ new -ℤ x
    exchanged x new rest = omega (arith, ints)
total-set (x ∷ xs) (suc i) new d there = ap (λ (t : ℤ). x +ℤ t) (total-set xs i new d (omega arith)) ∙ moved x (total xs) new (get_or xs i d)
  where
    moved : (x rest new old : ℤ) → x +ℤ (rest +ℤ new -ℤ old) ≡ (x +ℤ rest) +ℤ new -ℤ old
    moved x rest new old = omega (arith, ints)

total-swap : (xs : List ℤ) (i j : ℕ) → i < length xs → j < length xs → total (swap xs i j) ≡ total xs
total-swap xs i j there also =
    let a : ℤ = get_or xs i (pos 0) in
    let b : ℤ = get_or xs j (pos 0) in
    let w : List ℤ = set xs i b in
    ap total (sym (swap_is xs i j (pos 0) there also))
    ∙ total-set w j a (pos 0) (omega (arith, length-set xs i b, also))
    ∙ cancelled (total w) (total xs) a b (get_or w j (pos 0)) (total-set xs i b (pos 0) there) (stays xs i j there)
  where
    stays : (xs : List ℤ) (i j : ℕ) → i < length xs → get_or (set xs i (get_or xs j (pos 0))) j (pos 0) ≡ get_or xs j (pos 0)
    stays xs i j there = elim (eqb_tells j i) [
      | inl t ↦ get_or-set_at xs i j (get_or xs j (pos 0)) (pos 0) t.1 there
      | inr t ↦ get_or-set_other xs i j (get_or xs j (pos 0)) (pos 0) t.1
    ]

    cancelled : (once all a b now : ℤ) → once ≡ all +ℤ b -ℤ a → now ≡ b → once +ℤ a -ℤ now ≡ all
    cancelled once all a b now e f = omega (arith, ints)

pub total-permutation : (xs ys : List ℤ) → IsPermutation xs ys → total ys ≡ total xs
total-permutation xs ys = IsPermutation-keeps xs (λ l. total l ≡ total xs) refl (λ l i j there also h. total-swap l i j there also ∙ h) ys

-- ---- of vectors and of blocks, by their numbers
module _ {A : Type 0} (number : A → ℤ) (sum : List A → A) (none : number (sum []) ≡ pos 0) (more : (x : A) (xs : List A) → number (sum (x ∷ xs)) ≡ number x +ℤ number (sum xs)) where
  by_number : (xs : List A) → number (sum xs) ≡ total (map number xs)
  by_number [] = none
  by_number (x ∷ xs) = more x xs ∙ ap (λ (t : ℤ). number x +ℤ t) (by_number xs)

  in_other_order : (xs ys : List A) → IsPermutation xs ys → number (sum ys) ≡ number (sum xs)
  in_other_order xs ys moved = by_number ys ∙ total-permutation (map number xs) (map number ys) (IsPermutation-map number xs ys moved) ∙ sym (by_number xs)

pub vector_total-permutation : (xs ys : List V3) → IsPermutation xs ys → vector_total ys ≡ vector_total xs
vector_total-permutation xs ys moved = λ i. vector
    (in_other_order (λ v. v.x) vector_total refl (λ v vs. refl) xs ys moved i)
    (in_other_order (λ v. v.y) vector_total refl (λ v vs. refl) xs ys moved i)
    (in_other_order (λ v. v.z) vector_total refl (λ v vs. refl) xs ys moved i)

pub block_total-permutation : (xs ys : List M3) → IsPermutation xs ys → block_total ys ≡ block_total xs
block_total-permutation xs ys moved = λ i. columns
    (vector (of (λ m. m.first.x) refl (λ m ms. refl) i) (of (λ m. m.first.y) refl (λ m ms. refl) i) (of (λ m. m.first.z) refl (λ m ms. refl) i))
    (vector (of (λ m. m.second.x) refl (λ m ms. refl) i) (of (λ m. m.second.y) refl (λ m ms. refl) i) (of (λ m. m.second.z) refl (λ m ms. refl) i))
    (vector (of (λ m. m.third.x) refl (λ m ms. refl) i) (of (λ m. m.third.y) refl (λ m ms. refl) i) (of (λ m. m.third.z) refl (λ m ms. refl) i))
  where
    of : (number : M3 → ℤ) → number (block_total []) ≡ pos 0 → ((m : M3) (ms : List M3) → number (block_total (m ∷ ms)) ≡ number m +ℤ number (block_total ms)) → number (block_total ys) ≡ number (block_total xs)
    of number none more = in_other_order number block_total none more xs ys moved
