-- Products with sums and with multiples of vectors.
use Rattle.std.proofs.Common.{◌≡◌, ◌∙◌, ℕ, zero, suc, ◌+◌, ◌*◌, ℤ, pos, ◌+ℤ◌, ◌*ℤ◌, List, [], ◌∷◌, length, get_or, map, refl, sym, ap, arith}
use Rattle.std.specs.List.{flat_map, range_with_len}
use Rattle.std.proofs.lemmas.Int.{ints}
use Rattle.whole_laws.proofs.Ring.{ring, v, ◌⊕◌, ◌⊗◌}
use Rattle.list_laws.specs.Sums.{total}
use Rattle.space3.specs.declared.vectors.V3.{V3}
use Rattle.space3.specs.Vectors.{dot_product, multiple, sum_of, vector}
use Rattle.vec_q.specs.Matrices.{transposed}
use Rattle.block_rows.specs.Tables.{Table, multiple_by_number, product, product_at, row_times, sum_by_number, three_at}

-- ---- sums
regrouped : (a b c d : ℤ) → a +ℤ b +ℤ (c +ℤ d) ≡ a +ℤ c +ℤ (b +ℤ d)
regrouped a b c d = omega (arith, ints)

sum_at : (p q : List ℤ) (i : ℕ) → length p ≡ length q → get_or (sum_by_number p q) i (pos 0) ≡ get_or p i (pos 0) +ℤ get_or q i (pos 0)
sum_at [] [] i h = refl
sum_at [] (y ∷ ys) i h = absurd (omega arith)
sum_at (x ∷ xs) [] i h = absurd (omega arith)
sum_at (x ∷ xs) (y ∷ ys) zero h = refl
sum_at (x ∷ xs) (y ∷ ys) (suc i) h = sum_at xs ys i (omega arith)

dot_of_sum : (a b c : V3) → dot_product a (sum_of b c) ≡ dot_product a b +ℤ dot_product a c
dot_of_sum a b c =
    ring (a.x ∷ a.y ∷ a.z ∷ b.x ∷ b.y ∷ b.z ∷ c.x ∷ c.y ∷ c.z ∷ [])
    (v 0 ⊗ (v 3 ⊕ v 6) ⊕ v 1 ⊗ (v 4 ⊕ v 7) ⊕ v 2 ⊗ (v 5 ⊕ v 8))
    ((v 0 ⊗ v 3 ⊕ v 1 ⊗ v 4 ⊕ v 2 ⊗ v 5) ⊕ (v 0 ⊗ v 6 ⊕ v 1 ⊗ v 7 ⊕ v 2 ⊗ v 8)) tt

total_of_sums : (f g h : ℕ → ℤ) → ((x : ℕ) → f x ≡ g x +ℤ h x) → (xs : List ℕ) → total (map f xs) ≡ total (map g xs) +ℤ total (map h xs)
total_of_sums f g h e [] = refl
total_of_sums f g h e (x ∷ xs) = (λ i. e x i +ℤ total_of_sums f g h e xs i) ∙ regrouped (g x) (h x) (total (map g xs)) (total (map h xs))

module _ (nodes : ℕ) (table : Table) (p q : List ℤ) (same : length p ≡ length q) where
  row_of_sum : (row : ℕ → V3) → row_times nodes row (sum_by_number p q) ≡ row_times nodes row p +ℤ row_times nodes row q
  row_of_sum row = total_of_sums (λ node. dot_product (row node) (three_at (sum_by_number p q) node)) (λ node. dot_product (row node) (three_at p node)) (λ node. dot_product (row node) (three_at q node)) each (range_with_len 0 nodes)
    where
      each : (node : ℕ) → dot_product (row node) (three_at (sum_by_number p q) node) ≡ dot_product (row node) (three_at p node) +ℤ dot_product (row node) (three_at q node)
      each node =
          ap (dot_product (row node)) (λ i. vector (sum_at p q (3 * node) same i) (sum_at p q (3 * node + 1) same i) (sum_at p q (3 * node + 2) same i))
          ∙ dot_of_sum (row node) (three_at p node) (three_at q node)

  rows_of_sum : (xs : List ℕ) → flat_map (product_at nodes table (sum_by_number p q)) xs ≡ sum_by_number (flat_map (product_at nodes table p) xs) (flat_map (product_at nodes table q) xs)
  rows_of_sum [] = refl
  rows_of_sum (x ∷ xs) = λ i.
      row_of_sum (λ column. (transposed (table x column)).first) i ∷ row_of_sum (λ column. (transposed (table x column)).second) i
      ∷ row_of_sum (λ column. (transposed (table x column)).third) i ∷ rows_of_sum xs i

  pub product_of_sum : product nodes table (sum_by_number p q) ≡ sum_by_number (product nodes table p) (product nodes table q)
  product_of_sum = rows_of_sum (range_with_len 0 nodes)

-- ---- multiples
module _ (k : ℤ) where
  none : k *ℤ pos 0 ≡ pos 0
  none = omega (arith, ints)

  multiple_at : (p : List ℤ) (i : ℕ) → get_or (multiple_by_number k p) i (pos 0) ≡ k *ℤ get_or p i (pos 0)
  multiple_at [] i = sym none
  multiple_at (x ∷ xs) zero = refl
  multiple_at (x ∷ xs) (suc i) = multiple_at xs i

  dot_of_multiple : (a b : V3) → dot_product a (multiple k b) ≡ k *ℤ dot_product a b
  dot_of_multiple a b =
      ring (k ∷ a.x ∷ a.y ∷ a.z ∷ b.x ∷ b.y ∷ b.z ∷ [])
      (v 1 ⊗ (v 0 ⊗ v 4) ⊕ v 2 ⊗ (v 0 ⊗ v 5) ⊕ v 3 ⊗ (v 0 ⊗ v 6))
      (v 0 ⊗ (v 1 ⊗ v 4 ⊕ v 2 ⊗ v 5 ⊕ v 3 ⊗ v 6)) tt

  total_of_multiples : (f g : ℕ → ℤ) → ((x : ℕ) → f x ≡ k *ℤ g x) → (xs : List ℕ) → total (map f xs) ≡ k *ℤ total (map g xs)
  total_of_multiples f g e [] = sym none
  total_of_multiples f g e (x ∷ xs) = (λ i. e x i +ℤ total_of_multiples f g e xs i) ∙ ring (k ∷ g x ∷ total (map g xs) ∷ []) (v 0 ⊗ v 1 ⊕ v 0 ⊗ v 2) (v 0 ⊗ (v 1 ⊕ v 2)) tt

  module _ (nodes : ℕ) (table : Table) (p : List ℤ) where
    row_of_multiple : (row : ℕ → V3) → row_times nodes row (multiple_by_number k p) ≡ k *ℤ row_times nodes row p
    row_of_multiple row = total_of_multiples (λ node. dot_product (row node) (three_at (multiple_by_number k p) node)) (λ node. dot_product (row node) (three_at p node)) each (range_with_len 0 nodes)
      where
        each : (node : ℕ) → dot_product (row node) (three_at (multiple_by_number k p) node) ≡ k *ℤ dot_product (row node) (three_at p node)
        each node =
            ap (dot_product (row node)) (λ i. vector (multiple_at p (3 * node) i) (multiple_at p (3 * node + 1) i) (multiple_at p (3 * node + 2) i))
            ∙ dot_of_multiple (row node) (three_at p node)

    rows_of_multiple : (xs : List ℕ) → flat_map (product_at nodes table (multiple_by_number k p)) xs ≡ multiple_by_number k (flat_map (product_at nodes table p) xs)
    rows_of_multiple [] = refl
    rows_of_multiple (x ∷ xs) = λ i.
        row_of_multiple (λ column. (transposed (table x column)).first) i ∷ row_of_multiple (λ column. (transposed (table x column)).second) i
        ∷ row_of_multiple (λ column. (transposed (table x column)).third) i ∷ rows_of_multiple xs i

    pub product_of_multiple : product nodes table (multiple_by_number k p) ≡ multiple_by_number k (product nodes table p)
    product_of_multiple = rows_of_multiple (range_with_len 0 nodes)
