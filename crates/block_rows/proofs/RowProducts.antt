-- The product of a row of entries with a vector is that of the table's row.
use Rattle.std.proofs.Common.{◌≡◌, ◌∙◌, ◌≢◌, ℕ, zero, suc, ◌+◌, ◌-◌, ◌<◌, ◌≤◌, ℤ, pos, ◌+ℤ◌, ◌*ℤ◌, List, [], ◌∷◌, length, get_or, map, refl, sym, ap, arith}
use Rattle.std.specs.Prelude.{All, ◌==◌, if◌then◌else◌}
use Rattle.std.specs.List.{range_with_len}
use Rattle.std.proofs.lemmas.Int.{ints}
use Rattle.std.proofs.lemmas.List.Elements.{All-head, All-tail}
use Rattle.list_laws.specs.Sums.{total}
use Rattle.space3.specs.declared.vectors.V3.{V3}
use Rattle.space3.specs.Vectors.{dot_product, origin}
use Rattle.vec_q.specs.Matrices.{M3, transposed}
use Rattle.vec_q.specs.Rows.{components}
use Rattle.block_rows.specs.Stored.{Entry, block_in, table_of}
use Rattle.block_rows.specs.Tables.{no_block, product_at, three_at}
use Rattle.block_rows.specs.Calls.Entries.{IsAscending, IsRow}
use Rattle.block_rows.specs.Calls.Products.{entries_times}
use Rattle.block_rows.proofs.AddedEntries.{absent, by_order, here, is_other, is_same, later}

total_zeros : (xs : List ℕ) → total (map (λ (k : ℕ). pos 0) xs) ≡ pos 0
total_zeros [] = refl
total_zeros (x ∷ xs) = ap (λ (t : ℤ). pos 0 +ℤ t) (total_zeros xs)

total_sum : (g h : ℕ → ℤ) (xs : List ℕ) → total (map (λ k. g k +ℤ h k) xs) ≡ total (map g xs) +ℤ total (map h xs)
total_sum g h [] = refl
total_sum g h (x ∷ xs) = ap (λ (t : ℤ). (g x +ℤ h x) +ℤ t) (total_sum g h xs) ∙ regrouped (g x) (h x) (total (map g xs)) (total (map h xs))
  where
    regrouped : (a b c d : ℤ) → (a +ℤ b) +ℤ (c +ℤ d) ≡ (a +ℤ c) +ℤ (b +ℤ d)
    regrouped a b c d = omega (arith, ints)

abbrev only_at : ℕ → (ℕ → ℤ) → ℕ → ℤ
only_at c g k = if c == k then g k else pos 0

-- a sum of which one summand isn't 0
none_before : (g : ℕ → ℤ) (c a n : ℕ) → c < a → total (map (only_at c g) (range_with_len a n)) ≡ pos 0
none_before g c a zero h = refl
none_before g c a (suc n) h = rw (is_other c a (λ same. omega arith)) (ap (λ (t : ℤ). pos 0 +ℤ t) (none_before g c (a + 1) n (omega arith)))

total_only : (g : ℕ → ℤ) (c a n : ℕ) → a ≤ c → c < a + n → total (map (only_at c g) (range_with_len a n)) ≡ g c
total_only g c a zero h k = absurd (omega arith)
total_only g c a (suc n) h k = by_order a c
    (λ less. rw (is_other c a (λ same. omega arith)) (ap (λ (t : ℤ). pos 0 +ℤ t) (total_only g c (a + 1) n (omega arith) (omega arith)) ∙ zero_left (g c)))
    (λ same. rw (is_same c a (sym same)) (ap (λ (t : ℤ). g a +ℤ t) (none_before g c (a + 1) n (omega arith)) ∙ zero_right (g a) ∙ ap g same))
    (λ more. absurd (omega arith))
  where
    zero_left : (x : ℤ) → pos 0 +ℤ x ≡ x
    zero_left x = omega (arith, ints)

    zero_right : (x : ℤ) → x +ℤ pos 0 ≡ x
    zero_right x = omega (arith, ints)

-- a quantity of blocks that is 0 where nothing stands, summed over the entries and over all columns
module _ (f : M3 → ℕ → ℤ) (f-zero : (k : ℕ) → f no_block k ≡ pos 0) (n : ℕ) where
  parted : (e : Entry) (es : List Entry) → All (λ x. e.column < x.column) es → (k : ℕ) → f (block_in (e ∷ es) k) k ≡ only_at e.column (f e.block) k +ℤ f (block_in es k) k
  parted e es h k = by_order e.column k (λ less. other (λ same. omega arith)) at_column (λ more. other (λ same. omega arith))
    where
      zero_left : (x : ℤ) → x ≡ pos 0 +ℤ x
      zero_left x = omega (arith, ints)

      with_zero : (x y : ℤ) → y ≡ pos 0 → x ≡ x +ℤ y
      with_zero x y e = omega (arith, ints)

      other : e.column ≢ k → f (block_in (e ∷ es) k) k ≡ only_at e.column (f e.block) k +ℤ f (block_in es k) k
      other differs = ap (λ (m : M3). f m k) (later e es k differs) ∙ rw (is_other e.column k differs) (zero_left (f (block_in es k) k))

      at_column : e.column ≡ k → f (block_in (e ∷ es) k) k ≡ only_at e.column (f e.block) k +ℤ f (block_in es k) k
      at_column same =
          let nothing : f (block_in es k) k ≡ pos 0 = ap (λ (m : M3). f m k) (ap (block_in es) (sym same) ∙ absent e.column es h) ∙ f-zero k in
          ap (λ (m : M3). f m k) (here e es k same) ∙ rw (is_same e.column k same) (with_zero (f e.block k) (f (block_in es k) k) nothing)

  pub over_columns : (row : List Entry) → IsAscending row → All (λ e. e.column < n) row → total (map (λ (e : Entry). f e.block e.column) row) ≡ total (map (λ k. f (block_in row k) k) (range_with_len 0 n))
  over_columns [] h inside = sym ((λ t. total (map (λ k. f-zero k t) (range_with_len 0 n))) ∙ total_zeros (range_with_len 0 n))
  over_columns (e ∷ es) h inside =
      let there : e.column < n = All-head (λ x. x.column < n) e es inside in
      ap (λ (t : ℤ). f e.block e.column +ℤ t) (over_columns es h.1 (All-tail (λ x. x.column < n) e es inside))
      ∙ ap (λ (t : ℤ). t +ℤ total (map (λ k. f (block_in es k) k) (range_with_len 0 n))) (sym (total_only (f e.block) e.column 0 n (omega arith) (omega arith)))
      ∙ sym (total_sum (only_at e.column (f e.block)) (λ k. f (block_in es k) k) (range_with_len 0 n))
      ∙ (λ t. total (map (λ k. sym (parted e es h.0 k) t) (range_with_len 0 n)))

no_product : (v : V3) → dot_product origin v ≡ pos 0
no_product v = without v.x v.y v.z
  where
    without : (x y z : ℤ) → pos 0 *ℤ x +ℤ pos 0 *ℤ y +ℤ pos 0 *ℤ z ≡ pos 0
    without x y z = omega (arith, ints)

-- the product of a row's entries with a vector has the three numbers of the table's product
pub same_product : (rows : List (List Entry)) (p : List ℤ) (node : ℕ) → node < length rows → All (IsRow (length rows)) rows
    → components (entries_times p (get_or rows node [])) ≡ product_at (length rows) (table_of rows) p node
same_product rows p node there each =
    let row = get_or rows node [] in
    let n = length rows in
    let is = each node [] there in
    λ t. over_columns (λ m k. dot_product (transposed m).first (three_at p k)) (λ k. no_product (three_at p k)) n row is.ascending is.inside t
    ∷ over_columns (λ m k. dot_product (transposed m).second (three_at p k)) (λ k. no_product (three_at p k)) n row is.ascending is.inside t
    ∷ over_columns (λ m k. dot_product (transposed m).third (three_at p k)) (λ k. no_product (three_at p k)) n row is.ascending is.inside t ∷ []

-- a row has no more entries than there are columns
pub few_entries : (n a : ℕ) (row : List Entry) → IsAscending row → All (λ e. a ≤ e.column) row → All (λ e. e.column < n) row → length row ≤ n - a
few_entries n a [] h from inside = omega arith
few_entries n a (e ∷ es) h from inside =
    let low : a ≤ e.column = All-head (λ x. a ≤ x.column) e es from in
    let high : e.column < n = All-head (λ x. x.column < n) e es inside in
    let rest : length es ≤ n - (e.column + 1) = few_entries n (e.column + 1) es h.1 (λ k d l. omega (arith, h.0 k d l)) (All-tail (λ x. x.column < n) e es inside) in
    omega arith
