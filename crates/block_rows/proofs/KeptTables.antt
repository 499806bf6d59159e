-- Rows of which each entry is cut, with the rows and columns of the unit matrix at fixed nodes.
use Rattle.std.proofs.Common.{◌≡◌, ◌∙◌, ◌≢◌, ℕ, ◌<◌, ◌≤◌, Bool, true, false, pos, List, [], ◌∷◌, length, get_or, inl, inr, refl, sym, ap, subst, arith}
use Rattle.std.specs.Prelude.{All, not, if◌then◌else◌}
use Rattle.std.specs.List.{filter, range_with_len}
use Rattle.std.proofs.lemmas.Bool.{cases_Bool}
use Rattle.std.proofs.lemmas.List.{get_or_past}
use Rattle.std.proofs.lemmas.List.FromFn.{get_or-map-range_with_len, length-map-range_with_len}
use Rattle.std.proofs.lemmas.List.Elements.{All-nil, All-cons, All-filter, All-map, All-weaker}
use Rattle.list_laws.proofs.CountedWrites.{All-counted}
use Rattle.vec_q.specs.Matrices.{M3, unit_times}
use Rattle.block_rows.specs.Stored.{Entry, block_in, entry, table_of}
use Rattle.block_rows.specs.Tables.{cut_block, cut_table, no_block, unit_block}
use Rattle.block_rows.specs.Calls.Entries.{IsAscending, IsRow, cut_entry, free_row}
use Rattle.block_rows.specs.Calls.Matrices.{AreRows, kept_row, kept_rows}
use Rattle.block_rows.proofs.AddedEntries.{by_order, here, is_other, later}

module _ (fixed : List Bool) where
  abbrev pub is_fixed : ℕ → Bool
  is_fixed node = get_or fixed node false

  drops : (e : Entry) (es : List Entry) → is_fixed e.column ≡ true → free_row fixed (e ∷ es) ≡ free_row fixed es
  drops e es h = rw h refl

  keeps : (e : Entry) (es : List Entry) → is_fixed e.column ≡ false → free_row fixed (e ∷ es) ≡ cut_entry e ∷ free_row fixed es
  keeps e es h = rw h refl

  -- what stands in a column of a free node's row
  abbrev kept_at : (row : List Entry) → ℕ → M3
  kept_at row k = if is_fixed k then no_block else cut_block (block_in row k)

  nothing_kept : (k : ℕ) → no_block ≡ kept_at [] k
  nothing_kept k = elim (cases_Bool (is_fixed k)) [ inl held ↦ rw held refl | inr free ↦ rw free refl ]

  behind : (e : Entry) (es : List Entry) (k : ℕ) → e.column ≢ k → kept_at es k ≡ kept_at (e ∷ es) k
  behind e es k other = ap (λ (m : M3). if is_fixed k then no_block else cut_block m) (sym (later e es k other))

  found_dropped : (e : Entry) (es : List Entry) (k : ℕ) → is_fixed e.column ≡ true → e.column ≡ k → kept_at es k ≡ kept_at (e ∷ es) k
  found_dropped e es k h same = let held : is_fixed k ≡ true = ap is_fixed (sym same) ∙ h in rw held refl

  found_kept : (e : Entry) (es : List Entry) (k : ℕ) → is_fixed e.column ≡ false → e.column ≡ k → cut_block e.block ≡ kept_at (e ∷ es) k
  found_kept e es k h same = let free : is_fixed k ≡ false = ap is_fixed (sym same) ∙ h in rw free (ap cut_block (sym (here e es k same)))

  pub free_found : (row : List Entry) (k : ℕ) → block_in (free_row fixed row) k ≡ kept_at row k
  free_found [] k = nothing_kept k
  free_found (e ∷ es) k = elim (cases_Bool (is_fixed e.column)) [
    | inl held ↦ ap (λ (r : List Entry). block_in r k) (drops e es held) ∙ free_found es k
        ∙ by_order e.column k (λ less. behind e es k (λ same. omega arith)) (λ same. found_dropped e es k held same) (λ more. behind e es k (λ same. omega arith))
    | inr free ↦ ap (λ (r : List Entry). block_in r k) (keeps e es free)
        ∙ by_order e.column k
        (λ less. later (cut_entry e) (free_row fixed es) k (λ same. omega arith) ∙ free_found es k ∙ behind e es k (λ same. omega arith))
        (λ same. here (cut_entry e) (free_row fixed es) k same ∙ found_kept e es k free same)
        (λ more. later (cut_entry e) (free_row fixed es) k (λ same. omega arith) ∙ free_found es k ∙ behind e es k (λ same. omega arith))
  ]

  pub All-free : (P : Entry → Type 0) → ((e : Entry) → P e → P (cut_entry e)) → (row : List Entry) → All P row → All P (free_row fixed row)
  All-free P cut row h =
      All-map P cut_entry (filter (λ (e : Entry). not (is_fixed e.column)) row)
      (All-filter (λ (e : Entry). not (is_fixed e.column)) (λ (e : Entry). P (cut_entry e)) row (All-weaker P (λ (e : Entry). P (cut_entry e)) cut row h))

  ascending_free : (row : List Entry) → IsAscending row → IsAscending (free_row fixed row)
  ascending_free [] h = tt
  ascending_free (e ∷ es) h = elim (cases_Bool (is_fixed e.column)) [
    | inl held ↦ subst IsAscending (sym (drops e es held)) (ascending_free es h.1)
    | inr free ↦ subst IsAscending (sym (keeps e es free)) (All-free (λ (x : Entry). e.column < x.column) (λ x less. less) es h.0, ascending_free es h.1)
  ]

  is_row : (n node : ℕ) (row : List Entry) → node < n → IsRow n row → IsRow n (kept_row fixed node row)
  is_row n node row there h = elim (cases_Bool (is_fixed node)) [
    | inl held ↦ rw held (record { ascending = (All-nil (λ (x : Entry). node < x.column), tt); inside = All-cons (λ (e : Entry). e.column < n) (entry node (unit_times (pos 1))) [] there (All-nil (λ (e : Entry). e.column < n)) })
    | inr free ↦ rw free (record { ascending = ascending_free row h.ascending; inside = All-free (λ (e : Entry). e.column < n) (λ x less. less) row h.inside })
  ]

  pub are_rows : (rows : List (List Entry)) → AreRows rows → AreRows (kept_rows fixed rows)
  are_rows rows h =
      let n = length rows in
      let same : length (kept_rows fixed rows) ≡ n = length-map-range_with_len (λ node. kept_row fixed node (get_or rows node [])) 0 n in
      record {
        few = rw same h.few;
        each = subst (λ (k : ℕ). All (IsRow k) (kept_rows fixed rows)) (sym same)
            (All-map (IsRow n) (λ node. kept_row fixed node (get_or rows node [])) (range_with_len 0 n)
            (All-counted (λ node. IsRow n (kept_row fixed node (get_or rows node []))) n (λ node there. is_row n node (get_or rows node []) there (h.each node [] there))));
      }

  module _ (rows : List (List Entry)) (each : length fixed ≡ length rows) where
    past : (i : ℕ) → length rows ≤ i → is_fixed i ≡ false
    past i far = get_or_past fixed i false (omega arith)

    -- the row of each node, also of one that isn't there
    row_at : (i : ℕ) → get_or (kept_rows fixed rows) i [] ≡ kept_row fixed i (get_or rows i [])
    row_at i = by_order i (length rows)
        (λ there. get_or-map-range_with_len (λ node. kept_row fixed node (get_or rows node [])) 0 (length rows) i i [] there (omega arith))
        (λ same. beyond (omega arith))
        (λ more. beyond (omega arith))
      where
        beyond : length rows ≤ i → get_or (kept_rows fixed rows) i [] ≡ kept_row fixed i (get_or rows i [])
        beyond far =
            get_or_past (kept_rows fixed rows) i [] (omega (arith, length-map-range_with_len (λ node. kept_row fixed node (get_or rows node [])) 0 (length rows)))
            ∙ sym (rw (past i far, get_or_past rows i [] far) refl)

    entry_at : (i k : ℕ) → block_in (kept_row fixed i (get_or rows i [])) k ≡ cut_table fixed (table_of rows) i k
    entry_at i k = elim (cases_Bool (is_fixed i)) [ inl held ↦ rw held refl | inr free ↦ rw free (free_found (get_or rows i []) k ∙ beside free) ]
      where
        beside : is_fixed i ≡ false → kept_at (get_or rows i []) k ≡ (if is_fixed k then unit_block i k else cut_block (block_in (get_or rows i []) k))
        beside free = elim (cases_Bool (is_fixed k)) [
          | inl held ↦ rw held (sym (rw (is_other i k (λ same. differ (sym free ∙ ap is_fixed same ∙ held))) refl))
          | inr other ↦ rw other refl
        ]
          where
            differ : false ≡ true → ⊥
            differ e = cc

    pub kept_table : table_of (kept_rows fixed rows) ≡ cut_table fixed (table_of rows)
    kept_table = λ t. λ i k. (ap (λ (r : List Entry). block_in r k) (row_at i) ∙ entry_at i k) t
