-- What a write or an insertion at the place that a search finds makes of a row.
use Rattle.std.proofs.Common.{◌≡◌, ◌∙◌, ℕ, zero, suc, ◌<◌, ◌≤◌, List, [], ◌∷◌, length, set, get_or, sym, ap, subst, arith}
use Rattle.std.specs.Prelude.{All}
use Rattle.std.specs.Prelude.{Result, Ok, Err, IfOk, IfErr}
use Rattle.std.specs.List.{insert}
use Rattle.std.specs.List.Sorted.{IsSearchInRange, IsBinarySearchResult, IsNonDecreasingBy}
use Rattle.std.specs.Ordering.{nat_cmp, ordering_index}
use Rattle.std.proofs.lemmas.Cmp.{ranked}
use Rattle.std.proofs.lemmas.List.{get_or-map, length-map, map-set}
use Rattle.std.proofs.lemmas.Bool.Decides.{nat_tests}
use Rattle.vec_q.specs.Matrices.{M3}
use Rattle.vec_q.specs.Widths.{AreWithin}
use Rattle.block_rows.specs.Tables.{sum_of_blocks}
use Rattle.block_rows.specs.declared.cells.WideCell.{WideCell}
use Rattle.block_rows.specs.declared.wide.WideBlock.{WideBlock}
use Rattle.block_rows.specs.Calls.Cells.{wide_entries, wide_entry, wide_matrix}
use Rattle.block_rows.specs.Calls.Entries.{IsAscending, IsSmall, with_entry}
use Rattle.block_rows.specs.Stored.{Entry, entry}
use Rattle.block_rows.specs.Calls.Places.{IsGapFor, IsPlaceOf}
use Rattle.block_rows.proofs.AddedEntries.{with_below, with_same, with_above}

below_later : (c : WideCell) (cs : List WideCell) (i : ℕ) (d : WideCell) → i < length cs → All (λ (x : Entry). c.column < x.column) (wide_entries cs) → c.column < (get_or cs i d).column
below_later c [] i d there h = absurd (omega arith)
below_later c (x ∷ xs) zero d there h = h 0 (wide_entry d) (omega arith)
below_later c (x ∷ xs) (suc i) d there h = below_later c xs i d (omega arith) (λ k e l. h (suc k) e (omega arith))

-- columns rise along a row
rise : (cells : List WideCell) → IsAscending (wide_entries cells) → (i j : ℕ) (d : WideCell) → i < j → j < length cells → (get_or cells i d).column < (get_or cells j d).column
rise [] h i j d l m = absurd (omega arith)
rise (c ∷ cs) h zero zero d l m = absurd (omega arith)
rise (c ∷ cs) h zero (suc j) d l m = below_later c cs j d (omega arith) h.0
rise (c ∷ cs) h (suc i) zero d l m = absurd (omega arith)
rise (c ∷ cs) h (suc i) (suc j) d l m = rise cs h.1 i j d (omega arith) (omega arith)

-- a binary search by column ends at the column's cell, or at the gap for it
pub searched : (cells : List WideCell) (column : ℕ) → IsAscending (wide_entries cells) → (r : Result ℕ ℕ) → IsSearchInRange r (length cells) → IsBinarySearchResult (λ (c : WideCell). nat_cmp c.column column) cells r
    → record { found : IfOk r (IsPlaceOf cells column); absent : IfErr r (IsGapFor cells column) }
searched cells column h (Ok at) inside equal = record { found = record { inside = inside; same = λ d. ranked _ column _ (sym (equal d)) }; absent = tt }
searched cells column h (Err at) inside parted = record {
  found = tt;
  absent = record {
    within = inside;
    before = λ j d less. ranked _ column _ (sym ((parted comparisons_rise).0 j d (omega arith) less));
    after = λ j d from there. ranked _ column _ (sym ((parted comparisons_rise).1 j d from there));
  };
}
  where
    comparisons_rise : IsNonDecreasingBy (λ (c : WideCell). ordering_index (nat_cmp c.column column)) cells
    comparisons_rise i j d le there =
        let keys : (get_or cells i d).column ≤ (get_or cells j d).column = grind (arith, rise cells h i j d, λ (same : i ≡ j). ap (λ (k : ℕ). (get_or cells k d).column) same) in
        grind (arith, nat_tests)

module _ (column : ℕ) (block : M3) where
  pub at_place : (cells : List WideCell) (i : ℕ) (d : WideCell) → IsAscending (wide_entries cells) → IsPlaceOf cells column i
      → set (wide_entries cells) i (entry column (sum_of_blocks (wide_matrix (get_or cells i d).block) block)) ≡ with_entry column block (wide_entries cells)
  at_place [] i d h place = let there : i < 0 = place.inside in absurd (omega arith)
  at_place (c ∷ cs) zero d h place = sym (with_same column block (wide_entry c) (wide_entries cs) (place.same d))
  at_place (c ∷ cs) (suc i) d h place =
      let there : suc i < suc (length cs) = place.inside in
      let inside : i < length cs = omega arith in
      let less : c.column < (get_or cs i d).column = below_later c cs i d inside h.0 in
      let same : (get_or cs i d).column ≡ column = place.same d in
      let less_here : c.column < column = omega arith in
      ap (λ (r : List Entry). wide_entry c ∷ r) (at_place cs i d h.1 (record { inside = inside; same = place.same })) ∙ sym (with_below column block (wide_entry c) (wide_entries cs) less_here)

  pub in_gap : (cells : List WideCell) (i : ℕ) (new : WideCell) → wide_entry new ≡ entry column block → IsGapFor cells column i → wide_entries (insert cells i new) ≡ with_entry column block (wide_entries cells)
  in_gap [] zero new is gap = ap (λ (e : Entry). e ∷ []) is
  in_gap [] (suc i) new is gap = let within : suc i ≤ 0 = gap.within in absurd (omega arith)
  in_gap (c ∷ cs) zero new is gap =
      let above : column < c.column = gap.after 0 c (omega arith) (omega arith) in
      ap (λ (e : Entry). e ∷ wide_entries (c ∷ cs)) is ∙ sym (with_above column block (wide_entry c) (wide_entries cs) above)
  in_gap (c ∷ cs) (suc i) new is gap =
      let less : c.column < column = gap.before 0 c (omega arith) in
      let within : suc i ≤ suc (length cs) = gap.within in
      let rest : IsGapFor cs column i = record {
        within = omega arith;
        before = λ j d l. gap.before (suc j) d (omega arith);
        after = λ j d l m. gap.after (suc j) d (omega arith) (omega arith);
      } in
      ap (λ (r : List Entry). wide_entry c ∷ r) (in_gap cs i new is rest)
      ∙ sym (with_below column block (wide_entry c) (wide_entries cs) less)

  -- the block is added to that at the place
  pub added_at_place : (cells : List WideCell) (row : List Entry) (i : ℕ) (x : WideCell) (sum : WideBlock) → wide_entries cells ≡ row → IsAscending row → IsPlaceOf cells column i
      → x ≡ get_or cells i x → wide_matrix sum ≡ sum_of_blocks (wide_matrix x.block) block → wide_entries (set cells i (record { column = column; block = sum })) ≡ with_entry column block row
  added_at_place cells row i x sum is ascending place read summed =
      map-set wide_entry cells i (record { column = column; block = sum })
      ∙ ap (λ (m : M3). set (wide_entries cells) i (entry column m)) (summed ∙ ap (λ (y : WideCell). sum_of_blocks (wide_matrix y.block) block) read)
      ∙ at_place cells i x (subst IsAscending (sym is) ascending) place
      ∙ ap (with_entry column block) is

-- a bound of a row's entries bounds those at the place
pub small_at : (most column : ℕ) (cells : List WideCell) (row : List Entry) (i : ℕ) (x : WideCell) → wide_entries cells ≡ row → IsSmall most row → IsPlaceOf cells column i
    → x ≡ get_or cells i x → AreWithin most (wide_matrix x.block)
small_at most column cells row i x is small place read =
    let within : AreWithin most (get_or (wide_entries cells) i (wide_entry x)).block = (subst (λ (r : List Entry). IsSmall most r) (sym is) small).small i (wide_entry x) (omega (arith, length-map cells wide_entry, place.inside)) in
    subst (λ (e : Entry). AreWithin most e.block) (get_or-map wide_entry cells i x (wide_entry x) place.inside ∙ ap wide_entry (sym read)) within
