-- Tables to which a block is added.
use Rattle.std.proofs.Common.{◌≡◌, ◌∙◌, ◌≢◌, ℕ, ◌+◌, ◌*◌, ◌^◌, ◌<◌, List, [], length, set, get_or, sym, ap, subst, arith}
use Rattle.std.specs.Prelude.{All, ◌==◌, Bool, false, ◌||◌, if◌then◌else◌}
use Rattle.std.proofs.lemmas.List.{get_or-set_same, get_or-set_other, length-set}
use Rattle.std.proofs.lemmas.List.Elements.{All-set, All-weaker}
use Rattle.vec_q.specs.Matrices.{M3}
use Rattle.vec_q.specs.Widths.{AreBelow, AreWithin}
use Rattle.block_rows.specs.declared.sums.TheConstants.{MOST_ADDED}
use Rattle.block_rows.specs.Stored.{Entry, block_in, table_of}
use Rattle.block_rows.specs.Tables.{free_table, sum_of_blocks, with_block}
use Rattle.block_rows.specs.Calls.Entries.{IsRow, IsSmall, with_entry}
use Rattle.block_rows.specs.Calls.Matrices.{AreSums}
use Rattle.block_rows.proofs.AddedEntries.{All-with_entry, ascending-with_entry, by_order, found_added, is_other, is_same, others_stay}
use Rattle.block_rows.proofs.Bounds.{are_within, larger, larger_row, sum_of_two}
use Rattle.block_rows.proofs.FreeTables.{free_again, taken_in}

module _ (rows : List (List Entry)) (i j : ℕ) (block : M3) (there : i < length rows) (each : All (IsRow (length rows)) rows) where
  abbrev new_row : List Entry
  new_row = with_entry j block (get_or rows i [])

  in_row : (k : ℕ) → block_in new_row k ≡ (if k == j then sum_of_blocks (block_in (get_or rows i []) k) block else block_in (get_or rows i []) k)
  in_row k = by_order k j (λ less. other (λ same. omega arith)) same_column (λ more. other (λ same. omega arith))
    where
      other : k ≢ j → block_in new_row k ≡ (if k == j then sum_of_blocks (block_in (get_or rows i []) k) block else block_in (get_or rows i []) k)
      other differs = rw (is_other k j differs) (others_stay j block k (λ same. differs (sym same)) (get_or rows i []))

      same_column : k ≡ j → block_in new_row k ≡ (if k == j then sum_of_blocks (block_in (get_or rows i []) k) block else block_in (get_or rows i []) k)
      same_column same = rw (is_same k j same) (rw same (found_added j block (get_or rows i []) (each i [] there).ascending))

  in_place : (r k : ℕ) → block_in (get_or (set rows i new_row) r []) k ≡ with_block i j block (table_of rows) r k
  in_place r k = by_order r i (λ less. other (λ same. omega arith)) same_row (λ more. other (λ same. omega arith))
    where
      other : r ≢ i → block_in (get_or (set rows i new_row) r []) k ≡ with_block i j block (table_of rows) r k
      other differs = rw (is_other r i differs) (ap (λ (row : List Entry). block_in row k) (get_or-set_other rows i r new_row [] differs))

      same_row : r ≡ i → block_in (get_or (set rows i new_row) r []) k ≡ with_block i j block (table_of rows) r k
      same_row same = rw (is_same r i same) (rw same (ap (λ (row : List Entry). block_in row k) (get_or-set_same rows i new_row [] there) ∙ in_row k))

  -- the table where the block is added
  pub added_table : (row : List Entry) → row ≡ new_row → table_of (set rows i row) ≡ with_block i j block (table_of rows)
  added_table row is = ap (λ (r : List Entry). table_of (set rows i r)) is ∙ (λ t. λ r k. in_place r k t)

-- at free nodes, where the table has nothing at fixed ones
pub added_free_table : (fixed : List Bool) (rows : List (List Entry)) (added i j : ℕ) (block : M3) (row : List Entry) → AreSums fixed rows added → i < length rows → (get_or fixed i false || get_or fixed j false) ≡ false
    → row ≡ with_entry j block (get_or rows i []) → table_of (set rows i row) ≡ free_table fixed (with_block i j block (table_of rows))
added_free_table fixed rows added i j block row h there free is = added_table rows i j block there h.square.each row is ∙ taken_in fixed i j block (table_of rows) h.free free

-- one block more, within the bounds
pub added_sums : (fixed : List Bool) (rows : List (List Entry)) (added i j : ℕ) (block : M3) (row : List Entry) → AreSums fixed rows added → added < MOST_ADDED → i < length rows → j < length rows → AreBelow 86 block
    → (get_or fixed i false || get_or fixed j false) ≡ false → row ≡ with_entry j block (get_or rows i []) → AreSums fixed (set rows i row) (added + 1)
added_sums fixed rows added i j block row h room there column small free is = record {
  square = record {
    few = omega (arith, h.square.few, length-set rows i row);
    each = subst (λ (n : ℕ). All (IsRow n) (set rows i row)) (sym (length-set rows i row)) (All-set (IsRow (length rows)) rows i row row_is h.square.each);
  };
  each = h.each ∙ sym (length-set rows i row);
  free = ap (free_table fixed) table ∙ free_again fixed (with_block i j block (table_of rows)) ∙ sym table;
  count = omega (arith, h.count);
  small = All-set (IsSmall ((added + 1) * 2 ^ 86)) rows i row row_small (All-weaker (IsSmall (added * 2 ^ 86)) (IsSmall ((added + 1) * 2 ^ 86)) (λ r s. larger_row (added * 2 ^ 86) ((added + 1) * 2 ^ 86) (omega arith) r s) rows h.small);
}
  where
    table : table_of (set rows i row) ≡ free_table fixed (with_block i j block (table_of rows))
    table = added_free_table fixed rows added i j block row h there free is

    old : IsRow (length rows) (get_or rows i [])
    old = h.square.each i [] there

    row_is : IsRow (length rows) row
    row_is = subst (IsRow (length rows)) (sym is) (record {
      ascending = ascending-with_entry j block (get_or rows i []) old.ascending;
      inside = All-with_entry j block (λ (e : Entry). e.column < length rows) (λ (e : Entry). e.column < length rows) column (λ e less. less) (λ e same less. column) (get_or rows i []) old.inside;
    })

    row_small : IsSmall ((added + 1) * 2 ^ 86) row
    row_small = subst (IsSmall ((added + 1) * 2 ^ 86)) (sym is) (record {
      small = All-with_entry j block (λ (e : Entry). AreWithin (added * 2 ^ 86) e.block) (λ (e : Entry). AreWithin ((added + 1) * 2 ^ 86) e.block)
          (larger (2 ^ 86) ((added + 1) * 2 ^ 86) (omega arith) block (are_within 86 block small))
          (λ e within. larger (added * 2 ^ 86) ((added + 1) * 2 ^ 86) (omega arith) e.block within)
          (λ e same within. larger (added * 2 ^ 86 + 2 ^ 86) ((added + 1) * 2 ^ 86) (omega arith) (sum_of_blocks e.block block) (sum_of_two (added * 2 ^ 86) (2 ^ 86) e.block block within (are_within 86 block small)))
          (get_or rows i []) (h.small i [] there).small;
    })

-- a block that is left out is counted alone
pub counted_sums : (fixed : List Bool) (rows : List (List Entry)) (added : ℕ) → AreSums fixed rows added → added < MOST_ADDED → AreSums fixed rows (added + 1)
counted_sums fixed rows added h room = record {
  square = h.square;
  each = h.each;
  free = h.free;
  count = omega (arith, h.count);
  small = All-weaker (IsSmall (added * 2 ^ 86)) (IsSmall ((added + 1) * 2 ^ 86)) (λ r s. larger_row (added * 2 ^ 86) ((added + 1) * 2 ^ 86) (omega arith) r s) rows h.small;
}
