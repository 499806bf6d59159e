-- Sums over the entries of a row.
use Rattle.std.proofs.Common.{◌≡◌, ◌∙◌, ℕ, ◌+◌, ◌<◌, ℤ, ◌+ℤ◌, List, [], ◌∷◌, ◌++◌, length, take, get_or, map, sym, ap}
use Rattle.std.proofs.lemmas.List.{map_more, map_push}
use Rattle.list_laws.specs.Sums.{total}
use Rattle.list_laws.proofs.Sums.{total-push}
use Rattle.space3.specs.Vectors.{sum_of, vector}
use Rattle.block_rows.specs.declared.cells.Cell.{Cell}
use Rattle.block_rows.specs.Calls.Cells.{short_entries, short_entry}
use Rattle.block_rows.specs.Stored.{Entry}
use Rattle.block_rows.specs.Calls.Products.{entries_times, entry_times}

-- one cell more
pub entries_more : (p : List ℤ) (cells : List Cell) (i : ℕ) (x : Cell) → i < length cells → x ≡ get_or cells i x
    → entries_times p (short_entries (take (i + 1) cells)) ≡ sum_of (entries_times p (short_entries (take i cells))) (entry_times p (short_entry x))
entries_more p cells i x there read = λ t. vector (one (λ e. (entry_times p e).x) t) (one (λ e. (entry_times p e).y) t) (one (λ e. (entry_times p e).z) t)
  where
    one : (f : Entry → ℤ) → total (map f (short_entries (take (i + 1) cells))) ≡ total (map f (short_entries (take i cells))) +ℤ f (short_entry x)
    one f =
        ap (λ (es : List Entry). total (map f es)) (map_more short_entry cells i x there ∙ ap (λ (y : Cell). short_entries (take i cells) ++ short_entry y ∷ []) (sym read))
        ∙ ap total (map_push f (short_entries (take i cells)) (short_entry x))
        ∙ total-push (map f (short_entries (take i cells))) (f (short_entry x))
