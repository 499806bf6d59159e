use Rattle.std.proofs.Common.{◌≡◌, ◌∙◌, ℕ, ◌<◌, ◌^◌, ◌*◌, Bool, false, List, [], length, get_or, ap, sym, subst, arith}
use Rattle.std.specs.Prelude.{◌||◌}
use Rattle.std.proofs.lemmas.List.{get_or_default}
use Rattle.vec_q.specs.Rows.{matrix_of}
use Rattle.block_rows.specs.declared.sums.TheConstants.{MOST_ADDED}
use Rattle.block_rows.specs.Stored.{StoredSums, table_of}
use Rattle.block_rows.specs.Tables.{free_table, with_block}
use Rattle.block_rows.specs.Calls.Entries.{IsSmall, with_entry}
use Rattle.block_rows.proofs.AddedTables.{added_free_table, added_sums, counted_sums}
use Rattle.block_rows.proofs.Bounds.{larger_row}
use Rattle.block_rows.proofs.FreeTables.{left_out}
use Rattle.block_rows.proofs.sums.Sums.add.Goals as goal

-- the flags that were read
flags_read : (fixed : List Bool) (i j n : ℕ) (a b : Bool) → length fixed ≡ n → i < n → j < n → a ≡ get_or fixed i a → b ≡ get_or fixed j b → (get_or fixed i false || get_or fixed j false) ≡ (a || b)
flags_read fixed i j n a b each row column first second =
    sym (λ t. (first ∙ get_or_default fixed i a false (rw each row)) t || (second ∙ get_or_default fixed j b false (rw each column)) t)

pub add-requires-clause-small : goal.add-requires-clause-small
add-requires-clause-small c =
    let rows = c.self.inside.rows.items in
    let there : c.args.i < length rows = subst (λ (s : StoredSums). c.args.i < length s.rows) (sym c.self.view_is) c.requires.row in
    let row = c.index_mut-row.result.now in
    larger_row (c.self.inside.added * 2 ^ 86) (2 ^ 125) (omega (arith, c.self.invariant.count)) row
    (subst (IsSmall (c.self.inside.added * 2 ^ 86)) (sym c.index_mut-row.ensures.value) (c.self.invariant.small c.args.i row there))

pub invariant_of-self : goal.invariant_of-self
invariant_of-self c =
    let room = subst (λ (s : StoredSums). s.added < MOST_ADDED) (sym c.self.view_is) c.requires.room in
    counted_sums c.self.inside.fixed.items c.self.inside.rows.items c.self.inside.added c.self.invariant room

pub returns-then-index-clause-table : goal.returns-then-index-clause-table
returns-then-index-clause-table c =
    let rows = c.self.inside.rows.items in
    let fixed = c.self.inside.fixed.items in
    let there : c.args.i < length rows = subst (λ (s : StoredSums). c.args.i < length s.rows) (sym c.self.view_is) c.requires.row in
    let column : c.args.j < length rows = subst (λ (s : StoredSums). c.args.j < length s.rows) (sym c.self.view_is) c.requires.column in
    let held = flags_read fixed c.args.i c.args.j (length rows) c.index.result.now c.index-2.result.now c.self.invariant.each there column c.index.ensures c.index-2.ensures ∙ c.if-index.true in
    left_out fixed c.args.i c.args.j (matrix_of c.args.block.now) (table_of rows) c.self.invariant.free held
    ∙ ap (λ (s : StoredSums). free_table s.fixed (with_block c.args.i c.args.j (matrix_of c.args.block.now) (table_of s.rows))) c.self.view_is

pub invariant_of-self-2 : goal.invariant_of-self-2
invariant_of-self-2 c =
    let rows = c.self.inside.rows.items in
    let fixed = c.self.inside.fixed.items in
    let there : c.args.i < length rows = subst (λ (s : StoredSums). c.args.i < length s.rows) (sym c.self.view_is) c.requires.row in
    let column : c.args.j < length rows = subst (λ (s : StoredSums). c.args.j < length s.rows) (sym c.self.view_is) c.requires.column in
    let room = subst (λ (s : StoredSums). s.added < MOST_ADDED) (sym c.self.view_is) c.requires.room in
    let read = c.index_mut-row.ensures.value ∙ get_or_default rows c.args.i c.index_mut-row.result.now [] there in
    let free = flags_read fixed c.args.i c.args.j (length rows) c.index.result.now c.index-2.result.now c.self.invariant.each there column c.index.ensures c.index-2.ensures ∙ c.if-index.false in
    added_sums fixed rows c.self.inside.added c.args.i c.args.j (matrix_of c.args.block.now) c.add.new.self c.self.invariant room there column c.requires.small free
    (c.in_ok-add.ensures.done ∙ (λ t. with_entry c.args.j (c.wide_block.ensures t) (read t)))

pub returns-clause-table : goal.returns-clause-table
returns-clause-table c =
    let rows = c.self.inside.rows.items in
    let fixed = c.self.inside.fixed.items in
    let there : c.args.i < length rows = subst (λ (s : StoredSums). c.args.i < length s.rows) (sym c.self.view_is) c.requires.row in
    let column : c.args.j < length rows = subst (λ (s : StoredSums). c.args.j < length s.rows) (sym c.self.view_is) c.requires.column in
    let read = c.index_mut-row.ensures.value ∙ get_or_default rows c.args.i c.index_mut-row.result.now [] there in
    let free = flags_read fixed c.args.i c.args.j (length rows) c.index.result.now c.index-2.result.now c.self.invariant.each there column c.index.ensures c.index-2.ensures ∙ c.if-index.false in
    added_free_table fixed rows c.self.inside.added c.args.i c.args.j (matrix_of c.args.block.now) c.add.new.self c.self.invariant there free
    (c.in_ok-add.ensures.done ∙ (λ t. with_entry c.args.j (c.wide_block.ensures t) (read t)))
    ∙ ap (λ (s : StoredSums). free_table s.fixed (with_block c.args.i c.args.j (matrix_of c.args.block.now) (table_of s.rows))) c.self.view_is
