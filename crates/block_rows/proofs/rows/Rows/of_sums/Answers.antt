use Rattle.std.proofs.Common.{length, ◌∙◌, ap, sym, subst, get_or, []}
use Rattle.block_rows.specs.Stored.{table_of}
use Rattle.block_rows.specs.Calls.Matrices.{AreRows, kept_row}
use Rattle.std.proofs.lemmas.List.FromFn.{length-map-range_with_len}
use Rattle.block_rows.proofs.KeptTables.{are_rows, kept_table}
use Rattle.block_rows.proofs.rows.Rows.of_sums.Goals as goal

pub invariant_of-result : goal.invariant_of-result
invariant_of-result c = subst AreRows (sym c.in_ok-rows.ensures) (are_rows c.args.fixed.now c.args.sums.now c.requires.sums)

pub returns-clause-nodes : goal.returns-clause-nodes
returns-clause-nodes c = ap length c.in_ok-rows.ensures ∙ length-map-range_with_len (λ node. kept_row c.args.fixed.now node (get_or c.args.sums.now node [])) 0 (length c.args.sums.now)

pub returns-clause-table : goal.returns-clause-table
returns-clause-table c = ap table_of c.in_ok-rows.ensures ∙ kept_table c.args.fixed.now c.args.sums.now c.requires.each
