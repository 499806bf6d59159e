use Rattle.std.proofs.Common.{◌-◌, List}
use Rattle.block_rows.specs.Stored.{nodes_of}
use Rattle.space3.specs.declared.vectors.V3.{V3}
use Rattle.sparse_cg.specs.Turns.{start}
use Rattle.sparse_cg.specs.Calls.Ends.{Ends}
use Rattle.sparse_cg.specs.Calls.States.{IsState, numbers_in, system_in}
use Rattle.sparse_cg.proofs.search.search.Given as goal

abbrev pub invariant-loop : goal.invariant-loop
invariant-loop l = record {
  state : IsState (nodes_of l.rows) l.state;
  before : (direction : List V3) → Ends (system_in l.rows l.task) (200 - l.counter) (numbers_in l.state) direction → Ends (system_in l.rows l.task) 200 (start (system_in l.rows l.task)) direction;
  after : (direction : List V3) → Ends (system_in l.rows l.task) 200 (start (system_in l.rows l.task)) direction → Ends (system_in l.rows l.task) (200 - l.counter) (numbers_in l.state) direction;
}
