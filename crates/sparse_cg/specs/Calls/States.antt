-- What the work arrays hold: a system, and the numbers of a turn.
use Rattle.std.specs.Prelude.{◌≡◌, ℕ, ◌≤◌, ◌*◌, List, length, All}
use Rattle.space3.specs.declared.vectors.V3.{V3}
use Rattle.space3.specs.declared.ways.TheConstants.{DIRECTION_LIMIT}
use Rattle.space3.specs.Vectors.{Within}
use Rattle.block_rows.specs.Stored.{Entry, nodes_of, table_of}
use Rattle.block_rows.specs.Tables.{IsVector}
use Rattle.sparse_cg.specs.declared.state.State.{State}
use Rattle.sparse_cg.specs.declared.state.Task.{Task}
use Rattle.sparse_cg.specs.Systems.{System}
use Rattle.sparse_cg.specs.Turns.{Numbers}
use Rattle.sparse_cg.specs.Calls.Lists.{numbers_of}

abbrev pub system_in : List (List Entry) → Task → System
system_in rows task = record {
  nodes = nodes_of rows;
  table = table_of rows;
  shift = task.shift;
  target = task.target.items;
  divisors = numbers_of task.divisors.items;
}

abbrev pub numbers_in : State → Numbers
numbers_in state = record { x = state.x.items; r = state.r.items; p = state.p.items; rho = state.rho.raw }

-- the task of so many nodes
pub record IsTask (nodes : ℕ) (task : Task) : Type 0 where
  pub few : nodes ≤ 16384
  pub shift : task.shift ≤ 60
  pub target : IsVector nodes task.target.items
  pub each_divisor : length task.divisors.items ≡ 3 * nodes

-- arrays of three numbers for each of so many nodes
pub record HasRoom (nodes : ℕ) (state : State) : Type 0 where
  pub x : length state.x.items ≡ 3 * nodes
  pub r : length state.r.items ≡ 3 * nodes
  pub p : length state.p.items ≡ 3 * nodes
  pub scratch : length state.scratch.items ≡ 3 * nodes
  pub product : length state.product.items ≡ 3 * nodes

-- and the vectors of a turn, with short numbers
pub record IsState (nodes : ℕ) (state : State) : Type 0 where
  pub x : IsVector nodes state.x.items
  pub r : IsVector nodes state.r.items
  pub p : IsVector nodes state.p.items
  pub scratch : length state.scratch.items ≡ 3 * nodes
  pub product : length state.product.items ≡ 3 * nodes

-- work arrays beside a direction
pub record IsWork (dir : List V3) (task : Task) (state : State) : Type 0 where
  pub few : length dir ≤ 16384
  pub short : All (Within DIRECTION_LIMIT) dir
  pub target : length task.target.items ≡ 3 * length dir
  pub divisors : length task.divisors.items ≡ 3 * length dir
  pub room : HasRoom (length dir) state
