-- Newton's direction: the end of a list of turns.
use Rattle.std.specs.Prelude.{◌≡◌, ℕ, ◌<◌, ◌++◌, ℤ, pos, List, [], ◌∷◌, length, map, All}
use Rattle.std.specs.List.{range_with_len}
use Rattle.num_q.specs.Rounding.{round_of, cut_of}
use Rattle.list_laws.specs.Chains.{Follow}
use Rattle.space3.specs.declared.vectors.V3.{V3}
use Rattle.block_rows.specs.Tables.{Table, three_at}
use Rattle.sparse_cg.specs.Systems.{IsShift, System, system_of}
use Rattle.sparse_cg.specs.Turns.{IsClose, IsTurn, Numbers, start}

-- a solution as a direction in grid units, one vector for each node
abbrev pub rounded : ℤ → ℤ
rounded number = cut_of 21 (round_of number (pos 65536))

abbrev pub direction_of : (nodes : ℕ) → (x : List ℤ) → List V3
direction_of nodes x = map (three_at (map rounded x)) (range_with_len 0 nodes)

-- the direction of a system: of at most 200 turns, the first of which follows on the start and each other on the one
-- before, the last alone is close, and the direction is its solution
pub record IsEndOf (system : System) (direction : List V3) : Type 0 where
  pub before : List Numbers
  pub last : Numbers
  pub few : length before < 200
  pub turns : Follow (λ _ turn. turn) (IsTurn system) (start system) (before ++ last ∷ [])
  pub far : All (λ turn. ¬ IsClose system turn) before
  pub close : IsClose system last
  pub is : direction ≡ direction_of system.nodes last.x

-- the direction of a matrix and a gradient
pub record IsNewton (nodes : ℕ) (table : Table) (slopes : List ℤ) (direction : List V3) : Type 0 where
  pub shift : ℕ
  pub is_shift : IsShift slopes shift
  pub is_end : IsEndOf (system_of nodes table slopes shift) direction
