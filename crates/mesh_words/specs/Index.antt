-- What the index of node numbers keeps.
use Rattle.std.specs.Prelude.{◌≡◌, ◌≤◌, ℕ, zero, suc, nat_lt, List, length, Option, Some, None, slice_index, if◌then◌else◌}
use Rattle.space3.specs.declared.mesh.TheConstants.{NODE_LIMIT}
use Rattle.mesh_words.specs.declared.index.TheConstants.{NEAR_LIMIT}
use Rattle.mesh_words.specs.Numbers.{position_of}

-- an entry of the table: a position plus 1, or 0 where there is none
abbrev pub entry_of : ℕ → Option ℕ
entry_of zero = None
entry_of (suc position) = Some position

-- where table and tree find a number
abbrev pub found_in : List ℕ → (ℕ → Option ℕ) → ℕ → Option ℕ
found_in near far n = if nat_lt n NEAR_LIMIT then entry_of (slice_index near n) else far n

-- each number is found where it stands in the list
pub record IsIndex (numbers near : List ℕ) (far : ℕ → Option ℕ) : Type 0 where
  pub few : length numbers ≤ NODE_LIMIT
  pub found : (n : ℕ) → found_in near far n ≡ position_of numbers n
