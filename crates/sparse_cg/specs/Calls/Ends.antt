-- Whether turns from some numbers on end in a direction, turn by turn.
use Rattle.std.specs.Prelude.{◌≡◌, ℕ, zero, suc, pos, ◌<ℤ◌, List, ◌⊎◌}
use Rattle.space3.specs.declared.vectors.V3.{V3}
use Rattle.sparse_cg.specs.Directions.{direction_of}
use Rattle.sparse_cg.specs.Systems.{System}
use Rattle.sparse_cg.specs.Turns.{IsClose, Numbers, curvature, turned}

-- within so many turns these numbers lead to this direction
unfoldable pub Ends : System → ℕ → Numbers → List V3 → Type 0
Ends system zero n direction = ⊥
Ends system (suc turns) n direction =
    (pos 0 <ℤ curvature system n) × (pos 0 <ℤ n.rho) × ((IsClose system (turned system n) × (direction ≡ direction_of system.nodes (turned system n).x))
    ⊎ ((¬ IsClose system (turned system n)) × Ends system turns (turned system n) direction))
