-- Places at which bodies may stand.
use Rattle.std.specs.Prelude.{◌≡◌, List, length, All}
use Rattle.space3.specs.declared.vectors.V3.{V3}
use Rattle.surface_mesh.specs.declared.setup.Setup.{Setup}
use Rattle.surface_mesh.specs.Safety.{IsSafeAt}
use Rattle.potential_sum.specs.Upright.{HasShortEdges}

-- one place per node, where no pair meets and all volumes are positive, and no edge is too long
pub record IsPose (setup : Setup) (places : List V3) : Type 0 where
  pub each : length places ≡ length setup.mesh.numbers
  pub safe : IsSafeAt setup places
  pub edges : All (λ tet. HasShortEdges places tet.nodes) setup.mesh.tets
