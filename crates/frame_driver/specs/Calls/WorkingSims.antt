-- A simulation with its work arrays.
use Rattle.std.specs.Prelude.{◌≡◌, List, length}
use Rattle.space3.specs.declared.vectors.V3.{V3}
use Rattle.frame_driver.specs.Sims.{IsSim, SimState}

-- what a simulation keeps, and work arrays for a direction of its nodes
pub record IsWorkingSim (sim : SimState) (work : List V3) : Type 0 where
  pub is_sim : IsSim sim
  pub room : length work ≡ length sim.setup.mesh.numbers
