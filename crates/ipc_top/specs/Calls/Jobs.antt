-- Commands and jobs as the code holds them.
use Rattle.std.specs.Prelude.{option_map}
use Rattle.ipc_top.specs.declared.job.Job.{Job as HeldJob}
use Rattle.ipc_top.specs.declared.words.Command.{Command as HeldCommand}
use Rattle.ipc_top.specs.declared.words.Command.TheVariants as held
use Rattle.surface_mesh.specs.declared.materials.Numbers.{Numbers}
use Rattle.surface_mesh.specs.declared.setup.Setup.{Setup}
use Rattle.surface_mesh.specs.Setup.{IsSetup}
use Rattle.surface_mesh.specs.Sturdy.{IsFit}
use Rattle.ipc_top.specs.Commands.{Command, Check, RunScene, RunStack}
use Rattle.ipc_top.specs.Jobs.{Job}

-- the command that the code holds
abbrev pub asked : HeldCommand → Command
asked (held.Check digits mesh out) = Check digits.count mesh.now out.now
asked (held.RunScene scene) = RunScene scene.now
asked (held.RunStack blocks) = RunStack blocks.count

-- the job that the code holds, for bodies of these numbers
abbrev pub job_of : HeldJob → Numbers → Job
job_of job numbers = record {
  mesh = job.mesh.now;
  out = option_map (λ out. out.now) job.out;
  trace = option_map (λ trace. trace.now) job.trace;
  digits = job.digits.count;
  snap = job.snap;
  numbers = numbers;
  tol = job.tol;
  budget = job.budget;
  frames = job.frames;
}

-- bodies as they are built, without a defect
pub record AreFit (setup : Setup) : Type 0 where
  pub built : IsSetup setup
  pub fit : IsFit setup
