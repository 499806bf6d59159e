use Rattle.ipc_top.proofs.SafePlans.{plans_safe}
use Rattle.ipc_top.proofs.top.plans_are_safe.Goals as goal

pub returns : goal.returns
returns c = plans_safe
