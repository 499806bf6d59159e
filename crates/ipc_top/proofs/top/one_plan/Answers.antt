use Rattle.ipc_top.proofs.OnePlan.{only_plan}
use Rattle.ipc_top.proofs.top.one_plan.Goals as goal

pub returns : goal.returns
returns c = only_plan
