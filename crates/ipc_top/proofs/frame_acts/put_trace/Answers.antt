use Rattle.ipc_top.proofs.ActsDone.{did_nothing}
use Rattle.ipc_top.proofs.frame_acts.put_trace.Goals as goal

pub returns-in-Some : goal.returns-in-Some
returns-in-Some g c = rw c.in-Some.is c.put_steps.ensures

pub returns-in-None : goal.returns-in-None
returns-in-None g c = rw c.in-None.is (did_nothing _)
