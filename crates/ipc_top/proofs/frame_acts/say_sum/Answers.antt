use Rattle.ipc_top.proofs.ActsDone.{did_nothing}
use Rattle.ipc_top.proofs.frame_acts.say_sum.Goals as goal

pub returns-in-Some : goal.returns-in-Some
returns-in-Some g c = λ s numbers. rw c.in-Some.is (did_nothing _)

pub returns-in-None : goal.returns-in-None
returns-in-None g c = λ s numbers. rw (c.in-None.is, ← c.sum_line.ensures) (c.say.ensures s)
