use Rattle.ipc_top.proofs.ActsDone.{nothing_done, due_first}
use Rattle.ipc_top.proofs.refusals.refuse_too_long.Goals as goal

pub returns-in-Err : goal.returns-in-Err
returns-in-Err g c = λ s. nothing_done _ _ (due_first _ _)
