use Rattle.std.proofs.Common.{◌∙◌}
use Rattle.ipc_top.proofs.ActsDone.{lacks_memory, does_same, same_put}
use Rattle.ipc_top.proofs.frame_acts.put_places.Goals as goal

pub returns-in_err-name : goal.returns-in_err-name
returns-in_err-name g c = lacks_memory _ _ _ _ c.from_residual.ensures.1

pub returns-in_err-text : goal.returns-in_err-text
returns-in_err-text g c = lacks_memory _ _ _ _ c.from_residual-in_err-text.ensures.1

pub returns : goal.returns
returns g c = does_same _ _ _ _ _ (same_put (c.deref.ensures ∙ c.in_ok-name.ensures) (c.deref-2.ensures.value ∙ c.in_ok-text.ensures)) c.put.ensures
