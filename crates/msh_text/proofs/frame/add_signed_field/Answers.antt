use Rattle.msh_text.proofs.Growth.{begins_itself, begins_still-err, on_err}
use Rattle.msh_text.proofs.frame.add_signed_field.Goals as goal

pub returns-in_err-add-clause-kept : goal.returns-in_err-add-clause-kept
returns-in_err-add-clause-kept c = on_err _ (begins_itself _ _ c.in_err-add.ensures.unchanged)

pub returns-clause-kept : goal.returns-clause-kept
returns-clause-kept c = begins_still-err _ _ _ _ _ c.in_ok-add.ensures.added c.number_text.ensures.unchanged
