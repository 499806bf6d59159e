use Rattle.std.proofs.Common.{◌∙◌, sym, map, string_bytes}
use Rattle.ipc_top.proofs.Causes.{ends_some, ends_told, read_cause, write_cause, console_cause, answers, usage_means, no_command, stack_status, completes}
use Rattle.ipc_top.proofs.top.ipc_run.Goals as goal

pub returns-clause-told : goal.returns-clause-told
returns-clause-told g c = λ files input. rw c.status.ensures (ends_told _ _ files input c.do_command.ensures.obeys)

pub returns-clause-some : goal.returns-clause-some
returns-clause-some g c = let h = c.do_command.ensures.obeys in (h.seen, rw c.status.ensures (ends_some _ _ h))

pub returns-clause-answers : goal.returns-clause-answers
returns-clause-answers g c = rw c.status.ensures (answers (map string_bytes c.args.words.now) _ c.do_command.ensures.obeys)

pub returns-clause-usage : goal.returns-clause-usage
returns-clause-usage g c = λ e. usage_means _ _ c.do_command.ensures.obeys (sym c.status.ensures ∙ e)

pub returns-clause-no_command : goal.returns-clause-no_command
returns-clause-no_command g c = λ e. rw c.status.ensures (no_command (map string_bytes c.args.words.now) _ c.do_command.ensures.obeys e)

pub returns-clause-stack : goal.returns-clause-stack
returns-clause-stack g c = λ blocks e. rw c.status.ensures (stack_status (map string_bytes c.args.words.now) blocks _ c.do_command.ensures.obeys e)

pub returns-clause-read : goal.returns-clause-read
returns-clause-read g c = λ e. read_cause _ _ (ends_some _ _ c.do_command.ensures.obeys).closes (sym c.status.ensures ∙ e)

pub returns-clause-write : goal.returns-clause-write
returns-clause-write g c = λ e. write_cause _ _ (ends_some _ _ c.do_command.ensures.obeys).closes (sym c.status.ensures ∙ e)

pub returns-clause-console : goal.returns-clause-console
returns-clause-console g c = λ e. console_cause _ _ (ends_some _ _ c.do_command.ensures.obeys).closes (sym c.status.ensures ∙ e)

pub returns-clause-complete : goal.returns-clause-complete
returns-clause-complete g c = rw c.status.ensures (completes (map string_bytes c.args.words.now) _ c.do_command.ensures.obeys)
