use Rattle.std.proofs.Common.{arith, map, string_bytes, Err}
use Rattle.ipc_top.specs.CallsFor.{usage_plan}
use Rattle.ipc_top.proofs.Causes.{not_ten, stack_not_ten}
use Rattle.ipc_top.proofs.Obeying.{words_obeyed, usage_obeyed}
use Rattle.ipc_top.proofs.top.do_command.Goals as goal

pub returns-in-Some-Check-clause-obeys : goal.returns-in-Some-Check-clause-obeys
returns-in-Some-Check-clause-obeys g c = words_obeyed (map string_bytes c.args.words.now) _ _ (rw c.in-Some-Check.field-0-is at c.in-Some-Check.ensures) c.check.ensures.obeys

pub returns-in-Some-RunScene-clause-obeys : goal.returns-in-Some-RunScene-clause-obeys
returns-in-Some-RunScene-clause-obeys g c = words_obeyed (map string_bytes c.args.words.now) _ _ (rw c.in-Some-RunScene.field-0-is at c.in-Some-RunScene.ensures) c.run.ensures.obeys

pub returns-in-Some-RunStack-clause-obeys : goal.returns-in-Some-RunStack-clause-obeys
returns-in-Some-RunStack-clause-obeys g c = words_obeyed (map string_bytes c.args.words.now) _ _ (rw c.in-Some-RunStack.field-0-is at c.in-Some-RunStack.ensures) c.run_stack.ensures

pub returns-in-Some-RunStack-clause-too_long : goal.returns-in-Some-RunStack-clause-too_long
returns-in-Some-RunStack-clause-too_long g c = λ e. absurd (stack_not_ten _ _ c.run_stack.ensures e)

pub returns-in-None-clause-obeys : goal.returns-in-None-clause-obeys
returns-in-None-clause-obeys g c = usage_obeyed (map string_bytes c.args.words.now) _ c.in-None.ensures (c.refuse.ensures (g.S.Shelf.state c.args.shelf.now))

pub returns-in-None-clause-too_long : goal.returns-in-None-clause-too_long
returns-in-None-clause-too_long g c = λ e. absurd (not_ten _ _ usage_plan (Err c.refuse.result) (λ h. omega arith) (c.refuse.ensures (g.S.Shelf.state c.args.shelf.now)) e)
