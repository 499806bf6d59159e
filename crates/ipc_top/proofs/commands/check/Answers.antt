use Rattle.ipc_top.proofs.Obeying.{check_done}
use Rattle.ipc_top.proofs.commands.check.Goals as goal

pub returns-clause-obeys : goal.returns-clause-obeys
returns-clause-obeys g c = check_done c.args.digits.count c.args.mesh.now c.args.out.now _ _ c.check_numbers.ensures.same c.do_job.ensures.obeys
