use Rattle.std.proofs.Common.{rules, ◌≡◌, w64, to_z, of_z}
use Rattle.ipc_top.proofs.Obeying.{stack_not_made, stack_ended, stack_moved}
use Rattle.ipc_top.proofs.commands.run_stack.Goals as goal

pub returns-in_default : goal.returns-in_default
returns-in_default g c = stack_not_made c.args.blocks.count _

pub returns-in_err-setup : goal.returns-in_err-setup
returns-in_err-setup g c =
    stack_ended c.args.blocks.count c.in-Ok.scene c.in-Ok.mesh _ _ c.from_residual.ensures.1 c.in-Ok.ensures.scene c.in-Ok.ensures.mesh (c.in_err-setup.ensures.looks (g.S.Shelf.state c.args.shelf.now))

pub returns : goal.returns
returns g c =
    let scene = c.in-Ok.scene in
    let tol : to_z w64 (of_z w64 scene.tol) ≡ scene.tol = search rules in
    stack_moved c.args.blocks.count scene c.in-Ok.mesh _ _ c.in_ok-setup.setup _ c.in-Ok.ensures.scene c.in-Ok.ensures.mesh c.text.ensures tol (c.in_ok-setup.ensures.looks (g.S.Shelf.state c.args.shelf.now)) c.show_motion.ensures
