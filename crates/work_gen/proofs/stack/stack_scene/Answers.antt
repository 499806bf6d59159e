use Rattle.std.proofs.Common.{sym, subst}
use Rattle.space3.specs.Mesh.{IsSound}
use Rattle.work_gen.proofs.Soundness.{stack_is_sound}
use Rattle.work_gen.proofs.stack.stack_scene.Goals as goal

pub returns-clause-sound : goal.returns-clause-sound
returns-clause-sound c = subst IsSound (sym c.in_ok-mesh.ensures) (stack_is_sound c.args.blocks c.requires.some c.requires.few)
