use Rattle.std.proofs.Common.{length, ap, arith}
use Rattle.work_gen.proofs.Soundness.{length-places}
use Rattle.work_gen.proofs.stack.stated_mesh.Goals as goal

pub of_list-requires : goal.of_list-requires
of_list-requires c = omega (arith, ap length c.in_ok-places.ensures.places, length-places c.args.blocks, c.requires)
