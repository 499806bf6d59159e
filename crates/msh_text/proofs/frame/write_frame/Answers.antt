use Rattle.std.proofs.Common.{subst, All}
use Rattle.space3.specs.Box.{IsInTheBox}
use Rattle.msh_text.proofs.FrameMeans.{frame_means}
use Rattle.msh_text.proofs.frame.write_frame.Goals as goal

pub returns-in-Ok-clause-read_back : goal.returns-in-Ok-clause-read_back
returns-in-Ok-clause-read_back c =
    frame_means c.args.mesh.now c.args.places.now c.args.digits c.requires.sound c.requires.placed (subst (All IsInTheBox) c.items.ensures.places c.items.ensures.in_box)

pub returns-in-Err-clause-read_back : goal.returns-in-Err-clause-read_back
returns-in-Err-clause-read_back c =
    frame_means c.args.mesh.now c.args.places.now c.args.digits c.requires.sound c.requires.placed (subst (All IsInTheBox) c.items.ensures.places c.items.ensures.in_box)
