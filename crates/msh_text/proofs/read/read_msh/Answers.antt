use Rattle.msh_text.proofs.Meaning.{text_means-read, refuses}
use Rattle.msh_text.proofs.read.read_msh.Goals as goal

pub returns-in-Ok-clause-accepted : goal.returns-in-Ok-clause-accepted
returns-in-Ok-clause-accepted c = text_means-read c.args.bytes.now c.args.digits c.args.snap c.in-Ok.mesh c.in-Ok.ensures

pub returns-in-Err-clause-refused : goal.returns-in-Err-clause-refused
returns-in-Err-clause-refused c = refuses c.args.bytes.now c.args.digits c.args.snap c.in-Err.e c.in-Err.ensures
