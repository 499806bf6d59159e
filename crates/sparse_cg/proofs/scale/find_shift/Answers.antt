use Rattle.sparse_cg.proofs.Shifts.{shift_is}
use Rattle.sparse_cg.proofs.scale.find_shift.Goals as goal

pub returns-clause-shift : goal.returns-clause-shift
returns-clause-shift c = shift_is c.args.slopes.now c.greatest_size.result c.shift_of.result c.greatest_size.ensures.value c.shift_of.ensures.fits c.shift_of.ensures.least
