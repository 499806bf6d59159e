use Rattle.std.proofs.Common.{rules}
use Rattle.std.specs.Int.{int_min}
use Rattle.space3.specs.Vectors.{vector}
use Rattle.space3.proofs.BoxLemmas.{picked_number}
use Rattle.space3.proofs.boxes.least_corner.Goals as goal

pub returns : goal.returns
returns c = λ i. vector
    (picked_number int_min c.min.result c.args.a.x c.args.b.x (search rules) (search rules) (search rules) c.min.ensures.value i)
    (picked_number int_min c.min-2.result c.args.a.y c.args.b.y (search rules) (search rules) (search rules) c.min-2.ensures.value i)
    (picked_number int_min c.min-3.result c.args.a.z c.args.b.z (search rules) (search rules) (search rules) c.min-3.ensures.value i)
