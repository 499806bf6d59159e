use Rattle.near_pair.specs.Calls.Ways.{foot_of}
use Rattle.near_pair.proofs.Choosing.{edge_passed, not_true}
use Rattle.near_pair.proofs.choices.with_edge.Goals as goal

pub returns-then-not-is_positive : goal.returns-then-not-is_positive
returns-then-not-is_positive c =
    λ cs found. edge_passed c.args.side (foot_of c.args.foot) c.args.rest cs (λ h. not_true c.is_positive.result c.if-not-is_positive.true (c.is_positive.ensures.1 h.0)) found

pub returns-then-not-is_positive-2 : goal.returns-then-not-is_positive-2
returns-then-not-is_positive-2 c =
    λ cs found. edge_passed c.args.side (foot_of c.args.foot) c.args.rest cs (λ h. not_true c.is_positive-2.result c.if-not-is_positive-2.true (c.is_positive-2.ensures.1 h.1)) found
