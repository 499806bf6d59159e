use Rattle.std.proofs.Common.{sym, ◌∙◌, subst, arith}
use Rattle.space3.specs.Vectors.{sum_of}
use Rattle.vec_q.specs.Widths.{IsBelow}
use Rattle.near_pair.proofs.distance.way_of.Goals as goal

pub narrowed_into-requires : goal.narrowed_into-requires
narrowed_into-requires c =
    (omega arith, (omega arith, (subst (IsBelow 34) (sym (c.add_into-all.ensures ∙ (λ i. sum_of ((c.add_into-two.ensures ∙ (λ j. sum_of (c.weighted_way-second.ensures j) (c.weighted_way-third.ensures j))) i) (c.weighted_way-fourth.ensures i)))) c.requires.sum, omega arith)))

pub returns : goal.returns
returns c =
    c.narrowed_into.ensures ∙ c.add_into-all.ensures ∙ (λ i. sum_of ((c.add_into-two.ensures ∙ (λ j. sum_of (c.weighted_way-second.ensures j) (c.weighted_way-third.ensures j))) i) (c.weighted_way-fourth.ensures i)) ∙ c.requires.same
