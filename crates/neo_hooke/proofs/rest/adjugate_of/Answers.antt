use Rattle.std.proofs.Common.{◌∙◌, ◌^◌, subst, sym, lit<, lit≤}
use Rattle.vec_q.specs.Raws.{raw_columns}
use Rattle.vec_q.specs.Widths.{AreWithin}
use Rattle.vec_q.proofs.Sizes.{adjugate_size, are_below}
use Rattle.neo_hooke.proofs.rest.adjugate_of.Goals as goal

pub narrowed_into-requires : goal.narrowed_into-requires
narrowed_into-requires c =
    let size : AreWithin (2 ^ 29) (raw_columns c.adjugate_into-wide.result) = subst (AreWithin (2 ^ 29)) (sym c.adjugate_into-wide.ensures) (adjugate_size 16384 (raw_columns c.args.m) c.requires) in
    (lit< tt, (lit< tt, (are_below (2 ^ 29) 30 _ size (lit< tt), lit≤ tt)))

pub returns-clause-bound : goal.returns-clause-bound
returns-clause-bound c = subst (AreWithin (2 ^ 29)) (sym (c.narrowed_into.ensures ∙ c.adjugate_into-wide.ensures)) (adjugate_size 16384 (raw_columns c.args.m) c.requires)
