use Rattle.std.proofs.Common.{subst, sym}
use Rattle.std.specs.Prelude.{IfSome}
use Rattle.boundary.specs.Pairs.{Follows, IsPair, pairs_of}
use Rattle.boundary.proofs.PairOrder.{next_follows, next_is_pair, read_pair}
use Rattle.boundary.proofs.surface.Surface.next_pair.Goals as goal

pub returns-in-None-clause-pair : goal.returns-in-None-clause-pair
returns-in-None-clause-pair c = read_pair c.args.self.now 0 c.first_of_kinds.result c.first_of_kinds.ensures

pub returns-in-Some-clause-next : goal.returns-in-Some-clause-next
returns-in-Some-clause-next c =
    let s = c.args.self.now in
    subst (λ o. Follows (pairs_of s) o c.first_after.result) (sym c.in-Some.is)
    (next_follows s c.in-Some.pair c.first_after.result (subst (λ o. IfSome o (IsPair s)) c.in-Some.is c.requires)
    c.first_after.ensures)

pub returns-in-Some-clause-pair : goal.returns-in-Some-clause-pair
returns-in-Some-clause-pair c =
    let s = c.args.self.now in
    next_is_pair s c.in-Some.pair c.first_after.result
    (subst (λ o. IfSome o (IsPair s)) c.in-Some.is c.requires) c.first_after.ensures
