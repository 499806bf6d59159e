use Rattle.potential_sum.proofs.StayingPlaces.{stay_where_they_are}
use Rattle.potential_sum.proofs.terms.Terms.follow.Goals as goal

pub returns-in_ok-self-inside-clause-stayed : goal.returns-in_ok-self-inside-clause-stayed
returns-in_ok-self-inside-clause-stayed c =
    stay_where_they_are c.in_ok-self-inside.field-0.margin c.in_ok-self-inside.field-0.places c.args.x.now c.in_ok-self-inside.ensures.places
