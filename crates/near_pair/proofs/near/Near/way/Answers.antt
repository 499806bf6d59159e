use Rattle.std.proofs.Common.{sym, subst, arith}
use Rattle.near_pair.specs.Calls.SumsOfWays.{AreNarrow}
use Rattle.near_pair.proofs.SumsOfWays.{are_narrow}
use Rattle.near_pair.proofs.near.Near.way.Goals as goal

pub way_of-requires : goal.way_of-requires
way_of-requires c =
    subst (λ signed. AreNarrow signed c.args.points.now) (sym c.signed_weights.ensures.value) (are_narrow c.args.split c.args.points.now c.args.self.now (omega arith) (omega arith) c.requires)
