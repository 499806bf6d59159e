use Rattle.nearest.proofs.Balance.{each_at_most}
use Rattle.friction_lag.proofs.slide.weighted_motion.Goals as goal

pub weight_at-requires-clause-each : goal.weight_at-requires-clause-each
weight_at-requires-clause-each c = each_at_most c.args.c.now.signed c.args.c.now.contact.balanced
