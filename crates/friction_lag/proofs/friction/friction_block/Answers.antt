use Rattle.nearest.proofs.Balance.{each_at_most}
use Rattle.friction_lag.proofs.friction.friction_block.Goals as goal

pub weight_at-first-requires-clause-each : goal.weight_at-first-requires-clause-each
weight_at-first-requires-clause-each c = each_at_most c.args.c.now.signed c.args.c.now.contact.balanced

pub weight_at-second-requires-clause-each : goal.weight_at-second-requires-clause-each
weight_at-second-requires-clause-each c = each_at_most c.args.c.now.signed c.args.c.now.contact.balanced
