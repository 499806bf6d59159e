use Rattle.near_pair.proofs.TurnedWeights.{is_second, balanced_as, each_as}
use Rattle.near_pair.proofs.near.Near.signed_weights.Goals as goal

pub returns-then-split-eq1-clause-each : goal.returns-then-split-eq1-clause-each
returns-then-split-eq1-clause-each c = each_as c.args.split 1 c.args.self.now.weights c.turned_from_second.result c.if-split-eq1.true c.requires.weights c.turned_from_second.ensures

pub returns-else-split-eq1-clause-balanced : goal.returns-else-split-eq1-clause-balanced
returns-else-split-eq1-clause-balanced c =
    balanced_as c.args.split 2 c.args.self.now.weights c.turned_from_third.result (is_second c.args.split c.requires.split c.if-split-eq1.false) c.requires.weights c.turned_from_third.ensures

pub returns-else-split-eq1-clause-each : goal.returns-else-split-eq1-clause-each
returns-else-split-eq1-clause-each c =
    each_as c.args.split 2 c.args.self.now.weights c.turned_from_third.result (is_second c.args.split c.requires.split c.if-split-eq1.false) c.requires.weights c.turned_from_third.ensures

pub returns-then-split-eq1-clause-balanced : goal.returns-then-split-eq1-clause-balanced
returns-then-split-eq1-clause-balanced c = balanced_as c.args.split 1 c.args.self.now.weights c.turned_from_second.result c.if-split-eq1.true c.requires.weights c.turned_from_second.ensures
