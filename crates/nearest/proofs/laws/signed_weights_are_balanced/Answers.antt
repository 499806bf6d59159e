use Rattle.nearest.proofs.Balance.{balanced}
use Rattle.nearest.proofs.laws.signed_weights_are_balanced.Goals as goal

pub returns : goal.returns
returns c = balanced
