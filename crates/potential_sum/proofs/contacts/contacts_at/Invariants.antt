use Rattle.std.proofs.Common.{◌≡◌, map, take}
use Rattle.friction_lag.specs.Lagged.{lagged_in}
use Rattle.potential_sum.proofs.FrameContacts.{contacts_of_pairs}
use Rattle.potential_sum.proofs.contacts.contacts_at.Given as goal

abbrev pub invariant-loop-pair : goal.invariant-loop-pair
invariant-loop-pair l = map lagged_in l.made.items ≡ contacts_of_pairs l.setup l.now (take l.pair-index l.pairs)
