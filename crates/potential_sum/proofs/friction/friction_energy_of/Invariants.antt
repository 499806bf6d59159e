use Rattle.std.proofs.Common.{◌≡◌, ◌≤◌, ◌*◌, ◌^◌, map, take, unsigned_abs}
use Rattle.list_laws.specs.Sums.{total}
use Rattle.potential_sum.specs.Calls.Friction.{friction_at}
use Rattle.potential_sum.proofs.friction.friction_energy_of.Given as goal

abbrev pub invariant-loop-contact : goal.invariant-loop-contact
invariant-loop-contact l = record {
  sum : l.sum ≡ total (map (λ contact. (friction_at l.numbers l.x contact).energy) (take l.contact-index l.contacts));
  bound : unsigned_abs l.sum ≤ l.contact-index * 2 ^ 90;
}
