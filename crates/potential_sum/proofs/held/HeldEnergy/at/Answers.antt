use Rattle.std.proofs.Common.{◌≡◌, ◌∙◌, ◌^◌, ℤ, true, Bool, List, ap, subst, sym, to_z, of_z, lit<}
use Rattle.std.specs.Int.{w128}
use Rattle.whole_laws.proofs.Order.{clean}
use Rattle.space3.specs.declared.vectors.V3.{V3}
use Rattle.space3.specs.Vectors.{AtMost}
use Rattle.surface_mesh.specs.declared.setup.Setup.{Setup}
use Rattle.surface_mesh.specs.Setup.{IsSetup}
use Rattle.surface_mesh.proofs.SetupFacts.{fixed_length}
use Rattle.potential_sum.specs.Calls.Held.{have_fixed_stayed}
use Rattle.potential_sum.specs.Held.{HeldSum, IsHeldEnergy, held_energy}
use Rattle.potential_sum.specs.Upright.{IsUpright}
use Rattle.potential_sum.proofs.HeldPlaces.{fixed_stay, held_energy_stays}
use Rattle.potential_sum.proofs.held.HeldEnergy.at.Goals as goal

-- what was summed, as it is passed on
record IsSame (s : Setup) (held : HeldSum) (x : List V3) (energy : ℤ) : Type 0 where
  value : to_z w128 (of_z w128 energy) ≡ held_energy s x
  small : AtMost (2 ^ 124) (to_z w128 (of_z w128 energy))

is_same_sum : (s : Setup) (held : HeldSum) (x : List V3) (energy : ℤ) (fixed : List Bool) (places : List V3) → IsSetup s → IsHeldEnergy s held → IsUpright s x → energy ≡ held.energy → places ≡ held.places → fixed ≡ s.fixed
    → have_fixed_stayed fixed places x ≡ true → IsSame s held x energy
is_same_sum s held x energy fixed places built h pose e f g stayed =
    let small : AtMost (2 ^ 124) energy = subst (AtMost (2 ^ 124)) (sym e) h.small in
    let as_it_is : to_z w128 (of_z w128 energy) ≡ energy = clean w128 energy (2 ^ 124) small.bound (lit< tt) in
    let flags = fixed_length s built in
    record {
      value = as_it_is ∙ e ∙ h.energy
          ∙ held_energy_stays s held.places x built
          (fixed_stay s.fixed held.places x (h.each ∙ sym flags) (pose.each ∙ sym flags) ((λ i. have_fixed_stayed (sym g i) (sym f i) x) ∙ stayed));
      small = subst (AtMost (2 ^ 124)) (sym as_it_is) small;
    }

pub returns-then-have_fixed_stayed-clause-value : goal.returns-then-have_fixed_stayed-clause-value
returns-then-have_fixed_stayed-clause-value c =
    (is_same_sum c.args.setup.now c.args.self.now c.args.x.now c.self.inside.energy c.items.result.now c.self.inside.places c.requires.built c.requires.held c.requires.pose
    (ap (λ (h : HeldSum). h.energy) c.self.view_is) (ap (λ (h : HeldSum). h.places) c.self.view_is) c.items.ensures (sym c.have_fixed_stayed.ensures ∙ c.if-have_fixed_stayed.true)).value

pub returns-then-have_fixed_stayed-clause-small : goal.returns-then-have_fixed_stayed-clause-small
returns-then-have_fixed_stayed-clause-small c =
    (is_same_sum c.args.setup.now c.args.self.now c.args.x.now c.self.inside.energy c.items.result.now c.self.inside.places c.requires.built c.requires.held c.requires.pose
    (ap (λ (h : HeldSum). h.energy) c.self.view_is) (ap (λ (h : HeldSum). h.places) c.self.view_is) c.items.ensures (sym c.have_fixed_stayed.ensures ∙ c.if-have_fixed_stayed.true)).small
