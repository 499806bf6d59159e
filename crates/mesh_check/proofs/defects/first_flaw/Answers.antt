use Rattle.std.proofs.Common.{◌≡◌, ◌∙◌, ◌^◌, ◌≤◌, length, sym, ap, arith}
use Rattle.std.specs.Prelude.{None, Some, option_map, int_lt}
use Rattle.list_laws.proofs.Searches.{found_below}
use Rattle.surface_mesh.specs.declared.setup.Setup.{Setup}
use Rattle.surface_mesh.specs.Setup.{IsSetup}
use Rattle.surface_mesh.specs.declared.sturdy.TheConstants.{MOST_MASS}
use Rattle.surface_mesh.proofs.SetupFacts.{mass_length}
use Rattle.mesh_check.specs.declared.defects.Defect.TheVariants as defects
use Rattle.mesh_check.specs.Defects.{first_not_positive, first_thin, first_long, first_heavy}
use Rattle.mesh_check.proofs.NoDefect.{last_flaw, sturdy}
use Rattle.mesh_check.proofs.defects.first_flaw.Goals as goal

few_masses : (s : Setup) → IsSetup s → length s.mass ≤ 2 ^ 32
few_masses s h = omega (arith, mass_length s h, h.mesh_is_sound.few_nodes)

pub short_position-requires-4 : goal.short_position-requires-4
short_position-requires-4 c =
    found_below (λ mass. int_lt MOST_MASS mass) c.args.setup.now.mass c.first_heavy.result (2 ^ 32)
    (rw (← c.items-2.ensures) c.first_heavy.ensures) (few_masses c.args.setup.now c.requires)

pub returns-in-Some-short_position-3-clause-first : goal.returns-in-Some-short_position-3-clause-first
returns-in-Some-short_position-3-clause-first c =
    let positive : first_not_positive c.args.setup.now ≡ None = cc in
    let thick : first_thin c.args.setup.now ≡ None = cc in
    let short : first_long c.args.setup.now ≡ None = cc in
    let heavy : first_heavy c.args.setup.now ≡ Some c.in-Some-short_position-3.node = cc in
    sym (last_flaw c.args.setup.now positive thick short ∙ ap (option_map (λ node. defects.TooHeavy node)) heavy)

pub returns-clause-first : goal.returns-clause-first
returns-clause-first c =
    let positive : first_not_positive c.args.setup.now ≡ None = cc in
    let thick : first_thin c.args.setup.now ≡ None = cc in
    let short : first_long c.args.setup.now ≡ None = cc in
    let light : first_heavy c.args.setup.now ≡ None = cc in
    sym (last_flaw c.args.setup.now positive thick short ∙ ap (option_map (λ node. defects.TooHeavy node)) light)

pub returns-clause-sturdy : goal.returns-clause-sturdy
returns-clause-sturdy c =
    let thick : first_thin c.args.setup.now ≡ None = cc in
    let short : first_long c.args.setup.now ≡ None = cc in
    let light : first_heavy c.args.setup.now ≡ None = cc in
    sturdy c.args.setup.now c.requires thick short light
