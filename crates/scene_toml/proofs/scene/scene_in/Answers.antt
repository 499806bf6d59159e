use Rattle.std.proofs.Common.{◌≡◌, ◌∙◌, w64, to_z, of_z, refl, rules}
use Rattle.toml.specs.View.{table_view}
use Rattle.std.specs.Prelude.{codes}
use Rattle.scene_toml.specs.declared.keys.Section.TheVariants.{Top}
use Rattle.scene_toml.specs.declared.keys.TheConstants.{NAME_LENGTHS}
use Rattle.scene_toml.specs.Calls.{files_in, forces_in, frames_in, material_at, optional_text_at, parts_at}
use Rattle.scene_toml.specs.Keys.{key}
use Rattle.scene_toml.proofs.KeyGroups.{scene_by_groups}
use Rattle.scene_toml.proofs.Steps.{gives_failure, gives_memory}
use Rattle.scene_toml.proofs.scene.scene_in.Goals as goal

pub returns-in_err-files : goal.returns-in_err-files
returns-in_err-files c =
    let ms = table_view c.args.table.now in
    gives_failure _ c.in_err-files.field-0.0 (files_in ms) _ c.from_residual.ensures.1 c.in_err-files.ensures
    (λ fault e. scene_by_groups ms ∙ rw e refl)

pub returns-in_err-frames : goal.returns-in_err-frames
returns-in_err-frames c =
    let ms = table_view c.args.table.now in
    gives_failure _ c.in_err-frames.field-0.0 (frames_in ms) _ c.from_residual-in_err-frames.ensures.1 c.in_err-frames.ensures
    (λ fault e. scene_by_groups ms ∙ rw (c.in_ok-files.ensures, e) refl)

pub returns-in_err-forces : goal.returns-in_err-forces
returns-in_err-forces c =
    let ms = table_view c.args.table.now in
    gives_failure _ c.in_err-forces.field-0.0 (forces_in ms) _ c.from_residual-in_err-forces.ensures.1 c.in_err-forces.ensures
    (λ fault e. scene_by_groups ms ∙ rw (c.in_ok-files.ensures, c.in_ok-frames.ensures, e) refl)

pub returns-in_err-trace : goal.returns-in_err-trace
returns-in_err-trace c =
    let ms = table_view c.args.table.now in
    gives_failure _ c.in_err-trace.field-0.0 (optional_text_at Top (key (codes "trace") NAME_LENGTHS) ms) _ c.from_residual-in_err-trace.ensures.1 c.in_err-trace.ensures
    (λ fault e. scene_by_groups ms ∙ rw (c.in_ok-files.ensures, c.in_ok-frames.ensures, c.in_ok-forces.ensures, e) refl)

pub returns-in_err-base : goal.returns-in_err-base
returns-in_err-base c =
    let ms = table_view c.args.table.now in
    gives_failure _ c.in_err-base.field-0.0 (material_at ms) _ c.from_residual-in_err-base.ensures.1 c.in_err-base.ensures
    (λ fault e. scene_by_groups ms ∙ rw (c.in_ok-files.ensures, c.in_ok-frames.ensures, c.in_ok-forces.ensures, c.in_ok-trace.ensures, e) refl)

pub returns-in_err-given : goal.returns-in_err-given
returns-in_err-given c =
    let ms = table_view c.args.table.now in
    gives_failure _ c.in_err-given.field-0.0 (parts_at ms) _ c.from_residual-in_err-given.ensures.1 c.in_err-given.ensures
    (λ fault e. scene_by_groups ms ∙ rw (c.in_ok-files.ensures, c.in_ok-frames.ensures, c.in_ok-forces.ensures, c.in_ok-trace.ensures, c.in_ok-base.ensures, e) refl)

pub returns-in_err-parts : goal.returns-in_err-parts
returns-in_err-parts c = gives_memory _ _ c.from_residual-in_err-parts.ensures.1

pub returns : goal.returns
returns c =
    let tol : to_z w64 (of_z w64 c.in_ok-frames.frames.tol) ≡ c.in_ok-frames.frames.tol = search rules in
    let kappa : to_z w64 (of_z w64 c.in_ok-forces.forces.kappa) ≡ c.in_ok-forces.forces.kappa = search rules in
    let dhat : to_z w64 (of_z w64 c.in_ok-forces.forces.dhat) ≡ c.in_ok-forces.forces.dhat = search rules in
    let friction : to_z w64 (of_z w64 c.in_ok-forces.forces.friction) ≡ c.in_ok-forces.forces.friction = search rules in
    let slip : to_z w64 (of_z w64 c.in_ok-forces.forces.slip) ≡ c.in_ok-forces.forces.slip = search rules in
    scene_by_groups (table_view c.args.table.now)
    ∙ rw (c.in_ok-files.ensures, c.in_ok-frames.ensures, c.in_ok-forces.ensures, c.in_ok-trace.ensures, c.in_ok-base.ensures, c.in_ok-given.ensures, c.in_ok-parts.ensures, c.items.ensures, tol, kappa, dhat, friction, slip) refl
