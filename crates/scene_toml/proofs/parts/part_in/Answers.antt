use Rattle.std.proofs.Common.{length, refl}
use Rattle.std.specs.Prelude.{codes}
use Rattle.toml.specs.View.{table_view}
use Rattle.scene_toml.specs.declared.keys.Section.TheVariants.{Part}
use Rattle.scene_toml.specs.declared.keys.TheConstants.{DENSITIES, MODULI, NO_RANGE, VELOCITIES}
use Rattle.scene_toml.specs.Calls.{new_tag_at, optional_bool_at, optional_integer_at, optional_vector_at}
use Rattle.scene_toml.specs.Keys.{key}
use Rattle.scene_toml.proofs.Steps.{gives_failure}
use Rattle.scene_toml.proofs.parts.part_in.Goals as goal

pub returns-in_err-tag : goal.returns-in_err-tag
returns-in_err-tag c =
    let ms = table_view c.args.table.now in
    gives_failure _ c.in_err-tag.field-0.0 (new_tag_at c.args.earlier.now ms) _ c.from_residual.ensures.1 c.in_err-tag.ensures.reading (λ fault e. rw e refl)

pub returns-in_err-density : goal.returns-in_err-density
returns-in_err-density c =
    let ms = table_view c.args.table.now in
    gives_failure _ c.in_err-density.field-0.0 (optional_integer_at (Part (length c.args.earlier.now)) (key (codes "density") DENSITIES) ms) _ c.from_residual-in_err-density.ensures.1 c.in_err-density.ensures (λ fault e. rw (c.in_ok-tag.ensures.reading, e) refl)

pub returns-in_err-mu : goal.returns-in_err-mu
returns-in_err-mu c =
    let ms = table_view c.args.table.now in
    gives_failure _ c.in_err-mu.field-0.0 (optional_integer_at (Part (length c.args.earlier.now)) (key (codes "mu") MODULI) ms) _ c.from_residual-in_err-mu.ensures.1 c.in_err-mu.ensures (λ fault e. rw (c.in_ok-tag.ensures.reading, c.in_ok-density.ensures, e) refl)

pub returns-in_err-lambda : goal.returns-in_err-lambda
returns-in_err-lambda c =
    let ms = table_view c.args.table.now in
    gives_failure _ c.in_err-lambda.field-0.0 (optional_integer_at (Part (length c.args.earlier.now)) (key (codes "lambda") MODULI) ms) _ c.from_residual-in_err-lambda.ensures.1 c.in_err-lambda.ensures (λ fault e. rw (c.in_ok-tag.ensures.reading, c.in_ok-density.ensures, c.in_ok-mu.ensures, e) refl)

pub returns-in_err-fixed : goal.returns-in_err-fixed
returns-in_err-fixed c =
    let ms = table_view c.args.table.now in
    gives_failure _ c.in_err-fixed.field-0.0 (optional_bool_at (Part (length c.args.earlier.now)) (key (codes "fixed") NO_RANGE) ms) _ c.from_residual-in_err-fixed.ensures.1 c.in_err-fixed.ensures (λ fault e. rw (c.in_ok-tag.ensures.reading, c.in_ok-density.ensures, c.in_ok-mu.ensures, c.in_ok-lambda.ensures, e) refl)

pub returns-in_err-velocity : goal.returns-in_err-velocity
returns-in_err-velocity c =
    let ms = table_view c.args.table.now in
    gives_failure _ c.in_err-velocity.field-0.0 (optional_vector_at (Part (length c.args.earlier.now)) (key (codes "velocity") VELOCITIES) ms) _ c.from_residual-in_err-velocity.ensures.1 c.in_err-velocity.ensures (λ fault e. rw (c.in_ok-tag.ensures.reading, c.in_ok-density.ensures, c.in_ok-mu.ensures, c.in_ok-lambda.ensures, c.in_ok-fixed.ensures, e) refl)
