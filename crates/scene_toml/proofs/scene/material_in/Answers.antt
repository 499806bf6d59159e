use Rattle.std.proofs.Common.{◌≡◌, w64, to_z, of_z, false, refl, rules}
use Rattle.std.specs.Prelude.{codes}
use Rattle.toml.specs.View.{table_view}
use Rattle.space3.specs.Vectors.{origin}
use Rattle.scene_toml.specs.declared.keys.Section.TheVariants.{Material}
use Rattle.scene_toml.specs.declared.keys.TheConstants.{DENSITIES, MODULI, NO_RANGE, VELOCITIES}
use Rattle.scene_toml.specs.Calls.{bool_at, integer_at, vector_at}
use Rattle.scene_toml.specs.Keys.{key}
use Rattle.scene_toml.proofs.Steps.{gives_failure}
use Rattle.scene_toml.proofs.scene.material_in.Goals as goal

pub returns-in_err-density : goal.returns-in_err-density
returns-in_err-density c =
    let ms = table_view c.args.table.now in
    gives_failure _ c.in_err-density.field-0.0 (integer_at Material (key (codes "density") DENSITIES) ms) _ c.from_residual.ensures.1 c.in_err-density.ensures.reading (λ fault e. rw e refl)

pub returns-in_err-mu : goal.returns-in_err-mu
returns-in_err-mu c =
    let ms = table_view c.args.table.now in
    gives_failure _ c.in_err-mu.field-0.0 (integer_at Material (key (codes "mu") MODULI) ms) _ c.from_residual-in_err-mu.ensures.1 c.in_err-mu.ensures.reading (λ fault e. rw (c.in_ok-density.ensures.reading, e) refl)

pub returns-in_err-lambda : goal.returns-in_err-lambda
returns-in_err-lambda c =
    let ms = table_view c.args.table.now in
    gives_failure _ c.in_err-lambda.field-0.0 (integer_at Material (key (codes "lambda") MODULI) ms) _ c.from_residual-in_err-lambda.ensures.1 c.in_err-lambda.ensures.reading (λ fault e. rw (c.in_ok-density.ensures.reading, c.in_ok-mu.ensures.reading, e) refl)

pub returns-in_err-fixed : goal.returns-in_err-fixed
returns-in_err-fixed c =
    let ms = table_view c.args.table.now in
    gives_failure _ c.in_err-fixed.field-0.0 (bool_at Material (key (codes "fixed") NO_RANGE) false ms) _ c.from_residual-in_err-fixed.ensures.1 c.in_err-fixed.ensures (λ fault e. rw (c.in_ok-density.ensures.reading, c.in_ok-mu.ensures.reading, c.in_ok-lambda.ensures.reading, e) refl)

pub returns-in_err-velocity : goal.returns-in_err-velocity
returns-in_err-velocity c =
    let ms = table_view c.args.table.now in
    gives_failure _ c.in_err-velocity.field-0.0 (vector_at Material (key (codes "velocity") VELOCITIES) origin ms) _ c.from_residual-in_err-velocity.ensures.1 c.in_err-velocity.ensures (λ fault e. rw (c.in_ok-density.ensures.reading, c.in_ok-mu.ensures.reading, c.in_ok-lambda.ensures.reading, c.in_ok-fixed.ensures, e) refl)

pub returns : goal.returns
returns c =
    let density : to_z w64 (of_z w64 c.in_ok-density.density) ≡ c.in_ok-density.density = search rules in
    let mu : to_z w64 (of_z w64 c.in_ok-mu.mu) ≡ c.in_ok-mu.mu = search rules in
    let lambda : to_z w64 (of_z w64 c.in_ok-lambda.lambda) ≡ c.in_ok-lambda.lambda = search rules in
    rw (density, mu, lambda, c.in_ok-density.ensures.reading, c.in_ok-mu.ensures.reading, c.in_ok-lambda.ensures.reading, c.in_ok-fixed.ensures, c.in_ok-velocity.ensures) refl
