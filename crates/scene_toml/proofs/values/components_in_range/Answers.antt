use Rattle.std.proofs.Common.{◌≡◌, Ok, rules, refl}
use Rattle.scene_toml.specs.Gives.{Fails}
use Rattle.scene_toml.specs.Values.{in_range}
use Rattle.scene_toml.proofs.Steps.{gives_failure}
use Rattle.scene_toml.proofs.values.components_in_range.Goals as goal

pub returns-in_err-z : goal.returns-in_err-z
returns-in_err-z c =
    let key = c.args.key.now in
    let x : in_range c.args.section key c.args.vector.x ≡ Ok c.in_ok-x.x = search rules in
    let y : in_range c.args.section key c.args.vector.y ≡ Ok c.in_ok-y.y = search rules in
    let z : Fails c.in_err-z.field-0.0 (in_range c.args.section key c.args.vector.z) = search rules in
    gives_failure _ c.in_err-z.field-0.0 (in_range c.args.section key c.args.vector.z) _ c.from_residual-in_err-z.ensures.1 z (λ fault e. rw (x, y, e) refl)
