use Rattle.std.proofs.Common.{◌≡◌, w32, w64, to_z, of_z, refl, rules}
use Rattle.std.proofs.lemmas.Int.{to_z-of_z}
use Rattle.scene_toml.proofs.scene.with_base.Goals as goal

pub returns : goal.returns
returns c =
    let tag : to_z w32 (of_z w32 c.args.part.now.tag) ≡ c.args.part.now.tag = search rules in
    let base_density : to_z w64 (of_z w64 c.args.base.density) ≡ c.args.base.density = search rules in
    let base_mu : to_z w64 (of_z w64 c.args.base.mu) ≡ c.args.base.mu = search rules in
    let base_lambda : to_z w64 (of_z w64 c.args.base.lambda) ≡ c.args.base.lambda = search rules in
    let density = to_z-of_z w64 c.unwrap_or.result (record { sfits = c.unwrap_or.type_inv }) in
    let mu = to_z-of_z w64 c.unwrap_or-2.result (record { sfits = c.unwrap_or-2.type_inv }) in
    let lambda = to_z-of_z w64 c.unwrap_or-3.result (record { sfits = c.unwrap_or-3.type_inv }) in
    rw (tag, density, mu, lambda, c.unwrap_or.ensures, c.unwrap_or-2.ensures, c.unwrap_or-3.ensures, c.unwrap_or-4.ensures, c.unwrap_or-5.ensures, base_density, base_mu, base_lambda) refl
