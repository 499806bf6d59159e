use Rattle.std.proofs.Common.{◌∙◌, map, ap}
use Rattle.surface_mesh.specs.Calls.Shares.{start_velocity, stays}
use Rattle.surface_mesh.proofs.SetupFacts.{built_is_setup}
use Rattle.surface_mesh.proofs.ShareLists.{setup_is}
use Rattle.surface_mesh.proofs.setup.Setup.build.Goals as goal

pub returns-clause-built : goal.returns-clause-built
returns-clause-built c =
    setup_is c.args.mesh c.args.surface c.args.numbers c.of_vec.result c.of_vec-2.result c.of_vec-3.result c.of_vec-4.result c.in_ok-rest.shares.items
    (c.of_vec.ensures ∙ c.in_ok-rest.ensures.rest) c.in_ok-rest.ensures.shares
    (c.of_vec-2.ensures ∙ c.in_ok-mass.ensures ∙ ap (map (λ share. share.mass)) c.deref.ensures.value)
    (c.of_vec-3.ensures ∙ c.in_ok-fixed.ensures ∙ ap (map stays) c.deref-2.ensures.value)
    (c.of_vec-4.ensures ∙ c.in_ok-velocity.ensures ∙ ap (map start_velocity) c.deref-3.ensures.value)

pub returns-clause-setup : goal.returns-clause-setup
returns-clause-setup c =
    built_is_setup c.args.mesh c.args.surface c.args.numbers _ c.requires.sound c.requires.surface c.requires.in_range
    (setup_is c.args.mesh c.args.surface c.args.numbers c.of_vec.result c.of_vec-2.result c.of_vec-3.result c.of_vec-4.result c.in_ok-rest.shares.items
    (c.of_vec.ensures ∙ c.in_ok-rest.ensures.rest) c.in_ok-rest.ensures.shares
    (c.of_vec-2.ensures ∙ c.in_ok-mass.ensures ∙ ap (map (λ share. share.mass)) c.deref.ensures.value)
    (c.of_vec-3.ensures ∙ c.in_ok-fixed.ensures ∙ ap (map stays) c.deref-2.ensures.value)
    (c.of_vec-4.ensures ∙ c.in_ok-velocity.ensures ∙ ap (map start_velocity) c.deref-3.ensures.value))
