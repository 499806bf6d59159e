use Rattle.std.proofs.Common.{◌∙◌, List, length, ap, sym, subst, w64}
use Rattle.std.specs.Prelude.{All}
use Rattle.std.proofs.lemmas.Int.{to_z-of_z}
use Rattle.std.proofs.lemmas.List.{length-replicate}
use Rattle.space3.specs.declared.vectors.V3.{V3}
use Rattle.space3.specs.Vectors.{Within, origin}
use Rattle.surface_mesh.specs.declared.ranges.TheConstants.{FASTEST}
use Rattle.surface_mesh.proofs.SetupFacts.{velocity_length, velocities_are_within}
use Rattle.line_search.specs.Poses.{IsPose}
use Rattle.frame_driver.proofs.Starts.{first_pose, length-first_before, made_is_before}
use Rattle.frame_driver.proofs.sim.Sim.open.Goals as goal

pub places_before-requires-clause-as_many : goal.places_before-requires-clause-as_many
places_before-requires-clause-as_many c =
    ap (λ (vs : List V3). length vs) c.items.ensures ∙ velocity_length c.args.setup c.requires.built ∙ c.requires.built.mesh_is_sound.placed

pub places_before-requires-clause-slow : goal.places_before-requires-clause-slow
places_before-requires-clause-slow c = subst (All (Within FASTEST)) (sym c.items.ensures) (velocities_are_within c.args.setup c.requires.built)

pub invariant_of-result : goal.invariant_of-result
invariant_of-result c =
    let before = made_is_before c.args.setup _ c.in_ok-before.before.items c.items.ensures c.in_ok-before.ensures.value in
    record {
      is_sim = record {
        built = c.requires.built;
        sturdy = c.requires.fit.sturdy;
        pose = subst (IsPose c.args.setup) (sym c.in_ok-places.ensures) (first_pose c.args.setup c.requires.built c.requires.fit);
        each_before = ap (λ (vs : List V3). length vs) before ∙ length-first_before c.args.setup c.requires.built;
        near = c.in_ok-before.ensures.near;
      };
      room = ap (λ (d : List V3). length d) c.in_ok-work.ensures ∙ length-replicate c.len.result origin ∙ c.len.ensures ∙ ap (λ (l : List V3). length l) c.in_ok-places.ensures ∙ sym c.requires.built.mesh_is_sound.placed;
    }

pub returns : goal.returns
returns c =
    let before = made_is_before c.args.setup _ c.in_ok-before.before.items c.items.ensures c.in_ok-before.ensures.value in
    λ t. record {
      setup = c.args.setup;
      tol = to_z-of_z w64 c.args.tol c.ranges.tol t;
      budget = c.args.budget;
      keep = c.args.keep;
      places = c.in_ok-places.ensures t;
      before = before t;
      notes = c.new.ensures.items t;
    }
