use Rattle.std.proofs.Common.{◌≡◌, ◌∙◌, ap, [], rules, sym}
use Rattle.std.specs.Prelude.{filter}
use Rattle.std.proofs.lemmas.Fn.{always_returns_same}
use Rattle.std.proofs.lemmas.List.Elements.{filter_agree}
use Rattle.boundary.specs.declared.faces.Face.{Face}
use Rattle.boundary.specs.Faces.{corners_of, faces_of, has_corners}
use Rattle.boundary.proofs.Order.{tie_test}
use Rattle.boundary.proofs.faces.sorted_faces.Goals as goal

pub returns-clause-sorted : goal.returns-clause-sorted
returns-clause-sorted c =
    c.in_ok-sort_by_key.ensures.sorted corners_of
    (always_returns_same _ (λ a r. r ≡ corners_of a.0.now) _ (λ a r q k. search rules))

pub returns-clause-same : goal.returns-clause-same
returns-clause-same c = λ corners.
    let x : Face = record { corners = corners; turn = []; tet = 0 } in
    sym (filter_agree _ _ (λ f. tie_test corners f.corners) _)
    ∙ c.in_ok-sort_by_key.ensures.stable corners_of
    (always_returns_same _ (λ a r. r ≡ corners_of a.0.now) _ (λ a r q k. search rules)) x
    ∙ filter_agree _ _ (λ f. tie_test corners f.corners) _
    ∙ ap (filter (has_corners corners)) (c.in_ok-faces.ensures ∙ ap faces_of c.items.ensures)
