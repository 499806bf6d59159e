use Rattle.std.proofs.Common.{◌∙◌, ap, subst, arith}
use Rattle.std.specs.List.{Contains, flat_map}
use Rattle.std.specs.Ordering.{nat_cmp}
use Rattle.std.proofs.lemmas.List.{take_all}
use Rattle.boundary.specs.SortedLists.{IsSortedListOf}
use Rattle.boundary.proofs.SortedOnce.{numbers_once}
use Rattle.boundary.proofs.sides.vertices_of.Goals as goal

pub returns-clause-vertices : goal.returns-clause-vertices
returns-clause-vertices c =
    subst (λ l. IsSortedListOf nat_cmp (Contains l) c.dedup.new.self.items)
    (c.loop-triangle.invariant.joined
    ∙ ap (flat_map (λ triangle. triangle)) (take_all c.loop-triangle.triangle-index c.args.triangles.now (omega (arith, c.loop-triangle-test.false))))
    (numbers_once _ _ _ c.sort_unstable.ensures.permutation c.sort_unstable.ensures.sorted c.dedup.ensures.filtered)
