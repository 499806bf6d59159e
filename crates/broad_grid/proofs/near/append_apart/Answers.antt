use Rattle.std.proofs.Common.{◌∙◌, ap, sym}
use Rattle.std.proofs.lemmas.Result.{IfOk-weaker}
use Rattle.boundary.specs.Pairs.{first_parts, second_parts}
use Rattle.broad_grid.proofs.AscendingRows.{apart_by_nodes, nodes_of_vertex}
use Rattle.broad_grid.proofs.near.append_apart.Goals as goal

pub returns-in-VE-clause-seconds : goal.returns-in-VE-clause-seconds
returns-in-VE-clause-seconds c =
    let s = c.args.surface.now in
    let first = c.args.first in
    IfOk-weaker c.append_apart_from.result (λ _. _) (λ _. _)
    (λ _ is. apart_by_nodes s first.kind first.a c.from_ref.result.now c.edges.result.now c.args.seconds.now.items c.args.found.now c.append_apart_from.new.seconds.items
    (nodes_of_vertex s first.kind first.a _ c.vertices.result.now c.from_ref.result.now (ap (first_parts s) c.in-VE.is) c.requires.first.there c.vertices.ensures.vertices c.from_ref.ensures.value)
    (c.edges.ensures.edges ∙ ap (second_parts s) (sym c.in-VE.is)) is)
    c.append_apart_from.ensures.seconds

pub returns-in-VT-clause-seconds : goal.returns-in-VT-clause-seconds
returns-in-VT-clause-seconds c =
    let s = c.args.surface.now in
    let first = c.args.first in
    IfOk-weaker c.append_apart_from-in-VT.result (λ _. _) (λ _. _)
    (λ _ is. apart_by_nodes s first.kind first.a c.from_ref-in-VT.result.now c.triangles.result.now c.args.seconds.now.items c.args.found.now c.append_apart_from-in-VT.new.seconds.items
    (nodes_of_vertex s first.kind first.a _ c.vertices-in-VT.result.now c.from_ref-in-VT.result.now (ap (first_parts s) c.in-VT.is) c.requires.first.there c.vertices-in-VT.ensures.vertices c.from_ref-in-VT.ensures.value)
    (c.triangles.ensures.triangles ∙ ap (second_parts s) (sym c.in-VT.is)) is)
    c.append_apart_from-in-VT.ensures.seconds
