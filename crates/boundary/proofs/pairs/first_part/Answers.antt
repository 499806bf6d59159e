use Rattle.boundary.proofs.SurfaceParts.{first_is_edge, first_is_vertex}
use Rattle.boundary.proofs.pairs.first_part.Goals as goal

pub returns-in-VE-clause-part : goal.returns-in-VE-clause-part
returns-in-VE-clause-part c =
    first_is_vertex c.args.surface.now c.args.kind c.vertices.result.now c.from_ref.result.now c.args.a c.in-VE.is c.requires
    c.vertices.ensures.vertices c.from_ref.ensures.value

pub returns-in-EE-clause-part : goal.returns-in-EE-clause-part
returns-in-EE-clause-part c =
    first_is_edge c.args.surface.now c.args.kind c.edges.result.now c.args.a c.edges.ensures.lists c.in-EE.is c.requires
    c.edges.ensures.edges
