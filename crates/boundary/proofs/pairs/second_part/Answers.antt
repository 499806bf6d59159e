use Rattle.boundary.proofs.SurfaceParts.{second_is_edge, second_is_triangle}
use Rattle.boundary.proofs.pairs.second_part.Goals as goal

pub returns-in-VE-clause-part : goal.returns-in-VE-clause-part
returns-in-VE-clause-part c =
    second_is_edge c.args.surface.now c.args.kind c.edges.result.now c.args.b c.edges.ensures.lists c.in-VE.is c.requires
    c.edges.ensures.edges

pub returns-in-VT-clause-part : goal.returns-in-VT-clause-part
returns-in-VT-clause-part c =
    second_is_triangle c.args.surface.now c.args.kind c.triangles.result.now c.args.b c.triangles.ensures.lists c.in-VT.is
    c.requires c.triangles.ensures.triangles
