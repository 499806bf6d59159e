-- What is kept of a tetrahedron.
use Rattle.std.specs.Prelude.{◌≡◌, List, length}
use Rattle.space3.specs.declared.vectors.V3.{V3}
use Rattle.space3.specs.Mesh.{HasNodes}
use Rattle.neo_hooke.specs.Elements.{shape_in}
use Rattle.neo_hooke.specs.Rest.{CanStand}
use Rattle.potential_sum.specs.declared.bodies.Body.{Body}
use Rattle.potential_sum.specs.Bodies.{ElasticTet, corners_at}

-- the elastic tetrahedron that a body is
abbrev pub elastic_in : Body → ElasticTet
elastic_in body = record {
  nodes = body.nodes;
  rest = shape_in body.element;
  mu = body.element.mu.raw;
  lambda = body.element.lambda.raw;
}

-- a tetrahedron may stand at these places: it has four nodes, each has a place, the volume is positive, and no edge too
-- long
pub record MayStand (places : List V3) (tet : ElasticTet) : Type 0 where
  pub four : length tet.nodes ≡ 4
  pub there : HasNodes places tet.nodes
  pub shape : CanStand (corners_at places tet.nodes)
