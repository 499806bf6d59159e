-- What an element was made of.
use Rattle.vec_q.specs.Raws.{raw_columns}
use Rattle.neo_hooke.specs.declared.element.Element.{Element}
use Rattle.neo_hooke.specs.Rest.{RestShape}

-- the tetrahedron at rest of an element
abbrev pub shape_in : Element → RestShape
shape_in element = record { r = element.r.raw; adj = raw_columns element.adj }
