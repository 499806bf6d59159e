-- What the values of the code stand for.
use Rattle.safe_motion.specs.declared.motion.Edges.{Edges}
use Rattle.vec_q.specs.Raws.{raws}
use Rattle.volume_cert.specs.declared.edges.ThreeEdges.{ThreeEdges}
use Rattle.volume_cert.specs.declared.coefficients.Coefficients.{Coefficients}
use Rattle.volume_cert.specs.Calls.Bernstein.{Bernstein}

-- the edges as vectors of whole numbers
abbrev pub edge_vectors : ThreeEdges → Edges
edge_vectors e = record { u = raws e.u; v = raws e.v; w = raws e.w }

-- the coefficients as whole numbers
abbrev pub raw_coefficients : Coefficients → Bernstein
raw_coefficients b = record {
  first = b.first.raw;
  second = b.second.raw;
  third = b.third.raw;
  fourth = b.fourth.raw;
}
