-- A vector whose components are products of two numbers.
use Rattle.space3.specs.declared.vectors.V3.{V3}
use Rattle.space3.specs.declared.vectors.W3.{W3}
use Rattle.space3.specs.Vectors.{vector}

-- the same vector, with no bound
abbrev pub unbounded : W3 → V3
unbounded w = vector w.x w.y w.z
