-- Places that go along a direction, which is halved before.
use Rattle.std.specs.Prelude.{ℕ, ◌^◌, pos, List, map, zip, int_div}
use Rattle.space3.specs.declared.vectors.V3.{V3}
use Rattle.space3.specs.Vectors.{vector, sum_of}

-- the direction, divided by 2 so many times; each component is cut towards zero
abbrev pub halved : ℕ → V3 → V3
halved half d = vector (int_div d.x (pos (2 ^ half))) (int_div d.y (pos (2 ^ half))) (int_div d.z (pos (2 ^ half)))

-- each place plus its direction, which is halved so many times
abbrev pub moved_by : List V3 → List V3 → ℕ → List V3
moved_by places directions half = map (λ pair. sum_of pair.0 (halved half pair.1)) (zip places directions)
