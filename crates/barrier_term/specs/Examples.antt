-- Nearest points in small numbers.
use Rattle.std.specs.Prelude.{pos, [], ◌∷◌}
use Rattle.near_pair.specs.declared.near.Near.{Near}

-- those of (1, 1, 9) and the triangle (−50, −50, 0), (50, −50, 0), (0, 50, 0): a distance of 9
abbrev pub over_a_triangle : Near
over_a_triangle = record { num = 8100000000; den = 100000000; weights = pos 65536 ∷ pos 15402 ∷ pos 16711 ∷ pos 33423 ∷ [] }
