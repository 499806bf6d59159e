-- Where moving points are between the start and the end of a step.
use Rattle.std.specs.Prelude.{◌≡◌, ℕ, ◌+◌, ◌*◌, ◌<◌, ◌≤◌, List, map}
use Rattle.space3.specs.declared.vectors.V3.{V3}
use Rattle.space3.specs.Vectors.{between}
use Rattle.safe_motion.specs.declared.motion.Move.{Move}

-- p / q is a fraction from 0 to 1
pub record IsFraction (p q : ℕ) : Type 0 where
  pub within : p ≤ q
  pub divisor : 0 < q

-- the moment p / q is in the interval from j / n to (j + 1) / n
pub record IsInside (p q j n : ℕ) : Type 0 where
  pub divisor : 0 < q
  pub low : j * q ≤ p * n
  pub high : p * n ≤ (j + 1) * q

-- the place at p / q of a straight step, times q
abbrev pub place_at : ℕ → ℕ → Move → V3
place_at p q move = between p q move.start move.end

abbrev pub places_at : ℕ → ℕ → List Move → List V3
places_at p q moves = map (place_at p q) moves

abbrev pub start_places : List Move → List V3
start_places moves = map (λ m. m.start) moves

abbrev pub end_places : List Move → List V3
end_places moves = map (λ m. m.end) moves

-- the point stays where it is
abbrev pub IsStill : Move → Type 0
IsStill move = move.end ≡ move.start
