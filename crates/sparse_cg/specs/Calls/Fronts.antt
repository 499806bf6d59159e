-- Lists that a loop writes from the front.
use Rattle.std.specs.Prelude.{◌≡◌, ℕ, List, map, take, All}
use Rattle.std.specs.List.{range_with_len}

-- the first elements are the values of the first numbers, and have a property
pub record IsFront {X : Type 0} (P : X → Type 0) (f : ℕ → X) (out : List X) (written : ℕ) : Type 0 where
  pub value : take written out ≡ map f (range_with_len 0 written)
  pub each : All P (take written out)
