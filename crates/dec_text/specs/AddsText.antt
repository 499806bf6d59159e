-- Calls that add a text to a list, and may run out of memory on the way.
use Rattle.std.specs.Prelude.{◌≡◌, ℕ, List, ◌++◌, take, Result, OnOk, OnErr}

-- The list has the text at its end where the call went well, and else the text's first n bytes, for some n.
pub record AddsText {E : Type 0} (text old : List ℕ) (result : Result (Unit {0}) E) (new : List ℕ) : Type 0 where
  pub ok : OnOk result (new ≡ old ++ text)
  pub err : OnErr result ((n : ℕ) × (new ≡ old ++ take n text))
