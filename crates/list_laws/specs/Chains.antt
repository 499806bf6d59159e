-- Steps that lead on from one another.
use Rattle.std.specs.Prelude.{List, [], ◌∷◌, ⊤}

-- Each step has the relation to the state that the steps before it lead to, the first to x. From a state a step leads
-- to the next one. The last of the steps leads to `fold next x steps`.
abbrev pub Follow : {X S : Type 0} → (next : X → S → X) → (X → S → Type 0) → X → List S → Type 0
Follow next R x [] = ⊤
Follow next R x (step ∷ steps) = R x step × Follow next R (next x step) steps
