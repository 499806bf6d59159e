-- Files that are taken, and what comes of them.
use Rattle.std.specs.Prelude.{◌≡◌, ◌<◌, ◌≤◌, ◌+◌, ℕ, List, [], ◌∷◌, length, Option, Some, None}
use Rattle.report_text.specs.declared.line.Line.TheVariants as lines
use Rattle.ipc_top.specs.Acts.{Take}
use Rattle.ipc_top.specs.Plans.{Plan, plan_of, refusal, then_plan}

-- what comes of a file: what it gives, or the plan of its refusal
pub data Outcome (X : Type 0) : Type 0 where
  Accepted : (x : X) → Outcome X
  Refused : (plan : Plan) → Outcome X

-- a file that isn't there can't be taken, and nothing follows
abbrev pub missing_plan : Plan
missing_plan = plan_of [] 3

-- a file that is longer than its limit is told by a line
abbrev pub too_long_plan : (name : List ℕ) (limit : ℕ) → Plan
too_long_plan name limit = refusal (lines.TooLong name (limit + 1)) 10

-- this comes of a file: it isn't there, it is longer than its limit, or what its bytes mean
pub data FileMeans {X : Type 0} (name : List ℕ) (limit : ℕ) (Means : List ℕ → Outcome X → Type 0) (file : Option (List ℕ)) (outcome : Outcome X) : Type 0 where
  Missing : file ≡ None → outcome ≡ Refused missing_plan → FileMeans name limit Means file outcome
  TooLong : (bytes : List ℕ) → file ≡ Some bytes → limit < length bytes
      → outcome ≡ Refused (too_long_plan name limit) → FileMeans name limit Means file outcome
  Whole : (bytes : List ℕ) → file ≡ Some bytes → length bytes ≤ limit
      → Means bytes outcome → FileMeans name limit Means file outcome

-- what follows an outcome: the refusal's plan, or one that `Next` calls for
abbrev pub Continues : {X : Type 0} → Outcome X → (X → Plan → Type 0) → Plan → Type 0
Continues (Accepted x) Next plan = Next x plan
Continues (Refused refusal) Next plan = plan ≡ refusal

-- a plan that takes a file, and then does what follows
pub record TakesFile {X : Type 0} (name : List ℕ) (limit : ℕ) (Means : List ℕ → Outcome X → Type 0) (file : Option (List ℕ)) (Next : X → Plan → Type 0) (plan : Plan) : Type 0 where
  pub outcome : Outcome X
  pub means : FileMeans name limit Means file outcome
  pub rest : Plan
  pub continues : Continues outcome Next rest
  pub same : plan ≡ then_plan (Take name ∷ []) rest
