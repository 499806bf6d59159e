-- Sorted lists of all that have a property.
use Rattle.std.specs.Prelude.{List, All}
use Rattle.std.specs.List.{Contains}
use Rattle.std.specs.List.Sorted.{IsStrictlySortedBy}
use Rattle.std.specs.declared.cmp.Ordering.{Ordering}

-- the strictly sorted list of exactly those that have the property
pub record IsSortedListOf {A : Type 0} (order : A → A → Ordering) (P : A → Type 0) (xs : List A) : Type 0 where
  pub sorted : IsStrictlySortedBy order xs
  pub each : All P xs
  pub all : (x : A) → P x → Contains xs x
