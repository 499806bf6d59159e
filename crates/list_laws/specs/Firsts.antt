-- The first element of a list that has a property.
use Rattle.std.specs.Prelude.{◌≡◌, ◌++◌, ◌∷◌, List, All}

-- the element has the property, and none before it has
pub record IsFirstOf {A : Type 0} (P : A → Type 0) (xs : List A) (x : A) : Type 0 where
  pub before : List A
  pub after : List A
  pub cut : xs ≡ before ++ (x ∷ after)
  pub holds : P x
  pub none_before : All (λ y. ¬ P y) before
