-- Vectors as triples of expressions, for equations that `ring` decides.
use Rattle.std.proofs.Common.{ℕ, ◌+◌, ℤ, List, [], ◌∷◌}
use Rattle.space3.specs.declared.vectors.V3.{V3}
use Rattle.whole_laws.proofs.Ring.{Expr, v, ◌⊕◌, ◌⊖◌, ◌⊗◌}

-- the components of some vectors, in order
abbrev pub components : List V3 → List ℤ
components [] = []
components (a ∷ rest) = a.x ∷ a.y ∷ a.z ∷ components rest

abbrev pub Triple : Type 0
Triple = Expr × Expr × Expr

-- the vector of the variables k, k + 1 and k + 2
abbrev pub at : ℕ → Triple
at k = (v k, v (k + 1), v (k + 2))

infixl 6 ◌⊕₃◌ ◌⊖₃◌
abbrev pub ◌⊕₃◌ : Triple → Triple → Triple
a ⊕₃ b = (a.0 ⊕ b.0, a.1 ⊕ b.1, a.2 ⊕ b.2)

abbrev pub ◌⊖₃◌ : Triple → Triple → Triple
a ⊖₃ b = (a.0 ⊖ b.0, a.1 ⊖ b.1, a.2 ⊖ b.2)

infixl 7 ◌⊗₃◌
abbrev pub ◌⊗₃◌ : Expr → Triple → Triple
k ⊗₃ a = (k ⊗ a.0, k ⊗ a.1, k ⊗ a.2)

abbrev pub dot : Triple → Triple → Expr
dot a b = a.0 ⊗ b.0 ⊕ a.1 ⊗ b.1 ⊕ a.2 ⊗ b.2

abbrev pub cross : Triple → Triple → Triple
cross a b = (a.1 ⊗ b.2 ⊖ a.2 ⊗ b.1, a.2 ⊗ b.0 ⊖ a.0 ⊗ b.2, a.0 ⊗ b.1 ⊖ a.1 ⊗ b.0)

abbrev pub det : Triple → Triple → Triple → Expr
det a b c = dot a (cross b c)
