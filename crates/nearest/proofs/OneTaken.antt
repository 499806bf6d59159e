-- There is one first least candidate at most.
use Rattle.std.proofs.Common.{◌≡◌, ℕ, zero, suc, ◌<◌, ◌≤◌, ℤ, ◌*ℤ◌, ◌≤ℤ◌, ◌<ℤ◌, List, [], ◌∷◌, inl, inr, take, sym, ◌∙◌, subst, arith}
use Rattle.std.proofs.lemmas.Int.{ints}
use Rattle.std.proofs.lemmas.Bool.{cases_lt}
use Rattle.std.specs.Prelude.{slice_get, Some, None, All}
use Rattle.std.proofs.lemmas.List.Elements.{All-head, All-tail}
use Rattle.nearest.specs.Candidates.{Candidate, IsValid, IsAtMost, IsBelow, IsFirstLeast}

inside_some : (k j : Candidate) → Some k ≡ Some j → k ≡ j
inside_some k j e = cc

none_some : (k : Candidate) → None ≡ Some k → ⊥
none_some k e = cc

pub at_place : (P : Candidate → Type 0) (cs : List Candidate) (m : ℕ) (k : Candidate) → slice_get cs m ≡ Some k → All P cs → P k
at_place P [] m k e h = absurd (none_some k e)
at_place P (c ∷ cs) zero k e h = subst P (inside_some c k e) (All-head P c cs h)
at_place P (c ∷ cs) (suc m) k e h = at_place P cs m k e (All-tail P c cs h)

before_place : (P : Candidate → Type 0) (cs : List Candidate) (m n : ℕ) (k : Candidate) → m < n → slice_get cs m ≡ Some k → All P (take n cs) → P k
before_place P [] m n k l e h = absurd (none_some k e)
before_place P (c ∷ cs) m zero k l e h = absurd (omega arith)
before_place P (c ∷ cs) zero (suc n) k l e h = subst P (inside_some c k e) (All-head P c (take n cs) h)
before_place P (c ∷ cs) (suc m) (suc n) k l e h = before_place P cs m n k (omega arith) e (All-tail P c (take n cs) h)

-- an earlier one excludes a later one
not_before : (cs : List Candidate) (k j : Candidate) (f : IsFirstLeast cs k) (g : IsFirstLeast cs j) → f.place < g.place → ⊥
not_before cs k j f g l =
    clash (k.num *ℤ j.den) (j.num *ℤ k.den) (at_place (λ other. IsValid other → IsAtMost k other) cs g.place j g.there f.least g.valid)
    (before_place (λ other. IsValid other → IsBelow j other) cs f.place g.place k l f.there g.first f.valid)
  where
    clash : (a b : ℤ) → a ≤ℤ b → b <ℤ a → ⊥
    clash a b h k = omega (arith, ints)

pub one_taken : (cs : List Candidate) (k j : Candidate) → IsFirstLeast cs k → IsFirstLeast cs j → k ≡ j
one_taken cs k j f g = elim (cases_lt f.place g.place) [
  | inl l ↦ absurd (not_before cs k j f g l)
  | inr h ↦ elim (cases_lt g.place f.place) [
    | inl l ↦ absurd (not_before cs j k g f l)
    | inr i ↦ inside_some k j (sym f.there ∙ (λ t. slice_get cs (same f.place g.place h i t)) ∙ g.there)
  ]
]
  where
    same : (m n : ℕ) → n ≤ m → m ≤ n → m ≡ n
    same m n h i = omega arith
