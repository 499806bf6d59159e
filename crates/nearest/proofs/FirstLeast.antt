-- The first least of a list with one more candidate at its head.
use Rattle.std.proofs.Common.{suc, ℤ, pos, ◌+ℤ◌, ◌-ℤ◌, ◌*ℤ◌, ◌≤ℤ◌, ◌<ℤ◌, ◌≡◌, List, [], ◌∷◌, take, refl, sym, subst, arith}
use Rattle.std.proofs.lemmas.Int.{ints}
use Rattle.std.proofs.lemmas.List.Elements.{All-nil, All-cons, All-weaker}
use Rattle.whole_laws.proofs.Ring.{ring, v, ◌⊕◌, ◌⊖◌, ◌⊗◌}
use Rattle.whole_laws.proofs.Order.{mul_nonneg_ℤ, add_nonneg_ℤ, nonneg_of_mul_ℤ, nonneg_of_pos, nonneg_from_le, le_from_nonneg}
use Rattle.nearest.specs.Candidates.{Candidate, IsValid, IsAtMost, IsBelow, IsFirstLeast}

-- n / d is at most m / e, which is at most j / f
through : (n d m e j f : ℤ) → pos 0 <ℤ d → pos 0 <ℤ e → pos 0 <ℤ f → (n *ℤ e) ≤ℤ (m *ℤ d) → (m *ℤ f) ≤ℤ (j *ℤ e) → (n *ℤ f) ≤ℤ (j *ℤ d)
through n d m e j f hd he hf h k =
    le_from_nonneg (n *ℤ f) (j *ℤ d) (nonneg_of_mul_ℤ e (j *ℤ d -ℤ n *ℤ f) he (subst (λ (z : ℤ). pos 0 ≤ℤ z) (sym split)
    (add_nonneg_ℤ (f *ℤ (m *ℤ d -ℤ n *ℤ e)) (d *ℤ (j *ℤ e -ℤ m *ℤ f)) (mul_nonneg_ℤ f _ (nonneg_of_pos f hf) (nonneg_from_le _ _ h)) (mul_nonneg_ℤ d _ (nonneg_of_pos d hd) (nonneg_from_le _ _ k)))))
  where
    split : e *ℤ (j *ℤ d -ℤ n *ℤ f) ≡ f *ℤ (m *ℤ d -ℤ n *ℤ e) +ℤ d *ℤ (j *ℤ e -ℤ m *ℤ f)
    split =
        ring (n ∷ d ∷ m ∷ e ∷ j ∷ f ∷ [])
        (v 3 ⊗ (v 4 ⊗ v 1 ⊖ v 0 ⊗ v 5)) (v 5 ⊗ (v 2 ⊗ v 1 ⊖ v 0 ⊗ v 3) ⊕ v 1 ⊗ (v 4 ⊗ v 3 ⊖ v 2 ⊗ v 5)) tt

itself : (z : ℤ) → z ≤ℤ z
itself z = omega (arith, ints)

weaker : (a b : ℤ) → a <ℤ b → a ≤ℤ b
weaker a b h = omega (arith, ints)

-- the new one is no farther: it is taken
pub head_taken : (k j : Candidate) (cs : List Candidate) → IsValid k → IsFirstLeast cs j → IsAtMost k j → IsFirstLeast (k ∷ cs) k
head_taken k j cs valid first lesser = record {
  place = 0;
  there = refl;
  valid = valid;
  least = All-cons (λ other. IsValid other → IsAtMost k other) k cs (λ _. itself (k.num *ℤ k.den))
      (All-weaker (λ other. IsValid other → IsAtMost j other) (λ other. IsValid other → IsAtMost k other)
      (λ other h o. through k.num k.den j.num j.den other.num other.den valid.divisor first.valid.divisor o.divisor lesser (h o)) cs first.least);
  first = All-nil (λ other. IsValid other → IsBelow k other);
}

-- the new one is farther or not valid: the other stays
pub head_passed : (k j : Candidate) (cs : List Candidate) → IsFirstLeast cs j → (IsValid k → IsBelow j k) → IsFirstLeast (k ∷ cs) j
head_passed k j cs first farther = record {
  place = suc first.place;
  there = first.there;
  valid = first.valid;
  least = All-cons (λ other. IsValid other → IsAtMost j other) k cs (λ o. weaker (j.num *ℤ k.den) (k.num *ℤ j.den) (farther o)) first.least;
  first = All-cons (λ other. IsValid other → IsBelow j other) k (take first.place cs) farther first.first;
}

pub one_alone : (k : Candidate) → IsValid k → IsFirstLeast (k ∷ []) k
one_alone k valid = record {
  place = 0;
  there = refl;
  valid = valid;
  least = All-cons (λ other. IsValid other → IsAtMost k other) k [] (λ _. itself (k.num *ℤ k.den)) (All-nil (λ other. IsValid other → IsAtMost k other));
  first = All-nil (λ other. IsValid other → IsBelow k other);
}
