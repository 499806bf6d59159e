-- Facts that are decided: orders of whole numbers, facts of each or some element of a list, facts of all numbers below
-- another, and the least number of which a fact holds.
use Rattle.std.proofs.Common.{◌≡◌, ℕ, zero, suc, ◌<◌, ◌≤◌, ℤ, ◌≤ℤ◌, ◌<ℤ◌, Bool, true, false, List, ◌⊎◌, inl, inr, refl, sym, subst, arith}
use Rattle.std.specs.Prelude.{All, Any, IsTrue}
use Rattle.std.proofs.lemmas.Int.{ints, by_lt_z}
use Rattle.std.proofs.lemmas.Bool.{cases_lt}
use Rattle.list_laws.proofs.Elements.{all_or_any}

-- what follows from a decided fact and has it follow is decided too
pub dec_along : {P Q : Type 0} → Dec P → (P → Q) → (Q → P) → Dec Q
dec_along (yes p) f g = yes (f p)
dec_along (no h) f g = no (λ q. h (g q))

pub dec_not : {P : Type 0} → Dec P → Dec (¬ P)
dec_not (yes p) = no (λ h. h p)
dec_not (no h) = yes h

pub dec_two : {A B : Type 0} → Dec A → Dec B → Dec (A × B)
dec_two (yes a) (yes b) = yes (a, b)
dec_two (yes a) (no h) = no (λ x. h x.1)
dec_two (no h) b = no (λ x. h x.0)

pub dec_three : {A B C : Type 0} → Dec A → Dec B → Dec C → Dec (A × B × C)
dec_three a b c = dec_along (dec_two a (dec_two b c)) (λ x. (x.0, x.1.0, x.1.1)) (λ x. (x.0, (x.1, x.2)))

pub dec_four : {A B C D : Type 0} → Dec A → Dec B → Dec C → Dec D → Dec (A × B × C × D)
dec_four a b c d = dec_along (dec_two (dec_two a b) (dec_two c d)) (λ x. (x.0.0, x.0.1, x.1.0, x.1.1)) (λ x. ((x.0, x.1), (x.2, x.3)))

-- a decision as one of two facts
pub cases_dec : {P : Type 0} → Dec P → P ⊎ ¬ P
cases_dec (yes p) = inl p
cases_dec (no h) = inr h

pub dec_IsTrue : (b : Bool) → Dec (IsTrue b)
dec_IsTrue true = yes refl
dec_IsTrue false = no (λ e. differ e)
  where
    differ : false ≡ true → ⊥
    differ e = cc

-- ---- orders of whole numbers
pub dec_lt_ℤ : (a b : ℤ) → Dec (a <ℤ b)
dec_lt_ℤ a b = by_lt_z a b (λ h. yes h) (λ h. no (λ k. below a b h k))
  where
    below : (a b : ℤ) → b ≤ℤ a → a <ℤ b → ⊥
    below a b h k = omega (arith, ints)

pub dec_le_ℤ : (a b : ℤ) → Dec (a ≤ℤ b)
dec_le_ℤ a b = by_lt_z b a (λ h. no (λ k. below a b h k)) (λ h. yes h)
  where
    below : (a b : ℤ) → b <ℤ a → a ≤ℤ b → ⊥
    below a b h k = omega (arith, ints)

-- ---- lists
pub dec_All : {X : Type 0} (P : X → Type 0) → ((x : X) → Dec (P x)) → (xs : List X) → Dec (All P xs)
dec_All P d xs =
    elim (all_or_any P (λ x. ¬ P x) (λ x. cases_dec (d x)) xs) [
      | inl all ↦ yes all
      | inr any ↦ no (λ all. any.4 (subst P any.3 (all any.0 any.1 any.2)))
    ]

pub dec_Any : {X : Type 0} (P : X → Type 0) → ((x : X) → Dec (P x)) → (xs : List X) → Dec (Any P xs)
dec_Any P d xs =
    elim (all_or_any (λ x. ¬ P x) P (λ x. not_or (d x)) xs) [
      | inl all ↦ no (λ any. all any.0 any.1 any.2 (subst P (sym any.3) any.4))
      | inr any ↦ yes any
    ]
  where
    not_or : {Q : Type 0} → Dec Q → ¬ Q ⊎ Q
    not_or (yes q) = inr q
    not_or (no h) = inl h

-- ---- numbers below another
pub dec_below : (P : ℕ → Type 0) → ((j : ℕ) → Dec (P j)) → (n : ℕ) → Dec ((j : ℕ) → j < n → P j)
dec_below P d zero = yes (λ j l. absurd (omega arith))
dec_below P d (suc n) =
    dec_along (dec_two (dec_below P d n) (d n))
    (λ both. λ j l. elim (cases_lt j n) [ inl low ↦ both.0 j low | inr high ↦ subst P (last j n l high) both.1 ])
    (λ all. (λ j l. all j (omega arith), all n (omega arith)))
  where
    last : (j n : ℕ) → j < suc n → n ≤ j → n ≡ j
    last j n l m = omega arith

-- ---- the least number
-- n is the least of which the fact holds
pub record IsLeast (P : ℕ → Type 0) (n : ℕ) : Type 0 where
  pub holds : P n
  pub least : (earlier : ℕ) → earlier < n → ¬ P earlier

-- some number up to n is the least of which a decided fact holds, or it holds of none of them
pub least_or_none : (P : ℕ → Type 0) → ((j : ℕ) → Dec (P j)) → (n : ℕ) → ((j : ℕ) × (j ≤ n) × IsLeast P j) ⊎ ((j : ℕ) → j ≤ n → ¬ P j)
least_or_none P d zero =
    elim (d 0) [
      | yes p ↦ inl (0, omega arith, record { holds = p; least = λ j l. absurd (omega arith) })
      | no h ↦ inr (λ j l p. h (subst P (none j l) p))
    ]
  where
    none : (j : ℕ) → j ≤ 0 → j ≡ 0
    none j l = omega arith
least_or_none P d (suc n) =
    elim (least_or_none P d n) [
      | inl found ↦ inl (found.0, omega (arith, found.1), found.2)
      | inr none ↦ elim (d (suc n)) [
        | yes p ↦ inl (suc n, omega arith, record { holds = p; least = λ j l. none j (omega arith) })
        | no h ↦ inr (λ j l p. elim (cases_lt n j) [ inl high ↦ h (subst P (last j n l high) p) | inr low ↦ none j low p ])
      ]
    ]
  where
    last : (j n : ℕ) → j ≤ suc n → n < j → j ≡ suc n
    last j n l m = omega arith
