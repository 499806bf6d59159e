-- Chains of steps: a weaker relation, one chain after another, and when two chains are the same.
use Rattle.std.proofs.Common.{◌≡◌, ℕ, zero, suc, ◌≤◌, List, [], ◌∷◌, ◌++◌, length, refl, sym, subst, arith}
use Rattle.std.specs.List.{fold}
use Rattle.list_laws.specs.Chains.{Follow}

-- steps that follow by a relation follow by each weaker one
pub Follow-weaker : {X S : Type 0} (next : X → S → X) (P Q : X → S → Type 0) → ((x : X) (step : S) → P x step → Q x step) → (x : X) (steps : List S) → Follow next P x steps → Follow next Q x steps
Follow-weaker next P Q f x [] h = tt
Follow-weaker next P Q f x (step ∷ steps) h = (f x step h.0, Follow-weaker next P Q f (next x step) steps h.1)

-- ---- one chain after another
pub Follow-append : {X S : Type 0} (next : X → S → X) (R : X → S → Type 0) (x : X) (steps more : List S) → Follow next R x steps → Follow next R (fold next x steps) more → Follow next R x (steps ++ more)
Follow-append next R x [] more h k = k
Follow-append next R x (step ∷ steps) more h k = (h.0, Follow-append next R (next x step) steps more h.1 k)

pub Follow-split : {X S : Type 0} (next : X → S → X) (R : X → S → Type 0) (x : X) (steps more : List S) → Follow next R x (steps ++ more) → Follow next R x steps × Follow next R (fold next x steps) more
Follow-split next R x [] more h = (tt, h)
Follow-split next R x (step ∷ steps) more h =
    let parts = Follow-split next R (next x step) steps more h.1 in
    ((h.0, parts.0), parts.1)

-- one step more
pub Follow-push : {X S : Type 0} (next : X → S → X) (R : X → S → Type 0) (x : X) (steps : List S) (step : S) → Follow next R x steps → R (fold next x steps) step → Follow next R x (steps ++ step ∷ [])
Follow-push next R x steps step h k = Follow-append next R x steps (step ∷ []) h (k, tt)

-- ---- there is one chain
-- a step has the relation to each state once at most
abbrev pub IsSingle : {X S : Type 0} → (X → S → Type 0) → Type 0
IsSingle {X} {S} R = (x : X) (a b : S) → R x a → R x b → a ≡ b

-- after these steps comes another one only where there are so many of them
abbrev pub EndsBefore : {X S : Type 0} → (next : X → S → X) → (X → S → Type 0) → ℕ → X → List S → Type 0
EndsBefore {S = S} next R most x steps = (step : S) → R (fold next x steps) step → length steps ≡ most

-- two chains from one state that end so are the same
pub one_chain : {X S : Type 0} (next : X → S → X) (R : X → S → Type 0) → IsSingle R → (most : ℕ) (x : X) (ys zs : List S) → length ys ≤ most → length zs ≤ most → Follow next R x ys → Follow next R x zs → EndsBefore next R most x ys → EndsBefore next R most x zs → ys ≡ zs
one_chain next R one most x [] [] l m f g p q = refl
one_chain next R one most x [] (z ∷ zs) l m f g p q = absurd (past_end (length zs) most m (p z g.0))
  where
    past_end : (n most : ℕ) → suc n ≤ most → 0 ≡ most → ⊥
    past_end n most l e = omega arith
one_chain next R one most x (y ∷ ys) [] l m f g p q = absurd (past_end (length ys) most l (q y f.0))
  where
    past_end : (n most : ℕ) → suc n ≤ most → 0 ≡ most → ⊥
    past_end n most l e = omega arith
one_chain next R one zero x (y ∷ ys) (z ∷ zs) l m f g p q = absurd (none_left (length ys) l)
  where
    none_left : (n : ℕ) → suc n ≤ 0 → ⊥
    none_left n l = omega arith
one_chain {X = X} next R one (suc most) x (y ∷ ys) (z ∷ zs) l m f g p q =
    let e : y ≡ z = one x y z f.0 g.0 in
    let rest : ys ≡ zs = one_chain next R one most (next x y) ys zs (omega arith) (omega arith) f.1
    (subst (λ w. Follow next R (next x w) zs) (sym e) g.1) (λ w r. one_less (length ys) most (p w r))
    (subst (λ w. EndsBefore next R most (next x w) zs) (sym e) (λ w r. one_less (length zs) most (q w r))) in
    λ i. e i ∷ rest i
  where
    one_less : (m n : ℕ) → suc m ≡ suc n → m ≡ n
    one_less m n e = omega arith
