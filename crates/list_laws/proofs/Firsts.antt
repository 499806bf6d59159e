-- The first element that has a property: there is one at most, and it may be looked for among some that pass a test.
use Rattle.std.proofs.Common.{◌≡◌, ℕ, ◌+◌, ◌<◌, Bool, true, false, cond, List, [], ◌∷◌, ◌++◌, length, get_or, take, drop, drop-cons, add-one, ◌⊎◌, inl, inr, ap, refl, sym, ◌∙◌, subst}
use Rattle.std.proofs.lemmas.List.{take-append-drop}
use Rattle.std.specs.List.{All, filter}
use Rattle.std.proofs.lemmas.List.Elements.{All-nil, All-cons, All-head, All-tail}
use Rattle.list_laws.specs.Firsts.{IsFirstOf}

module _ {A : Type 0} (P : A → Type 0) where
  pub one_first : (xs : List A) (x y : A) → IsFirstOf P xs x → IsFirstOf P xs y → x ≡ y
  one_first xs x y f g = same f.before g.before f.after g.after (sym f.cut ∙ g.cut) f.none_before g.none_before
    where
      same : (b c d e : List A) → b ++ (x ∷ d) ≡ c ++ (y ∷ e) → All (λ z. ¬ P z) b → All (λ z. ¬ P z) c → x ≡ y
      same [] [] d e h k l = cc
      same [] (z ∷ c) d e h k l = let is : x ≡ z = cc in absurd (All-head (λ w. ¬ P w) z c l (subst P is f.holds))
      same (z ∷ b) [] d e h k l = let is : y ≡ z = cc in absurd (All-head (λ w. ¬ P w) z b k (subst P is g.holds))
      same (z ∷ b) (w ∷ c) d e h k l =
          let rest : b ++ (x ∷ d) ≡ c ++ (y ∷ e) = cc in
          same b c d e rest (All-tail (λ v. ¬ P v) z b k) (All-tail (λ v. ¬ P v) w c l)

  -- one more element before, which doesn't have the property
  first_later : (y : A) (xs : List A) (x : A) → ¬ P y → IsFirstOf P xs x → IsFirstOf P (y ∷ xs) x
  first_later y xs x none f = record {
    before = y ∷ f.before;
    after = f.after;
    cut = ap (λ l. y ∷ l) f.cut;
    holds = f.holds;
    none_before = All-cons (λ z. ¬ P z) y f.before none f.none_before;
  }

  -- where none that fails a test has the property, the first is the first of those that pass
  pub first_of_filtered : (Q : A → Type 0) (test : A → Bool) → ((x : A) → Q x → test x ≡ false → ¬ P x) → (xs : List A) (x : A) → All Q xs → IsFirstOf P (filter test xs) x → IsFirstOf P xs x
  first_of_filtered Q test fails [] x h f = absurd (none f.before f.cut)
    where
      none : (b : List A) → [] ≡ b ++ (x ∷ f.after) → ⊥
      none [] e = cc
      none (z ∷ b) e = cc
  first_of_filtered Q test fails (y ∷ ys) x h f = by (first_of_filtered Q test fails ys x (All-tail Q y ys h)) (test y) refl f.before f.cut f.none_before
    where
      by : (IsFirstOf P (filter test ys) x → IsFirstOf P ys x) → (t : Bool) → test y ≡ t → (b : List A) → cond t (y ∷ filter test ys) (filter test ys) ≡ b ++ (x ∷ f.after) → All (λ z. ¬ P z) b → IsFirstOf P (y ∷ ys) x
      by rest true is [] e l =
          let here : y ≡ x = cc in
          subst (λ z. IsFirstOf P (y ∷ ys) z) here
          (record { before = []; after = ys; cut = refl; holds = subst P (sym here) f.holds; none_before = All-nil (λ z. ¬ P z) })
      by rest true is (z ∷ b) e l =
          let here : y ≡ z = cc in
          let more : filter test ys ≡ b ++ (x ∷ f.after) = cc in
          first_later y ys x (subst (λ w. ¬ P w) (sym here) (All-head (λ w. ¬ P w) z b l))
          (rest (record { before = b; after = f.after; cut = more; holds = f.holds; none_before = All-tail (λ w. ¬ P w) z b l }))
      by rest false is b e l =
          first_later y ys x (fails y (All-head Q y ys h) is)
          (rest (record { before = b; after = f.after; cut = e; holds = f.holds; none_before = l }))

  -- where the property is decided of each element, there is a first that has it, or none has it
  pub first_or_none : ((x : A) → P x ⊎ ¬ P x) → (xs : List A) → ((x : A) × IsFirstOf P xs x) ⊎ All (λ x. ¬ P x) xs
  first_or_none decided [] = inr (All-nil (λ x. ¬ P x))
  first_or_none decided (x ∷ xs) = by (decided x) (first_or_none decided xs)
    where
      by : P x ⊎ ¬ P x → ((y : A) × IsFirstOf P xs y) ⊎ All (λ y. ¬ P y) xs → ((y : A) × IsFirstOf P (x ∷ xs) y) ⊎ All (λ y. ¬ P y) (x ∷ xs)
      by (inl holds) later = inl (x, record { before = []; after = xs; cut = refl; holds = holds; none_before = All-nil (λ y. ¬ P y) })
      by (inr fails) (inl later) = inl (later.0, first_later x xs later.0 fails later.1)
      by (inr fails) (inr none) = inr (All-cons (λ y. ¬ P y) x xs fails none)

  -- the element at a position, where it has the property and none at an earlier position has
  pub first_at : (xs : List A) (i : ℕ) (d : A) → i < length xs → P (get_or xs i d) → All (λ y. ¬ P y) (take i xs) → IsFirstOf P xs (get_or xs i d)
  first_at xs i d l holds none = record {
    before = take i xs;
    after = drop (i + 1) xs;
    cut = sym (take-append-drop i xs) ∙ ap (λ ys. take i xs ++ ys) (rw add-one (drop-cons xs i d l));
    holds = holds;
    none_before = none;
  }
