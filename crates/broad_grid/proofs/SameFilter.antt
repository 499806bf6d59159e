-- A rising list of the numbers below n that pass a test is the filter of the numbers below n.
use Rattle.std.proofs.Common.{◌≡◌, ◌∙◌, ℕ, suc, zero, ◌+◌, ◌<◌, ◌≤◌, Bool, true, false, cond, List, [], ◌∷◌, get_or, ap, sym, refl, arith, inl, inr}
use Rattle.std.specs.List.{range_with_len, filter, All, AllPairs, Contains}
use Rattle.std.specs.List.Sorted.{IsStrictlyIncreasing}
use Rattle.std.proofs.lemmas.List.Kept.{AllPairs-from_increasing}
use Rattle.std.proofs.lemmas.List.Elements.{All-tail, All-nil}
use Rattle.std.proofs.lemmas.Bool.{cases_lt, cases_Bool}
use Rattle.box_grid.specs.Calls.Cells.{PassesBelow}

-- rising numbers from `low` on and below `high`
record Rising (low high : ℕ) (xs : List ℕ) : Type 0 where
  rises : AllPairs (λ x y. x < y) xs
  from : All (λ x. low ≤ x) xs
  below : All (λ x. x < high) xs

tail_rises : (low high x : ℕ) (xs : List ℕ) → Rising low high (x ∷ xs) → Rising (x + 1) high xs
tail_rises low high x xs r = record {
  rises = λ i j d h l. r.rises (suc i) (suc j) d (omega arith) (omega arith);
  from = λ k d l. let above : x < get_or xs k d = r.rises zero (suc k) d (omega arith) (omega arith) in omega arith;
  below = All-tail (λ x. x < high) x xs r.below;
}

in_rest : (x y : ℕ) (ys : List ℕ) → Contains (y ∷ ys) x → (y ≡ x → ⊥) → Contains ys x
in_rest x y ys (zero, l, e) n = absurd (n e)
in_rest x y ys (suc k, l, e) n = (k, omega arith, e)

-- nothing below the least is there
none_below_least : (low high b : ℕ) (xs : List ℕ) → Rising low high xs → b < low → Contains xs b → ⊥
none_below_least low high b xs r l (k, h, e) = let least : low ≤ get_or xs k b = r.from k b h in omega arith

false_from_not : (b : Bool) → (b ≡ true → ⊥) → b ≡ false
false_from_not b n = elim (cases_Bool b) [ inl t ↦ absurd (n t) | inr f ↦ f ]

filter_past : (p : ℕ → Bool) (a : ℕ) (xs : List ℕ) → p a ≡ false → filter p xs ≡ filter p (a ∷ xs)
filter_past p a xs e = sym (ap (λ b. cond b (a ∷ filter p xs) (filter p xs)) e)

same_filter_from : (p : ℕ → Bool) (n a : ℕ) (xs : List ℕ) → Rising a (a + n) xs → ((b : ℕ) → a ≤ b → b < a + n → p b ≡ true → Contains xs b) → filter p xs ≡ filter p (range_with_len a n)
same_filter_from p zero a [] r h = refl
same_filter_from p zero a (x ∷ xs) r h = absurd (omega (arith, r.from zero x (omega arith), r.below zero x (omega arith)))
same_filter_from p (suc n) a [] r h =
    let no : p a ≡ false = false_from_not (p a) (λ t. none_below_least (a + 1) (a + 1) a [] (record { rises = λ i j d l m. absurd (omega arith); from = All-nil (λ x. a + 1 ≤ x); below = All-nil (λ x. x < a + 1) }) (omega arith) (h a (omega arith) (omega arith) t)) in
    same_filter_from p n (a + 1) [] (record { rises = λ i j d l m. absurd (omega arith); from = All-nil (λ x. a + 1 ≤ x); below = All-nil (λ x. x < a + 1 + n) }) (λ b l m t. h b (omega arith) (omega arith) t)
    ∙ filter_past p a (range_with_len (a + 1) n) no
same_filter_from p (suc n) a (x ∷ xs) r h =
    elim (cases_lt a x) [
      | inl l ↦
          let rest : Rising (a + 1) (a + 1 + n) (x ∷ xs) = record {
            rises = r.rises;
            from = λ k d m. above a (a + suc n) x xs r l k d m;
            below = λ k d m. omega (arith, r.below k d m);
          } in
          let no : p a ≡ false = false_from_not (p a) (λ t. none_below_least (a + 1) (a + 1 + n) a (x ∷ xs) rest (omega arith) (h a (omega arith) (omega arith) t)) in
          same_filter_from p n (a + 1) (x ∷ xs) rest (λ b l m t. h b (omega arith) (omega arith) t) ∙ filter_past p a (range_with_len (a + 1) n) no
      | inr m ↦
          let low : a ≤ x = r.from zero x (omega arith) in
          let same : x ≡ a = omega arith in
          let tail : Rising (x + 1) (a + suc n) xs = tail_rises a (a + suc n) x xs r in
          let rest : Rising (a + 1) (a + 1 + n) xs = record {
            rises = tail.rises;
            from = λ k d m. omega (arith, tail.from k d m, same);
            below = λ k d m. omega (arith, tail.below k d m);
          } in
          ap (λ y. filter p (y ∷ xs)) same
          ∙ ap (λ l. cond (p a) (a ∷ l) l) (same_filter_from p n (a + 1) xs rest (λ b l m t. in_rest b x xs (h b (omega arith) (omega arith) t) (λ e. omega arith)))
    ]
  where
    above : (a high x : ℕ) (xs : List ℕ) → Rising a high (x ∷ xs) → a < x → All (λ y. a + 1 ≤ y) (x ∷ xs)
    above a high x xs r l zero d m = omega arith
    above a high x xs r l (suc k) d m = let up : x < get_or xs k d = r.rises zero (suc k) d (omega arith) (omega arith) in omega arith

same_filter : (p : ℕ → Bool) (n : ℕ) (xs : List ℕ) → IsStrictlyIncreasing xs → All (λ x. x < n) xs → ((b : ℕ) → b < n → p b ≡ true → Contains xs b) → filter p xs ≡ filter p (range_with_len 0 n)
same_filter p n xs r l h =
    same_filter_from p n 0 xs (record {
      rises = AllPairs-from_increasing xs r;
      from = λ k d m. omega arith;
      below = λ k d m. omega (arith, l k d m);
    }) (λ b k m t. h b (omega arith) t)

-- where all of them pass, that is the list itself
all_pass : (p : ℕ → Bool) (xs : List ℕ) → All (λ x. p x ≡ true) xs → filter p xs ≡ xs
all_pass p [] h = refl
all_pass p (x ∷ xs) h = ap (λ b. cond b (x ∷ filter p xs) (filter p xs)) (h zero x (omega arith)) ∙ ap (λ l. x ∷ l) (all_pass p xs (All-tail (λ y. p y ≡ true) x xs h))

pub is_filter : (p : ℕ → Bool) (n : ℕ) (xs : List ℕ) → IsStrictlyIncreasing xs → All (PassesBelow n p) xs → ((b : ℕ) → b < n → p b ≡ true → Contains xs b) → xs ≡ filter p (range_with_len 0 n)
is_filter p n xs r l h =
    sym (all_pass p xs (λ k d m. (l k d m).passes))
    ∙ same_filter p n xs r (λ k d m. (l k d m).below) h
