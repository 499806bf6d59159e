-- Two lists in a row: their first elements and what follows, and a test of either.
use Rattle.std.proofs.Common.{◌≡◌, ℕ, ◌+◌, ◌-◌, min, Bool, true, false, ltb, eqb, ◌||◌, not, List, ◌++◌, length, take, drop, sym, ◌∙◌, ap, arith, inl, inr, append-nil}
use Rattle.std.proofs.Math.Seq.{take-append-add, drop-append-add, take-length, drop-length}
use Rattle.std.proofs.lemmas.Bool.{cases_lt}
use Rattle.std.proofs.lemmas.List.{take-append-le, drop-append-le}
use Rattle.std.proofs.lemmas.List.Folds.{list_any-append}
use Rattle.std.specs.List.{list_any}
use Rattle.std.specs.Str.Parse.{AllDigits, digits_value}
use Rattle.dec_text.proofs.Digits.{AllDigits-append, list_any-digits}

-- ---- the first n of two lists in a row, and what follows them
pub take-both : (n i j : ℕ) (xs ys : List ℕ) → i ≡ min n (length xs) → j ≡ n - i → take i xs ++ take j ys ≡ take n (xs ++ ys)
take-both n i j xs ys e d = elim (cases_lt (length xs) n) [
  | inl past ↦ let a : i ≡ length xs = omega arith in let b : n ≡ length xs + j = omega arith in
      rw (a, b, take-append-add) (ap (λ zs. zs ++ take j ys) (take-length xs))
  | inr within ↦ let a : i ≡ n = omega arith in let b : j ≡ 0 = omega arith in
      rw (a, b) (append-nil (take n xs) ∙ sym (take-append-le n xs ys within))
]

pub drop-both : (n i j : ℕ) (xs ys : List ℕ) → i ≡ min n (length xs) → j ≡ n - i → drop i xs ++ drop j ys ≡ drop n (xs ++ ys)
drop-both n i j xs ys e d = elim (cases_lt (length xs) n) [
  | inl past ↦ let a : i ≡ length xs = omega arith in let b : n ≡ length xs + j = omega arith in
      rw (a, b, drop-append-add) (ap (λ zs. zs ++ drop j ys) (drop-length xs))
  | inr within ↦ let a : i ≡ n = omega arith in let b : j ≡ 0 = omega arith in
      rw (a, b) (sym (drop-append-le n xs ys within))
]

-- ---- a test of the first list or of the second
pub either_true : (r a b v : Bool) → r ≡ true → r ≡ a → (a || b) ≡ v → r ≡ v
either_true r a b v t e l = t ∙ ap (λ x. x || b) (sym t ∙ e) ∙ l

pub either_false : (r a s b v : Bool) → r ≡ false → r ≡ a → s ≡ b → (a || b) ≡ v → s ≡ v
either_false r a s b v t e f l = f ∙ ap (λ x. x || b) (sym t ∙ e) ∙ l

pub list_any-both : (xs ys : List ℕ) → AllDigits 10 xs → AllDigits 10 ys → (list_any (λ c. not (eqb c 48)) xs || list_any (λ c. not (eqb c 48)) ys) ≡ ltb 0 (digits_value 10 (xs ++ ys))
list_any-both xs ys h k = sym (list_any-append (λ c. not (eqb c 48)) xs ys) ∙ list_any-digits (xs ++ ys) (AllDigits-append xs ys h k)
