-- The place of a decimal, by what it says of the decimal's worth.
use Rattle.std.proofs.Common.{◌≡◌, ◌↔◌, ℕ, ◌+◌, ◌*◌, ◌/◌, ◌%◌, ◌<◌, ◌≤◌, Bool, true, false, eqb, leb, List, Option, Some, None, Ok, Err, Result, IfOk, true≢false, ℤ, unsigned_abs, refl, sym, ◌∙◌, ap, subst, arith, inl, inr, ◌⊎◌}
use Rattle.std.proofs.Math.Nat.{mod-lt, div-add-mod', mul-mod_left, mul-div_cancel, div-eq_of_lt-le}
use Rattle.std.proofs.lemmas.Bool.{cases_Bool, cases_lt, le-leb, eqb-true, eq-eqb}
use Rattle.std.proofs.lemmas.Bool.Decides.{nat_tests}
use Rattle.std.proofs.lemmas.Int.{ints}
use Rattle.dec_text.specs.declared.TheConstants.{GREATEST_SIZE}
use Rattle.dec_text.specs.declared.Snap.{Snap}
use Rattle.dec_text.specs.declared.Snap.TheVariants.{Exact, Nearest}
use Rattle.dec_text.specs.declared.DecErr.{DecErr}
use Rattle.dec_text.specs.declared.DecErr.TheVariants.{NotDecimal, OffGrid, OutOfBox}
use Rattle.dec_text.specs.Calls.Reader.{decimal_of}
use Rattle.dec_text.specs.Decimal.{Decimal, IsDecimal, with_sign, numerator, denominator}
use Rattle.dec_text.specs.Grid.{place_in_box, snapped_place, place_on_grid, IsSnapped, IsSizeOf, IsAnswer, grid_value}
use Rattle.dec_text.proofs.ReaderGrammar.{decimal_is_read, read_is_decimal}
use Rattle.dec_text.proofs.ReaderValues.{grid_value-is, denominator_pos}

-- ---- the place where the whole number is known, and where there is none
snapped_at : (snap : Snap) (negative : Bool) (n d m : ℕ) → 0 < d → IsSnapped snap n d m → snapped_place negative n d snap ≡ place_in_box negative m
snapped_at Exact negative n d m h e =
    let rem : n % d ≡ 0 = ap (λ x. x % d) (sym e) ∙ mul-mod_left m d in
    let div : n / d ≡ m = ap (λ x. x / d) (sym e) ∙ mul-div_cancel m h in
    rw (rem, div) refl
snapped_at Nearest negative n d m h e =
    ap (λ x. place_in_box negative x) (div-eq_of_lt-le (2 * d) {m = 2 * n + d} (omega (arith, e.1)) (omega (arith, e.0)))

nearest_is_there : (n d : ℕ) → 0 < d → (m : ℕ) × IsSnapped Nearest n d m
nearest_is_there n d h = near ((2 * n + d) / (2 * d)) (div-add-mod' (2 * n + d) (2 * d)) (mod-lt (2 * n + d) (omega arith))
  where
    near : (m : ℕ) → m * (2 * d) + (2 * n + d) % (2 * d) ≡ 2 * n + d → (2 * n + d) % (2 * d) < 2 * d → (m : ℕ) × IsSnapped Nearest n d m
    near m e l = (m, (omega arith, omega arith))

snapped_or_none : (snap : Snap) (negative : Bool) (n d : ℕ) → 0 < d → ((m : ℕ) × IsSnapped snap n d m) ⊎ (((m : ℕ) → ¬ (IsSnapped snap n d m)) × (snapped_place negative n d snap ≡ Err OffGrid))
snapped_or_none Exact negative n d h = elim (cases_Bool (eqb (n % d) 0)) [
  | inl t ↦ inl (n / d, omega (arith, div-add-mod' n d, eqb-true (n % d) 0 t))
  | inr f ↦ inr (λ m e. true≢false (sym (eq-eqb (n % d) 0 (ap (λ x. x % d) (sym e) ∙ mul-mod_left m d)) ∙ f), rw f refl)
]
snapped_or_none Nearest negative n d h = inl (nearest_is_there n d h)

in_the_box : (negative : Bool) (m : ℕ) → m ≤ GREATEST_SIZE → place_in_box negative m ≡ Ok (with_sign negative m)
in_the_box negative m h = rw (le-leb m GREATEST_SIZE h) refl

out_of_the_box : (negative : Bool) (m : ℕ) → GREATEST_SIZE < m → place_in_box negative m ≡ Err OutOfBox
out_of_the_box negative m h = let t : leb m GREATEST_SIZE ≡ false = grind (arith, nat_tests) in rw t refl

-- ---- the answers of a text
module _ (text : List ℕ) (digits : ℕ) (snap : Snap) where
  abbrev value : Result ℤ DecErr
  value = grid_value text digits snap

  abbrev place : Decimal → Result ℤ DecErr
  place d = place_on_grid (Some d) digits snap

  at_size : (d : Decimal) (m : ℕ) → IsSizeOf d digits snap m → place d ≡ place_in_box d.negative m
  at_size d m h = snapped_at snap d.negative (numerator d digits) (denominator d) m (denominator_pos d) h

  -- the place of the text's decimal is an answer
  place_is_answer : (d : Decimal) → IsDecimal text d → IsAnswer text digits snap (place d)
  place_is_answer d is = elim (snapped_or_none snap d.negative (numerator d digits) (denominator d) (denominator_pos d)) [
    | inr never ↦ subst (IsAnswer text digits snap) (sym never.1) (d, is, never.0)
    | inl s ↦ elim (cases_lt GREATEST_SIZE s.0) [
      | inl out ↦ subst (IsAnswer text digits snap) (sym (at_size d s.0 s.1 ∙ out_of_the_box d.negative s.0 out)) (d, is, (s.0, s.1, out))
      | inr within ↦ subst (IsAnswer text digits snap) (sym (at_size d s.0 s.1 ∙ in_the_box d.negative s.0 within)) (d, is, record { size = s.0; is_size = s.1; in_the_box = within; signed = refl })
    ]
  ]

  read_is_answer : (o : Option Decimal) → decimal_of text ≡ o → IsAnswer text digits snap (place_on_grid o digits snap)
  read_is_answer None e = λ d is. apart (sym e ∙ decimal_is_read text d is)
    where
      apart : {d : Decimal} → None ≡ Some d → ⊥
      apart h = cc
  read_is_answer (Some d) e = place_is_answer d (read_is_decimal text d e)

  -- the computed value is an answer
  pub value_is_answer : IsAnswer text digits snap value
  value_is_answer = subst (IsAnswer text digits snap) (sym (grid_value-is text digits snap)) (read_is_answer (decimal_of text) refl)

  value_of : (d : Decimal) → IsDecimal text d → value ≡ place d
  value_of d is = grid_value-is text digits snap ∙ ap (λ o. place_on_grid o digits snap) (decimal_is_read text d is)

  refused : (o : Option Decimal) → decimal_of text ≡ o → ((d : Decimal) → ¬ IsDecimal text d) → place_on_grid o digits snap ≡ Err NotDecimal
  refused None e none = refl
  refused (Some d) e none = absurd (none d (read_is_decimal text d e))

  off_grid : (d : Decimal) → ((m : ℕ) → ¬ IsSizeOf d digits snap m) → place d ≡ Err OffGrid
  off_grid d never = elim (snapped_or_none snap d.negative (numerator d digits) (denominator d) (denominator_pos d)) [
    | inl s ↦ absurd (never s.0 s.1)
    | inr h ↦ h.1
  ]

  -- an answer is the computed value
  pub answer_is_value : (answer : Result ℤ DecErr) → IsAnswer text digits snap answer → value ≡ answer
  answer_is_value (Ok v) h = value_of h.0 h.1 ∙ at_size h.0 h.2.size h.2.is_size ∙ in_the_box h.0.negative h.2.size h.2.in_the_box ∙ ap (λ z. Ok z) (sym h.2.signed)
  answer_is_value (Err NotDecimal) h = grid_value-is text digits snap ∙ refused (decimal_of text) refl h
  answer_is_value (Err OffGrid) h = value_of h.0 h.1 ∙ off_grid h.0 h.2
  answer_is_value (Err OutOfBox) h = value_of h.0 h.1 ∙ at_size h.0 h.2.0 h.2.1 ∙ out_of_the_box h.0.negative h.2.0 h.2.2

  pub value_or_answer : (answer : Result ℤ DecErr) → (value ≡ answer) ↔ IsAnswer text digits snap answer
  value_or_answer answer = (λ e. subst (IsAnswer text digits snap) e value_is_answer, answer_is_value answer)

-- ---- an accepted place is in the box
unsigned_abs-with_sign : (negative : Bool) (n : ℕ) → unsigned_abs (with_sign negative n) ≡ n
unsigned_abs-with_sign true n = omega (arith, ints)
unsigned_abs-with_sign false n = refl

pub answer_in_box : (text : List ℕ) (digits : ℕ) (snap : Snap) (answer : Result ℤ DecErr) → IsAnswer text digits snap answer → IfOk answer (λ place. unsigned_abs place ≤ GREATEST_SIZE)
answer_in_box text digits snap (Ok place) h = subst (λ z. unsigned_abs z ≤ GREATEST_SIZE) (sym h.2.signed) (subst (λ m. m ≤ GREATEST_SIZE) (sym (unsigned_abs-with_sign h.0.negative h.2.size)) h.2.in_the_box)
answer_in_box text digits snap (Err e) h = tt
