-- The rows of a text with the numbers of their lines, line by line.
use Rattle.std.proofs.Common.{◌≡◌, ◌⊎◌, ◌∙◌, ◌<◌, ℕ, zero, suc, ◌+◌, Bool, true, false, cond, List, [], ◌∷◌, ◌++◌, length, map, filter, drop, count_by, inl, inr, refl, sym, ap, add-one, arith}
use Rattle.std.specs.List.{enumerate_from}
use Rattle.std.proofs.lemmas.Bool.{cond-true, cond-false}
use Rattle.std.proofs.lemmas.List.Splits.{length-slice_split}
use Rattle.line_fields.specs.Lines.{fields, is_filled, is_line_feed, lines, rows, numbered_from, with_fields, IsFirstLine, IsLineAfter}

-- one line more than there are line feeds
pub length-lines : (text : List ℕ) → length (lines text) ≡ count_by is_line_feed text + 1
unfolding lines
length-lines text = length-slice_split is_line_feed text

pub numbered-nil : (first : ℕ) → numbered_from first [] ≡ []
unfolding numbered_from lines fields
numbered-nil first = refl

numbered_head : (first : ℕ) (line : List ℕ) (more : List (List ℕ)) (b : Bool) → is_filled (fields line) ≡ b → map with_fields (filter (λ l. is_filled (fields l.1)) (enumerate_from first (line ∷ more))) ≡ cond b ((first, fields line) ∷ []) [] ++ map with_fields (filter (λ l. is_filled (fields l.1)) (enumerate_from (first + 1) more))
numbered_head first line more true e = ap (map with_fields) (cond-true (is_filled (fields line)) _ _ e)
numbered_head first line more false e = ap (map with_fields) (cond-false (is_filled (fields line)) _ _ e)

numbered-split : (first : ℕ) (text line rest : List ℕ) → IsFirstLine text line rest → numbered_from first text ≡ cond (is_filled (fields line)) ((first, fields line) ∷ []) [] ++ numbered_from (first + 1) rest
unfolding numbered_from
numbered-split first text line rest (inl e) = ap (λ all. map with_fields (filter (λ l. is_filled (fields l.1)) (enumerate_from first all))) e ∙ numbered_head first line (lines rest) (is_filled (fields line)) refl
numbered-split first text line rest (inr e) =
    ap (λ all. map with_fields (filter (λ l. is_filled (fields l.1)) (enumerate_from first all))) e.0 ∙ numbered_head first line [] (is_filled (fields line)) refl
    ∙ sym (ap (λ more. cond (is_filled (fields line)) ((first, fields line) ∷ []) [] ++ numbered_from (first + 1) more) e.1 ∙ ap (λ more. cond (is_filled (fields line)) ((first, fields line) ∷ []) [] ++ more) (numbered-nil (first + 1)))

pub numbered-filled : (first : ℕ) (text line rest : List ℕ) → IsFirstLine text line rest → is_filled (fields line) ≡ true → numbered_from first text ≡ (first, fields line) ∷ numbered_from (first + 1) rest
numbered-filled first text line rest s e = numbered-split first text line rest s ∙ ap (λ b. cond b ((first, fields line) ∷ []) [] ++ numbered_from (first + 1) rest) e

pub numbered-empty : (first : ℕ) (text line rest : List ℕ) → IsFirstLine text line rest → is_filled (fields line) ≡ false → numbered_from first text ≡ numbered_from (first + 1) rest
numbered-empty first text line rest s e = numbered-split first text line rest s ∙ ap (λ b. cond b ((first, fields line) ∷ []) [] ++ numbered_from (first + 1) rest) e

pub numbered-no_text : (first : ℕ) (text : List ℕ) → length text ≡ 0 → numbered_from first text ≡ []
numbered-no_text first [] e = numbered-nil first
numbered-no_text first (b ∷ text) e = absurd (omega arith)

-- without their numbers they are the rows
without_number : (line : List ℕ) (more : List (ℕ × List ℕ)) (after : List (List ℕ)) (b : Bool) → is_filled (fields line) ≡ b
    → map (λ l. l.1) (map with_fields (filter (λ l. is_filled (fields l.1)) more)) ≡ filter is_filled (map fields after)
    → (first : ℕ) → map (λ l. l.1) (map with_fields (filter (λ l. is_filled (fields l.1)) ((first, line) ∷ more))) ≡ filter is_filled (fields line ∷ map fields after)
without_number line more after true e same first =
    ap (λ ls. map (λ l. l.1) (map with_fields ls)) (cond-true (is_filled (fields line)) _ _ e) ∙ ap (λ ls. fields line ∷ ls) same
    ∙ sym (cond-true (is_filled (fields line)) _ _ e)
without_number line more after false e same first =
    ap (λ ls. map (λ l. l.1) (map with_fields ls)) (cond-false (is_filled (fields line)) _ _ e) ∙ same
    ∙ sym (cond-false (is_filled (fields line)) _ _ e)

without_numbers : (first : ℕ) (all : List (List ℕ)) → map (λ l. l.1) (map with_fields (filter (λ l. is_filled (fields l.1)) (enumerate_from first all))) ≡ filter is_filled (map fields all)
without_numbers first [] = refl
without_numbers first (line ∷ more) =
    without_number line (enumerate_from (first + 1) more) more (is_filled (fields line)) refl (without_numbers (first + 1) more) first

pub numbered-rows : (first : ℕ) (text : List ℕ) → map (λ l. l.1) (numbered_from first text) ≡ rows text
unfolding numbered_from rows
numbered-rows first text = without_numbers first (lines text)

-- where the line after a line stands
drop_first : {X : Type 0} (k : ℕ) (xs : List X) (x : X) (more : List X) → drop k xs ≡ x ∷ more → drop (suc k) xs ≡ more
drop_first zero xs x more e = ap (drop 1) e
drop_first (suc k) [] x more e = absurd (omega (arith, ap length e))
drop_first (suc k) (y ∷ xs) x more e = drop_first k xs x more e

-- after so many lines this is left of a text, or nothing is
abbrev pub IsLeftAfter : ℕ → List ℕ → List ℕ → Type 0
IsLeftAfter before text rest = (drop before (lines text) ≡ lines rest) ⊎ (rest ≡ [])

pub line_after : (before : ℕ) (text rest line after : List ℕ) → IsLeftAfter before text rest → 0 < length rest → IsFirstLine rest line after → IsLineAfter before text line after
line_after before text rest line after (inl e) h (inl f) = inl (e ∙ f)
line_after before text rest line after (inl e) h (inr f) = inr (e ∙ f.0, f.1)
line_after before text rest line after (inr e) h f = absurd (omega (arith, ap length e))

pub left_after : (before : ℕ) (text line rest : List ℕ) → IsLineAfter before text line rest → IsLeftAfter (before + 1) text rest
left_after before text line rest (inl e) = inl (rw add-one (drop_first before (lines text) line (lines rest) e))
left_after before text line rest (inr e) = inr e.1
