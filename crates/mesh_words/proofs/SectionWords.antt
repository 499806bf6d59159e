-- Words and their parts.
use Rattle.std.proofs.Common.{◌≡◌, ◌∙◌, ℕ, ◌<◌, Bool, true, false, List, [], ◌∷◌, ◌++◌, length, refl, sym, ap, arith}
use Rattle.std.specs.Prelude.{codes, ◌&&◌}
use Rattle.std.specs.Str.{bytes_eq}
use Rattle.std.specs.Cmp.Lexicographic.{same_text}
use Rattle.std.proofs.lemmas.Bool.{eq-eqb, and_from}
use Rattle.mesh_words.specs.Rows.{Row, is_dollar, is_word}

pub false_from : (b : Bool) → (b ≡ true → ⊥) → b ≡ false
false_from true h = absurd (h refl)
false_from false h = refl

pub bytes_eq-true : (xs ys : List ℕ) → bytes_eq xs ys ≡ true → xs ≡ ys
bytes_eq-true xs ys e = same_text xs ys (sym e)

pub bytes_eq-same : (xs : List ℕ) → bytes_eq xs xs ≡ true
bytes_eq-same [] = refl
bytes_eq-same (x ∷ xs) = and_from _ _ (eq-eqb x x refl) (bytes_eq-same xs)

and_assoc : (a b c : Bool) → (a && (b && c)) ≡ ((a && b) && c)
and_assoc true b c = refl
and_assoc false b c = refl

bytes_eq-append : (a b c d : List ℕ) → length a ≡ length c → bytes_eq (a ++ b) (c ++ d) ≡ (bytes_eq a c && bytes_eq b d)
bytes_eq-append [] b [] d e = refl
bytes_eq-append [] b (y ∷ c) d e = absurd (omega arith)
bytes_eq-append (x ∷ a) b [] d e = absurd (omega arith)
bytes_eq-append (x ∷ a) b (y ∷ c) d e = rw (bytes_eq-append a b c d (omega arith)) (and_assoc _ (bytes_eq a c) (bytes_eq b d))

pub too_short : (field name : List ℕ) → length field < 4 → is_word (codes "$End" ++ name) (field ∷ []) ≡ false
unfolding is_word
too_short field name h = false_from (bytes_eq field (codes "$End" ++ name)) (λ t. let len = ap length (bytes_eq-true field (codes "$End" ++ name) t) in omega (arith, len))

pub in_two : (field word rest name : List ℕ) → word ++ rest ≡ field → length word ≡ 4 → is_word (codes "$End" ++ name) (field ∷ []) ≡ (bytes_eq word (codes "$End") && bytes_eq rest name)
unfolding is_word
in_two field word rest name e len = ap (λ (f : List ℕ). bytes_eq f (codes "$End" ++ name)) (sym e) ∙ bytes_eq-append word rest (codes "$End") name len

-- a row that begins with a word of `$` is no other row
pub dollar_of_word : (word : List ℕ) (row : Row) → is_word (36 ∷ word) row ≡ true → is_dollar row ≡ true
unfolding is_word is_dollar
dollar_of_word word [] e = absurd cc
dollar_of_word word (field ∷ fields) e = let same = bytes_eq-true field (36 ∷ word) e in rw same refl

pub no_word : (word : List ℕ) (row : Row) → is_dollar row ≡ false → is_word (36 ∷ word) row ≡ false
no_word word row d = false_from _ (λ e. let t = dollar_of_word word row e in absurd cc)
