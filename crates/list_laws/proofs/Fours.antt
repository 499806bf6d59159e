-- Lists of four elements.
use Rattle.std.proofs.Common.{◌≡◌, List, [], ◌∷◌, map, length, get_or, refl, arith}

pub four_of : {A : Type 0} (xs : List A) → length xs ≡ 4 → (a : A) × (b : A) × (c : A) × (d : A) × (xs ≡ a ∷ b ∷ c ∷ d ∷ [])
four_of [] e = absurd (omega arith)
four_of (a ∷ []) e = absurd (omega arith)
four_of (a ∷ b ∷ []) e = absurd (omega arith)
four_of (a ∷ b ∷ c ∷ []) e = absurd (omega arith)
four_of (a ∷ b ∷ c ∷ d ∷ []) e = (a, b, c, d, refl)
four_of (a ∷ b ∷ c ∷ d ∷ f ∷ xs) e = absurd (omega arith)

pub map-four : {A B : Type 0} (f : A → B) (xs : List A) (d : A) → length xs ≡ 4 → map f xs ≡ f (get_or xs 0 d) ∷ f (get_or xs 1 d) ∷ f (get_or xs 2 d) ∷ f (get_or xs 3 d) ∷ []
map-four f [] d e = absurd (omega arith)
map-four f (a ∷ []) d e = absurd (omega arith)
map-four f (a ∷ b ∷ []) d e = absurd (omega arith)
map-four f (a ∷ b ∷ c ∷ []) d e = absurd (omega arith)
map-four f (a ∷ b ∷ c ∷ k ∷ []) d e = refl
map-four f (a ∷ b ∷ c ∷ k ∷ x ∷ xs) d e = absurd (omega arith)

pub four : {A : Type 0} {a b c d p q r s : A} → a ≡ p → b ≡ q → c ≡ r → d ≡ s → (a ∷ b ∷ c ∷ d ∷ []) ≡ p ∷ q ∷ r ∷ s ∷ []
four e f g h i = e i ∷ f i ∷ g i ∷ h i ∷ []
