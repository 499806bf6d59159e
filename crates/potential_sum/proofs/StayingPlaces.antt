-- Places haven't moved from where they are.
use Rattle.std.proofs.Common.{◌≡◌, ◌∙◌, ◌&&◌, ℕ, ℤ, true, List, [], ◌∷◌, arith, refl, ap}
use Rattle.std.proofs.lemmas.Int.{ints}
use Rattle.space3.specs.declared.vectors.V3.{V3}
use Rattle.broad_grid.specs.Kept.{differ_by_at_most, has_stayed, have_stayed}

no_difference : (margin : ℕ) (a : ℤ) → differ_by_at_most margin a a ≡ true
no_difference margin a = grind (arith, ints)

stays : (margin : ℕ) (p : V3) → has_stayed margin p p ≡ true
stays margin p = λ i. no_difference margin p.x i && no_difference margin p.y i && no_difference margin p.z i

pub all_stay : (margin : ℕ) (places : List V3) → have_stayed margin places places ≡ true
all_stay margin [] = refl
all_stay margin (p ∷ ps) = λ i. stays margin p i && all_stay margin ps i

-- the same of places that are known to be others
pub stay_where_they_are : (margin : ℕ) (places x : List V3) → places ≡ x → have_stayed margin places x ≡ true
stay_where_they_are margin places x e = ap (λ ps. have_stayed margin ps x) e ∙ all_stay margin x
