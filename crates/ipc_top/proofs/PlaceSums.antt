-- The sum of places, one after another.
use Rattle.std.proofs.Common.{◌≡◌, ◌∙◌, ℕ, ◌+◌, ◌*◌, ℤ, ◌+ℤ◌, List, [], ◌∷◌, ◌++◌, take, slice_get, Some, refl, ap, sym, subst, arith}
use Rattle.std.specs.List.{fold}
use Rattle.std.proofs.lemmas.Int.{ints}
use Rattle.std.proofs.lemmas.List.{take_more}
use Rattle.std.proofs.lemmas.List.Sums.{fold-append}
use Rattle.std.proofs.lemmas.Option.{get_or_from_slice_get, slice_get_within}
use Rattle.space3.specs.declared.vectors.V3.{V3}
use Rattle.space3.specs.Box.{IsInTheBox}
use Rattle.space3.specs.Vectors.{AtMost, Within, origin, sum_of}

-- the sum of the first places, which is small
pub record SumSoFar (places : List V3) (count : ℕ) (sum : V3) : Type 0 where
  pub value : sum ≡ fold sum_of origin (take count places)
  pub small : Within (count * 1048576) sum

pub no_sum : (places : List V3) → SumSoFar places 0 origin
no_sum places = record { value = refl; small = record { x = record { bound = omega arith }; y = record { bound = omega arith }; z = record { bound = omega arith } } }

component : (count : ℕ) (a b : ℤ) → AtMost (count * 1048576) a → AtMost 1048576 b → AtMost ((count + 1) * 1048576) (a +ℤ b)
component count a b h k = let p = h.bound in let q = k.bound in record { bound = omega (arith, ints) }

-- one place more
pub sum_more : (places : List V3) (count : ℕ) (sum place next : V3) → SumSoFar places count sum → slice_get places count ≡ Some place → IsInTheBox place → next ≡ sum_of sum place → SumSoFar places (count + 1) next
sum_more places count sum place next h there inside is = subst (SumSoFar places (count + 1)) (sym is)
    (record {
      value = ap (λ s. sum_of s place) h.value ∙ sym (ap (fold sum_of origin) (more places count place there) ∙ fold-append sum_of origin (take count places) (place ∷ []));
      small = record {
        x = component count sum.x place.x h.small.x inside.x;
        y = component count sum.y place.y h.small.y inside.y;
        z = component count sum.z place.z h.small.z inside.z;
      };
    })
  where
    more : (places : List V3) (count : ℕ) (place : V3) → slice_get places count ≡ Some place → take (count + 1) places ≡ take count places ++ place ∷ []
    more places count place there =
        take_more places count origin (slice_get_within places count place there) ∙ ap (λ (p : V3). take count places ++ p ∷ []) (get_or_from_slice_get places count place origin there)
