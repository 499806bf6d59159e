-- The first least candidate is the one that the search in a list finds.
use Rattle.std.proofs.Common.{◌≡◌, ℤ, pos, ◌*ℤ◌, ◌≤ℤ◌, ◌<ℤ◌, Bool, true, false, List, take, refl, arith}
use Rattle.std.specs.Prelude.{Option, Some, None, int_le, int_lt, ◌++◌}
use Rattle.std.specs.List.{filter, list_all}
use Rattle.std.proofs.lemmas.Int.{ints}
use Rattle.std.proofs.lemmas.Bool.{and_from, and_parts}
use Rattle.std.proofs.lemmas.List.Elements.{All-weaker}
use Rattle.std.proofs.lemmas.List.Sums.{list_all-from_AllPass}
use Rattle.list_laws.proofs.Searches.{all_pass}
use Rattle.list_laws.proofs.FilteredSearches.{all_filtered, one_filtered_fails, found_filtered}
use Rattle.nearest.specs.Candidates.{Candidate, IsPositiveIfListed, IsValid, IsAtMost, IsBelow, IsFirstLeast, is_positive_if_listed, is_valid, is_at_most, nearest_in}

-- facts and tests of them
positive_tested : (z : ℤ) → pos 0 <ℤ z → int_lt (pos 0) z ≡ true
positive_tested z h = grind (arith, ints)

positive_said : (z : ℤ) → int_lt (pos 0) z ≡ true → pos 0 <ℤ z
positive_said z e = grind (arith, ints)

at_most_tested : (a b : ℤ) → a ≤ℤ b → int_le a b ≡ true
at_most_tested a b h = grind (arith, ints)

below_tested : (a b : ℤ) → a <ℤ b → int_le b a ≡ false
below_tested a b h = grind (arith, ints)

weight_tested : (weight : Option ℤ) → IsPositiveIfListed weight → is_positive_if_listed weight ≡ true
weight_tested None h = refl
weight_tested (Some weight) h = positive_tested weight h

weight_said : (weight : Option ℤ) → is_positive_if_listed weight ≡ true → IsPositiveIfListed weight
weight_said None e = tt
weight_said (Some weight) e = positive_said weight e

pub valid_tested : (k : Candidate) → IsValid k → is_valid k ≡ true
valid_tested k valid = and_from (int_lt (pos 0) k.den) _ (positive_tested k.den valid.divisor)
    (list_all-from_AllPass is_positive_if_listed (k.left ++ k.right)
    (All-weaker IsPositiveIfListed (λ weight. is_positive_if_listed weight ≡ true) weight_tested (k.left ++ k.right) valid.weights))

pub valid_said : (k : Candidate) → is_valid k ≡ true → IsValid k
valid_said k e = let both = and_parts (int_lt (pos 0) k.den) _ e in record {
  divisor = positive_said k.den both.0;
  weights = all_pass is_positive_if_listed IsPositiveIfListed weight_said (k.left ++ k.right) both.1;
}

-- of each candidate: that none of the valid ones is nearer, as a test
abbrev least_of_valid : List Candidate → Candidate → Bool
least_of_valid candidates c = list_all (is_at_most c) (filter is_valid candidates)

pub first_found : (candidates : List Candidate) (k : Candidate) → IsFirstLeast candidates k → nearest_in candidates ≡ Some k
first_found candidates k first =
    found_filtered is_valid (least_of_valid candidates) candidates first.place k first.there valid
    (all_filtered is_valid (is_at_most k) candidates
    (All-weaker (λ other. IsValid other → IsAtMost k other) (λ other. is_valid other ≡ true → is_at_most k other ≡ true)
    (λ other least e. at_most_tested (k.num *ℤ other.den) (other.num *ℤ k.den) (least (valid_said other e))) candidates first.least))
    (All-weaker (λ other. IsValid other → IsBelow k other) (λ other. is_valid other ≡ true → least_of_valid candidates other ≡ false) farther (take first.place candidates) first.first)
  where
    valid : is_valid k ≡ true
    valid = valid_tested k first.valid

    farther : (other : Candidate) → (IsValid other → IsBelow k other) → is_valid other ≡ true → least_of_valid candidates other ≡ false
    farther other below e =
        one_filtered_fails is_valid (is_at_most other) candidates first.place k first.there valid
        (below_tested (k.num *ℤ other.den) (other.num *ℤ k.den) (below (valid_said other e)))
