-- Pairs of points that may be nearest, and which of them is taken.
use Rattle.std.specs.Prelude.{◌≡◌, ℕ, ℤ, pos, ◌*ℤ◌, ◌≤ℤ◌, ◌<ℤ◌, Bool, true, ◌&&◌, int_le, int_lt, List, ◌++◌, take, filter, find, slice_get, All, Option, Some, None, IfSome}
use Rattle.std.specs.List.{list_all}

-- A point of each of two parts, as weights over `den` on the points of the part: the points that are listed have one, the
-- others have none. The squared distance of the two is num / den.
pub record Candidate : Type 0 where
  pub left : List (Option ℤ)
  pub right : List (Option ℤ)
  pub num : ℤ
  pub den : ℤ

abbrev pub IsPositive : ℤ → Type 0
IsPositive z = pos 0 <ℤ z

-- the weight of a listed point is positive
abbrev pub IsPositiveIfListed : Option ℤ → Type 0
IsPositiveIfListed weight = IfSome weight IsPositive

-- the denominator and all weights of listed points are positive
pub record IsValid (c : Candidate) : Type 0 where
  pub divisor : IsPositive c.den
  pub weights : All IsPositiveIfListed (c.left ++ c.right)

-- the first has no greater distance than the second
abbrev pub IsAtMost : Candidate → Candidate → Type 0
IsAtMost c other = (c.num *ℤ other.den) ≤ℤ (other.num *ℤ c.den)

-- the first has a smaller distance than the second
abbrev pub IsBelow : Candidate → Candidate → Type 0
IsBelow c other = (c.num *ℤ other.den) <ℤ (other.num *ℤ c.den)

-- the first of the valid candidates in the list whose distance is least among them
pub record IsFirstLeast (candidates : List Candidate) (c : Candidate) : Type 0 where
  pub place : ℕ
  pub there : slice_get candidates place ≡ Some c
  pub valid : IsValid c
  pub least : All (λ other. IsValid other → IsAtMost c other) candidates
  pub first : All (λ other. IsValid other → IsBelow c other) (take place candidates)

-- the same as tests
abbrev pub is_positive_if_listed : Option ℤ → Bool
is_positive_if_listed (Some weight) = int_lt (pos 0) weight
is_positive_if_listed None = true

abbrev pub is_valid : Candidate → Bool
is_valid c = int_lt (pos 0) c.den && list_all is_positive_if_listed (c.left ++ c.right)

abbrev pub is_at_most : Candidate → Candidate → Bool
is_at_most c other = int_le (c.num *ℤ other.den) (other.num *ℤ c.den)

-- the first of the valid candidates than which none of them has a smaller distance
abbrev pub nearest_in : List Candidate → Option Candidate
nearest_in candidates =
    let valid = filter is_valid candidates in find (λ c. list_all (is_at_most c) valid) valid
