-- From a candidate that is a bound to the one that is taken, and from weights of lists to weights of places.
use Rattle.std.proofs.Common.{◌≡◌, ℕ, ◌+◌, ℤ, pos, ◌-ℤ◌, ◌<ℤ◌, List, [], ◌∷◌, ◌++◌, length, refl, arith}
use Rattle.std.proofs.lemmas.Int.{ints}
use Rattle.std.specs.List.{All, sum}
use Rattle.std.specs.Prelude.{Option}
use Rattle.std.proofs.lemmas.List.Elements.{All-nil, All-cons}
use Rattle.space3.specs.declared.vectors.V3.{V3}
use Rattle.whole_laws.proofs.Order.{nonneg_of_pos}
use Rattle.list_laws.proofs.Sums.{sum_head}
use Rattle.nearest.specs.Candidates.{Candidate, IsPositiveIfListed, IsValid, IsAtMost}
use Rattle.nearest.proofs.LowerBounds.{IsUnder, lesser_under}
use Rattle.nearest.proofs.Segment.{Nearest, by_foot, by_start, by_end}
use Rattle.space3.specs.Vectors.{difference, squared_length}
use Rattle.nearest.specs.Feet.{foot_on}

-- the positive weights, as a tuple on a list that is written out
abbrev pub AreListed : List (Option ℤ) → Type 0
AreListed [] = Unit {0}
AreListed (w ∷ ws) = IsPositiveIfListed w × AreListed ws

all_listed : (ws : List (Option ℤ)) → AreListed ws → All IsPositiveIfListed ws
all_listed [] h = All-nil IsPositiveIfListed
all_listed (w ∷ ws) h = All-cons IsPositiveIfListed w ws h.0 (all_listed ws h.1)

pub valid_by : (c : Candidate) → pos 0 <ℤ c.den → AreListed (c.left ++ c.right) → IsValid c
valid_by c h each = record { divisor = h; weights = all_listed (c.left ++ c.right) each }

-- what is a bound by another candidate is one by the candidate with no greater distance
pub taken : (k other : Candidate) (S dist : ℤ) → IsValid k → (IsValid other → IsAtMost k other) → IsValid other → IsUnder other.num other.den S dist → IsUnder k.num k.den S dist
taken k other S dist hk lesser ho u = lesser_under k.num k.den other.num other.den S dist (nonneg_of_pos k.den hk.divisor) ho.divisor (lesser ho) u

-- the three candidates of a point and a segment
pub by_segment : {P : Type 0} (p s t : V3) (S dist : ℤ) →
    (pos 0 <ℤ (foot_on p s t).start → pos 0 <ℤ (foot_on p s t).end → pos 0 <ℤ (foot_on p s t).den → IsUnder (foot_on p s t).num (foot_on p s t).den S dist → P) →
    (IsUnder (squared_length (difference p s)) (pos 1) S dist → P) → (IsUnder (squared_length (difference p t)) (pos 1) S dist → P) → Nearest p s t S dist → P
by_segment p s t S dist f g h (by_foot x y u) = f x y (total _ _ x y) u
  where
    total : (a b : ℤ) → pos 0 <ℤ (a -ℤ b) → pos 0 <ℤ b → pos 0 <ℤ a
    total a b h k = omega (arith, ints)
by_segment p s t S dist f g h (by_start u) = g u
by_segment p s t S dist f g h (by_end u) = h u

pub one_positive : pos 0 <ℤ pos 1
one_positive = omega (arith, ints)

-- ---- lists of one, two and three weights
pub one_of : (ls : List ℕ) → length ls ≡ 1 → (l : ℕ) × (ls ≡ l ∷ [])
one_of [] e = absurd (omega arith)
one_of (l ∷ []) e = (l, refl)
one_of (l ∷ m ∷ ls) e = absurd (omega arith)

pub two_of : (ls : List ℕ) → length ls ≡ 2 → (i : ℕ) × (j : ℕ) × (ls ≡ i ∷ j ∷ [])
two_of [] e = absurd (omega arith)
two_of (i ∷ []) e = absurd (omega arith)
two_of (i ∷ j ∷ []) e = (i, j, refl)
two_of (i ∷ j ∷ l ∷ ls) e = absurd (omega arith)

pub three_of : (ls : List ℕ) → length ls ≡ 3 → (i : ℕ) × (j : ℕ) × (m : ℕ) × (ls ≡ i ∷ j ∷ m ∷ [])
three_of [] e = absurd (omega arith)
three_of (i ∷ []) e = absurd (omega arith)
three_of (i ∷ j ∷ []) e = absurd (omega arith)
three_of (i ∷ j ∷ m ∷ []) e = (i, j, m, refl)
three_of (i ∷ j ∷ m ∷ l ∷ ls) e = absurd (omega arith)

pub sum_one : (l : ℕ) → sum (l ∷ []) ≡ l
sum_one l = omega (arith, sum_head l [])

pub sum_two : (i j : ℕ) → sum (i ∷ j ∷ []) ≡ i + j
sum_two i j = omega (arith, sum_head i (j ∷ []), sum_one j)

pub sum_three : (i j m : ℕ) → sum (i ∷ j ∷ m ∷ []) ≡ i + j + m
sum_three i j m = omega (arith, sum_head i (j ∷ m ∷ []), sum_two j m)
