-- The shift of slopes, and the sizes that it leaves.
use Rattle.std.proofs.Common.{◌≡◌, ℕ, ◌+◌, ◌*◌, ◌≤◌, ◌<◌, ◌^◌, ℤ, pos, negsuc, neg_ℤ, ◌*ℤ◌, ◌≤ℤ◌, ◌<ℤ◌, unsigned_abs, max, List, length, take, get_or, arith, subst, sym}
use Rattle.std.proofs.lemmas.Int.{ints}
use Rattle.std.proofs.lemmas.Nat.{pow-add, pow_pos}
use Rattle.std.proofs.lemmas.List.Elements.{All-more, All-weaker}
use Rattle.list_laws.proofs.Elements.{All-take_at, All-take_less}
use Rattle.whole_laws.proofs.Floors.{floor_below, floor_least}
use Rattle.num_q.specs.Rounding.{floor_of}
use Rattle.sparse_cg.specs.Systems.{IsShift}
use Rattle.sparse_cg.specs.Calls.Lists.{IsGreatest, size_of}

-- one slope more
pub greatest_more : (slopes : List ℤ) (i most size after : ℕ) → i < length slopes → IsGreatest (take i slopes) most → size ≡ size_of (get_or slopes i (pos 0)) → after ≡ max size most → IsGreatest (take (i + 1) slopes) after
greatest_more slopes i most size after there h is e = record {
  above = All-more (λ s. size_of s ≤ after) slopes i (pos 0) there (All-weaker (λ s. size_of s ≤ most) (λ s. size_of s ≤ after) (λ s le. omega arith) (take i slopes) h.above) (omega arith);
  least = λ bound positive below.
      let here : size_of (get_or slopes i (pos 0)) < bound = All-take_at (λ s. size_of s < bound) slopes i (i + 1) (pos 0) (omega arith) (omega arith) below in
      let others : most < bound = h.least bound positive (All-take_less (λ s. size_of s < bound) slopes i (i + 1) (omega arith) below) in
      omega arith;
}

-- the least shift of the greatest size is that of the slopes
pub shift_is : (slopes : List ℤ) (most shift : ℕ) → IsGreatest slopes most → most < 2 ^ (40 + shift) → ((lesser : ℕ) → lesser < shift → 2 ^ (40 + lesser) ≤ most) → IsShift slopes shift
shift_is slopes most shift h fits least = record {
  fits = All-weaker (λ s. size_of s ≤ most) (λ s. size_of s < 2 ^ (40 + shift)) (λ s le. omega arith) slopes h.above;
  least = λ lesser less fit. contrary most (2 ^ (40 + lesser)) (least lesser less) (h.least (2 ^ (40 + lesser)) (pow_pos (40 + lesser)) fit);
}
  where
    contrary : (a b : ℕ) → b ≤ a → a < b → ⊥
    contrary a b h k = omega arith

-- a number of the right side has 40 bits
within : (z : ℤ) (d : ℕ) → 0 < d → unsigned_abs z < 1099511627776 * d → unsigned_abs (floor_of (neg_ℤ z) (pos d)) < 2 ^ 44
within z d positive h =
    let above : pos 0 <ℤ pos d = omega (arith, ints) in
    let low : (pos d *ℤ negsuc 1099511627775) ≤ℤ neg_ℤ z = omega (arith, ints) in
    let high : neg_ℤ z <ℤ (pos d *ℤ pos 1099511627776) = omega (arith, ints) in
    bounded (floor_of (neg_ℤ z) (pos d)) (floor_least (neg_ℤ z) (pos d) (negsuc 1099511627775) above low) (floor_below (neg_ℤ z) (pos d) (pos 1099511627776) above high)
  where
    bounded : (q : ℤ) → negsuc 1099511627775 ≤ℤ q → q <ℤ pos 1099511627776 → unsigned_abs q < 2 ^ 44
    bounded q h k = omega (arith, ints)

pub target_short : (shift : ℕ) (z q : ℤ) → unsigned_abs z < 2 ^ (40 + shift) → q ≡ floor_of (neg_ℤ z) (pos (2 ^ shift)) → unsigned_abs q < 2 ^ 44
target_short shift z q h e = subst (λ (y : ℤ). unsigned_abs y < 2 ^ 44) (sym e) (within z (2 ^ shift) (pow_pos shift) (omega (arith, pow-add 2 40 shift)))
