-- Room for halvings.
use Rattle.std.proofs.Common.{◌≡◌, ℕ, suc, ◌+◌, ◌-◌, ◌*◌, ◌^◌, ◌≤◌, ℤ, pos, ◌+ℤ◌, ◌-ℤ◌, ◌*ℤ◌, List, map, unsigned_abs, sym, subst, arith, lit<, pow-suc}
use Rattle.std.specs.Prelude.{All}
use Rattle.std.proofs.Math.Nat.{one-le-pow, mul-le-mul_left, mul-le-mul_right}
use Rattle.std.proofs.lemmas.Int.{unsigned_abs-mul}
use Rattle.std.proofs.lemmas.List.Elements.{All-map, All-weaker}
use Rattle.space3.specs.declared.vectors.V3.{V3}
use Rattle.space3.specs.Vectors.{AtMost, Within, difference, multiple, sum_of}
use Rattle.whole_laws.proofs.Order.{size_diff, size_sum}
use Rattle.safe_motion.specs.declared.depth.TheConstants.{DEPTH}
use Rattle.safe_motion.specs.declared.motion.Move.{Move}
use Rattle.pair_cert.specs.declared.moves.Half.{Half}
use Rattle.pair_cert.specs.declared.moves.Half.TheVariants.{First, Second}
use Rattle.pair_cert.specs.Calls.Moves.{HasRoom, IsNear, IsShort, relative_move}
use Rattle.pair_cert.specs.Calls.Halves.{half_of}

-- the difference of two points in the box has room for all halvings
pub relative_room : (x y : Move) → IsNear x → IsNear y → HasRoom DEPTH (relative_move x y)
relative_room x y h k = record { start = apart x.start y.start h.start k.start; end = apart x.end y.end h.end k.end }
  where
    each : (a b : ℤ) → AtMost (2 ^ 20) a → AtMost (2 ^ 20) b → AtMost (2 ^ 29) (pos (2 ^ 8) *ℤ (a -ℤ b))
    each a b h k = record { bound = omega (arith, unsigned_abs-mul (pos (2 ^ 8)) (a -ℤ b), size_diff a b, h.bound, k.bound) }

    apart : (a b : V3) → Within (2 ^ 20) a → Within (2 ^ 20) b → Within (2 ^ 29) (multiple (pos (2 ^ 8)) (difference a b))
    apart a b h k = record { x = each a.x b.x h.x k.x; y = each a.y b.y h.y k.y; z = each a.z b.z h.z k.z }

-- k times the number is within 2^29
abbrev Fits : ℕ → ℤ → Type 0
Fits k a = AtMost (2 ^ 29) (pos k *ℤ a)

size_of : (k : ℕ) (a : ℤ) → Fits k a → k * unsigned_abs a ≤ 2 ^ 29
size_of k a h = omega (arith, unsigned_abs-mul (pos k) a, h.bound)

fits : (k : ℕ) (a : ℤ) → k * unsigned_abs a ≤ 2 ^ 29 → Fits k a
fits k a h = record { bound = omega (arith, unsigned_abs-mul (pos k) a) }

-- it is so for a lesser factor
fits_less : (k m : ℕ) (a : ℤ) → k ≤ m → Fits m a → Fits k a
fits_less k m a l h = fits k a (omega (arith, mul-le-mul_right (unsigned_abs a) l, size_of m a h))

vector_less : (k m : ℕ) (a : V3) → k ≤ m → Within (2 ^ 29) (multiple (pos m) a) → Within (2 ^ 29) (multiple (pos k) a)
vector_less k m a l h = record { x = fits_less k m a.x l h.x; y = fits_less k m a.y l h.y; z = fits_less k m a.z l h.z }

once : (a : V3) → Within (2 ^ 29) (multiple (pos 1) a) → Within (2 ^ 29) a
once a h = record { x = one a.x h.x; y = one a.y h.y; z = one a.z h.z }
  where
    one : (a : ℤ) → Fits 1 a → AtMost (2 ^ 29) a
    one a h = record { bound = omega (arith, size_of 1 a h) }

-- the rows of a plane decision
pub short_now : (depth : ℕ) (moves : List Move) → All (HasRoom depth) moves → All IsShort moves
short_now depth moves h = All-weaker (HasRoom depth) IsShort (λ m r. record { start = once m.start (vector_less 1 (2 ^ depth) m.start some r.start); end = once m.end (vector_less 1 (2 ^ depth) m.end some r.end) }) moves h
  where
    some : 1 ≤ 2 ^ depth
    some = one-le-pow depth 2 (lit< tt)

-- what has room for some halvings has room for one
pub room_for_one : (depth : ℕ) (moves : List Move) → (depth ≡ 0 → ⊥) → All (HasRoom depth) moves → All (HasRoom 1) moves
room_for_one depth moves h r = All-weaker (HasRoom depth) (HasRoom 1) (λ m r. record { start = vector_less 2 (2 ^ depth) m.start some r.start; end = vector_less 2 (2 ^ depth) m.end some r.end }) moves r
  where
    double : (d p q : ℕ) → p ≡ q * 2 → 1 ≤ q → 2 ≤ p
    double d p q e h = omega arith

    less : (depth : ℕ) → (depth ≡ 0 → ⊥) → depth ≡ suc (depth - 1)
    less depth h = omega arith

    some : 2 ≤ 2 ^ depth
    some = subst (λ n. 2 ≤ 2 ^ n) (sym (less depth h)) (double depth (2 ^ suc (depth - 1)) (2 ^ (depth - 1)) (pow-suc 2 (depth - 1)) (one-le-pow (depth - 1) 2 (lit< tt)))

-- twice a vector, and the sum of two
twice : (d : ℕ) (a : V3) → Within (2 ^ 29) (multiple (pos (2 ^ suc d)) a) → Within (2 ^ 29) (multiple (pos (2 ^ d)) (multiple (pos 2) a))
twice d a h = record { x = each a.x h.x; y = each a.y h.y; z = each a.z h.z }
  where
    doubled : (t p u v : ℕ) → p ≡ t * 2 → v ≡ 2 * u → p * u ≤ 2 ^ 29 → t * v ≤ 2 ^ 29
    doubled t p u v e f h = let g : (t * 2) * u ≤ 2 ^ 29 = subst (λ q. q * u ≤ 2 ^ 29) e h in rw f (omega (arith, g))

    each : (a : ℤ) → Fits (2 ^ suc d) a → Fits (2 ^ d) (pos 2 *ℤ a)
    each a h = fits (2 ^ d) (pos 2 *ℤ a) (doubled (2 ^ d) (2 ^ suc d) (unsigned_abs a) (unsigned_abs (pos 2 *ℤ a)) (pow-suc 2 d) (unsigned_abs-mul (pos 2) a) (size_of (2 ^ suc d) a h))

middle : (d : ℕ) (a b : V3) → Within (2 ^ 29) (multiple (pos (2 ^ suc d)) a) → Within (2 ^ 29) (multiple (pos (2 ^ suc d)) b) → Within (2 ^ 29) (multiple (pos (2 ^ d)) (sum_of a b))
middle d a b h k = record { x = each a.x b.x h.x k.x; y = each a.y b.y h.y k.y; z = each a.z b.z h.z k.z }
  where
    halved : (t p u v w : ℕ) → p ≡ t * 2 → w ≤ u + v → p * u ≤ 2 ^ 29 → p * v ≤ 2 ^ 29 → t * w ≤ 2 ^ 29
    halved t p u v w e l h k =
        let g : (t * 2) * u ≤ 2 ^ 29 = subst (λ q. q * u ≤ 2 ^ 29) e h in
        let m : (t * 2) * v ≤ 2 ^ 29 = subst (λ q. q * v ≤ 2 ^ 29) e k in
        omega (arith, g, m, mul-le-mul_left t l)

    each : (a b : ℤ) → Fits (2 ^ suc d) a → Fits (2 ^ suc d) b → Fits (2 ^ d) (a +ℤ b)
    each a b h k = fits (2 ^ d) (a +ℤ b) (halved (2 ^ d) (2 ^ suc d) (unsigned_abs a) (unsigned_abs b) (unsigned_abs (a +ℤ b)) (pow-suc 2 d) (size_sum a b) (size_of (2 ^ suc d) a h) (size_of (2 ^ suc d) b k))

-- a half has room for one less
half_room : (d : ℕ) (half : Half) (m : Move) → HasRoom (suc d) m → HasRoom d (half_of half m)
half_room d First m r = record { start = twice d m.start r.start; end = middle d m.start m.end r.start r.end }
half_room d Second m r = record { start = middle d m.start m.end r.start r.end; end = twice d m.end r.end }

pub halves_room : (depth : ℕ) (half : Half) (moves : List Move) → (depth ≡ 0 → ⊥) → All (HasRoom depth) moves → All (HasRoom (depth - 1)) (map (half_of half) moves)
halves_room depth half moves h r =
    All-map (HasRoom (depth - 1)) (half_of half) moves
    (All-weaker (HasRoom depth) (λ m. HasRoom (depth - 1) (half_of half m)) (λ m s. half_room (depth - 1) half m (subst (λ n. HasRoom n m) (less depth h) s)) moves r)
  where
    less : (depth : ℕ) → (depth ≡ 0 → ⊥) → depth ≡ suc (depth - 1)
    less depth h = omega arith
