-- The relative moves in the halves of an interval.
use Rattle.std.proofs.Common.{◌≡◌, ℕ, ◌+◌, ◌*◌, ℤ, pos, ◌+ℤ◌, ◌-ℤ◌, ◌*ℤ◌, List, [], ◌∷◌, map, refl, sym, subst, arith}
use Rattle.space3.specs.Vectors.{vector, multiple, sum_of}
use Rattle.whole_laws.proofs.Ring.{ring, v, num, ◌⊕◌, ◌⊖◌, ◌⊗◌}
use Rattle.safe_motion.specs.declared.motion.Move.{Move}
use Rattle.safe_motion.specs.Moments.{place_at}
use Rattle.safe_motion.proofs.Ends.{place-start, place-end}
use Rattle.pair_cert.specs.declared.moves.Half.TheVariants.{First, Second}
use Rattle.pair_cert.specs.Calls.Moves.{moves_within, relative_moves, within_interval}
use Rattle.pair_cert.specs.Calls.Halves.{half_of}

place-double : (j n : ℕ) (m : Move) → place_at (2 * j) (2 * n) m ≡ multiple (pos 2) (place_at j n m)
place-double j n m = λ i. vector (each m.start.x m.end.x i) (each m.start.y m.end.y i) (each m.start.z m.end.z i)
  where
    each : (a b : ℤ) → (pos (2 * n) -ℤ pos (2 * j)) *ℤ a +ℤ pos (2 * j) *ℤ b ≡ pos 2 *ℤ ((pos n -ℤ pos j) *ℤ a +ℤ pos j *ℤ b)
    each a b = ring (pos j ∷ pos n ∷ a ∷ b ∷ []) ((num (pos 2) ⊗ v 1 ⊖ num (pos 2) ⊗ v 0) ⊗ v 2 ⊕ num (pos 2) ⊗ v 0 ⊗ v 3) (num (pos 2) ⊗ ((v 1 ⊖ v 0) ⊗ v 2 ⊕ v 0 ⊗ v 3)) tt

place-middle : (j n : ℕ) (m : Move) → place_at (2 * j + 1) (2 * n) m ≡ sum_of (place_at j n m) (place_at (j + 1) n m)
place-middle j n m = λ i. vector (each m.start.x m.end.x i) (each m.start.y m.end.y i) (each m.start.z m.end.z i)
  where
    each : (a b : ℤ) → (pos (2 * n) -ℤ pos (2 * j + 1)) *ℤ a +ℤ pos (2 * j + 1) *ℤ b ≡ ((pos n -ℤ pos j) *ℤ a +ℤ pos j *ℤ b) +ℤ ((pos n -ℤ pos (j + 1)) *ℤ a +ℤ pos (j + 1) *ℤ b)
    each a b =
        let q = num (pos 2) ⊗ v 1 in
        let p = num (pos 2) ⊗ v 0 ⊕ num (pos 1) in
        let next = v 0 ⊕ num (pos 1) in
        ring (pos j ∷ pos n ∷ a ∷ b ∷ []) ((q ⊖ p) ⊗ v 2 ⊕ p ⊗ v 3) (((v 1 ⊖ v 0) ⊗ v 2 ⊕ v 0 ⊗ v 3) ⊕ ((v 1 ⊖ next) ⊗ v 2 ⊕ next ⊗ v 3)) tt

place-next : (j n : ℕ) (m : Move) → place_at (2 * j + 1 + 1) (2 * n) m ≡ multiple (pos 2) (place_at (j + 1) n m)
place-next j n m = subst (λ (k : ℕ). place_at k (2 * n) m ≡ multiple (pos 2) (place_at (j + 1) n m)) (next j) (place-double (j + 1) n m)
  where
    next : (j : ℕ) → 2 * (j + 1) ≡ 2 * j + 1 + 1
    next j = omega arith

mapped : (f g h : Move → Move) → ((m : Move) → f (g m) ≡ h m) → (moves : List Move) → map f (map g moves) ≡ map h moves
mapped f g h e [] = refl
mapped f g h e (m ∷ ms) = λ i. e m i ∷ mapped f g h e ms i

pub moves-first_half : (xs ys : List Move) (j n : ℕ) → map (half_of First) (moves_within xs ys j n) ≡ moves_within xs ys (2 * j) (2 * n)
moves-first_half xs ys j n =
    mapped (half_of First) (within_interval j n) (within_interval (2 * j) (2 * n)) (λ m. sym (λ i. record { start = place-double j n m i; end = place-middle j n m i })) (relative_moves xs ys)

pub moves-second_half : (xs ys : List Move) (j n : ℕ) → map (half_of Second) (moves_within xs ys j n) ≡ moves_within xs ys (2 * j + 1) (2 * n)
moves-second_half xs ys j n =
    mapped (half_of Second) (within_interval j n) (within_interval (2 * j + 1) (2 * n)) (λ m. sym (λ i. record { start = place-middle j n m i; end = place-next j n m i })) (relative_moves xs ys)

-- those of the whole step
pub moves-whole : (xs ys : List Move) → relative_moves xs ys ≡ moves_within xs ys 0 1
moves-whole xs ys = same (relative_moves xs ys)
  where
    same : (moves : List Move) → moves ≡ map (within_interval 0 1) moves
    same [] = refl
    same (m ∷ ms) = let e : within_interval 0 1 m ≡ m = λ i. record { start = place-start m i; end = place-end m i } in λ i. sym e i ∷ same ms i
