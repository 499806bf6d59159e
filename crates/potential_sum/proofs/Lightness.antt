-- How great sums of pulls are.
use Rattle.std.proofs.Common.{◌≡◌, ℕ, suc, ◌+◌, ◌-◌, ◌*◌, ◌^◌, ◌≤◌, pos, List, [], ◌∷◌, length, set, get_or, take, replicate, refl, subst, sym, arith}
use Rattle.std.specs.Prelude.{All}
use Rattle.std.proofs.lemmas.List.{length-take}
use Rattle.std.proofs.lemmas.List.Elements.{All-head, All-replicate, All-tail, All-set, All-take, All-weaker}
use Rattle.list_laws.proofs.Elements.{at_any}
use Rattle.space3.specs.declared.vectors.W3.{W3}
use Rattle.space3.specs.Vectors.{AtMost, Within}
use Rattle.space3.specs.Wide.{unbounded}
use Rattle.space3.proofs.Bounds.{within_more, within-sum}
use Rattle.potential_sum.specs.declared.pulls.Pull.{Pull}
use Rattle.potential_sum.specs.Contributions.{Contribution}
use Rattle.potential_sum.specs.Calls.Sums.{AreLight, nothing, pulls_of, wide_sum, with_parts, with_pulls}

abbrev IsLight : ℕ → W3 → Type 0
IsLight most sum = Within most (unbounded sum)

abbrev pub IsWeak : Pull → Type 0
IsWeak pull = Within (2 ^ 90) (unbounded pull.force)

none : (most : ℕ) → IsLight most nothing
none most = record { x = zero; y = zero; z = zero }
  where
    zero : AtMost most (pos 0)
    zero = record { bound = omega arith }

pub lighter : (m n : ℕ) (sums : List W3) → m ≤ n → AreLight m sums → AreLight n sums
lighter m n sums l h = All-weaker (IsLight m) (IsLight n) (λ sum k. within_more m n (unbounded sum) k l) sums h

-- a pull adds its own size, at most
pub with_pulls-light : (most : ℕ) (sums : List W3) (pulls : List Pull) → All IsWeak pulls → AreLight most sums → AreLight (most + length pulls * 2 ^ 90) (with_pulls sums pulls)
with_pulls-light most sums [] h k = lighter most (most + 0 * 2 ^ 90) sums (omega arith) k
with_pulls-light most sums (p ∷ ps) h k =
    subst (λ (m : ℕ). AreLight m (with_pulls sums (p ∷ ps))) (count most (length ps))
    (with_pulls-light (most + 2 ^ 90) (set sums p.node (wide_sum (get_or sums p.node nothing) p.force)) ps (All-tail IsWeak p ps h)
    (All-set (IsLight (most + 2 ^ 90)) sums p.node (wide_sum (get_or sums p.node nothing) p.force)
    (within-sum most (2 ^ 90) (most + 2 ^ 90) (unbounded (get_or sums p.node nothing)) (unbounded p.force) (at_any (IsLight most) sums p.node nothing k (none most)) (All-head IsWeak p ps h) (omega arith))
    (lighter most (most + 2 ^ 90) sums (omega arith) k)))
  where
    count : (m l : ℕ) → (m + 2 ^ 90) + l * 2 ^ 90 ≡ m + (suc l) * 2 ^ 90
    count m l = omega arith

-- while at most four pulls are added, each sum stays small
pub light_at : (sums now : List W3) (pulls : List Pull) (i node : ℕ) → length pulls ≤ 4 → All IsWeak pulls → AreLight (2 ^ 126 - 2 ^ 92) sums → now ≡ with_pulls sums (take i pulls) → IsLight (2 ^ 126) (get_or now node nothing)
light_at sums now pulls i node few weak small e =
    let most : ℕ = 2 ^ 126 - 2 ^ 92 in
    within_more (most + length (take i pulls) * 2 ^ 90) (2 ^ 126) _
    (at_any (IsLight (most + length (take i pulls) * 2 ^ 90)) now node nothing
    (subst (AreLight (most + length (take i pulls) * 2 ^ 90)) (sym e) (with_pulls-light most sums (take i pulls) (All-take IsWeak i pulls weak) small))
    (none (most + length (take i pulls) * 2 ^ 90)))
    (omega (arith, length-take i pulls))

-- at most four pulls, none of them strong
pub record IsSmall (part : Contribution) : Type 0 where
  pub few : length (pulls_of part) ≤ 4
  pub weak : All IsWeak (pulls_of part)

-- a contribution adds four times the size of a pull, at most
pub with_parts-light : (most : ℕ) (sums : List W3) (parts : List Contribution) → All IsSmall parts → AreLight most sums → AreLight (most + length parts * 2 ^ 92) (with_parts sums parts)
with_parts-light most sums [] h k = lighter most (most + 0 * 2 ^ 92) sums (omega arith) k
with_parts-light most sums (p ∷ ps) h k =
    let small = All-head IsSmall p ps h in
    subst (λ (m : ℕ). AreLight m (with_parts sums (p ∷ ps))) (count most (length ps))
    (with_parts-light (most + 2 ^ 92) (with_pulls sums (pulls_of p)) ps (All-tail IsSmall p ps h)
    (lighter (most + length (pulls_of p) * 2 ^ 90) (most + 2 ^ 92) (with_pulls sums (pulls_of p)) (four most (length (pulls_of p)) small.few) (with_pulls-light most sums (pulls_of p) small.weak k)))
  where
    count : (m l : ℕ) → (m + 2 ^ 92) + l * 2 ^ 92 ≡ m + (suc l) * 2 ^ 92
    count m l = omega arith

    four : (m l : ℕ) → l ≤ 4 → m + l * 2 ^ 90 ≤ m + 2 ^ 92
    four m l h = omega arith

-- while the pulls of so many contributions are added, each sum stays small
pub parts_light : (most bound : ℕ) (sums now : List W3) (parts : List Contribution) → most + length parts * 2 ^ 92 ≤ bound → All IsSmall parts → AreLight most sums → now ≡ with_parts sums parts → AreLight bound now
parts_light most bound sums now parts few small light e =
    lighter (most + length parts * 2 ^ 92) bound now few
    (subst (AreLight (most + length parts * 2 ^ 92)) (sym e) (with_parts-light most sums parts small light))

-- the sums of nothing, and those of inertia
pub none_light : (count : ℕ) (sums : List W3) → sums ≡ replicate count nothing → AreLight 0 sums
none_light count sums e = subst (AreLight 0) (sym e) (All-replicate (IsLight 0) count nothing (none 0))

pub start_light : (count : ℕ) (sums : List W3) (parts : List Contribution) → length parts ≤ 16384 → All IsSmall parts → sums ≡ with_parts (replicate count nothing) parts → AreLight (2 ^ 118) sums
start_light count sums parts few small e =
    lighter (0 + length parts * 2 ^ 92) (2 ^ 118) sums (omega (arith, few))
    (subst (AreLight (0 + length parts * 2 ^ 92)) (sym e) (with_parts-light 0 (replicate count nothing) parts small (none_light count (replicate count nothing) refl)))
