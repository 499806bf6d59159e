-- Facts of intervals that both halves of an interval inherit.
use Rattle.std.proofs.Common.{◌≡◌, ℕ, zero, suc, ◌+◌, ◌-◌, ◌*◌, ◌^◌, ◌<◌, ◌≤◌, inl, inr, sym, subst, arith, pow-suc}
use Rattle.std.proofs.lemmas.Bool.{cases_lt}
use Rattle.safe_motion.specs.Certificates.{ByHalves}

-- both halves of an interval have what the whole has
abbrev pub IsInherited : (ℕ → ℕ → Type 0) → Type 0
IsInherited P = (j n : ℕ) → 0 < n → P j n → P (2 * j) (2 * n) × P (2 * j + 1) (2 * n)

-- each of the 2^depth equal parts of the interval from j / n to (j + 1) / n has it
abbrev Everywhere : (ℕ → ℕ → Type 0) → ℕ → ℕ → ℕ → Type 0
Everywhere P depth j n = (i : ℕ) → i < 2 ^ depth → P (2 ^ depth * j + i) (2 ^ depth * n)

moved : (P : ℕ → ℕ → Type 0) (i j m n : ℕ) → i ≡ j → m ≡ n → P i m → P j n
moved P i j m n e f h = subst (λ (b : ℕ). P j b) f (subst (λ (a : ℕ). P a m) e h)

-- with a factor t for 2^depth
scaled : (t j n : ℕ) → (2 * t) * n ≡ t * (2 * n)
scaled t j n = omega arith

first_place : (t i j : ℕ) → (2 * t) * j + i ≡ t * (2 * j) + i
first_place t i j = omega arith

second_place : (t i j : ℕ) → (2 * t) * j + (t + i) ≡ t * (2 * j + 1) + i
second_place t i j = omega arith

double : (depth : ℕ) → 2 ^ suc depth ≡ 2 * 2 ^ depth
double depth = omega (arith, pow-suc 2 depth)

pub halves_from_everywhere : (P : ℕ → ℕ → Type 0) (depth j n : ℕ) → Everywhere P depth j n → ByHalves P depth j n
halves_from_everywhere P zero j n h = moved P (1 * j + 0) j (1 * n) n (omega arith) (omega arith) (h 0 (omega arith))
halves_from_everywhere P (suc depth) j n h =
    let t = 2 ^ depth in
    let twice : Everywhere P (suc depth) j n → (i : ℕ) → i < 2 * t → P ((2 * t) * j + i) ((2 * t) * n) = subst (λ (m : ℕ). (i : ℕ) → i < m → P (m * j + i) (m * n)) (double depth) in
    inr (
      halves_from_everywhere P depth (2 * j) (2 * n) (λ i l. moved P _ _ _ _ (first_place t i j) (scaled t j n) (twice h i (omega arith))),
      halves_from_everywhere P depth (2 * j + 1) (2 * n) (λ i l. moved P _ _ _ _ (second_place t i j) (scaled t j n) (twice h (t + i) (omega arith))),
    )

-- what the whole interval has holds by halves
pub whole : (P : ℕ → ℕ → Type 0) (depth j n : ℕ) → P j n → ByHalves P depth j n
whole P zero j n h = h
whole P (suc depth) j n h = inl h

both : (P : ℕ → ℕ → Type 0) → IsInherited P → (depth j n : ℕ) → 0 < n → ByHalves P (suc depth) j n → ByHalves P depth (2 * j) (2 * n) × ByHalves P depth (2 * j + 1) (2 * n)
both P inherited depth j n some h = elim h [
  | inl p ↦ let halves = inherited j n some p in (whole P depth (2 * j) (2 * n) halves.0, whole P depth (2 * j + 1) (2 * n) halves.1)
  | inr halves ↦ halves
]

pub everywhere_from_halves : (P : ℕ → ℕ → Type 0) → IsInherited P → (depth j n : ℕ) → 0 < n → ByHalves P depth j n → Everywhere P depth j n
everywhere_from_halves P inherited zero j n some h = λ i l. moved P j (1 * j + i) n (1 * n) (omega arith) (omega arith) h
everywhere_from_halves P inherited (suc depth) j n some h =
    let t = 2 ^ depth in
    let halves = both P inherited depth j n some h in
    let twice : (i : ℕ) → i < 2 * t → P ((2 * t) * j + i) ((2 * t) * n) =
    λ i l. elim (cases_lt i t) [
      | inl low ↦ moved P _ _ _ _ (sym (first_place t i j)) (sym (scaled t j n)) (everywhere_from_halves P inherited depth (2 * j) (2 * n) (omega arith) halves.0 i low)
      | inr high ↦ moved P _ _ _ _ (sym (second_part t i j high)) (sym (scaled t j n)) (everywhere_from_halves P inherited depth (2 * j + 1) (2 * n) (omega arith) halves.1 (i - t) (omega arith))
    ] in
    subst (λ (m : ℕ). (i : ℕ) → i < m → P (m * j + i) (m * n)) (sym (double depth)) twice
  where
    second_part : (t i j : ℕ) → t ≤ i → (2 * t) * j + i ≡ t * (2 * j + 1) + (i - t)
    second_part t i j h = omega arith

-- what holds by halves to a depth holds by halves to the next
deeper : (P : ℕ → ℕ → Type 0) (depth j n : ℕ) → ByHalves P depth j n → ByHalves P (suc depth) j n
deeper P zero j n h = inl h
deeper P (suc depth) j n h = elim h [
  | inl p ↦ inl p
  | inr halves ↦ inr (deeper P depth (2 * j) (2 * n) halves.0, deeper P depth (2 * j + 1) (2 * n) halves.1)
]

-- ---- the whole step, from 0 / 1 to 1 / 1
abbrev pub OnEach : (ℕ → ℕ → Type 0) → ℕ → Type 0
OnEach P depth = (j : ℕ) → j < 2 ^ depth → P j (2 ^ depth)

pub halves_from_each : (P : ℕ → ℕ → Type 0) (depth : ℕ) → OnEach P depth → ByHalves P depth 0 1
halves_from_each P depth h = halves_from_everywhere P depth 0 1 (λ i l. moved P i (2 ^ depth * 0 + i) (2 ^ depth) (2 ^ depth * 1) (omega arith) (omega arith) (h i l))

pub each_from_halves : (P : ℕ → ℕ → Type 0) → IsInherited P → (depth : ℕ) → ByHalves P depth 0 1 → OnEach P depth
each_from_halves P inherited depth h = λ i l. moved P (2 ^ depth * 0 + i) i (2 ^ depth * 1) (2 ^ depth) (omega arith) (omega arith) (everywhere_from_halves P inherited depth 0 1 (omega arith) h i l)

pub each_deeper : (P : ℕ → ℕ → Type 0) → IsInherited P → (depth : ℕ) → OnEach P depth → OnEach P (depth + 1)
each_deeper P inherited depth h = subst (λ (k : ℕ). OnEach P k) (step depth) (each_from_halves P inherited (suc depth) (deeper P depth 0 1 (halves_from_each P depth h)))
  where
    step : (k : ℕ) → suc k ≡ k + 1
    step k = omega arith
