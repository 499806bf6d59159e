-- The energy falls with the distance.
use Rattle.std.proofs.Common.{ℕ, ◌≤◌, ◌<◌, ◌^◌, ℤ, pos, ◌*ℤ◌, neg_ℤ, ◌≤ℤ◌, ◌<ℤ◌, ◌⊎◌, inl, inr, max, arith}
use Rattle.std.proofs.lemmas.Int.{ints}
use Rattle.std.proofs.lemmas.Bool.{cases_lt}
use Rattle.num_q.proofs.Bounds.{cut_mono, cut-nonneg}
use Rattle.fixed_log.specs.Logarithm.{ln_ratio_of}
use Rattle.fixed_log.proofs.Ratios.{ln_ratio_of-up, ln_ratio_of-below}
use Rattle.whole_laws.proofs.Floors.{floor_mono, floor_nonneg}
use Rattle.whole_laws.proofs.Order.{mul_nonneg_ℤ}
use Rattle.whole_laws.proofs.Products.{mul_le_ℤ}
use Rattle.near_pair.specs.declared.near.Near.{Near}
use Rattle.near_pair.specs.Answers.{squared_distance}
use Rattle.barrier_term.specs.Barrier.{reach_of, depth, energy_at, barrier_energy}
use Rattle.barrier_term.proofs.Activity.{far_away, is_active}

scale_positive : pos 0 <ℤ pos (2 ^ 40)
scale_positive = omega (arith, ints)

depth-nonneg : (d e : ℕ) → d < e → pos 0 ≤ℤ depth d e
depth-nonneg d e h = omega (arith, ints)

depth_falls : (c d e : ℕ) → c ≤ d → depth d e ≤ℤ depth c e
depth_falls c d e h = omega (arith, ints)

turned : (a b : ℤ) → a ≤ℤ b → neg_ℤ b ≤ℤ neg_ℤ a
turned a b h = omega (arith, ints)

turned_zero : (a : ℤ) → a ≤ℤ pos 0 → pos 0 ≤ℤ neg_ℤ a
turned_zero a h = omega (arith, ints)

less : (m n : ℕ) → m < n → m ≤ n
less m n h = omega arith

abbrev product : ℤ → ℕ → ℕ → ℤ
product kappa d e = kappa *ℤ depth d e *ℤ depth d e *ℤ neg_ℤ (ln_ratio_of d e)

product-nonneg : (kappa : ℤ) (d e : ℕ) → pos 0 ≤ℤ kappa → 1 ≤ d → d < e → e < 2 ^ 68 → pos 0 ≤ℤ product kappa d e
product-nonneg kappa d e hk h l m =
    let u = depth-nonneg d e l in
    mul_nonneg_ℤ (kappa *ℤ depth d e *ℤ depth d e) (neg_ℤ (ln_ratio_of d e)) (mul_nonneg_ℤ (kappa *ℤ depth d e) (depth d e) (mul_nonneg_ℤ kappa (depth d e) hk u) u)
    (turned_zero _ (ln_ratio_of-below d e h (less d e l) m))

pub energy-nonneg : (kappa : ℤ) (d e : ℕ) → pos 0 ≤ℤ kappa → 1 ≤ d → d < e → e < 2 ^ 68 → pos 0 ≤ℤ energy_at kappa d e
energy-nonneg kappa d e hk h l m = cut-nonneg 90 _ (floor_nonneg (product kappa d e) (pos (2 ^ 40)) scale_positive (product-nonneg kappa d e hk h l m))

energy_falls : (kappa : ℤ) (c d e : ℕ) → pos 0 ≤ℤ kappa → 1 ≤ c → c ≤ d → d < e → e < 2 ^ 68 → energy_at kappa d e ≤ℤ energy_at kappa c e
energy_falls kappa c d e hk h k l m =
    let u = depth-nonneg d e l in
    let f = depth_falls c d e k in
    let once = mul_le_ℤ kappa kappa (depth d e) (depth c e) hk (itself kappa) u f in
    let nonneg_once = mul_nonneg_ℤ kappa (depth d e) hk u in
    let twice = mul_le_ℤ (kappa *ℤ depth d e) (kappa *ℤ depth c e) (depth d e) (depth c e) nonneg_once once u f in
    let nonneg_twice = mul_nonneg_ℤ (kappa *ℤ depth d e) (depth d e) nonneg_once u in
    cut_mono 90 _ _ (floor_mono (product kappa d e) (product kappa c e) (pos (2 ^ 40)) scale_positive
    (mul_le_ℤ (kappa *ℤ depth d e *ℤ depth d e) (kappa *ℤ depth c e *ℤ depth c e) (neg_ℤ (ln_ratio_of d e)) (neg_ℤ (ln_ratio_of c e)) nonneg_twice twice
    (turned_zero _ (ln_ratio_of-below d e (first c d h k) (less d e l) m)) (turned _ _ (ln_ratio_of-up c d e h k (below d e l m)))))
  where
    itself : (a : ℤ) → a ≤ℤ a
    itself a = omega (arith, ints)

    first : (c d : ℕ) → 1 ≤ c → c ≤ d → 1 ≤ d
    first c d h k = omega arith

    below : (d e : ℕ) → d < e → e < 2 ^ 68 → d < 2 ^ 68
    below d e h k = omega arith

at_least_one : (n : ℕ) → 1 ≤ max 1 n
at_least_one n = omega arith

pub falls : (kappa dhat : ℤ) (near far : Near) → pos 0 ≤ℤ kappa → reach_of dhat < 2 ^ 68 → squared_distance near ≤ squared_distance far → barrier_energy kappa dhat far ≤ℤ barrier_energy kappa dhat near
falls kappa dhat near far hk m k = by_far (cases_lt (squared_distance far) (reach_of dhat))
  where
    by_near : (squared_distance near < reach_of dhat) ⊎ (reach_of dhat ≤ squared_distance near) → pos 0 ≤ℤ barrier_energy kappa dhat near
    by_near (inl inside) = rw (is_active dhat near (energy_at kappa) inside) (energy-nonneg kappa (squared_distance near) (reach_of dhat) hk (at_least_one _) inside m)
    by_near (inr outside) = rw (far_away dhat near (energy_at kappa) outside) (omega (arith, ints))

    by_far : (squared_distance far < reach_of dhat) ⊎ (reach_of dhat ≤ squared_distance far) → barrier_energy kappa dhat far ≤ℤ barrier_energy kappa dhat near
    by_far (inl inside) =
        rw (is_active dhat far (energy_at kappa) inside, is_active dhat near (energy_at kappa) (before _ _ _ k inside))
        (energy_falls kappa (squared_distance near) (squared_distance far) (reach_of dhat) hk (at_least_one _) k inside m)
      where
        before : (m n o : ℕ) → m ≤ n → n < o → m < o
        before m n o h k = omega arith
    by_far (inr outside) = rw (far_away dhat far (energy_at kappa) outside) (by_near (cases_lt (squared_distance near) (reach_of dhat)))
