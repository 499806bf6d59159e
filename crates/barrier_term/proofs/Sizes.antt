-- How great the parts of a barrier are, and how many.
use Rattle.std.proofs.Common.{◌≡◌, ◌∙◌, ℕ, ◌^◌, ℤ, pos, ◌*ℤ◌, neg_ℤ, Bool, true, false, List, length, arith}
use Rattle.std.specs.Prelude.{All, nat_lt, slice_index_or, if◌then◌else◌}
use Rattle.std.proofs.lemmas.List.{length-map}
use Rattle.std.proofs.lemmas.List.Elements.{All-map}
use Rattle.num_q.specs.Rounding.{floor_of}
use Rattle.fixed_log.specs.Logarithm.{ln_ratio_of}
use Rattle.space3.specs.declared.vectors.V3.{V3}
use Rattle.space3.specs.Vectors.{AtMost, Within, vector}
use Rattle.vec_q.proofs.CutVectors.{cut_at_most, cuts_within}
use Rattle.nearest.specs.SignedWeights.{signed_weights, signed_sum}
use Rattle.nearest.proofs.Balance.{length-signed}
use Rattle.near_pair.specs.declared.near.Near.{Near}
use Rattle.near_pair.specs.Answers.{squared_distance}
use Rattle.barrier_term.specs.Barrier.{barrier_energy, barrier_slope, depth, energy_at, if_active, reach_of}
use Rattle.barrier_term.specs.Blocks.{barrier_block, entry, lever, stiffness_at}
use Rattle.barrier_term.specs.Gradients.{barrier_gradient, pull_at}

pub energy_is_small : (kappa dhat : ℤ) (near : Near) → AtMost (2 ^ 90) (barrier_energy kappa dhat near)
energy_is_small kappa dhat near = either (nat_lt (squared_distance near) (reach_of dhat))
  where
    either : (active : Bool) → AtMost (2 ^ 90) (if active then energy_at kappa (squared_distance near) (reach_of dhat) else pos 0)
    either true = let d = squared_distance near in let e = reach_of dhat in
        cut_at_most 90 (floor_of (kappa *ℤ depth d e *ℤ depth d e *ℤ neg_ℤ (ln_ratio_of d e)) (pos (2 ^ 40)))
    either false = record { bound = omega arith }

-- a pull at each weight
pub as_many_pulls : (kappa dhat : ℤ) (near : Near) (split : ℕ) (points : List V3) → length (barrier_gradient kappa dhat near split points) ≡ length near.weights
as_many_pulls kappa dhat near split points =
    let signed = signed_weights split near.weights in
    length-map signed (pull_at (barrier_slope kappa dhat near) (signed_sum signed points)) ∙ length-signed split near.weights

-- a pull along an axis before it is cut
abbrev along : ℤ → ℤ → ℤ → ℤ
along slope weight way = floor_of (slope *ℤ weight *ℤ way) (pos (2 ^ 39))

pub pulls_are_small : (kappa dhat : ℤ) (near : Near) (split : ℕ) (points : List V3) → All (Within (2 ^ 90)) (barrier_gradient kappa dhat near split points)
pulls_are_small kappa dhat near split points =
    let signed = signed_weights split near.weights in
    let slope = barrier_slope kappa dhat near in
    let way = signed_sum signed points in
    All-map (Within (2 ^ 90)) (pull_at slope way) signed (λ k weight l. small slope way (slice_index_or signed k weight))
  where
    small : (slope : ℤ) (way : V3) (weight : ℤ) → Within (2 ^ 90) (pull_at slope way weight)
    small slope way weight = cuts_within 90 (along slope weight way.x) (along slope weight way.y) (along slope weight way.z)

-- the diagonal of a block
pub block_is_small : (kappa dhat : ℤ) (near : Near) (split : ℕ) (points : List V3) (i j : ℕ) →
    let block = barrier_block kappa dhat near split points i j in Within (2 ^ 86) (vector block.first.x block.second.y block.third.z)
block_is_small kappa dhat near split points i j =
    let signed = signed_weights split near.weights in
    let way = signed_sum signed points in
    small (if_active dhat near (stiffness_at kappa)) (lever way (slice_index_or signed i (pos 0))) (lever way (slice_index_or signed j (pos 0)))
  where
    small : (stiffness : ℤ) (a b : V3) → Within (2 ^ 86) (vector (entry stiffness a.x b.x) (entry stiffness a.y b.y) (entry stiffness a.z b.z))
    small stiffness a b = cuts_within 86 (floor_of (stiffness *ℤ a.x *ℤ b.x) (pos (2 ^ 22))) (floor_of (stiffness *ℤ a.y *ℤ b.y) (pos (2 ^ 22))) (floor_of (stiffness *ℤ a.z *ℤ b.z) (pos (2 ^ 22)))
