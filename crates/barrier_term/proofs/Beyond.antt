-- Where a pair is not nearer than dhat, all parts of its barrier are 0.
use Rattle.std.proofs.Common.{◌≡◌, ◌∙◌, ℕ, ◌≤◌, ◌^◌, ℤ, pos, ◌*ℤ◌, List, [], ◌∷◌, ap}
use Rattle.std.specs.Prelude.{All, slice_index_or}
use Rattle.std.proofs.lemmas.List.Elements.{All-map}
use Rattle.num_q.specs.Rounding.{floor_of, cut_of}
use Rattle.whole_laws.proofs.Ring.{ring, v, num, ◌⊗◌}
use Rattle.space3.specs.declared.vectors.V3.{V3}
use Rattle.space3.specs.Vectors.{origin, vector}
use Rattle.vec_q.specs.Matrices.{columns}
use Rattle.nearest.specs.SignedWeights.{signed_weights, signed_sum}
use Rattle.near_pair.specs.declared.near.Near.{Near}
use Rattle.near_pair.specs.Answers.{squared_distance}
use Rattle.barrier_term.specs.Barrier.{barrier_slope, reach_of, slope_at}
use Rattle.barrier_term.specs.Blocks.{barrier_block, entries, entry, lever, stiffness_at}
use Rattle.barrier_term.specs.Gradients.{barrier_gradient, pull, pull_at}
use Rattle.barrier_term.proofs.Activity.{far_away}

none_of_three : (a b : ℤ) → pos 0 *ℤ a *ℤ b ≡ pos 0
none_of_three a b = ring (a ∷ b ∷ []) (num (pos 0) ⊗ v 0 ⊗ v 1) (num (pos 0)) tt

no_pull : (weight way : ℤ) → pull (pos 0) weight way ≡ pos 0
no_pull weight way = ap (λ (z : ℤ). cut_of 90 (floor_of z (pos (2 ^ 39)))) (none_of_three weight way)

no_entry : (a b : ℤ) → entry (pos 0) a b ≡ pos 0
no_entry a b = ap (λ (z : ℤ). cut_of 86 (floor_of z (pos (2 ^ 22)))) (none_of_three a b)

no_pull_at : (way : V3) (weight : ℤ) → pull_at (pos 0) way weight ≡ origin
no_pull_at way weight = λ i. vector (no_pull weight way.x i) (no_pull weight way.y i) (no_pull weight way.z i)

pub no_gradient : (kappa dhat : ℤ) (near : Near) (split : ℕ) (points : List V3) → reach_of dhat ≤ squared_distance near → All (λ pull. pull ≡ origin) (barrier_gradient kappa dhat near split points)
no_gradient kappa dhat near split points far =
    let signed = signed_weights split near.weights in
    let way = signed_sum signed points in
    All-map (λ pull. pull ≡ origin) (pull_at (barrier_slope kappa dhat near) way) signed
    (λ k weight l. ap (λ (slope : ℤ). pull_at slope way (slice_index_or signed k weight)) (far_away dhat near (slope_at kappa) far) ∙ no_pull_at way (slice_index_or signed k weight))

pub no_block : (kappa dhat : ℤ) (near : Near) (split : ℕ) (points : List V3) (i j : ℕ) → reach_of dhat ≤ squared_distance near → barrier_block kappa dhat near split points i j ≡ columns origin origin origin
no_block kappa dhat near split points i j far =
    let signed = signed_weights split near.weights in
    let way = signed_sum signed points in
    let a = lever way (slice_index_or signed i (pos 0)) in
    let b = lever way (slice_index_or signed j (pos 0)) in
    ap (λ (stiffness : ℤ). entries stiffness a b) (far_away dhat near (stiffness_at kappa) far)
    ∙ (λ t. columns (vector (no_entry a.x b.x t) (no_entry a.y b.x t) (no_entry a.z b.x t)) (vector (no_entry a.x b.y t) (no_entry a.y b.y t) (no_entry a.z b.y t)) (vector (no_entry a.x b.z t) (no_entry a.y b.z t) (no_entry a.z b.z t)))
