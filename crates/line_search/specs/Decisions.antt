-- How many plane decisions the search for a step takes.
use Rattle.std.specs.Prelude.{ℕ, ◌*◌, ◌<◌, ◌≤◌, List, length, All}
use Rattle.std.specs.List.{sum_by}
use Rattle.std.specs.List.Sorted.{IsStrictlyIncreasing}
use Rattle.space3.specs.declared.ways.TheConstants.{HALVING_LIMIT}
use Rattle.space3.specs.declared.vectors.V3.{V3}
use Rattle.space3.specs.Moved.{moved_by}
use Rattle.pair_cert.specs.Tallies.{RisesAtMost, intervals_within}
use Rattle.broad_grid.specs.NearPairs.{swept_pairs_of}
use Rattle.surface_mesh.specs.declared.setup.Setup.{Setup}
use Rattle.surface_mesh.specs.Safety.{depth_of}
use Rattle.potential_sum.specs.Terms.{FrameTerms}
use Rattle.line_search.specs.Accepted.{AreInReach, IsAccepted, MovesANode}

-- A halving comes as far as the certificates: no lower one is accepted, it moves some node, all nodes stay in the box,
-- and no edge gets too long.
pub record ReachesCertificates (setup : Setup) (terms : FrameTerms) (x direction : List V3) (half : ℕ) : Type 0 where
  pub few : half ≤ HALVING_LIMIT
  pub none_lower : (lower : ℕ) → lower < half → ¬ IsAccepted setup terms x direction lower
  pub moves : MovesANode direction half
  pub in_reach : AreInReach setup (moved_by x direction half)

-- the most decisions of a step from the places x to the places y: one for each interval of each pair whose boxes touch
abbrev pub most_decisions : Setup → (x y : List V3) → ℕ
most_decisions setup x y = intervals_within (depth_of setup) * length (swept_pairs_of setup.surface x y)

-- a count rose by at most so many for each of these different halvings, which come as far as the certificates
pub record RisesByHalvings (setup : Setup) (terms : FrameTerms) (x direction : List V3) (old new : ℕ) : Type 0 where
  pub halvings : List ℕ
  pub different : IsStrictlyIncreasing halvings
  pub reach : All (ReachesCertificates setup terms x direction) halvings
  pub rises : RisesAtMost (sum_by (λ half. most_decisions setup x (moved_by x direction half)) halvings) old new
