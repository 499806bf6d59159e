-- What pairs whose boxes touch say of all pairs.
use Rattle.std.proofs.Common.{◌≡◌, ◌*◌, ◌<◌, ℕ, List, length, get_or, refl, sym, arith, le_refl, le_trans, mul-le-mul}
use Rattle.std.specs.Prelude.{All, Bool, IsTrue, ◌↔◌}
use Rattle.std.proofs.lemmas.List.Elements.{All-filter, All-map, All-same}
use Rattle.list_laws.proofs.Elements.{All-map_back}
use Rattle.list_laws.proofs.Filters.{All-filter_back}
use Rattle.space3.specs.declared.vectors.V3.{V3}
use Rattle.space3.specs.Mesh.{HasNodes}
use Rattle.safe_motion.specs.declared.depth.TheConstants.{DEPTH}
use Rattle.boundary.specs.declared.pairs.Pair.{Pair}
use Rattle.boundary.specs.Pairs.{IsPair, pairs_of, part_pair}
use Rattle.boundary.specs.Surface.{SurfaceLists}
use Rattle.boundary.proofs.PairNodes.{few_pass}
use Rattle.boundary.proofs.PairOrder.{pairs_sorted}
use Rattle.pair_cert.specs.Tallies.{RisesAtMost, intervals_within}
use Rattle.broad_grid.specs.Held.{is_loose}
use Rattle.broad_grid.specs.Moving.{moving_pairs_of, still_nodes}
use Rattle.broad_grid.specs.NearPairs.{boxes_touch, swept_pairs_of}
use Rattle.broad_grid.proofs.MovingPairs.{swept_are_pairs}
use Rattle.broad_grid.proofs.Untouched.{untouched_certified}
use Rattle.surface_mesh.specs.declared.setup.Setup.{Setup}
use Rattle.surface_mesh.specs.Safety.{IsSafeAt, part_pairs}
use Rattle.surface_mesh.specs.Setup.{IsSetup}
use Rattle.line_search.specs.Decisions.{most_decisions}
use Rattle.line_search.specs.Calls.PairCertificates.{ArePlaced, IsApart}
use Rattle.line_search.proofs.StillPairs.{StandApart, safe_stand_apart, still_is_apart}

-- a pair, by its positions, is certified to stay apart
abbrev pub IsPairApart : SurfaceLists → (x y : List V3) → Pair → Type 0
IsPairApart s x y pair = IsApart x y (part_pair s pair)

-- the pairs that are looked at are of the pair order
pub moving_are_pairs : (s : SurfaceLists) (x y : List V3) (pairs : List Pair) → pairs ≡ moving_pairs_of s x y → All (IsPair s) pairs
moving_are_pairs s x y pairs e =
    All-same (IsPair s) pairs (moving_pairs_of s x y) e (All-filter (is_loose (still_nodes x y) s) (IsPair s) (swept_pairs_of s x y) (swept_are_pairs s x y (swept_pairs_of s x y) refl))

-- all pairs are certified exactly where those are whose boxes touch and of which some node moves
pub moving_tell : (setup : Setup) (x y : List V3) (pairs : List Pair) (t : Bool) → IsSetup setup → IsSafeAt setup x → pairs ≡ moving_pairs_of setup.surface x y
    → (IsTrue t ↔ All (IsPairApart setup.surface x y) pairs) → IsTrue t ↔ All (IsApart x y) (part_pairs setup)
moving_tell setup x y pairs t h safe e tells = (
  λ yes. All-map (IsApart x y) (part_pair s) (pairs_of s)
      (All-filter_back (IsPairApart s x y) (IsPair s) (boxes_touch s x y)
      (λ pair listed apart. record { certificate = untouched_certified s x y pair DEPTH h.has_surface.lists listed apart })
      (pairs_of s) (pairs_sorted s).each
      (All-filter_back (IsPairApart s x y) (λ pair. StandApart x (part_pair s pair)) (is_loose (still_nodes x y) s)
      (λ pair stand still. still_is_apart s x y pair stand still)
      (swept_pairs_of s x y) (All-filter (boxes_touch s x y) (λ pair. StandApart x (part_pair s pair)) (pairs_of s) (All-map_back (StandApart x) (part_pair s) (pairs_of s) (safe_stand_apart setup x safe)))
      (All-same (IsPairApart s x y) (moving_pairs_of s x y) pairs (sym e) (tells.0 yes)))),
  λ all. tells.1 (All-same (IsPairApart s x y) pairs (moving_pairs_of s x y) e
      (All-filter (is_loose (still_nodes x y) s) (IsPairApart s x y) (swept_pairs_of s x y)
      (All-filter (boxes_touch s x y) (IsPairApart s x y) (pairs_of s) (All-map_back (IsApart x y) (part_pair s) (pairs_of s) all)))),
)
  where
    s : SurfaceLists
    s = setup.surface

-- there are no more of them than pairs whose boxes touch
pub rises_by_touching : (setup : Setup) (x y : List V3) (pairs : List Pair) (old new : ℕ) → pairs ≡ moving_pairs_of setup.surface x y → RisesAtMost (intervals_within DEPTH * length pairs) old new → RisesAtMost (most_decisions setup x y) old new
rises_by_touching setup x y pairs old new e h = record {
  by = h.by;
  few = le_trans h.few (mul-le-mul (le_refl (intervals_within DEPTH)) (rw e (few_pass (is_loose (still_nodes x y) setup.surface) (swept_pairs_of setup.surface x y))));
  risen = h.risen;
}

-- each vertex has a place where each node has one
pub placed : (setup : Setup) (x y : List V3) → IsSetup setup → length x ≡ length setup.mesh.numbers → length y ≡ length setup.mesh.numbers → ArePlaced setup.surface x y
placed setup x y h ex ey = record { start = there x ex; end = there y ey }
  where
    there : (z : List V3) → length z ≡ length setup.mesh.numbers → HasNodes z setup.surface.vertices
    there z e = λ k d l. near (get_or setup.surface.vertices k d) (h.has_surface.placed k d l)
      where
        near : (node : ℕ) → node < length setup.mesh.places → node < length z
        near node l = omega (arith, l, e, h.mesh_is_sound.placed)
