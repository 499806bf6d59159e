-- Near pairs that are kept, so that those that are close later are found among them.
use Rattle.std.specs.Prelude.{ℕ, ◌≡◌, ◌+◌, ◌*◌, ◌≤◌, ℤ, ◌-ℤ◌, Bool, ◌&&◌, List, nat_le, unsigned_abs}
use Rattle.std.specs.List.{list_all, zip}
use Rattle.space3.specs.declared.vectors.V3.{V3}
use Rattle.space3.specs.Mesh.{HasNodes}
use Rattle.boundary.specs.declared.pairs.Pair.{Pair}
use Rattle.boundary.specs.Surface.{SurfaceLists}
use Rattle.broad_grid.specs.declared.kept.TheConstants.{KEPT_LIMIT}
use Rattle.broad_grid.specs.Held.{loose_close_pairs_of}

-- where the nodes stood once, which of them are fixed, the gap that is asked for later, how far a node may have moved by
-- then, and pairs that were near
pub record KeptPairs : Type 0 where
  pub places : List V3
  pub fixed : List Bool
  pub reach : ℕ
  pub margin : ℕ
  pub pairs : List Pair

-- What is kept is whole for a surface: all pairs of a vertex and a triangle and all of two edges of which some node isn't
-- fixed and whose boxes at the kept places have a gap of at most the reach and twice the margin.
pub record IsWhole (s : SurfaceLists) (kept : KeptPairs) : Type 0 where
  pub reach : kept.reach ≤ KEPT_LIMIT
  pub margin : kept.margin ≤ KEPT_LIMIT
  pub placed : HasNodes kept.places s.vertices
  pub pairs : kept.pairs ≡ loose_close_pairs_of kept.fixed (kept.reach + 2 * kept.margin) s kept.places

-- two numbers differ by at most the margin
abbrev pub differ_by_at_most : ℕ → ℤ → ℤ → Bool
differ_by_at_most margin a b = nat_le (unsigned_abs (a -ℤ b)) margin

-- so do two places along each axis
abbrev pub has_stayed : ℕ → V3 → V3 → Bool
has_stayed margin p q =
    differ_by_at_most margin p.x q.x && differ_by_at_most margin p.y q.y && differ_by_at_most margin p.z q.z

-- so does each place of one list from that at the same position of the other
abbrev pub have_stayed : ℕ → List V3 → List V3 → Bool
have_stayed margin kept x = list_all (λ both. has_stayed margin both.0 both.1) (zip kept x)
