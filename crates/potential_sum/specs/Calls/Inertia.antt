-- Inertia of the nodes of three lists.
use Rattle.std.specs.Prelude.{◌≡◌, ℕ, ℤ, pos, List, [], ◌∷◌, length, All, slice_index_or}
use Rattle.whole_laws.specs.Ranges.{IsFrom}
use Rattle.space3.specs.declared.vectors.V3.{V3}
use Rattle.space3.specs.Vectors.{Within}
use Rattle.space3.specs.Mesh.{place_of}
use Rattle.surface_mesh.specs.declared.sturdy.TheConstants.{MOST_MASS}
use Rattle.inertia_term.specs.declared.target.TheConstants.{FARTHEST_TARGET}
use Rattle.inertia_term.specs.Inertia.{inertia_block, inertia_energy, inertia_gradient}
use Rattle.potential_sum.specs.Contributions.{Contribution}

-- as many masses and targets as places, in their ranges
pub record AreMovers (masses : List ℤ) (targets places : List V3) : Type 0 where
  pub each_mass : length masses ≡ length places
  pub each_target : length targets ≡ length places
  pub light : All (IsFrom (pos 0) MOST_MASS) masses
  pub near : All (Within FARTHEST_TARGET) targets

abbrev pub energy_at : List ℤ → (targets places : List V3) → ℕ → ℤ
energy_at masses targets places node =
    inertia_energy (slice_index_or masses node (pos 0)) (place_of places node) (place_of targets node)

abbrev pub pull_of : List ℤ → (targets places : List V3) → ℕ → V3
pull_of masses targets places node =
    inertia_gradient (slice_index_or masses node (pos 0)) (place_of places node) (place_of targets node)

abbrev pub part_at : List ℤ → (targets places : List V3) → ℕ → Contribution
part_at masses targets places node = record {
  nodes = node ∷ [];
  energy = energy_at masses targets places node;
  pulls = pull_of masses targets places node ∷ [];
  blocks = λ i j. inertia_block (slice_index_or masses node (pos 0));
}
