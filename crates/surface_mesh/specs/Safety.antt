-- What it means that bodies are safe: no two parts of their surfaces meet, and no tetrahedron turns inside out.
use Rattle.std.specs.Prelude.{ℕ, List, map}
use Rattle.space3.specs.declared.vectors.V3.{V3}
use Rattle.safe_motion.specs.declared.depth.TheConstants.{DEPTH}
use Rattle.space3.specs.Mesh.{place_of}
use Rattle.safe_motion.specs.Meeting.{Meets}
use Rattle.safe_motion.specs.Safety.{IsCertified, PartPair, SafeMotion, SafePlaces}
use Rattle.boundary.specs.Pairs.{pairs_of, part_pair}
use Rattle.surface_mesh.specs.declared.setup.Setup.{Setup}

-- the pairs of parts of the surface that must not meet, by their nodes
abbrev pub part_pairs : Setup → List PartPair
part_pairs setup = map (part_pair setup.surface) (pairs_of setup.surface)

-- the two parts of a pair meet where the nodes stand at the places x
abbrev pub HaveMet : List V3 → PartPair → Type 0
HaveMet x pair = Meets (map (place_of x) pair.left) (map (place_of x) pair.right)

-- the nodes of each tetrahedron
abbrev pub corner_nodes : Setup → List (List ℕ)
corner_nodes setup = map (λ tet. tet.nodes) setup.mesh.tets

-- how often a step is halved at most, for its certificates
abbrev pub depth_of : Setup → ℕ
depth_of setup = DEPTH

-- at every fraction of the straight step from the places x0 to the places x1 no pair meets, and every volume is positive
abbrev pub IsSafeStep : Setup → (x0 x1 : List V3) → Type 0
IsSafeStep setup x0 x1 = SafeMotion (part_pairs setup) (corner_nodes setup) x0 x1

-- where the nodes stand no pair meets, and every volume is positive
abbrev pub IsSafeAt : Setup → List V3 → Type 0
IsSafeAt setup x = SafePlaces (part_pairs setup) (corner_nodes setup) x

-- each pair and each tetrahedron has its certificate on the step from the places x0 to the places x1
abbrev pub IsCertifiedStep : Setup → (x0 x1 : List V3) → Type 0
IsCertifiedStep setup x0 x1 = IsCertified (depth_of setup) (part_pairs setup) (corner_nodes setup) x0 x1
