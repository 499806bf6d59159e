-- The stated stack: blocks one above another, every second one shifted, of which the lowest is held.
use Rattle.std.specs.Prelude.{ℕ, ◌+◌, ◌*◌, ◌%◌, ◌==◌, ℤ, pos, neg_ℤ, false, true, None, List, [], ◌∷◌, map, flat_map, slice_index_or, codes, if◌then◌else◌}
use Rattle.std.specs.List.{range_with_len}
use Rattle.dec_text.specs.declared.Snap.TheVariants.{Nearest}
use Rattle.space3.specs.declared.vectors.V3.{V3}
use Rattle.space3.specs.declared.lists.Tet.{Tet}
use Rattle.space3.specs.declared.mesh.Mesh.{Mesh}
use Rattle.space3.specs.Vectors.{origin, sum_of, vector}
use Rattle.surface_mesh.specs.declared.materials.Material.{Material}
use Rattle.surface_mesh.specs.declared.materials.Numbers.{Numbers}
use Rattle.scene_toml.specs.declared.scene.Scene.{Scene}

-- the corners of a cube of edge 100
abbrev pub cube_corners : List V3
cube_corners =
    vector (pos 0) (pos 0) (pos 0) ∷ vector (pos 100) (pos 0) (pos 0)
    ∷ vector (pos 0) (pos 100) (pos 0) ∷ vector (pos 100) (pos 100) (pos 0)
    ∷ vector (pos 0) (pos 0) (pos 100) ∷ vector (pos 100) (pos 0) (pos 100)
    ∷ vector (pos 0) (pos 100) (pos 100) ∷ vector (pos 100) (pos 100) (pos 100) ∷ []

-- six tetrahedra that fill it, by its corners
abbrev pub cube_tets : List (List ℕ)
cube_tets =
    (0 ∷ 1 ∷ 3 ∷ 7 ∷ []) ∷ (0 ∷ 5 ∷ 1 ∷ 7 ∷ []) ∷ (0 ∷ 3 ∷ 2 ∷ 7 ∷ [])
    ∷ (0 ∷ 2 ∷ 6 ∷ 7 ∷ []) ∷ (0 ∷ 4 ∷ 5 ∷ 7 ∷ []) ∷ (0 ∷ 6 ∷ 4 ∷ 7 ∷ []) ∷ []

-- the least corner of a block
abbrev pub block_corner : (block : ℕ) → V3
block_corner block = vector (pos (10 * (block % 2))) (pos 0) (pos (110 * block))

-- the places of its eight nodes
abbrev pub block_places : (block : ℕ) → List V3
block_places block = map (sum_of (block_corner block)) cube_corners

-- one of its tetrahedra; the lowest block has the tag 1, the others 2
abbrev pub block_tet : (block tet : ℕ) → Tet
block_tet block tet = record {
  number = 6 * block + tet + 1;
  nodes = map (λ (corner : ℕ). 8 * block + corner) (slice_index_or cube_tets tet []);
  tags = (if block == 0 then pos 1 else pos 2) ∷ pos (block + 1) ∷ [];
}

abbrev pub block_tets : (block : ℕ) → List Tet
block_tets block = map (block_tet block) (range_with_len 0 6)

-- the mesh of so many blocks, whose nodes are numbered from 1
abbrev pub stack_mesh : (blocks : ℕ) → Mesh
stack_mesh blocks = record {
  numbers = range_with_len 1 (8 * blocks);
  places = flat_map block_places (range_with_len 0 blocks);
  tets = flat_map block_tets (range_with_len 0 blocks);
}

-- soft blocks, and the lowest held
abbrev pub soft : Material
soft = record { density = pos 1; mu = pos 2000; lambda = pos 2000; fixed = false; velocity = origin }

abbrev pub held : Material
held = record soft { fixed = true }

-- one frame under gravity
abbrev pub stack_scene : Scene
stack_scene = record {
  mesh = codes "gen";
  out = codes "gen";
  digits = 0;
  snap = Nearest;
  frames = 1;
  budget = 20;
  tol = pos 1000000;
  trace = None;
  numbers = record {
    base = soft;
    parts = (pos 1, held) ∷ [];
    kappa = pos 65536;
    dhat = pos 16;
    friction = pos 64;
    slip = pos 2;
    gravity = vector (pos 0) (pos 0) (neg_ℤ (pos 256));
  };
}
