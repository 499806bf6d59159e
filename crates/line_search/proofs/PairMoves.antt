-- The moves of parts whose corners are the places of nodes.
use Rattle.std.proofs.Common.{◌≡◌, ◌∙◌, ℕ, List, [], ◌∷◌, map, refl}
use Rattle.std.specs.List.{zip}
use Rattle.space3.specs.declared.spots.Part.{Part}
use Rattle.space3.specs.declared.vectors.V3.{V3}
use Rattle.space3.specs.Mesh.{place_of}
use Rattle.space3.specs.Spots.{points}
use Rattle.safe_motion.specs.Safety.{node_move, node_moves}
use Rattle.pair_cert.specs.Parts.{move_between, moves_of}

moves-between : (x y : List V3) (nodes : List ℕ) → map move_between (zip (map (place_of x) nodes) (map (place_of y) nodes)) ≡ node_moves x y nodes
moves-between x y [] = refl
moves-between x y (node ∷ nodes) = λ i. node_move x y node ∷ moves-between x y nodes i

pub moves-are : (x y : List V3) (part : Part) (nodes : List ℕ) → points part.start ≡ map (place_of x) nodes → points part.end ≡ map (place_of y) nodes → moves_of part ≡ node_moves x y nodes
moves-are x y part nodes e f = (λ i. map move_between (zip (e i) (f i))) ∙ moves-between x y nodes
