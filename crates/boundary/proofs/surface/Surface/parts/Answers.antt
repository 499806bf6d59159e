use Rattle.std.proofs.Common.{ℕ, ◌<◌, List, length, get_or}
use Rattle.std.specs.List.{All, Contains}
use Rattle.std.proofs.lemmas.List.Elements.{All-contains}
use Rattle.space3.specs.declared.vectors.V3.{V3}
use Rattle.space3.specs.Mesh.{HasNodes}
use Rattle.boundary.proofs.surface.Surface.parts.Goals as goal

-- vertices have places, and so have nodes that are vertices
placed : (places : List V3) (vertices nodes : List ℕ) → HasNodes places vertices → All (Contains vertices) nodes → HasNodes places nodes
placed places vertices nodes h v = λ k d l. All-contains (λ node. node < length places) vertices (get_or nodes k d) h (v k d l)

pub part_at-requires-clause-at_start : goal.part_at-requires-clause-at_start
part_at-requires-clause-at_start c = placed c.args.x0.now c.args.self.now.vertices c.first_part-a.result.now c.requires.start c.first_part-a.ensures.part.vertices

pub part_at-requires-clause-at_end : goal.part_at-requires-clause-at_end
part_at-requires-clause-at_end c = placed c.args.x1.now c.args.self.now.vertices c.first_part-a.result.now c.requires.end c.first_part-a.ensures.part.vertices

pub part_at-requires-2-clause-at_start : goal.part_at-requires-2-clause-at_start
part_at-requires-2-clause-at_start c = placed c.args.x0.now c.args.self.now.vertices c.second_part-b.result.now c.requires.start c.second_part-b.ensures.part.vertices

pub part_at-requires-2-clause-at_end : goal.part_at-requires-2-clause-at_end
part_at-requires-2-clause-at_end c = placed c.args.x1.now c.args.self.now.vertices c.second_part-b.result.now c.requires.end c.second_part-b.ensures.part.vertices
