use Rattle.potential_sum.proofs.HeldParts.{held_barrier, held_close, held_near, held_points, held_split, held_there}
use Rattle.potential_sum.proofs.barriers.TwoParts.nearest.Goals as goal

pub corners_at-points-requires : goal.corners_at-points-requires
corners_at-points-requires c = held_there c.args.x.now c.args.self.now c.requires

pub near_parts-near-requires-clause-split : goal.near_parts-near-requires-clause-split
near_parts-near-requires-clause-split c = held_split c.args.x.now c.args.self.now c.requires

pub near_parts-near-requires-clause-close : goal.near_parts-near-requires-clause-close
near_parts-near-requires-clause-close c = held_close c.args.x.now c.args.self.now c.corners_at-points.result c.requires c.corners_at-points.ensures.value

pub returns-clause-points : goal.returns-clause-points
returns-clause-points c = held_points c.args.x.now c.args.self.now c.corners_at-points.result c.requires c.corners_at-points.ensures.value

pub returns-clause-near : goal.returns-clause-near
returns-clause-near c = held_near c.args.x.now c.args.self.now c.corners_at-points.result c.near_parts-near.result c.requires c.corners_at-points.ensures.value c.near_parts-near.ensures.value

pub returns-clause-barrier : goal.returns-clause-barrier
returns-clause-barrier c =
    let points = c.corners_at-points.ensures.value in
    λ numbers. held_barrier numbers c.args.x.now c.args.self.now c.corners_at-points.result c.near_parts-near.result c.requires (held_points c.args.x.now c.args.self.now c.corners_at-points.result c.requires points)
    (held_near c.args.x.now c.args.self.now c.corners_at-points.result c.near_parts-near.result c.requires points c.near_parts-near.ensures.value)
