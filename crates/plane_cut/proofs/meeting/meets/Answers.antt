use Rattle.std.proofs.Common.{◌^◌, All, List, sym, subst, take}
use Rattle.std.specs.Prelude.{is_some}
use Rattle.space3.specs.declared.vectors.V3.{V3}
use Rattle.space3.specs.Vectors.{Within}
use Rattle.space3.specs.Spots.{points}
use Rattle.plane_cut.proofs.Alternative.{differences_within, decides_meeting}
use Rattle.plane_cut.proofs.meeting.meets.Goals as goal

pub cone_of-requires-clause-range : goal.cone_of-requires-clause-range
cone_of-requires-clause-range c =
    subst (λ (rows : List V3). All (Within (2 ^ 29)) rows) (sym c.put_all_differences-count.ensures.rows) (differences_within (points c.args.a.now) (points c.args.b.now) c.requires.left c.requires.right)

pub returns-clause-meets : goal.returns-clause-meets
returns-clause-meets c =
    decides_meeting (points c.args.a.now) (points c.args.b.now) (take c.put_all_differences-count.result c.put_all_differences-count.new.rows) (is_some c.cone_of.result) c.is_none.result c.put_all_differences-count.ensures.rows c.is_none.ensures c.cone_of.ensures
