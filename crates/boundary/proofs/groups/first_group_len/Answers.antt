use Rattle.std.proofs.Common.{arith, []}
use Rattle.boundary.specs.declared.faces.Face.{Face}
use Rattle.boundary.proofs.GroupCuts.{group_stops, group_ends, group_goes_on}
use Rattle.boundary.proofs.groups.first_group_len.Goals as goal

nothing : Face
nothing = record { corners = []; turn = []; tet = 0 }

pub returns-then-ne : goal.returns-then-ne
returns-then-ne c =
    group_stops c.args.faces.now c.loop-k.k _ c.ne.result c.requires c.loop-k-test.true c.loop-k.invariant c.if-ne.true
    c.ne.ensures

pub returns : goal.returns
returns c =
    group_ends c.args.faces.now c.loop-k.k nothing (omega (arith, c.loop-k-test.false, c.loop-k.auto.k-end)) c.loop-k.invariant

pub loop-k-preserved : goal.loop-k-preserved
loop-k-preserved c =
    group_goes_on c.args.faces.now c.loop-k.k _ c.ne.result c.requires c.loop-k-test.true c.loop-k.invariant c.if-ne.false
    c.ne.ensures
