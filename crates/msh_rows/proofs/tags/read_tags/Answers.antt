use Rattle.std.proofs.Common.{rules, to_z, of_z, w32}
use Rattle.line_fields.specs.Lines.{fields}
use Rattle.msh_rows.proofs.TagLoop.{so_far-more, so_far-end}
use Rattle.msh_rows.proofs.tags.read_tags.Goals as goal

pub loop-left-preserved : goal.loop-left-preserved
loop-left-preserved c =
    rw c.in_ok-push.ensures.items
    (so_far-more c.args.count (fields c.args.line.now) c.loop-left.left (fields c.loop-left.rest.now) c.loop-left.tags.items c.in-Some.field.now (fields c.in-Some.after.now) (to_z w32 (of_z w32 c.in-Some-tag.number)) c.loop-left.invariant (search rules) c.in-Some.ensures.first (search rules))

pub returns : goal.returns
returns c = so_far-end c.args.count (fields c.args.line.now) c.loop-left.left (fields c.loop-left.rest.now) c.loop-left.tags.items c.loop-left.invariant c.loop-left-test.false
