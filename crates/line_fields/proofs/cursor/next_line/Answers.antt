use Rattle.std.proofs.Common.{◌≡◌, ◌∙◌, ◌+◌, ◌-◌, sym, arith, length}
use Rattle.std.proofs.lemmas.Bool.{eqb-true, eqb-false}
use Rattle.line_fields.proofs.Numbered.{numbered-filled, numbered-empty, numbered-no_text, line_after, left_after}
use Rattle.line_fields.proofs.cursor.next_line.Goals as goal

pub returns-then-has_field-clause-first : goal.returns-then-has_field-clause-first
returns-then-has_field-clause-first c =
    c.loop-rest.invariant.same_rows ∙ numbered-filled _ _ _ _ c.split_line.ensures.first (sym c.if-has_field.ensures)

pub returns-then-has_field-clause-line : goal.returns-then-has_field-clause-line
returns-then-has_field-clause-line c =
    let some = eqb-false (length c.loop-rest.rest.now) 0 (sym c.loop-rest-test.ensures) in
    line_after _ _ c.loop-rest.rest.now _ _ c.loop-rest.invariant.left (omega arith) c.split_line.ensures.first

pub loop-rest-preserved : goal.loop-rest-preserved
loop-rest-preserved c =
    let some = eqb-false (length c.loop-rest.rest.now) 0 (sym c.loop-rest-test.ensures) in
    let line = line_after _ _ c.loop-rest.rest.now _ _ c.loop-rest.invariant.left (omega arith) c.split_line.ensures.first in
    let next : c.loop-rest.number + 1 - c.args.first ≡ c.loop-rest.number - c.args.first + 1 = omega (arith, c.loop-rest.invariant.from) in
    record {
      same_rows = c.loop-rest.invariant.same_rows ∙ numbered-empty _ _ _ _ c.split_line.ensures.first (sym c.if-has_field.ensures);
      left = rw next (left_after _ _ _ _ line);
      from = omega (arith, c.loop-rest.invariant.from);
      within = omega (arith, c.split_line.ensures.shorter (omega arith));
      shorter = omega (arith, c.split_line.ensures.shorter (omega arith));
    }

pub returns-clause-first : goal.returns-clause-first
returns-clause-first c = c.loop-rest.invariant.same_rows ∙ numbered-no_text _ c.loop-rest.rest.now (eqb-true (length c.loop-rest.rest.now) 0 (sym c.loop-rest-test.ensures))
