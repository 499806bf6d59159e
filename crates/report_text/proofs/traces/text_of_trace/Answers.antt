use Rattle.std.proofs.Common.{rules, ◌≡◌, ◌++◌}
use Rattle.std.specs.List.{flat_map}
use Rattle.report_text.specs.Traces.{step_text}
use Rattle.report_text.proofs.Joins.{trace_written}
use Rattle.report_text.proofs.traces.text_of_trace.Goals as goal

pub returns : goal.returns
returns c =
    let steps : c.add_steps.new.text.items ≡ c.extend_from_slice.new.self.items ++ flat_map (step_text c.args.mesh.now.numbers) c.args.steps.now = search rules in
    trace_written c.in_ok-text.text.items c.add_field.new.text.items c.extend_from_slice.new.self.items c.add_steps.new.text.items c.extend_from_slice-2.new.self.items c.add_end.new.text.items _ c.args.mesh.now c.args.frame c.args.steps.now c.args.end
    c.in_ok-text.ensures.items c.in_ok-add_field.ensures c.in_ok-extend_from_slice.ensures.items steps c.in_ok-extend_from_slice-2.ensures.items c.in_ok-add_end.ensures c.in_ok-extend_from_slice-3.ensures.items
