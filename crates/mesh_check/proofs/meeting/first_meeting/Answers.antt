use Rattle.std.proofs.Common.{◌∙◌}
use Rattle.mesh_check.proofs.StandingPairs.{first_in_order, none_in_order, touching_are_pairs}
use Rattle.mesh_check.proofs.meeting.first_meeting.Goals as goal

pub first_meeting_of-requires-clause-pairs : goal.first_meeting_of-requires-clause-pairs
first_meeting_of-requires-clause-pairs c = touching_are_pairs c.args.setup.now c.items.result.now (c.items.ensures ∙ c.in_ok-touching.ensures)

pub returns-clause-first : goal.returns-clause-first
returns-clause-first c = first_in_order c.args.setup.now c.items.result.now c.first_meeting_of.result c.requires (c.items.ensures ∙ c.in_ok-touching.ensures) c.first_meeting_of.ensures.first

pub returns-clause-none : goal.returns-clause-none
returns-clause-none c = none_in_order c.args.setup.now c.items.result.now c.first_meeting_of.result c.requires (c.items.ensures ∙ c.in_ok-touching.ensures) c.first_meeting_of.ensures.none
