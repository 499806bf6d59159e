use Rattle.std.proofs.Common.{◌≡◌, ◌∙◌, false, true, sym}
use Rattle.list_laws.proofs.Firsts.{first_at}
use Rattle.std.proofs.lemmas.List.{take_all}
use Rattle.std.proofs.lemmas.List.Elements.{All-more, All-same}
use Rattle.boundary.specs.declared.pairs.Pair.{Pair}
use Rattle.mesh_check.specs.Defects.{PartsMeet}
use Rattle.mesh_check.proofs.meeting.first_meeting_of.Goals as goal

differ : false ≡ true → ⊥
differ e = cc

pub returns-then-do_parts_meet-clause-first : goal.returns-then-do_parts_meet-clause-first
returns-then-do_parts_meet-clause-first c =
    first_at (PartsMeet c.args.setup.now) c.args.pairs.now c.loop-pair.pair-index _ c.loop-pair-test.true
    (c.do_parts_meet.ensures.0 c.if-do_parts_meet.true) c.loop-pair.invariant

pub loop-pair-preserved : goal.loop-pair-preserved
loop-pair-preserved c =
    let Apart : Pair → Type 0 = λ pair. ¬ PartsMeet c.args.setup.now pair in
    All-more Apart c.args.pairs.now c.loop-pair.pair-index _ c.loop-pair-test.true c.loop-pair.invariant
    (λ meets. differ (sym c.if-do_parts_meet.false ∙ c.do_parts_meet.ensures.1 meets))

pub returns-clause-none : goal.returns-clause-none
returns-clause-none c =
    let Apart : Pair → Type 0 = λ pair. ¬ PartsMeet c.args.setup.now pair in
    All-same Apart c.args.pairs.now _ (sym (take_all c.loop-pair.pair-index c.args.pairs.now c.loop-pair-test.false)) c.loop-pair.invariant
