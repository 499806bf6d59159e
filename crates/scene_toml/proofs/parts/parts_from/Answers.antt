use Rattle.std.proofs.Common.{◌≡◌, ◌∙◌, ◌∷◌, [], ◌++◌, ◌+◌, Ok, drop, ap, sym}
use Rattle.toml.specs.View.{items_view, view}
use Rattle.scene_toml.specs.Gives.{Fails}
use Rattle.scene_toml.specs.Parts.{part_of, parts_from}
use Rattle.scene_toml.specs.Values.{and_then}
use Rattle.scene_toml.proofs.Items.{next_part}
use Rattle.scene_toml.proofs.Steps.{gives_failure}
use Rattle.scene_toml.proofs.parts.parts_from.Goals as goal

pub returns-in_err-part : goal.returns-in_err-part
returns-in_err-part c =
    let earlier = c.loop-item.list.items in
    let rest = items_view (drop (c.loop-item.item-index + 1) c.args.items.now) in
    let d = view c.item-item.result in
    let fails : Fails c.in_err-part.field-0.0 (part_of earlier d) = rw (sym c.as_slice.ensures.value) c.in_err-part.ensures in
    gives_failure _ c.in_err-part.field-0.0 (part_of earlier d) _ c.from_residual.ensures.1 fails
    (λ fault e. c.loop-item.invariant
    ∙ next_part c.args.items.now c.loop-item.item-index c.item-item.result earlier c.loop-item-test.true c.item-item.is
    ∙ ap (λ r. and_then r (λ part. parts_from (earlier ++ part ∷ []) rest)) e)

pub loop-item-preserved : goal.loop-item-preserved
loop-item-preserved c =
    let earlier = c.loop-item.list.items in
    let rest = items_view (drop (c.loop-item.item-index + 1) c.args.items.now) in
    let read : part_of earlier (view c.item-item.result) ≡ Ok c.in_ok-part.part = rw (sym c.as_slice.ensures.value) c.in_ok-part.ensures in
    c.loop-item.invariant
    ∙ next_part c.args.items.now c.loop-item.item-index c.item-item.result earlier c.loop-item-test.true c.item-item.is
    ∙ ap (λ r. and_then r (λ part. parts_from (earlier ++ part ∷ []) rest)) read
    ∙ ap (λ list. parts_from list rest) (sym c.in_ok-add_part.ensures)
