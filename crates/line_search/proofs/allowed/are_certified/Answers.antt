use Rattle.std.proofs.Common.{◌≡◌, ◌∙◌, false, true, refl, sym, subst}
use Rattle.std.proofs.lemmas.List.{take_all}
use Rattle.std.proofs.lemmas.List.Elements.{All-more, All-same}
use Rattle.space3.specs.declared.lists.Tet.{Tet}
use Rattle.line_search.specs.Calls.Corners.{HasCertificate}
use Rattle.line_search.proofs.allowed.are_certified.Goals as goal

differ : false ≡ true → ⊥
differ e = cc

pub returns-then-not-is_certified : goal.returns-then-not-is_certified
returns-then-not-is_certified c =
    let P : Tet → Type 0 = HasCertificate c.args.x.now c.args.y.now in
    (λ t. absurd (differ t), λ all. sym c.if-not-is_certified.true ∙ c.is_certified.ensures.1 (subst P (sym c.tet-item.is) (all c.loop-tet.tet-index c.tet-item.result c.loop-tet-test.true)))

pub loop-tet-preserved : goal.loop-tet-preserved
loop-tet-preserved c =
    let P : Tet → Type 0 = HasCertificate c.args.x.now c.args.y.now in
    All-more P c.args.tets.now c.loop-tet.tet-index c.tet-item.result c.loop-tet-test.true c.loop-tet.invariant (subst P c.tet-item.is (c.is_certified.ensures.0 c.if-not-is_certified.false))

pub returns : goal.returns
returns c =
    let P : Tet → Type 0 = HasCertificate c.args.x.now c.args.y.now in
    (λ t. All-same P c.args.tets.now _ (sym (take_all c.loop-tet.tet-index c.args.tets.now c.loop-tet-test.false)) c.loop-tet.invariant, λ all. refl)
