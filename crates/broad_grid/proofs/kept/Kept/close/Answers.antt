use Rattle.std.proofs.Common.{◌≡◌, ◌∙◌, true, ap, sym}
use Rattle.std.specs.List.{filter}
use Rattle.std.proofs.lemmas.Result.{IfOk-weaker}
use Rattle.broad_grid.specs.Kept.{KeptPairs, have_stayed}
use Rattle.broad_grid.specs.NearPairs.{is_close}
use Rattle.broad_grid.proofs.KeptAll.{all_among_kept}
use Rattle.broad_grid.proofs.kept.Kept.close.Goals as goal

pub returns-then-have_stayed-clause-whole : goal.returns-then-have_stayed-clause-whole
returns-then-have_stayed-clause-whole c =
    let s = c.args.surface.now in
    let x = c.args.x.now in
    let kept = c.args.self.now in
    let stayed : have_stayed kept.margin kept.places x ≡ true =
    sym (ap (λ (k : KeptPairs). have_stayed k.margin k.places x) c.self.view_is) ∙ sym c.have_stayed.ensures ∙ c.if-have_stayed.true in
    let passed : filter (is_close c.self.inside.reach s x) c.self.inside.pairs ≡ filter (is_close kept.reach s x) kept.pairs =
    ap (λ (k : KeptPairs). filter (is_close k.reach s x) k.pairs) c.self.view_is in
    IfOk-weaker c.close_among.result _ _
    (λ pairs found whole. found ∙ ap (filter (is_close c.self.inside.reach s x)) c.items.ensures ∙ passed ∙ all_among_kept s kept x c.requires.each stayed whole)
    c.close_among.ensures
