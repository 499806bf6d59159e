use Rattle.std.proofs.Common.{◌≡◌, ◌∙◌, sym, ap, true, false, arith}
use Rattle.std.specs.Prelude.{codes, ◌&&◌}
use Rattle.std.specs.Str.{bytes_eq}
use Rattle.mesh_words.proofs.SectionWords.{too_short, in_two}
use Rattle.mesh_words.proofs.words.is_end_of.Goals as goal

pub returns-then-field-lt4 : goal.returns-then-field-lt4
returns-then-field-lt4 c = sym (too_short c.args.field.now c.args.name.now (omega arith))

pub returns-then-eq : goal.returns-then-eq
returns-then-eq c =
    let word : bytes_eq c.split_at.result.0.now (codes "$End") ≡ true = ap (bytes_eq c.split_at.result.0.now) (sym c.as_slice.ensures) ∙ sym c.eq.ensures ∙ c.if-eq.true in
    c.eq-then-eq.ensures ∙ sym (in_two c.args.field.now c.split_at.result.0.now c.split_at.result.1.now c.args.name.now (sym c.split_at.ensures.by_index.0) c.split_at.ensures.front_len ∙ ap (λ b. b && bytes_eq c.split_at.result.1.now c.args.name.now) word)

pub returns-else-eq : goal.returns-else-eq
returns-else-eq c =
    let word : bytes_eq c.split_at.result.0.now (codes "$End") ≡ false = ap (bytes_eq c.split_at.result.0.now) (sym c.as_slice.ensures) ∙ sym c.eq.ensures ∙ c.if-eq.false in
    c.if-eq.false ∙ sym (in_two c.args.field.now c.split_at.result.0.now c.split_at.result.1.now c.args.name.now (sym c.split_at.ensures.by_index.0) c.split_at.ensures.front_len ∙ ap (λ b. b && bytes_eq c.split_at.result.1.now c.args.name.now) word)
