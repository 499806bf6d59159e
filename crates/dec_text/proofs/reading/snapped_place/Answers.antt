use Rattle.std.proofs.Common.{◌≡◌, ℕ, ◌+◌, ◌-◌, ◌*◌, ◌/◌, ◌%◌, ◌^◌, min, cond, leb, sym, ap, ◌∙◌, arith}
use Rattle.dec_text.specs.Grid.{place_in_box, snapped_place}
use Rattle.dec_text.proofs.Quotients.{nearest_is}
use Rattle.dec_text.proofs.ReaderValues.{place_in_box-min}
use Rattle.dec_text.proofs.reading.snapped_place.Goals as goal

pub returns-in-Nearest : goal.returns-in-Nearest
returns-in-Nearest c = λ n d h q.
    let negative = c.args.negative in
    let up = cond (leb d (2 * (n % d))) 1 0 in
    c.place_in_box-in-Nearest.ensures
    ∙ ap (λ m. place_in_box negative m) (c.nearest_whole.ensures ∙ (λ i. min (q.whole i + cond (q.is_half i) 1 0) (2 ^ 64 - 1)) ∙ capped (n / d) up)
    ∙ place_in_box-min negative (n / d + up)
    ∙ ap (λ m. place_in_box negative m) (sym (nearest_is n d h))
    ∙ ap (λ s. snapped_place negative n d s) (sym c.in-Nearest.is)
  where
    capped : (q u : ℕ) → min (min q (2 ^ 64 - 1) + u) (2 ^ 64 - 1) ≡ min (q + u) (2 ^ 64 - 1)
    capped q u = omega arith
