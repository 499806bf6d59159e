use Rattle.std.proofs.Common.{◌≡◌, ◌∙◌, ℕ, ◌+◌, ◌*◌, ◌<◌, ◌≤◌, false, true, length, refl, sym, arith}
use Rattle.std.proofs.lemmas.List.{take_all}
use Rattle.std.proofs.lemmas.List.Elements.{All-more, All-same}
use Rattle.boundary.specs.declared.pairs.Pair.{Pair}
use Rattle.pair_cert.proofs.Tallies.{rises_more, rises_then}
use Rattle.line_search.proofs.AllPairs.{IsPairApart}
use Rattle.line_search.proofs.apart.are_apart.Goals as goal

differ : false ≡ true → ⊥
differ e = cc

-- a pair more
once_more : (i n : ℕ) → i < n → 511 * i + 511 ≤ 511 * n
once_more i n l = omega (arith, l)

pub returns-then-not-is_apart-clause-apart : goal.returns-then-not-is_apart-clause-apart
returns-then-not-is_apart-clause-apart c =
    (λ t. absurd (differ t), λ all. sym c.if-not-is_apart.true ∙ c.is_apart.ensures.apart.1 (all c.loop-pair.pair-index _ c.loop-pair-test.true))

pub returns-then-not-is_apart-clause-tally : goal.returns-then-not-is_apart-clause-tally
returns-then-not-is_apart-clause-tally c =
    rises_more (511 * c.loop-pair.pair-index + 511) (511 * length c.args.pairs.now) _ _ (once_more c.loop-pair.pair-index (length c.args.pairs.now) c.loop-pair-test.true)
    (rises_then (511 * c.loop-pair.pair-index) 511 _ _ _ c.loop-pair.invariant.tally c.is_apart.ensures.tally)

pub loop-pair-preserved : goal.loop-pair-preserved
loop-pair-preserved c =
    let P : Pair → Type 0 = IsPairApart c.args.surface.now c.args.x.now c.args.y.now in
    record {
      apart = All-more P c.args.pairs.now c.loop-pair.pair-index _ c.loop-pair-test.true c.loop-pair.invariant.apart (c.is_apart.ensures.apart.0 c.if-not-is_apart.false);
      tally =
          rises_more (511 * c.loop-pair.pair-index + 511) (511 * (c.loop-pair.pair-index + 1)) _ _ (omega arith)
          (rises_then (511 * c.loop-pair.pair-index) 511 _ _ _ c.loop-pair.invariant.tally c.is_apart.ensures.tally);
    }

pub returns-clause-apart : goal.returns-clause-apart
returns-clause-apart c =
    let P : Pair → Type 0 = IsPairApart c.args.surface.now c.args.x.now c.args.y.now in
    (λ t. All-same P c.args.pairs.now _ (sym (take_all c.loop-pair.pair-index c.args.pairs.now c.loop-pair-test.false)) c.loop-pair.invariant.apart, λ all. refl)
