use Rattle.std.proofs.Common.{◌∙◌, sym, refl, arith}
use Rattle.std.proofs.lemmas.List.Elements.{All-more}
use Rattle.pair_cert.specs.Calls.Moves.{IsAhead}
use Rattle.pair_cert.specs.Parts.{still}
use Rattle.list_laws.proofs.Elements.{All-take_at, All-take_less}
use Rattle.pair_cert.proofs.planes.serves.Goals as goal

pub returns-then-not-is_ahead : goal.returns-then-not-is_ahead
returns-then-not-is_ahead c =
    (λ t. cc, λ all. sym c.if-not-is_ahead.true ∙ c.is_ahead.ensures.1 (All-take_at (IsAhead c.args.n) c.args.moves.now.at c.loop-i.i c.args.moves.now.count still (omega arith) (omega arith) all))

pub loop-i-preserved : goal.loop-i-preserved
loop-i-preserved c = All-more (IsAhead c.args.n) c.args.moves.now.at c.loop-i.i still (omega arith) c.loop-i.invariant (c.is_ahead.ensures.0 c.if-not-is_ahead.false)

pub returns : goal.returns
returns c = (λ t. All-take_less (IsAhead c.args.n) c.args.moves.now.at c.args.moves.now.count c.loop-i.i (omega arith) c.loop-i.invariant, λ all. refl)
