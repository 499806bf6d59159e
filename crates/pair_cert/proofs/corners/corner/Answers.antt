use Rattle.std.proofs.Common.{◌≡◌, length, rules}
use Rattle.pair_cert.proofs.CornerMoves.{corner-is, corner_near}
use Rattle.pair_cert.proofs.corners.corner.Goals as goal

pub returns-clause-value : goal.returns-clause-value
returns-clause-value c =
    let part = c.args.part.now in
    let ls : length part.start.at ≡ 4 = search rules in
    let le : length part.end.at ≡ 4 = search rules in
    corner-is part c.args.i ls le part.start.few part.as_many c.requires.there

pub returns-clause-near : goal.returns-clause-near
returns-clause-near c =
    let part = c.args.part.now in
    let ls : length part.start.at ≡ 4 = search rules in
    let le : length part.end.at ≡ 4 = search rules in
    corner_near part c.args.i ls le part.start.few part.as_many c.requires.there c.requires.near
