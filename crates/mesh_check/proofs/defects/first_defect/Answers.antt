use Rattle.std.proofs.Common.{refl, sym}
use Rattle.mesh_check.specs.Defects.{Flawed, Meeting, Sound}
use Rattle.mesh_check.proofs.StandingPairs.{found_is_pair, parts_apart}
use Rattle.mesh_check.proofs.defects.first_defect.Goals as goal

pub returns-in-Some-clause-first : goal.returns-in-Some-clause-first
returns-in-Some-clause-first c = Flawed c.in-Some.flaw (sym c.in-Some.ensures.first) refl

pub returns-in-Some-2-clause-first : goal.returns-in-Some-2-clause-first
returns-in-Some-2-clause-first c =
    let first = rw c.in-Some-2.is at c.in_ok-pair.ensures.first in
    Meeting c.in-Some-2.pair (sym c.in_default.ensures.first) first refl

pub returns-in-Some-2-clause-pair : goal.returns-in-Some-2-clause-pair
returns-in-Some-2-clause-pair c =
    let first = rw c.in-Some-2.is at c.in_ok-pair.ensures.first in
    found_is_pair c.args.setup.now c.in-Some-2.pair first

pub returns-in-None-clause-first : goal.returns-in-None-clause-first
returns-in-None-clause-first c =
    let apart = rw c.in-None.is at c.in_ok-pair.ensures.none in
    Sound (sym c.in_default.ensures.first) apart refl

pub returns-in-None-clause-fit : goal.returns-in-None-clause-fit
returns-in-None-clause-fit c =
    let apart = rw c.in-None.is at c.in_ok-pair.ensures.none in
    record { sturdy = c.in_default.ensures.sturdy; apart = parts_apart c.args.setup.now apart }
