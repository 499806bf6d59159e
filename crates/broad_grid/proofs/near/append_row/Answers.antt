use Rattle.std.proofs.Common.{◌≡◌, ◌∙◌, ◌++◌, Bool, true, false, List, [], refl, sym, ap, map}
use Rattle.std.specs.Prelude.{if◌then◌else◌}
use Rattle.std.specs.List.{filter}
use Rattle.std.proofs.lemmas.List.{append-nil}
use Rattle.std.proofs.lemmas.Result.{IfOk-weaker}
use Rattle.boundary.specs.declared.pairs.Pair.{Pair}
use Rattle.boundary.specs.Pairs.{pair_of}
use Rattle.broad_grid.specs.Calls.Rows.{are_apart, is_near_loose}
use Rattle.broad_grid.proofs.AscendingRows.{found_are_there, row_is}
use Rattle.broad_grid.proofs.near.append_row.Goals as goal

-- the row where it is wanted
where_wanted : (b : Bool) (row : List Pair) → b ≡ true → (if b then row else []) ≡ row
where_wanted true row e = refl
where_wanted false row e = cc

-- and where it isn't
where_not : (b : Bool) (pairs row : List Pair) → b ≡ false → pairs ≡ pairs ++ (if b then row else [])
where_not true pairs row e = cc
where_not false pairs row e = sym (append-nil pairs)

pub returns-then-not-is_near_loose-clause-pairs : goal.returns-then-not-is_near_loose-clause-pairs
returns-then-not-is_near_loose-clause-pairs c = where_not (is_near_loose c.args.reach c.args.loose c.args.first.around) c.args.pairs.now.items _ (sym c.is_near_loose.ensures ∙ c.if-not-is_near_loose.true)

pub append_apart-requires-clause-there : goal.append_apart-requires-clause-there
append_apart-requires-clause-there c =
    found_are_there c.args.reach c.args.first.around c.least_second.result c.args.grid.now c.near.new.room c.found.result.now _ c.in_ok-looked_at.ensures.found c.found.ensures c.requires.seconds

pub returns-clause-pairs : goal.returns-clause-pairs
returns-clause-pairs c =
    let s = c.args.surface.now in
    let first = c.args.first in
    let kept = c.keep_ascending.ensures in
    let wanted : is_near_loose c.args.reach c.args.loose first.around ≡ true = sym c.is_near_loose.ensures ∙ c.if-not-is_near_loose.false in
    let row =
    row_is c.args.reach s first c.args.grid.now c.least_second.result c.near.new.room c.append_apart.new.seconds.items c.keep_ascending.new.positions.items c.least_second.ensures c.in_ok-looked_at.ensures.found
    (c.in_ok-append_apart.ensures.seconds ∙ (λ i. c.clear.ensures.items i ++ filter (are_apart s first.kind first.a) (c.found.ensures i)))
    kept.rises kept.keeps kept.adds_none in
    IfOk-weaker c.append_pairs.result (λ _. _) (λ _. _)
    (λ _ is. is ∙ ap (λ l. c.args.pairs.now.items ++ l) (ap (map (pair_of first.kind first.a)) c.deref.ensures.value ∙ row ∙ sym (where_wanted (is_near_loose c.args.reach c.args.loose first.around) _ wanted)))
    c.append_pairs.ensures
