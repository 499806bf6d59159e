use Rattle.std.proofs.Common.{sym, subst, ◌≤◌, length, arith}
use Rattle.std.proofs.lemmas.List.Sums.{prefix_len-le-length}
use Rattle.boundary.proofs.GroupCuts.{first_cut, first_some}
use Rattle.boundary.proofs.groups.first_group.Goals as goal

pub split_at-requires : goal.split_at-requires
split_at-requires c =
    subst (λ n. n ≤ length c.args.faces.now) (sym c.first_group_len.ensures) (prefix_len-le-length _ c.args.faces.now)

pub returns-clause-groups : goal.returns-clause-groups
returns-clause-groups c =
    rw (c.split_at.ensures.front, c.split_at.ensures.back)
    (first_cut c.args.faces.now c.first_group_len.result c.requires c.first_group_len.ensures)

pub returns-clause-some : goal.returns-clause-some
returns-clause-some c =
    let some = first_some c.args.faces.now _ c.requires c.first_group_len.ensures in
    omega (arith, some, c.split_at.ensures.front_len)

pub returns-clause-fewer : goal.returns-clause-fewer
returns-clause-fewer c =
    let some = first_some c.args.faces.now _ c.requires c.first_group_len.ensures in
    omega (arith, some, c.split_at.ensures.back_len, c.requires)
