use Rattle.std.proofs.Common.{◌≡◌, ◌∙◌, ◌+◌, ◌-◌, ◌*◌, ◌^◌, ◌≤◌, pos, ap, sym, subst, arith}
use Rattle.space3.specs.declared.vectors.V3.{V3}
use Rattle.space3.specs.Vectors.{Within, sum_of, multiple}
use Rattle.space3.proofs.Bounds.{multiple-less, within-sum}
use Rattle.space3.proofs.ways.at_scale.Goals as goal

pub returns-clause-value : goal.returns-clause-value
returns-clause-value c =
    let e : multiple (pos (c.power.result - c.args.j)) c.args.x0 ≡ multiple (pos (2 ^ c.args.k - c.args.j)) c.args.x0 = ap (λ n. multiple (pos (n - c.args.j)) c.args.x0) c.power.ensures.value in
    c.sum_of.ensures ∙ (λ i. sum_of ((c.multiple.ensures.value ∙ e ∙ multiple-less c.args.j (2 ^ c.args.k) c.args.x0 c.requires.within) i) (c.multiple-2.ensures.value i))

pub returns-clause-bound : goal.returns-clause-bound
returns-clause-bound c =
    let P : V3 → Type 0 = λ d. Within (2 ^ 28) d in
    let few : c.args.j ≤ c.power.result = rw c.power.ensures.value c.requires.within in
    let all : (c.power.result - c.args.j) * 2 ^ 20 + c.args.j * 2 ^ 20 ≤ 2 ^ 28 = omega (arith, few, c.power.ensures.few) in
    subst P (sym c.sum_of.ensures) (within-sum ((c.power.result - c.args.j) * 2 ^ 20) (c.args.j * 2 ^ 20) (2 ^ 28) c.multiple.result c.multiple-2.result c.multiple.ensures.bound c.multiple-2.ensures.bound all)
