use Rattle.std.proofs.Common.{◌≡◌, ℕ, ◌+◌, ◌^◌, pos, ◌<ℤ◌, arith, subst, sym, get_or}
use Rattle.space3.specs.Vectors.{origin, Within, dot_product}
use Rattle.list_laws.proofs.Elements.{All-take_at}
use Rattle.plane_cut.specs.Calls.Elimination.{ServesPair}
use Rattle.plane_cut.specs.declared.cones.Cone.{Cone}
use Rattle.plane_cut.specs.Calls.Cones.{as_row, Narrows}
use Rattle.plane_cut.proofs.Narrowing.{First, narrows_more, narrows_skip, narrows_none, pair_serves, test_below, test_not_below}
use Rattle.plane_cut.proofs.planes.with_pairs.Goals as goal
use Rattle.plane_cut.proofs.planes.with_pairs.Goals.{then-q-lt0+in_ok-cone, else-q-lt0}

pub returns-in_err-cone : goal.returns-in_err-cone
returns-in_err-cone c =
    let rows = c.args.rows.now in
    let p = c.args.p in
    let q = get_or rows c.loop-i.i origin in
    let b : Within (2 ^ 29) q = All-take_at (Within (2 ^ 29)) rows c.loop-i.i c.args.count origin (omega arith) (omega arith) c.requires.range in
    let none = narrows_none c.args.start c.loop-i.cone (λ n r. ServesPair n p r) (λ n. pos 0 <ℤ dot_product n (as_row c.combination.result)) rows c.loop-i.i c.args.count origin (omega arith) (omega arith) c.loop-i.invariant c.in_err-cone.ensures
    (pair_serves p q (as_row c.combination.result) (test_below q.z b.z.bound c.if-q-lt0.true) c.combination.ensures) in
    rw c.from_residual.ensures none

pub loop-i-preserved : goal.loop-i-preserved
loop-i-preserved c =
    let rows = c.args.rows.now in
    let p = c.args.p in
    let q = get_or rows c.loop-i.i origin in
    let b : Within (2 ^ 29) q = All-take_at (Within (2 ^ 29)) rows c.loop-i.i c.args.count origin (omega arith) (omega arith) c.requires.range in
    let P : Cone → Type 0 = λ k. Narrows c.args.start (First (λ n r. ServesPair n p r) rows (c.loop-i.i + 1)) k in
    elim c.if-q-lt0.branch [
      | then-q-lt0+in_ok-cone w ↦ subst P (sym w.cone-is) (narrows_more c.args.start c.loop-i.cone w.in_ok-cone.cone (λ n r. ServesPair n p r) (λ n. pos 0 <ℤ dot_product n (as_row w.combination.result)) rows c.loop-i.i origin (omega arith)
          c.loop-i.invariant w.in_ok-cone.ensures (pair_serves p q (as_row w.combination.result) (test_below q.z b.z.bound w.if-q-lt0.true) w.combination.ensures))
      | else-q-lt0 w ↦ subst P (sym w.cone-is) (narrows_skip c.args.start c.loop-i.cone (λ n r. ServesPair n p r) rows c.loop-i.i origin (omega arith) c.loop-i.invariant (λ n l. absurd (test_not_below q.z b.z.bound w.if-q-lt0.false l)))
    ]

pub returns : goal.returns
returns c =
    let e : c.loop-i.i ≡ c.args.count = omega arith in
    subst (λ (m : ℕ). Narrows c.args.start (First (λ n r. ServesPair n c.args.p r) c.args.rows.now m) c.loop-i.cone) e c.loop-i.invariant
