use Rattle.std.proofs.Common.{◌≡◌, ℕ, ◌+◌, ◌^◌, take, All, arith, subst, sym, get_or}
use Rattle.space3.specs.Vectors.{origin, Within}
use Rattle.list_laws.proofs.Elements.{All-take_at}
use Rattle.plane_cut.specs.Calls.Elimination.{ServesPair, ServesPairs}
use Rattle.plane_cut.specs.declared.cones.Cone.{Cone}
use Rattle.plane_cut.specs.Calls.Cones.{Narrows}
use Rattle.plane_cut.proofs.Narrowing.{First, narrows_more, narrows_skip, narrows_none, pairs_serve, test_above, test_not_above}
use Rattle.plane_cut.proofs.planes.with_all_pairs.Goals as goal
use Rattle.plane_cut.proofs.planes.with_all_pairs.Goals.{then-p-gt0+in_ok-cone, else-p-gt0}

pub returns-in_err-cone : goal.returns-in_err-cone
returns-in_err-cone c =
    let rows = c.args.rows.now in
    let some = take c.args.count rows in
    let p = get_or rows c.loop-i.i origin in
    let b : Within (2 ^ 29) p = All-take_at (Within (2 ^ 29)) rows c.loop-i.i c.args.count origin (omega arith) (omega arith) c.requires.range in
    let none = narrows_none c.args.start c.loop-i.cone (λ n r. ServesPairs n some r) (λ n. All (ServesPair n p) some) rows c.loop-i.i c.args.count origin (omega arith) (omega arith) c.loop-i.invariant c.in_err-cone.ensures
    (pairs_serve p some (test_above p.z b.z.bound c.if-p-gt0.true)) in
    rw c.from_residual.ensures none

pub loop-i-preserved : goal.loop-i-preserved
loop-i-preserved c =
    let rows = c.args.rows.now in
    let some = take c.args.count rows in
    let p = get_or rows c.loop-i.i origin in
    let b : Within (2 ^ 29) p = All-take_at (Within (2 ^ 29)) rows c.loop-i.i c.args.count origin (omega arith) (omega arith) c.requires.range in
    let P : Cone → Type 0 = λ k. Narrows c.args.start (First (λ n r. ServesPairs n some r) rows (c.loop-i.i + 1)) k in
    elim c.if-p-gt0.branch [
      | then-p-gt0+in_ok-cone w ↦ subst P (sym w.cone-is) (narrows_more c.args.start c.loop-i.cone w.in_ok-cone.cone (λ n r. ServesPairs n some r) (λ n. All (ServesPair n p) some) rows c.loop-i.i origin (omega arith)
          c.loop-i.invariant w.in_ok-cone.ensures (pairs_serve p some (test_above p.z b.z.bound w.if-p-gt0.true)))
      | else-p-gt0 w ↦ subst P (sym w.cone-is) (narrows_skip c.args.start c.loop-i.cone (λ n r. ServesPairs n some r) rows c.loop-i.i origin (omega arith) c.loop-i.invariant (λ n l. absurd (test_not_above p.z b.z.bound w.if-p-gt0.false l)))
    ]

pub returns : goal.returns
returns c =
    let e : c.loop-i.i ≡ c.args.count = omega arith in
    subst (λ (m : ℕ). Narrows c.args.start (First (λ n r. ServesPairs n (take c.args.count c.args.rows.now) r) c.args.rows.now m) c.loop-i.cone) e c.loop-i.invariant
