use Rattle.std.proofs.Common.{◌≡◌, ℕ, ◌+◌, ◌^◌, pos, ◌<ℤ◌, arith, subst, sym, get_or}
use Rattle.space3.specs.Vectors.{origin, Within, dot_product}
use Rattle.list_laws.proofs.Elements.{All-take_at}
use Rattle.plane_cut.specs.Calls.Elimination.{ServesFlat}
use Rattle.plane_cut.specs.declared.cones.Cone.{Cone}
use Rattle.plane_cut.specs.declared.cones.Cone.TheVariants.{Empty}
use Rattle.plane_cut.specs.Calls.Cones.{as_row, Narrows}
use Rattle.plane_cut.proofs.Narrowing.{First, narrows_more, narrows_skip, narrows_none, flat_serves, test_zero, test_not_zero}
use Rattle.plane_cut.proofs.planes.with_flats.Goals as goal
use Rattle.plane_cut.proofs.planes.with_flats.Goals.{then-row-eq0+in_ok-cone, else-row-eq0}

pub returns-in_err-cone : goal.returns-in_err-cone
returns-in_err-cone c =
    let rows = c.args.rows.now in
    let q = get_or rows c.loop-i.i origin in
    let b : Within (2 ^ 29) q = All-take_at (Within (2 ^ 29)) rows c.loop-i.i c.args.count origin (omega arith) (omega arith) c.requires.range in
    let none = narrows_none Empty c.loop-i.cone (λ n r. ServesFlat n r) (λ n. pos 0 <ℤ dot_product n (as_row c.flat_row.result)) rows c.loop-i.i c.args.count origin (omega arith) (omega arith) c.loop-i.invariant c.in_err-cone.ensures
    (flat_serves q (as_row c.flat_row.result) (test_zero q.z b.z.bound c.if-row-eq0.true) c.flat_row.ensures) in
    rw c.from_residual.ensures none

pub loop-i-preserved : goal.loop-i-preserved
loop-i-preserved c =
    let rows = c.args.rows.now in
    let q = get_or rows c.loop-i.i origin in
    let b : Within (2 ^ 29) q = All-take_at (Within (2 ^ 29)) rows c.loop-i.i c.args.count origin (omega arith) (omega arith) c.requires.range in
    let P : Cone → Type 0 = λ k. Narrows Empty (First (λ n r. ServesFlat n r) rows (c.loop-i.i + 1)) k in
    elim c.if-row-eq0.branch [
      | then-row-eq0+in_ok-cone w ↦ subst P (sym w.cone-is) (narrows_more Empty c.loop-i.cone w.in_ok-cone.cone (λ n r. ServesFlat n r) (λ n. pos 0 <ℤ dot_product n (as_row w.flat_row.result)) rows c.loop-i.i origin (omega arith)
          c.loop-i.invariant w.in_ok-cone.ensures (flat_serves q (as_row w.flat_row.result) (test_zero q.z b.z.bound w.if-row-eq0.true) w.flat_row.ensures))
      | else-row-eq0 w ↦ subst P (sym w.cone-is) (narrows_skip Empty c.loop-i.cone (λ n r. ServesFlat n r) rows c.loop-i.i origin (omega arith) c.loop-i.invariant (λ n l. absurd (test_not_zero q.z w.if-row-eq0.false l)))
    ]

pub returns : goal.returns
returns c =
    let e : c.loop-i.i ≡ c.args.count = omega arith in
    subst (λ (m : ℕ). Narrows Empty (First (λ n r. ServesFlat n r) c.args.rows.now m) c.loop-i.cone) e c.loop-i.invariant
