use Rattle.std.proofs.Common.{rules, ◌≡◌, ◌+ℤ◌, to_z, of_z, w64}
use Rattle.ipc_top.proofs.PlaceSums.{sum_more}
use Rattle.ipc_top.proofs.sums.sum_of.Goals as goal

pub loop-node-preserved : goal.loop-node-preserved
loop-node-preserved c =
    let sum = c.loop-node.sum in
    let place = c.get-place.result in
    let x : to_z w64 (of_z w64 (to_z w64 (of_z w64 sum.x) +ℤ to_z w64 (of_z w64 place.x))) ≡ sum.x +ℤ place.x = search rules in
    let y : to_z w64 (of_z w64 (to_z w64 (of_z w64 sum.y) +ℤ to_z w64 (of_z w64 place.y))) ≡ sum.y +ℤ place.y = search rules in
    let z : to_z w64 (of_z w64 (to_z w64 (of_z w64 sum.z) +ℤ to_z w64 (of_z w64 place.z))) ≡ sum.z +ℤ place.z = search rules in
    sum_more c.args.places.now c.loop-node.node sum place _ c.loop-node.invariant c.get-place.ensures.place c.get-place.ensures.in_box (λ i. record { x = x i; y = y i; z = z i })
