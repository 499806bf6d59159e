use Rattle.std.proofs.Common.{◌≡◌, ◌+◌, ◌≤◌, ap, length, option_map}
use Rattle.ipc_top.proofs.Taking.{take_stopped_so, take_whole, take_too_long}
use Rattle.ipc_top.proofs.files.take_file.Goals as goal

pub returns-in_err-bytes : goal.returns-in_err-bytes
returns-in_err-bytes g c = take_stopped_so c.args.name.now c.args.limit _ c.from_residual.ensures.1 c.in_err-bytes.ensures.does

pub returns-in-Some : goal.returns-in-Some
returns-in-Some g c =
    let h = c.in_ok-bytes.ensures in
    let within : length c.in-Some.bytes.items ≤ c.args.limit = rw c.in-Some.is at h.within in
    take_whole c.args.name.now c.args.limit c.in-Some.bytes.items _ (ap (option_map (λ v. v.items)) c.in-Some.is) h.told within h.does

pub returns-in-None : goal.returns-in-None
returns-in-None g c =
    let h = c.in_ok-bytes.ensures in
    let ten : (g.S.Shelf.state c.take.new.shelf).taken ≡ c.args.limit + 1 = rw c.in-None.is at h.too_long in
    take_too_long c.args.name.now c.args.limit c.refuse_too_long.result _ (ap (option_map (λ v. v.items)) c.in-None.is) h.told h.does ten (c.refuse_too_long.ensures (g.S.Shelf.state c.take.new.shelf))
