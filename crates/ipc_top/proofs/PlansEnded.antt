-- A plan that goes on after its first acts, or is stopped in them.
use Rattle.std.proofs.Common.{◌≡◌, ℕ, List, sym, subst, Result, Ok, Err, IsErrAnd}
use Rattle.ipc_top.specs.declared.acts.Stop.{Stop}
use Rattle.ipc_top.specs.declared.refusals.End.{End}
use Rattle.ipc_top.specs.declared.refusals.End.TheVariants as ends
use Rattle.ipc_top.specs.Acts.{Act, World, Did, Stops}
use Rattle.ipc_top.specs.Ends.{EndsWhole}
use Rattle.ipc_top.specs.Plans.{Plan, then_plan}
use Rattle.ipc_top.specs.Calls.Plans.{Follows}
use Rattle.ipc_top.proofs.ActsDone.{did_after, stops_after, stops_before}

-- a plan was done whole after other acts
whole_then : {old mid new : World} (xs : List Act) (plan : Plan) (status : ℕ) → Did xs old mid → EndsWhole plan status mid new → EndsWhole (then_plan xs plan) status old new
whole_then xs plan status did whole = record { owed = whole.owed; did = did_after xs plan.acts did whole.did }

-- some acts were done, and then a plan was followed
pub follows_then : (xs : List Act) (plan : Plan) (result : Result ℕ End) (old mid new : World) → Did xs old mid → Follows plan result mid new → Follows (then_plan xs plan) result old new
follows_then xs plan (Ok status) old mid new did h = (h.0, whole_then xs plan status did h.1)
follows_then xs plan (Err (ends.Refused status)) old mid new did h = (h.0, whole_then xs plan status did h.1)
follows_then xs plan (Err (ends.Stopped stop)) old mid new did h = stops_after xs plan.acts did h

-- the first acts of a plan were stopped
pub stops_plan : {stop : Stop} {old new : World} (xs : List Act) (plan : Plan) → Stops stop xs old new → Follows (then_plan xs plan) (Err (ends.Stopped stop)) old new
stops_plan xs plan stops = stops_before xs plan.acts stops

-- what a `?` hands on
pub follows_end : (old new : World) (plan : Plan) (end : End) (result : Result ℕ End) → IsErrAnd result (λ e. e ≡ end) → Follows plan (Err end) old new → Follows plan result old new
follows_end old new plan end (Ok status) is h = absurd is
follows_end old new plan end (Err e) is h = subst (λ (x : End). Follows plan (Err x) old new) (sym is) h
