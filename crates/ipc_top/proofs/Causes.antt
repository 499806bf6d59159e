-- What a plan's end says of the words and of the devices.
use Rattle.std.proofs.Common.{◌≡◌, ◌⊎◌, ◌+◌, ℕ, inl, inr, refl, ap, sym, subst, ◌∙◌, Bool, true, false, List, [], ◌∷◌, ◌++◌, Option, Some, None, Result, Ok, Err, IsErrAnd, arith}
use Rattle.std.specs.Prelude.{if◌then◌else◌}
use Rattle.std.specs.List.{list_all}
use Rattle.shelf_io.specs.Shelf.{Files, Rose, IsIfTold}
use Rattle.space3.specs.declared.mesh.Mesh.{Mesh}
use Rattle.space3.specs.declared.vectors.V3.{V3}
use Rattle.boundary.specs.declared.refusal.SurfErr.{SurfErr}
use Rattle.boundary.specs.declared.refusal.SurfErr.TheVariants as surfaces
use Rattle.surface_mesh.specs.declared.setup.Setup.{Setup}
use Rattle.frame_driver.specs.Frames.{Frame, last_after}
use Rattle.ipc_top.specs.declared.acts.Stop.TheVariants as stops
use Rattle.ipc_top.specs.declared.refusals.End.{End}
use Rattle.ipc_top.specs.declared.refusals.End.TheVariants as ends
use Rattle.ipc_top.specs.Acts.{Act, Take, Put, Say, World, Stops}
use Rattle.work_gen.specs.Stack.{stack_mesh}
use Rattle.ipc_top.specs.CallsFor.{CommandCallsFor, CallsFor, StackCallsFor, usage_plan}
use Rattle.ipc_top.specs.Commands.{Command, RunStack, command_of}
use Rattle.ipc_top.specs.Ends.{IsOneOf, IsPlain, IsStatus, IsInput, EndsWhole, Closes, Ends, NoFault, Completes}
use Rattle.ipc_top.specs.Files.{Outcome, Accepted, Refused, Continues}
use Rattle.ipc_top.specs.Jobs.{Job, stack_job}
use Rattle.ipc_top.specs.Meshes.{surface_refused_plan}
use Rattle.ipc_top.specs.Motions.{Start}
use Rattle.ipc_top.specs.Moves.{Moves, acts_of_frames, first_start, frames_status, is_converged, motion_plan}
use Rattle.ipc_top.specs.Plans.{Plan}
use Rattle.ipc_top.specs.Roles.{Role, Seen, everywhere}
use Rattle.ipc_top.specs.Calls.Files.{Takes}
use Rattle.ipc_top.specs.Calls.Plans.{Follows, FollowsOne, Obeys, status_of}
use Rattle.ipc_top.proofs.EachPlan.{each_plan}
use Rattle.ipc_top.proofs.OnePlan.{only_plan}
use Rattle.ipc_top.proofs.Outcomes.{makes_refusal}
use Rattle.ipc_top.proofs.Taking.{OnRefused}
use Rattle.ipc_top.proofs.SafePlans.{plans_safe}

-- ---- how an answer closes a plan

closed_whole : (plan : Plan) (status : ℕ) (old new : World) → IsPlain status → EndsWhole plan status old new → Closes plan status old new
closed_whole plan status old new plain whole =
    let other : (n : ℕ) → status ≡ n → IsPlain n = λ n e. subst (λ (m : ℕ). IsPlain m) e plain in
    record {
      whole = λ p. whole;
      read = λ e. absurd (cc (other 3 e));
      write = λ e. absurd (cc (other 4 e));
      console = λ e. absurd (cc (other 9 e));
      memory = λ e. absurd (cc (other 8 e));
    }

closes_of : (plan : Plan) (result : Result ℕ End) (old new : World) → Follows plan result old new → Closes plan (status_of result) old new
closes_of plan (Ok status) old new h = closed_whole plan status old new h.0 h.1
closes_of plan (Err (ends.Refused status)) old new h = closed_whole plan status old new h.0 h.1
closes_of plan (Err (ends.Stopped stops.Read)) old new h = record { whole = λ p. absurd (cc p); read = λ e. h; write = λ e. absurd (omega arith); console = λ e. absurd (omega arith); memory = λ e. absurd (omega arith) }
closes_of plan (Err (ends.Stopped stops.Write)) old new h = record { whole = λ p. absurd (cc p); write = λ e. h; read = λ e. absurd (omega arith); console = λ e. absurd (omega arith); memory = λ e. absurd (omega arith) }
closes_of plan (Err (ends.Stopped stops.Console)) old new h = record { whole = λ p. absurd (cc p); console = λ e. h; read = λ e. absurd (omega arith); write = λ e. absurd (omega arith); memory = λ e. absurd (omega arith) }
closes_of plan (Err (ends.Stopped stops.Memory)) old new h = record { whole = λ p. absurd (cc p); memory = λ e. h; read = λ e. absurd (omega arith); write = λ e. absurd (omega arith); console = λ e. absurd (omega arith) }

pub ends_some : {old new : World} (words : List (List ℕ)) (result : Result ℕ End) (done : Obeys (CallsFor words) result old new) → Ends words done.seen (status_of result) old new
ends_some {old} {new} words result done = record {
  plan = done.plan;
  called = done.called;
  closes = closes_of done.plan result old new done.follows;
  safe = plans_safe words done.seen done.plan done.called;
}

-- where files are told, they were seen; else the words are no command, and no file counts
told_call : (words : List (List ℕ)) (told : Option Files) (seen : Seen) (files : Files) (plan : Plan) → IsInput words told files → ((role : Role) → IsIfTold told (seen role)) → CallsFor words seen plan → CallsFor words (everywhere files) plan
told_call words None seen files plan none is called =
    record { by_command = subst (λ (c : Option Command). CommandCallsFor c (everywhere files) plan) (sym none) (subst (λ (c : Option Command). CommandCallsFor c seen plan) none called.by_command) }
told_call words (Some told) seen files plan input is called =
    let same : seen ≡ everywhere files = λ i role. (sym (input ∙ is role)) i in
    subst (λ (s : Seen). CallsFor words s plan) same called

pub ends_told : {old new : World} (words : List (List ℕ)) (result : Result ℕ End) (files : Files) → IsInput words old.shelf.files files → Obeys (CallsFor words) result old new → Ends words (everywhere files) (status_of result) old new
ends_told {old} {new} words result files input done =
    let called = told_call words old.shelf.files done.seen files done.plan input done.told done.called in
    record {
      plan = done.plan;
      called = called;
      closes = closes_of done.plan result old new done.follows;
      safe = plans_safe words (everywhere files) done.plan called;
    }

-- ---- the causes

rose_since : (a b c : ℕ) → b ≡ a → Rose b c → Rose a c
rose_since a b c e rose = subst (λ (n : ℕ). Rose n c) e rose

pub read_cause : {old new : World} (plan : Plan) (status : ℕ) → Closes plan status old new → status ≡ 3 → Rose old.shelf.read_faults new.shelf.read_faults
read_cause plan status closes e = let s = closes.read e in rose_since _ _ _ s.did.read_faults s.fails.fault.rose

pub write_cause : {old new : World} (plan : Plan) (status : ℕ) → Closes plan status old new → status ≡ 4 → Rose old.shelf.write_faults new.shelf.write_faults
write_cause plan status closes e = let s = closes.write e in rose_since _ _ _ s.did.write_faults s.fails.fault.rose

pub console_cause : {old new : World} (plan : Plan) (status : ℕ) → Closes plan status old new → status ≡ 9 → Rose old.console.faults new.console.faults
console_cause plan status closes e = let s = closes.console e in rose_since _ _ _ s.did.faults s.fails.rose

-- ---- the statuses

frames_owe : (P : ℕ → Type 0) (frames : List Frame) → P 0 → P 1 → P (frames_status frames)
frames_owe P frames zero one = by (list_all (λ frame. is_converged frame.end) frames)
  where
    by : (all : Bool) → P (if all then 0 else 1)
    by true = zero
    by false = one

owed : (command : Option Command) (seen : Seen) (plan : Plan) → CommandCallsFor command seen plan → IsStatus plan.status
owed None seen plan e = subst (λ (p : Plan). IsStatus p.status) (sym e) refl
owed (Some command) seen plan h =
    each_plan (λ p. IsStatus p.status) command seen plan
    (record { three = λ acts. refl; five = λ acts. refl; six = λ acts. refl; seven = λ acts. refl; ten = λ acts. refl; taken = λ name p is. is; moves = λ job mesh surface frames none are. frames_owe IsStatus frames refl refl }) h

pub answers : {old new : World} (words : List (List ℕ)) (result : Result ℕ End) → Obeys (CallsFor words) result old new → IsStatus (status_of result)
answers {old} {new} words result done = by result done.follows
  where
    by : (r : Result ℕ End) → Follows done.plan r old new → IsStatus (status_of r)
    by (Ok status) h = subst (λ (n : ℕ). IsStatus n) (sym h.1.owed) (owed (command_of words) done.seen done.plan done.called.by_command)
    by (Err (ends.Refused status)) h = subst (λ (n : ℕ). IsStatus n) (sym h.1.owed) (owed (command_of words) done.seen done.plan done.called.by_command)
    by (Err (ends.Stopped stops.Read)) h = refl
    by (Err (ends.Stopped stops.Write)) h = refl
    by (Err (ends.Stopped stops.Console)) h = refl
    by (Err (ends.Stopped stops.Memory)) h = refl

-- ---- words that are no command

two_means : (command : Option Command) (seen : Seen) (plan : Plan) → CommandCallsFor command seen plan → plan.status ≡ 2 → command ≡ None
two_means None seen plan h e = refl
two_means (Some command) seen plan h e =
    absurd (each_plan (λ p. p.status ≡ 2 → ⊥) command seen plan
    (record { three = λ acts e. omega arith; five = λ acts e. omega arith; six = λ acts e. omega arith; seven = λ acts e. omega arith; ten = λ acts e. omega arith; taken = λ name p not e. not e; moves = λ job mesh surface frames none are. frames_owe (λ n. n ≡ 2 → ⊥) frames (λ e. omega arith) (λ e. omega arith) }) h e)

pub usage_means : {old new : World} (words : List (List ℕ)) (result : Result ℕ End) → Obeys (CallsFor words) result old new → status_of result ≡ 2 → command_of words ≡ None
usage_means {old} {new} words result done e = by result done.follows e
  where
    by : (r : Result ℕ End) → Follows done.plan r old new → status_of r ≡ 2 → command_of words ≡ None
    by (Ok status) h e = two_means (command_of words) done.seen done.plan done.called.by_command (sym h.1.owed ∙ e)
    by (Err (ends.Refused status)) h e = two_means (command_of words) done.seen done.plan done.called.by_command (sym h.1.owed ∙ e)
    by (Err (ends.Stopped stops.Read)) h e = absurd (omega arith)
    by (Err (ends.Stopped stops.Write)) h e = absurd (omega arith)
    by (Err (ends.Stopped stops.Console)) h e = absurd (omega arith)
    by (Err (ends.Stopped stops.Memory)) h e = absurd (omega arith)

-- ---- acts that say lines, and no others
abbrev SayOnly : List Act → Type 0
SayOnly [] = Unit {0}
SayOnly (Take name ∷ acts) = ⊥
SayOnly (Put name text ∷ acts) = ⊥
SayOnly (Say line ∷ acts) = SayOnly acts

none_taken : (done later : List Act) (name : List ℕ) → SayOnly (done ++ Take name ∷ later) → ⊥
none_taken [] later name only = only
none_taken (Take other ∷ done) later name only = only
none_taken (Put other text ∷ done) later name only = only
none_taken (Say line ∷ done) later name only = none_taken done later name only

none_put : (done later : List Act) (name text : List ℕ) → SayOnly (done ++ Put name text ∷ later) → ⊥
none_put [] later name text only = only
none_put (Take other ∷ done) later name text only = only
none_put (Put other text' ∷ done) later name text only = only
none_put (Say line ∷ done) later name text only = none_put done later name text only

-- where lines alone are said, the shelf can't fail
not_read : {old new : World} (acts : List Act) → SayOnly acts → Stops stops.Read acts old new → ⊥
not_read acts only s =
    let f = s.fails.fault in
    none_taken s.done f.later f.name (subst SayOnly (s.list ∙ ap (λ due. s.done ++ due) f.next) only)

not_written : {old new : World} (acts : List Act) → SayOnly acts → Stops stops.Write acts old new → ⊥
not_written acts only s =
    let f = s.fails.fault in
    none_put s.done f.later f.name f.text (subst SayOnly (s.list ∙ ap (λ due. s.done ++ due) f.next) only)

pub no_command : {old new : World} (words : List (List ℕ)) (result : Result ℕ End) → Obeys (CallsFor words) result old new → command_of words ≡ None → IsOneOf (2 ∷ 8 ∷ 9 ∷ []) (status_of result)
no_command {old} {new} words result done e = by result (subst (λ (p : Plan). Follows p result old new) calls done.follows)
  where
    calls : done.plan ≡ usage_plan
    calls = subst (λ (c : Option Command). CommandCallsFor c done.seen done.plan) e done.called.by_command

    two : (status : ℕ) → EndsWhole usage_plan status old new → IsOneOf (2 ∷ 8 ∷ 9 ∷ []) status
    two status whole = subst (λ (n : ℕ). IsOneOf (2 ∷ 8 ∷ 9 ∷ []) n) (sym whole.owed) refl

    by : (r : Result ℕ End) → Follows usage_plan r old new → IsOneOf (2 ∷ 8 ∷ 9 ∷ []) (status_of r)
    by (Ok status) h = two status h.1
    by (Err (ends.Refused status)) h = two status h.1
    by (Err (ends.Stopped stops.Read)) h = absurd (not_read usage_plan.acts tt h)
    by (Err (ends.Stopped stops.Write)) h = absurd (not_written usage_plan.acts tt h)
    by (Err (ends.Stopped stops.Console)) h = refl
    by (Err (ends.Stopped stops.Memory)) h = refl

-- ---- the stated stack

-- the statuses of a command without files
abbrev IsStackStatus : ℕ → Type 0
IsStackStatus = IsOneOf (0 ∷ 1 ∷ 6 ∷ 7 ∷ 8 ∷ 9 ∷ [])

frames_say_only : (setup : Setup) (number : ℕ) (now : List V3) (frames : List Frame) → SayOnly (acts_of_frames stack_job setup number now frames)
frames_say_only setup number now [] = tt
frames_say_only setup number now (frame ∷ frames) = frames_say_only setup (number + 1) (last_after now frame.steps) frames

-- it says lines alone, and ends with one of these statuses
record Speaks (plan : Plan) : Type 0 where
  only : SayOnly plan.acts
  owed : IsStackStatus plan.status

motion_speaks : (setup : Setup) (frames : List Frame) → Speaks (motion_plan stack_job (record { setup = setup; start = first_start stack_job setup; frames = frames }))
motion_speaks setup frames = record { only = frames_say_only setup 1 setup.mesh.places frames; owed = frames_owe IsStackStatus frames refl refl }

surface_speaks : (mesh : Mesh) (err : SurfErr) → Speaks (surface_refused_plan mesh err)
surface_speaks mesh surfaces.Memory = record { only = tt; owed = refl }
surface_speaks mesh (surfaces.FaceThrice tets) = record { only = tt; owed = refl }
surface_speaks mesh (surfaces.FaceSame tets) = record { only = tt; owed = refl }
surface_speaks mesh (surfaces.TooManyTriangles count) = record { only = tt; owed = refl }

stack_speaks : (blocks : ℕ) (plan : Plan) → StackCallsFor blocks plan → Speaks plan
stack_speaks blocks plan calls = by calls.outcome calls.continues
    (makes_refusal Speaks (λ mesh err refused. surface_speaks mesh err) (λ setup defect. record { only = tt; owed = refl }) stack_job.numbers (stack_mesh blocks) calls.outcome calls.makes)
  where
    by : (o : Outcome Setup) → Continues o (λ setup. Moves stack_job setup (first_start stack_job setup)) plan → OnRefused Speaks o → Speaks plan
    by (Accepted setup) moves refused = subst Speaks (sym moves.same) (motion_speaks setup moves.frames)
    by (Refused refusal) same refused = subst Speaks (sym same) refused

stack_ends : (old new : World) (plan : Plan) (result : Result ℕ End) → Speaks plan → Follows plan result old new → IsStackStatus (status_of result)
stack_ends old new plan (Ok status) speaks h = subst IsStackStatus (sym h.1.owed) speaks.owed
stack_ends old new plan (Err (ends.Refused status)) speaks h = subst IsStackStatus (sym h.1.owed) speaks.owed
stack_ends old new plan (Err (ends.Stopped stops.Read)) speaks h = absurd (not_read plan.acts speaks.only h)
stack_ends old new plan (Err (ends.Stopped stops.Write)) speaks h = absurd (not_written plan.acts speaks.only h)
stack_ends old new plan (Err (ends.Stopped stops.Console)) speaks h = refl
stack_ends old new plan (Err (ends.Stopped stops.Memory)) speaks h = refl

pub stack_status : {old new : World} (words : List (List ℕ)) (blocks : ℕ) (result : Result ℕ End) → Obeys (CallsFor words) result old new → command_of words ≡ Some (RunStack blocks) → IsStackStatus (status_of result)
stack_status {old} {new} words blocks result done e =
    let calls : StackCallsFor blocks done.plan = subst (λ (c : Option Command). CommandCallsFor c done.seen done.plan) e done.called.by_command in
    stack_ends old new done.plan result (stack_speaks blocks done.plan calls) done.follows

pub stack_not_ten : {old new : World} (blocks : ℕ) (result : Result ℕ End) → Obeys (CommandCallsFor (Some (RunStack blocks))) result old new → status_of result ≡ 10 → ⊥
stack_not_ten {old} {new} blocks result done e = cc (subst IsStackStatus e (stack_ends old new done.plan result (stack_speaks blocks done.plan done.called) done.follows))

-- ---- where nothing fails

completes_by : {old new : World} (result : Result ℕ End) (plan : Plan) → Follows plan result old new → NoFault old new → (status_of result ≡ 8) ⊎ EndsWhole plan (status_of result) old new
completes_by (Ok status) plan h quiet = inr h.1
completes_by (Err (ends.Refused status)) plan h quiet = inr h.1
completes_by (Err (ends.Stopped stops.Read)) plan h quiet = absurd (quiet.reads (rose_since _ _ _ h.did.read_faults h.fails.fault.rose))
completes_by (Err (ends.Stopped stops.Write)) plan h quiet = absurd (quiet.writes (rose_since _ _ _ h.did.write_faults h.fails.fault.rose))
completes_by (Err (ends.Stopped stops.Console)) plan h quiet = absurd (quiet.console (rose_since _ _ _ h.did.faults h.fails.rose))
completes_by (Err (ends.Stopped stops.Memory)) plan h quiet = inl refl

pub completes : {old new : World} (words : List (List ℕ)) (result : Result ℕ End) → Obeys (CallsFor words) result old new → Completes words (status_of result) old new
completes {old} {new} words result done = λ files plan told called quiet.
    let input = subst (λ (o : Option Files). IsInput words o files) (sym told) refl in
    let other = told_call words old.shelf.files done.seen files done.plan input done.told done.called in
    let same : done.plan ≡ plan = only_plan words (everywhere files) done.plan plan other called in
    completes_by result plan (subst (λ (p : Plan). Follows p result old new) same done.follows) quiet

-- ---- a status that comes of no length

-- what a motion ends with isn't that of a file that is too long
pub not_ten : (old new : World) (plan : Plan) (result : Result ℕ End) → (plan.status ≡ 10 → ⊥) → Follows plan result old new → status_of result ≡ 10 → ⊥
not_ten old new plan (Ok status) not h e = not (sym h.1.owed ∙ e)
not_ten old new plan (Err (ends.Refused status)) not h e = not (sym h.1.owed ∙ e)
not_ten old new plan (Err (ends.Stopped stops.Read)) not h e = omega arith
not_ten old new plan (Err (ends.Stopped stops.Write)) not h e = omega arith
not_ten old new plan (Err (ends.Stopped stops.Console)) not h e = omega arith
not_ten old new plan (Err (ends.Stopped stops.Memory)) not h e = omega arith

pub motion_not_ten : {old new : World} (job : Job) (setup : Setup) (start : Start) (result : Result ℕ End) → FollowsOne (Moves job setup start) result old new → status_of result ≡ 10 → ⊥
motion_not_ten {old} {new} job setup start result one e =
    let owed = subst (λ (p : Plan). p.status ≡ 10 → ⊥) (sym one.called.same) (frames_owe (λ n. n ≡ 10 → ⊥) one.called.frames (λ e. omega arith) (λ e. omega arith)) in
    not_ten old new one.plan result owed one.follows e

-- what a `?` hands on ends with 10 only as a refusal
pub ten_refused : (end : End) (result : Result ℕ End) → IsErrAnd result (λ e. e ≡ end) → status_of result ≡ 10 → end ≡ ends.Refused 10
ten_refused end (Ok status) is e = absurd is
ten_refused end (Err (ends.Refused status)) is e = sym is ∙ ap ends.Refused e
ten_refused end (Err (ends.Stopped stops.Read)) is e = absurd (omega arith)
ten_refused end (Err (ends.Stopped stops.Write)) is e = absurd (omega arith)
ten_refused end (Err (ends.Stopped stops.Console)) is e = absurd (omega arith)
ten_refused end (Err (ends.Stopped stops.Memory)) is e = absurd (omega arith)

-- a file that was not taken, or was refused, ends with 10 only for its length
pub ten_taken : {X : Type 0} {old new : World} (name : List ℕ) (limit : ℕ) (Means : List ℕ → Outcome X → Type 0) (end : End) (result : Result ℕ End) → IsErrAnd result (λ e. e ≡ end) → Takes name limit Means (Err end) old new → status_of result ≡ 10 → new.shelf.taken ≡ limit + 1
ten_taken name limit Means end result is taken e = taken.too_long (ap (λ (x : End). Err x) (ten_refused end result is e))
