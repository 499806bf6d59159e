-- A file is taken, and its bytes are looked through.
use Rattle.std.proofs.Common.{◌≡◌, ◌<◌, ◌≤◌, ◌+◌, ℕ, refl, ap, sym, subst, ◌∙◌, List, [], ◌∷◌, ◌++◌, length, append-nil, Option, Some, None, IfSome, IsSomeAnd, Result, Ok, Err, IsErrAnd, arith}
use Rattle.std.proofs.Math.Decide.{dec_le}
use Rattle.std.specs.declared.vec.Vec.{Vec}
use Rattle.std.specs.FinMap.{get}
use Rattle.shelf_io.specs.Shelf.{Files}
use Rattle.report_text.specs.declared.line.Line.TheVariants as lines
use Rattle.ipc_top.specs.declared.acts.Stop.{Stop}
use Rattle.ipc_top.specs.declared.acts.Stop.TheVariants as stops
use Rattle.ipc_top.specs.declared.refusals.End.{End}
use Rattle.ipc_top.specs.declared.refusals.End.TheVariants as ends
use Rattle.ipc_top.specs.Acts.{Act, Take, Say, World, Did, Stops, IsDue}
use Rattle.ipc_top.specs.Files.{Outcome, Accepted, Refused, FileMeans, Missing, TooLong, Whole, missing_plan, too_long_plan}
use Rattle.ipc_top.specs.Plans.{Plan, refusal, then_plan}
use Rattle.ipc_top.specs.Calls.Files.{IsTaken, MayFollow, Answers, Takes, LooksThrough, bytes_of}
use Rattle.ipc_top.specs.Calls.Plans.{Follows}
use Rattle.ipc_top.proofs.ActsDone.{did_after, did_same, did_nothing, nothing_done, due_first}
use Rattle.ipc_top.proofs.PlansEnded.{follows_then, stops_plan}
use Rattle.ipc_top.proofs.SomeFiles.{file_or, file_or-told, longer_than}

-- ---- refusals of texts

-- a refusal has an act, and its status isn't that of a file that is too long
pub record IsTextRefusal (plan : Plan) : Type 0 where
  pub due : IsDue plan.acts
  pub not_ten : plan.status ≡ 10 → ⊥

-- it holds of the refusal, if the outcome is one
abbrev pub OnRefused : {X : Type 0} → (Plan → Type 0) → Outcome X → Type 0
OnRefused Q (Accepted x) = Unit {0}
OnRefused Q (Refused plan) = Q plan

-- a plan that may follow has an act
pub due_of : {X : Type 0} (outcome : Outcome X) (plan : Plan) → OnRefused IsTextRefusal outcome → MayFollow outcome plan → IsDue plan.acts
due_of (Accepted x) plan text may = may
due_of (Refused refusal) plan text may = subst (λ (p : Plan). IsDue p.acts) (sym may) text.due

-- the outcome of a text isn't refused for its length
not_ten : {X : Type 0} {old new : World} (outcome : Outcome X) → OnRefused IsTextRefusal outcome → Answers [] outcome (Err (ends.Refused 10)) old new → ⊥
not_ten (Accepted x) text h = let e = (h (refusal lines.Start 0) (due_first (Say lines.Start) [])).1.owed in omega (arith, e)
not_ten (Refused plan) text h = text.not_ten (sym (h plan refl).1.owed)

-- ---- a text is looked through

-- it gave what the text means
pub looked_well : {X : Type 0} (Means : Outcome X → Type 0) (x : X) (w : World) → Means (Accepted x) → LooksThrough Means (Ok x) w w
looked_well Means x w means = record { outcome = Accepted x; means = means; answers = (refl, did_nothing w) }

-- the text was refused
pub looked_refused : {X : Type 0} (old new : World) (Means : Outcome X → Type 0) (plan : Plan) (end : End) → Means (Refused plan) → Follows plan (Err end) old new → LooksThrough {X = X} Means (Err end) old new
looked_refused old new Means plan end means follows =
    record { outcome = Refused plan; means = means; answers = λ rest may. subst (λ (p : Plan). Follows p (Err end) old new) (sym may) follows }

-- memory was wanting
pub looked_nothing : {X : Type 0} (Means : Outcome X → Type 0) (o : Outcome X) (w : World) → Means o → OnRefused IsTextRefusal o → LooksThrough {X = X} Means (Err (ends.Stopped stops.Memory)) w w
looked_nothing Means o w means text = record { outcome = o; means = means; answers = λ rest may. nothing_done rest.acts w (due_of o rest text may) }

-- what the text means, said otherwise
pub looked_as : {X : Type 0} {old new : World} (M N : Outcome X → Type 0) (result : Result X End) → ((o : Outcome X) → M o → N o) → LooksThrough M result old new → LooksThrough N result old new
looked_as M N result as_so looked = record { outcome = looked.outcome; means = as_so looked.outcome looked.means; answers = looked.answers }

-- ---- the file is taken first

-- acts were done, and then a call answered
answers_then : {X : Type 0} (acts : List Act) (outcome : Outcome X) (result : Result X End) (old mid new : World) → Did acts old mid → Answers [] outcome result mid new → Answers acts outcome result old new
answers_then acts outcome (Ok x) old mid new did h = (h.0, did_same (acts ++ []) acts (append-nil acts) (did_after acts [] did h.1))
answers_then acts outcome (Err end) old mid new did h = λ rest may. follows_then acts rest (Err end) old mid new did (h rest may)

-- the bytes that a file gave are those that it has
given_whole : (name : List ℕ) (limit : ℕ) (file : Option (List ℕ)) (outcome : Outcome (List ℕ)) (bytes : List ℕ) → FileMeans name limit (λ bs o. o ≡ Accepted bs) file outcome → outcome ≡ Accepted bytes → (file ≡ Some bytes) × (length bytes ≤ limit)
given_whole name limit file outcome bytes (Missing there is) e = absurd cc
given_whole name limit file outcome bytes (TooLong bs there long is) e = absurd cc
given_whole name limit file outcome bytes (Whole bs there within is) e =
    let same : bs ≡ bytes = cc in
    (there ∙ ap Some same, subst (λ (b : List ℕ). length b ≤ limit) same within)

-- a file was taken, and its bytes were looked through
pub taken_looked : {X : Type 0} {old mid new : World} (name : List ℕ) (limit : ℕ) (Means : List ℕ → Outcome X → Type 0) (bytes lent : List ℕ) (result : Result X End)
    → ((bs : List ℕ) (o : Outcome X) → Means bs o → OnRefused IsTextRefusal o) → lent ≡ bytes
    → Takes name limit (λ bs o. o ≡ Accepted bs) (Ok bytes) old mid → LooksThrough (Means lent) result mid new → Takes name limit Means result old new
taken_looked {X} {old} {mid} {new} name limit Means bytes lent result texts is taken looked =
    let whole = given_whole name limit taken.file taken.outcome bytes taken.means taken.answers.0 in
    record {
      file = taken.file;
      told = taken.told;
      outcome = looked.outcome;
      means = Whole bytes whole.0 whole.1 (subst (λ (bs : List ℕ). Means bs looked.outcome) is looked.means);
      answers = answers_then (Take name ∷ []) looked.outcome result old mid new taken.answers.1 looked.answers;
      too_long = λ e. absurd (not_ten looked.outcome (texts lent looked.outcome looked.means) (subst (λ (r : Result X End). Answers [] looked.outcome r mid new) e looked.answers));
    }

-- a file was not taken, or was too long
pub not_taken : {X : Type 0} {old new : World} (name : List ℕ) (limit : ℕ) (Means : List ℕ → Outcome X → Type 0) (end : End)
    → ((bytes : List ℕ) → (o : Outcome X) × Means bytes o) → ((bytes : List ℕ) (o : Outcome X) → Means bytes o → OnRefused IsTextRefusal o)
    → Takes name limit (λ bs o. o ≡ Accepted bs) (Err end) old new → Takes name limit Means (Err end) old new
not_taken {X} {old} {new} name limit Means end some texts taken = by taken.means
  where
    ten : (r : Result X End) → r ≡ Err end → r ≡ Err (ends.Refused 10) → new.shelf.taken ≡ limit + 1
    ten r is e = let same : end ≡ ends.Refused 10 = cc in taken.too_long (λ i. Err (same i))

    refused : (plan : Plan) → taken.outcome ≡ Refused plan → FileMeans name limit Means taken.file (Refused plan) → Takes name limit Means (Err end) old new
    refused plan is means = record {
      file = taken.file;
      told = taken.told;
      outcome = Refused plan;
      means = means;
      answers = λ rest may. taken.answers rest (subst (λ (o : Outcome (List ℕ)). MayFollow o rest) (sym is) may);
      too_long = ten (Err end) refl;
    }

    by : FileMeans name limit (λ bs o. o ≡ Accepted bs) taken.file taken.outcome → Takes name limit Means (Err end) old new
    by (Missing there is) = refused (missing_plan) is (Missing there refl)
    by (TooLong bytes there long is) = refused (too_long_plan name limit) is (TooLong bytes there long refl)
    by (Whole bytes there within is) = record {
      file = taken.file;
      told = taken.told;
      outcome = (some bytes).0;
      means = Whole bytes there within (some bytes).1;
      answers = λ rest may. taken.answers rest (subst (λ (o : Outcome (List ℕ)). MayFollow o rest) (sym is) (due_of (some bytes).0 rest (texts bytes (some bytes).0 (some bytes).1) may));
      too_long = ten (Err end) refl;
    }

-- the same, as a `?` gives it
pub takes_end : {X : Type 0} {old new : World} (name : List ℕ) (limit : ℕ) (Means : List ℕ → Outcome X → Type 0) (end : End) (result : Result X End) → IsErrAnd result (λ e. e ≡ end) → Takes name limit Means (Err end) old new → Takes name limit Means result old new
takes_end name limit Means end (Ok x) is taken = absurd is
takes_end {X} {old} {new} name limit Means end (Err e) is taken = subst (λ (x : End). Takes {X = X} name limit Means (Err x) old new) (sym is) taken

-- ---- the file alone

-- a file that was stopped in its taking
pub take_stopped : {stop : Stop} {old new : World} (name : List ℕ) (limit : ℕ) (result : Result (List ℕ) End) → IsErrAnd result (λ e. e ≡ ends.Stopped stop) → Stops stop (Take name ∷ []) old new → Takes name limit (λ bs o. o ≡ Accepted bs) result old new
take_stopped {stop} {old} {new} name limit result is stops =
    let file = file_or old.shelf.files name None in
    takes_end name limit (λ bs o. o ≡ Accepted bs) (ends.Stopped stop) result is (by file (file_or-told old.shelf.files name None))
  where
    stopped : (file : Option (List ℕ)) (outcome : Outcome (List ℕ)) → IfSome old.shelf.files (λ files. get files name ≡ file) → FileMeans name limit (λ bs o. o ≡ Accepted bs) file outcome → Takes name limit (λ bs o. o ≡ Accepted bs) (Err (ends.Stopped stop)) old new
    stopped file outcome told means = record { file = file; told = told; outcome = outcome; means = means; answers = λ rest may. stops_plan (Take name ∷ []) rest stops; too_long = λ e. absurd cc }

    whole_or_long : (bytes : List ℕ) (file : Option (List ℕ)) → file ≡ Some bytes → IfSome old.shelf.files (λ files. get files name ≡ file) → Dec (length bytes ≤ limit) → Takes name limit (λ bs o. o ≡ Accepted bs) (Err (ends.Stopped stop)) old new
    whole_or_long bytes file there told (yes p) = stopped file (Accepted bytes) told (Whole bytes there p refl)
    whole_or_long bytes file there told (no p) = stopped file (Refused (too_long_plan name limit)) told (TooLong bytes there (omega (arith, p)) refl)

    by : (file : Option (List ℕ)) → IfSome old.shelf.files (λ files. get files name ≡ file) → Takes name limit (λ bs o. o ≡ Accepted bs) (Err (ends.Stopped stop)) old new
    by None told = stopped None (Refused (missing_plan)) told (Missing refl refl)
    by (Some bytes) told = whole_or_long bytes (Some bytes) refl told (dec_le (length bytes) limit)

-- the same of the bytes as the code holds them
pub take_stopped_so : {A : Type 0} {stop : Stop} {old new : World} (name : List ℕ) (limit : ℕ) (result : Result (Vec ℕ A) End) → IsErrAnd result (λ e. e ≡ ends.Stopped stop) → Stops stop (Take name ∷ []) old new → Takes name limit (λ bs o. o ≡ Accepted bs) (bytes_of result) old new
take_stopped_so name limit (Ok v) is stops = absurd is
take_stopped_so name limit (Err e) is stops = take_stopped name limit (Err e) is stops

-- a file that was taken whole
pub take_whole : {old new : World} (name : List ℕ) (limit : ℕ) (bytes : List ℕ) (taken : Option (List ℕ)) → taken ≡ Some bytes → IfSome old.shelf.files (λ files. IsTaken limit (get files name) taken) → length bytes ≤ limit → Did (Take name ∷ []) old new → Takes name limit (λ bs o. o ≡ Accepted bs) (Ok bytes) old new
take_whole {old} name limit bytes taken is told within did =
    let there = subst (λ (t : Option (List ℕ)). IfSome old.shelf.files (λ files. IsTaken limit (get files name) t)) is told in
    record { file = Some bytes; told = there; outcome = Accepted bytes; means = Whole bytes refl within refl; answers = (refl, did); too_long = λ e. absurd cc }

-- a file that is longer than its limit
record LongFile (told : Option Files) (name : List ℕ) (limit : ℕ) : Type 0 where
  bytes : List ℕ
  long : limit < length bytes
  there : IfSome told (λ files. get files name ≡ Some bytes)

long_file : (told : Option Files) (name : List ℕ) (limit : ℕ) → IfSome told (λ files. IsTaken limit (get files name) None) → LongFile told name limit
long_file None name limit h = record { bytes = (longer_than limit).0; long = (longer_than limit).1; there = tt }
long_file (Some files) name limit h = by (get files name) refl h
  where
    by : (file : Option (List ℕ)) → get files name ≡ file → IsSomeAnd file (λ bytes. limit < length bytes) → LongFile (Some files) name limit
    by None e h = absurd h
    by (Some bytes) e h = record { bytes = bytes; long = h; there = e }

pub take_too_long : {old mid new : World} (name : List ℕ) (limit : ℕ) (end : End) (taken : Option (List ℕ)) → taken ≡ None
    → IfSome old.shelf.files (λ files. IsTaken limit (get files name) taken) → Did (Take name ∷ []) old mid → new.shelf.taken ≡ limit + 1
    → Follows (too_long_plan name limit) (Err end) mid new → Takes name limit (λ bs o. o ≡ Accepted bs) (Err end) old new
take_too_long {old} {mid} {new} name limit end taken is told did ten follows =
    let refusal = too_long_plan name limit in
    let file = long_file old.shelf.files name limit (subst (λ (t : Option (List ℕ)). IfSome old.shelf.files (λ files. IsTaken limit (get files name) t)) is told) in
    record {
      file = Some file.bytes;
      told = file.there;
      outcome = Refused refusal;
      means = TooLong file.bytes refl file.long refl;
      answers = λ rest may. subst (λ (p : Plan). Follows (then_plan (Take name ∷ []) p) (Err end) old new) (sym may) (follows_then (Take name ∷ []) refusal (Err end) old mid new did follows);
      too_long = λ e. ten;
    }
