-- Acts one after another.
use Rattle.std.proofs.Common.{◌≡◌, ℕ, List, [], ◌∷◌, ◌++◌, take, refl, ap, sym, subst, ◌∙◌, append_assoc, append-nil, Option, Some, None, Result, Ok, Err, IsErrAnd}
use Rattle.std.specs.FinMap.{insert}
use Rattle.std.specs.Io.KnownBytes.{append_known}
use Rattle.report_text.specs.declared.line.Line.{Line}
use Rattle.report_text.specs.Lines.{text_of_line}
use Rattle.shelf_io.specs.Shelf.{Files, ShelfState, SinkState}
use Rattle.ipc_top.specs.declared.acts.Stop.{Stop}
use Rattle.ipc_top.specs.declared.acts.Stop.TheVariants as stops
use Rattle.ipc_top.specs.Acts.{Act, Take, Put, Say, files_after, told_after, said, World, world, Did, ShelfStays, ReadFault, WriteFault, IsLineOf, Next, Unread, Unwritten, IsDue, StopsNext, Stops}
use Rattle.ipc_top.specs.Calls.Acts.{Does}

pub files_after-append : (xs ys : List Act) (fs : Files) → files_after (xs ++ ys) fs ≡ files_after ys (files_after xs fs)
files_after-append [] ys fs = refl
files_after-append (Take name ∷ xs) ys fs = files_after-append xs ys fs
files_after-append (Put name text ∷ xs) ys fs = files_after-append xs ys (insert fs name text)
files_after-append (Say line ∷ xs) ys fs = files_after-append xs ys fs

pub told_after-append : (xs ys : List Act) (fs : Option Files) → told_after (xs ++ ys) fs ≡ told_after ys (told_after xs fs)
told_after-append xs ys None = refl
told_after-append xs ys (Some fs) = ap Some (files_after-append xs ys fs)

pub said-append : (xs ys : List Act) → said (xs ++ ys) ≡ said xs ++ said ys
said-append [] ys = refl
said-append (Take name ∷ xs) ys = said-append xs ys
said-append (Put name text ∷ xs) ys = said-append xs ys
said-append (Say line ∷ xs) ys = ap (λ bs. text_of_line line ++ bs) (said-append xs ys) ∙ sym (append_assoc (text_of_line line) (said xs) (said ys))

pub append_known-twice : (known : Option (List ℕ)) (xs ys : List ℕ) → append_known (append_known known xs) ys ≡ append_known known (xs ++ ys)
append_known-twice None xs ys = refl
append_known-twice (Some bs) xs ys = ap Some (append_assoc bs xs ys)

pub append_known-nil : (known : Option (List ℕ)) → known ≡ append_known known []
append_known-nil None = refl
append_known-nil (Some bs) = ap Some (sym (append-nil bs))

-- a front of a line, where the line is given otherwise
pub wrote_front : (old new : Option (List ℕ)) (n : ℕ) (xs ys : List ℕ) → new ≡ append_known old (take n xs) → xs ≡ ys → new ≡ append_known old (take n ys)
wrote_front old new n xs ys p e = p ∙ ap (λ (line : List ℕ). append_known old (take n line)) e

pub told_after-nil : (files : Option Files) → files ≡ told_after [] files
told_after-nil None = refl
told_after-nil (Some fs) = refl

-- no act was done
pub did_nothing : (w : World) → Did [] w w
did_nothing w = record { files = told_after-nil w.shelf.files; written = append_known-nil w.console.written; read_faults = refl; write_faults = refl; faults = refl; finished = λ e. e }

-- these acts were done, and then those
pub did_after : {old mid new : World} (xs ys : List Act) → Did xs old mid → Did ys mid new → Did (xs ++ ys) old new
did_after {old} {mid} {new} xs ys p q = record {
  files = q.files ∙ ap (told_after ys) p.files ∙ sym (told_after-append xs ys old.shelf.files);
  written = q.written ∙ ap (λ o. append_known o (said ys)) p.written ∙ append_known-twice old.console.written (said xs) (said ys) ∙ ap (append_known old.console.written) (sym (said-append xs ys));
  read_faults = q.read_faults ∙ p.read_faults;
  write_faults = q.write_faults ∙ p.write_faults;
  faults = q.faults ∙ p.faults;
  finished = λ e. q.finished (p.finished e);
}

-- some acts were done, and the next ones were stopped
pub stops_after : {old mid new : World} {stop : Stop} (xs ys : List Act) → Did xs old mid → Stops stop ys mid new → Stops stop (xs ++ ys) old new
stops_after xs ys p q = record {
  done = xs ++ q.done;
  due = q.due;
  list = ap (λ zs. xs ++ zs) q.list ∙ sym (append_assoc xs q.done q.due);
  between = q.between;
  did = did_after xs q.done p q.did;
  fails = q.fails;
}

longer : {due later : List Act} {act : Act} (ys : List Act) → due ≡ act ∷ later → due ++ ys ≡ act ∷ (later ++ ys)
longer ys e = ap (λ zs. zs ++ ys) e

pub due_before : {due : List Act} (ys : List Act) → IsDue due → IsDue (due ++ ys)
due_before ys d = record { act = d.act; later = d.later ++ ys; next = longer ys d.next }

read_before : {due : List Act} {old new : ShelfState} (ys : List Act) → ReadFault due old new → ReadFault (due ++ ys) old new
read_before ys f = record { name = f.name; later = f.later ++ ys; next = longer ys f.next; files = f.files; failed = f.failed; rose = f.rose; write_faults = f.write_faults }

write_before : {due : List Act} {old new : ShelfState} (ys : List Act) → WriteFault due old new → WriteFault (due ++ ys) old new
write_before ys f = record { name = f.name; text = f.text; later = f.later ++ ys; next = longer ys f.next; files = f.files; failed = f.failed; rose = f.rose; read_faults = f.read_faults }

line_before : {due : List Act} {old new : ShelfState} {line : Line} (ys : List Act) → IsLineOf due old new line → IsLineOf (due ++ ys) old new line
unfolding read_before write_before
line_before ys (Next n) = Next (record { later = n.later ++ ys; next = longer ys n.next; stays = n.stays })
line_before ys (Unread fault is) = Unread (read_before ys fault) is
line_before ys (Unwritten fault is) = Unwritten (write_before ys fault) is

fails_before : (stop : Stop) (due ys : List Act) (old new : World) → StopsNext stop due old new → StopsNext stop (due ++ ys) old new
unfolding read_before write_before
fails_before stops.Read due ys old new f = record { fault = read_before ys f.fault; written = f.written; faults = f.faults }
fails_before stops.Write due ys old new f = record { fault = write_before ys f.fault; written = f.written; faults = f.faults }
fails_before stops.Console due ys old new f = record { line = f.line; part = f.part; which = line_before ys f.which; written = f.written; rose = f.rose }
fails_before stops.Memory due ys old new f = record { act = due_before ys f.act; shelf = f.shelf; console = f.console }

-- what stops some acts, stops more of them
pub stops_before : {stop : Stop} {old new : World} (xs ys : List Act) → Stops stop xs old new → Stops stop (xs ++ ys) old new
stops_before {stop} {old} {new} xs ys q = record {
  done = q.done;
  due = q.due ++ ys;
  list = ap (λ zs. zs ++ ys) q.list ∙ append_assoc q.done q.due ys;
  between = q.between;
  did = q.did;
  fails = fails_before stop q.due ys q.between new q.fails;
}

-- the first act was stopped
pub stops_first : {stop : Stop} {old new : World} (acts : List Act) → StopsNext stop acts old new → Stops stop acts old new
stops_first {stop} {old} {new} acts f = record { done = []; due = acts; list = refl; between = old; did = did_nothing old; fails = f }

-- a line was said
pub said_line : (line : Line) (text : List ℕ) (s : ShelfState) (old new : SinkState) → text ≡ text_of_line line → new.written ≡ append_known old.written text → new.faults ≡ old.faults → Did (Say line ∷ []) (world s old) (world s new)
said_line line text s old new is written faults = record {
  files = told_after-nil s.files;
  written = written ∙ ap (append_known old.written) (is ∙ sym (append-nil (text_of_line line)));
  read_faults = refl;
  write_faults = refl;
  faults = faults;
  finished = λ e. e;
}

-- an act of a list is due
pub due_first : (act : Act) (later : List Act) → IsDue (act ∷ later)
due_first act later = record { act = act; later = later; next = refl }

-- an act after others is due, or one of these
pub due_in : (xs : List Act) (act : Act) (later : List Act) → IsDue (xs ++ act ∷ later)
due_in [] act later = due_first act later
due_in (x ∷ xs) act later = due_first x (xs ++ act ∷ later)

pub shelf_stays : (s : ShelfState) → ShelfStays s s
shelf_stays s = record { files = refl; read_faults = refl; write_faults = refl; finished = λ e. e }

-- memory was wanting before the first act
pub nothing_done : (acts : List Act) (w : World) → IsDue acts → Stops stops.Memory acts w w
nothing_done acts w due = stops_first acts (record { act = due; shelf = shelf_stays w.shelf; console = refl })

-- the same, as a `?` gives it
pub lacks_some_memory : {T : Type 0} (acts : List Act) (result : Result T Stop) (w : World) → IsErrAnd result (λ e. e ≡ stops.Memory) → IsDue acts → Does acts result w w
lacks_some_memory acts (Ok x) w h due = absurd h
lacks_some_memory acts (Err e) w h due = subst (λ (stop : Stop). Stops stop acts w w) (sym h) (nothing_done acts w due)

pub lacks_memory : {T : Type 0} (act : Act) (later : List Act) (result : Result T Stop) (w : World) → IsErrAnd result (λ e. e ≡ stops.Memory) → Does (act ∷ later) result w w
lacks_memory act later result w h = lacks_some_memory (act ∷ later) result w h (due_first act later)

-- what a `?` hands on
pub does_stopped : {T : Type 0} {stop : Stop} {old new : World} (acts : List Act) (result : Result T Stop) → IsErrAnd result (λ e. e ≡ stop) → Stops stop acts old new → Does acts result old new
does_stopped acts (Ok x) is stops = absurd is
does_stopped {old = old} {new = new} acts (Err e) is stops = subst (λ (s : Stop). Stops s acts old new) (sym is) stops

-- some acts were done, and then the others or some of them
pub does_then : {T : Type 0} (xs ys : List Act) (result : Result T Stop) (old mid new : World) → Did xs old mid → Does ys result mid new → Does (xs ++ ys) result old new
does_then xs ys (Ok x) old mid new did does = did_after xs ys did does
does_then xs ys (Err stop) old mid new did does = stops_after xs ys did does

-- the same, where some acts were stopped and a `?` hands it on
pub stops_then : {T : Type 0} {stop : Stop} {old new : World} (xs ys : List Act) (result : Result T Stop) → IsErrAnd result (λ e. e ≡ stop) → Stops stop xs old new → Does (xs ++ ys) result old new
stops_then xs ys result is stops = does_stopped (xs ++ ys) result is (stops_before xs ys stops)

-- acts that are given otherwise
pub does_same : {T : Type 0} (xs ys : List Act) (result : Result T Stop) (old new : World) → xs ≡ ys → Does xs result old new → Does ys result old new
does_same xs ys result old new e does = subst (λ (acts : List Act). Does acts result old new) e does

-- the same acts, given otherwise
pub did_same : {old new : World} (xs ys : List Act) → xs ≡ ys → Did xs old new → Did ys old new
did_same {old} {new} xs ys e did = subst (λ (acts : List Act). Did acts old new) e did

-- a file that is given otherwise
pub same_put : {name name' text text' : List ℕ} → name ≡ name' → text ≡ text' → Put name text ∷ [] ≡ Put name' text' ∷ []
same_put e h = λ i. Put (e i) (h i) ∷ []
