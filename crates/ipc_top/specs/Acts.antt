-- What a program does outside, act by act.
use Rattle.std.specs.Prelude.{◌≡◌, ◌⊎◌, ℕ, false, List, [], ◌∷◌, ◌++◌, take, Option, option_map}
use Rattle.std.specs.FinMap.{insert}
use Rattle.std.specs.Io.KnownBytes.{append_known}
use Rattle.shelf_io.specs.Shelf.{Files, ShelfState, SinkState, Rose, IsIfTold, with_file}
use Rattle.report_text.specs.declared.line.Line.{Line}
use Rattle.report_text.specs.declared.line.Line.TheVariants as lines
use Rattle.report_text.specs.Lines.{text_of_line}
use Rattle.ipc_top.specs.declared.acts.Stop.{Stop}
use Rattle.ipc_top.specs.declared.acts.Stop.TheVariants as stops

-- a file is read whole, a file is made of a text, a line is said
pub data Act : Type 0 where
  Take : (name : List ℕ) → Act
  Put : (name text : List ℕ) → Act
  Say : (line : Line) → Act

-- the files after these acts
abbrev pub files_after : List Act → Files → Files
files_after [] files = files
files_after (Take name ∷ acts) files = files_after acts files
files_after (Put name text ∷ acts) files = files_after acts (insert files name text)
files_after (Say line ∷ acts) files = files_after acts files

-- the same of files that may be told
abbrev pub told_after : List Act → Option Files → Option Files
told_after acts files = option_map (files_after acts) files

-- what the console gets
abbrev pub said : List Act → List ℕ
said [] = []
said (Take name ∷ acts) = said acts
said (Put name text ∷ acts) = said acts
said (Say line ∷ acts) = text_of_line line ++ said acts

-- the outside of a program
pub record World : Type 0 where
  pub shelf : ShelfState
  pub console : SinkState

abbrev pub world : ShelfState → SinkState → World
world shelf console = record { shelf = shelf; console = console }

-- the console got this text
abbrev pub Wrote : List ℕ → World → World → Type 0
Wrote text old new = new.console.written ≡ append_known old.console.written text

-- what was being made is finished: where no file was being made, none is
abbrev pub Finished : ShelfState → ShelfState → Type 0
Finished old new = old.writing ≡ false → new.writing ≡ false

-- all these acts were done, and nothing failed
pub record Did (acts : List Act) (old new : World) : Type 0 where
  pub files : new.shelf.files ≡ told_after acts old.shelf.files
  pub written : Wrote (said acts) old new
  pub read_faults : new.shelf.read_faults ≡ old.shelf.read_faults
  pub write_faults : new.shelf.write_faults ≡ old.shelf.write_faults
  pub faults : new.console.faults ≡ old.console.faults
  pub finished : Finished old.shelf new.shelf

-- the files and the counts of a shelf are as they were
pub record ShelfStays (old new : ShelfState) : Type 0 where
  pub files : new.files ≡ old.files
  pub read_faults : new.read_faults ≡ old.read_faults
  pub write_faults : new.write_faults ≡ old.write_faults
  pub finished : Finished old new

-- the shelf failed at a file that was due to be read
pub record ReadFault (due : List Act) (old new : ShelfState) : Type 0 where
  pub name : List ℕ
  pub later : List Act
  pub next : due ≡ Take name ∷ later
  pub files : new.files ≡ old.files
  pub failed : IsIfTold new.failed name
  pub rose : Rose old.read_faults new.read_faults
  pub write_faults : new.write_faults ≡ old.write_faults

-- a file is as it was, or holds a front of its text; all other files are as they were
abbrev pub PutInPart : (name text : List ℕ) → Option Files → Option Files → Type 0
PutInPart name text old new = (new ≡ old) ⊎ ((n : ℕ) × (new ≡ with_file name (take n text) old))

-- the shelf failed at a file that was due to be made
pub record WriteFault (due : List Act) (old new : ShelfState) : Type 0 where
  pub name : List ℕ
  pub text : List ℕ
  pub later : List Act
  pub next : due ≡ Put name text ∷ later
  pub files : PutInPart name text old.files new.files
  pub failed : IsIfTold new.failed name
  pub rose : Rose old.write_faults new.write_faults
  pub read_faults : new.read_faults ≡ old.read_faults

-- a line was due to be said
pub record LineDue (due : List Act) (line : Line) (old new : ShelfState) : Type 0 where
  pub later : List Act
  pub next : due ≡ Say line ∷ later
  pub stays : ShelfStays old new

-- a file could not be read, and the console got the fault's line
pub record TakeFails (due : List Act) (old new : World) : Type 0 where
  pub fault : ReadFault due old.shelf new.shelf
  pub written : Wrote (text_of_line (lines.ReadFault fault.name)) old new
  pub faults : new.console.faults ≡ old.console.faults

-- a file could not be made, and the console got the fault's line
pub record PutFails (due : List Act) (old new : World) : Type 0 where
  pub fault : WriteFault due old.shelf new.shelf
  pub written : Wrote (text_of_line (lines.WriteFault fault.name)) old new
  pub faults : new.console.faults ≡ old.console.faults

-- a line that may be said while these acts are due: the next one, or that of a fault at the next act
pub data IsLineOf (due : List Act) (old new : ShelfState) (line : Line) : Type 0 where
  Next : LineDue due line old new → IsLineOf due old new line
  Unread : (fault : ReadFault due old new) → line ≡ lines.ReadFault fault.name → IsLineOf due old new line
  Unwritten : (fault : WriteFault due old new) → line ≡ lines.WriteFault fault.name → IsLineOf due old new line

-- the console failed, and got a front of a line
pub record SayFails (due : List Act) (old new : World) : Type 0 where
  pub line : Line
  pub part : ℕ
  pub which : IsLineOf due old.shelf new.shelf line
  pub written : Wrote (take part (text_of_line line)) old new
  pub rose : Rose old.console.faults new.console.faults

-- an act is due
pub record IsDue (due : List Act) : Type 0 where
  pub act : Act
  pub later : List Act
  pub next : due ≡ act ∷ later

-- memory was wanting while an act was due, and all is as it was
pub record LacksMemory (due : List Act) (old new : World) : Type 0 where
  pub act : IsDue due
  pub shelf : ShelfStays old.shelf new.shelf
  pub console : new.console ≡ old.console

-- what stops the next of the acts that are due
abbrev pub StopsNext : Stop → List Act → World → World → Type 0
StopsNext stops.Read due = TakeFails due
StopsNext stops.Write due = PutFails due
StopsNext stops.Console due = SayFails due
StopsNext stops.Memory due = LacksMemory due

-- some first acts were done, up to a world between, and what stopped the others was this
pub record Stops (stop : Stop) (acts : List Act) (old new : World) : Type 0 where
  pub done : List Act
  pub due : List Act
  pub list : acts ≡ done ++ due
  pub between : World
  pub did : Did done old between
  pub fails : StopsNext stop due between new
