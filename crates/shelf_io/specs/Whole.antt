-- What the three calls that read, write and say all do.
use Rattle.std.specs.Prelude.{◌≡◌, ◌⊎◌, ◌<◌, ◌≤◌, ◌+◌, ℕ, List, take, length, Some, IfSome, None, false, IsSomeAnd, Result, IfOk, IfErr, OnOk, OnErr}
use Rattle.std.specs.declared.vec.Vec.{Vec}
use Rattle.std.specs.FinMap.{get}
use Rattle.std.specs.Io.KnownBytes.{append_known}
use Rattle.shelf_io.specs.declared.whole.ReadErr.{ReadErr}
use Rattle.shelf_io.specs.declared.whole.ReadErr.TheVariants as errors
use Rattle.shelf_io.specs.Shelf.{ShelfState, SinkState, Rose, Counts, IsIfTold, with_file}

-- `say_all(bytes)`
pub record SaysAll {T E : Type 0} (bytes : List ℕ) (old : SinkState) (result : Result T E) (new : SinkState) : Type 0 where
  pub whole : OnOk result (new.written ≡ append_known old.written bytes)
  pub part : OnErr result ((n : ℕ) × (new.written ≡ append_known old.written (take n bytes)))
  pub faults : Counts old.faults result new.faults

-- `write_all(name, bytes)`: whatever the answer, all other files are as they were, and nothing is open
pub record WritesAll {T E : Type 0} (name bytes : List ℕ) (old : ShelfState) (result : Result T E) (new : ShelfState) : Type 0 where
  pub whole : OnOk result (new.files ≡ with_file name bytes old.files)
  pub part : OnErr result ((new.files ≡ old.files) ⊎ ((n : ℕ) × (new.files ≡ with_file name (take n bytes) old.files)))
  -- the file is finished
  pub writing : OnOk result (new.writing ≡ false)
  pub making : OnOk result (new.making ≡ None)
  pub reading : new.reading ≡ false
  pub opened : new.opened ≡ None
  pub unread : new.unread ≡ None
  pub taken : new.taken ≡ old.taken
  pub kept : OnOk result (new.failed ≡ old.failed)
  pub failed : OnErr result (IsIfTold new.failed name)
  pub read_faults : new.read_faults ≡ old.read_faults
  pub write_faults : Counts old.write_faults result new.write_faults

-- there is no memory for the bytes that were taken: no fault is counted
pub record ReadLacksMemory (limit : ℕ) (old new : ShelfState) : Type 0 where
  pub taken : new.taken ≤ limit + 1
  pub failed : new.failed ≡ old.failed
  pub read_faults : new.read_faults ≡ old.read_faults

-- the shelf failed before more than `limit` bytes were taken
pub record ReadFails (name : List ℕ) (limit : ℕ) (old new : ShelfState) : Type 0 where
  pub taken : new.taken ≤ limit
  pub failed : IsIfTold new.failed name
  pub read_faults : Rose old.read_faults new.read_faults

-- one byte more than `limit` was taken, and so the file is longer
pub record ReadsTooMuch (name : List ℕ) (limit number : ℕ) (old new : ShelfState) : Type 0 where
  pub exact : number ≡ limit + 1
  pub taken : new.taken ≡ limit + 1
  pub longer : IfSome old.files (λ fs. IsSomeAnd (get fs name) (λ bytes. limit < length bytes))
  pub failed : new.failed ≡ old.failed
  pub read_faults : new.read_faults ≡ old.read_faults

-- why a file was not read whole
abbrev pub ReadRefused : List ℕ → ℕ → ShelfState → ReadErr → ShelfState → Type 0
ReadRefused name limit old errors.Memory new = ReadLacksMemory limit old new
ReadRefused name limit old errors.Failed new = ReadFails name limit old new
ReadRefused name limit old (errors.TooLong taken) new = ReadsTooMuch name limit taken old new

-- `read_all(name, limit)`: whatever the answer, no file changes and nothing is being made
pub record ReadsAll {A : Type 0} (name : List ℕ) (limit : ℕ) (old : ShelfState) (result : Result (Vec ℕ A) ReadErr) (new : ShelfState) : Type 0 where
  pub files : new.files ≡ old.files
  pub whole : IfOk result (λ bytes. IfSome old.files (λ fs. get fs name ≡ Some bytes.items))
  pub within : IfOk result (λ bytes. length bytes.items ≤ limit)
  pub taken : IfOk result (λ bytes. new.taken ≡ length bytes.items)
  pub fits : OnOk result (IfSome old.files (λ fs. IsSomeAnd (get fs name) (λ bytes. length bytes ≤ limit)))
  pub refused : IfErr result (λ e. ReadRefused name limit old e new)
  pub writing : new.writing ≡ false
  pub making : new.making ≡ None
  pub kept : OnOk result (new.failed ≡ old.failed)
  pub quiet : OnOk result (new.read_faults ≡ old.read_faults)
  pub later : old.read_faults ≤ new.read_faults
  pub write_faults : new.write_faults ≡ old.write_faults
