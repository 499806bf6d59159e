-- What the calls of a shelf and of a sink do.
use Rattle.std.specs.Prelude.{◌≡◌, ◌⊎◌, ◌<◌, ◌≤◌, ◌+◌, ◌-◌, ◌^◌, ℕ, min, Bool, false, List, [], ◌++◌, take, drop, length, Option, Some, None, IsSome, IfSome, OnSome, IsTrue, Result, is_ok, IfOk, OnOk, OnErr}
use Rattle.std.specs.Option.{option_map, option_map_or}
use Rattle.std.specs.Ordering.{nat_cmp}
use Rattle.std.specs.Cmp.Lexicographic.{slice_cmp}
use Rattle.std.specs.FinMap.{FinMap, get, insert}
use Rattle.std.specs.Io.{ReadsAtMost, WritesAtMost}
use Rattle.std.specs.Io.KnownBytes.{append_known}

-- files by their names, which are texts
abbrev pub Files : Type 0
Files = FinMap (slice_cmp nat_cmp) (List ℕ)

-- what a shelf may tell of itself: the two flags and the three numbers always, the rest where it can
pub record ShelfState : Type 0 where
  pub files : Option Files
  -- a file is open, and a file is being made
  pub reading : Bool
  pub writing : Bool
  -- the name of the open file, and its bytes that were not yet read
  pub opened : Option (List ℕ)
  pub unread : Option (List ℕ)
  -- how many bytes were read since the last call of `open`
  pub taken : ℕ
  -- the name of the file that is being made
  pub making : Option (List ℕ)
  -- the name of the file of the last call that failed
  pub failed : Option (List ℕ)
  pub read_faults : ℕ
  pub write_faults : ℕ

-- what a sink may tell of itself: its count always, the bytes written where it can
pub record SinkState : Type 0 where
  pub written : Option (List ℕ)
  pub faults : ℕ

-- a shelf that tells only what is always told
abbrev pub nothing_told : Bool → Bool → ℕ → ℕ → ℕ → ShelfState
nothing_told reading writing taken read_faults write_faults = record {
  files = None;
  reading = reading;
  writing = writing;
  opened = None;
  unread = None;
  taken = taken;
  making = None;
  failed = None;
  read_faults = read_faults;
  write_faults = write_faults;
}

-- where files are told, the open file and the file that is being made are told
pub record Tells (s : ShelfState) : Type 0 where
  pub opened : OnSome s.files (IsTrue s.reading → IsSome s.opened)
  pub unread : OnSome s.files (IsTrue s.reading → IsSome s.unread)
  pub making : OnSome s.files (IsTrue s.writing → IsSome s.making)

-- the count after one more, which stays at its last value
abbrev pub next_count : ℕ → ℕ
next_count n = min (n + 1) (2 ^ 64 - 1)

-- a count rose, or it stands at its last value
abbrev pub Rose : ℕ → ℕ → Type 0
Rose old new = next_count old ≤ new

-- where it is told, it is this
abbrev pub IsIfTold : {A : Type 0} → Option A → A → Type 0
IsIfTold told x = IfSome told (λ y. y ≡ x)

-- how a count of faults goes with an answer: it never falls, and rises exactly at a failure
pub record Counts {T E : Type 0} (old : ℕ) (result : Result T E) (new : ℕ) : Type 0 where
  pub ok : OnOk result (new ≡ old)
  pub failed : OnErr result (Rose old new)
  pub later : old ≤ new

-- the files with these bytes under this name, and all others as they were
abbrev pub with_file : List ℕ → List ℕ → Option Files → Option Files
with_file name bytes files = option_map (λ fs. insert fs name bytes) files

-- the files with more bytes at the end of the one of this name, and all others as they were
abbrev pub lengthened : List ℕ → List ℕ → Files → Files
lengthened name bytes fs = option_map_or (λ had. insert fs name (had ++ bytes)) (get fs name) fs

-- the same where files are told, at the name that is told
abbrev pub with_added : Option (List ℕ) → List ℕ → Option Files → Option Files
with_added None bytes files = files
with_added (Some name) bytes files = option_map (λ fs. lengthened name bytes fs) files

-- `open(name)`
pub record Opens {T E : Type 0} (name : List ℕ) (old : ShelfState) (result : Result T E) (new : ShelfState) : Type 0 where
  pub files : new.files ≡ old.files
  pub reading : new.reading ≡ is_ok result
  pub opened : OnOk result (IsIfTold new.opened name)
  -- where files are told: the name is there, and all bytes of the file are unread
  pub found : OnOk result (IfSome old.files (λ fs. (new.opened ≡ Some name) × IsSome new.unread × (get fs name ≡ new.unread)))
  pub not_opened : OnErr result (new.opened ≡ None)
  pub not_unread : OnErr result (new.unread ≡ None)
  pub taken : new.taken ≡ 0
  -- nothing is being made, whatever the answer
  pub writing : new.writing ≡ false
  pub making : new.making ≡ None
  pub kept : OnOk result (new.failed ≡ old.failed)
  pub failed : OnErr result (IsIfTold new.failed name)
  pub read_faults : Counts old.read_faults result new.read_faults
  pub write_faults : new.write_faults ≡ old.write_faults

-- `read(buf)`, with what `buf` holds afterwards
pub record Reads {E : Type 0} (buf : List ℕ) (old : ShelfState) (result : Result ℕ E) (new : ShelfState) : Type 0 where
  pub bound : ReadsAtMost result buf
  -- the first n unread bytes stand in the buffer, and are no longer unread
  pub bytes : IfOk result (λ n. IfSome old.unread (λ rest. (n ≤ length rest) × (take n buf ≡ take n rest)))
  pub unread : IfOk result (λ n. new.unread ≡ option_map (λ rest. drop n rest) old.unread)
  pub ended : IfOk result (λ n. n ≡ 0 → 0 < length buf → IfSome old.unread (λ rest. rest ≡ []))
  pub taken : IfOk result (λ n. new.taken ≡ min (old.taken + n) (2 ^ 64 - 1))
  pub still_unread : OnErr result (new.unread ≡ old.unread)
  pub still_taken : OnErr result (new.taken ≡ old.taken)
  pub files : new.files ≡ old.files
  pub reading : new.reading ≡ old.reading
  pub writing : new.writing ≡ old.writing
  pub opened : new.opened ≡ old.opened
  pub making : new.making ≡ old.making
  pub kept : OnOk result (new.failed ≡ old.failed)
  -- the name of the open file, which was told as the call began
  pub failed : OnErr result (IfSome new.failed (λ name. old.opened ≡ Some name))
  pub read_faults : Counts old.read_faults result new.read_faults
  pub write_faults : new.write_faults ≡ old.write_faults

-- `create(name)`
pub record Creates {T E : Type 0} (name : List ℕ) (old : ShelfState) (result : Result T E) (new : ShelfState) : Type 0 where
  -- the file is empty; after a failure it may also be as it was
  pub begun : OnOk result (new.files ≡ with_file name [] old.files)
  pub not_begun : OnErr result ((new.files ≡ old.files) ⊎ (new.files ≡ with_file name [] old.files))
  pub writing : new.writing ≡ is_ok result
  pub making : OnOk result (IsIfTold new.making name)
  pub told : OnOk result (IsSome old.files → new.making ≡ Some name)
  pub not_making : OnErr result (new.making ≡ None)
  -- nothing is open, whatever the answer
  pub reading : new.reading ≡ false
  pub opened : new.opened ≡ None
  pub unread : new.unread ≡ None
  pub taken : new.taken ≡ old.taken
  pub kept : OnOk result (new.failed ≡ old.failed)
  pub failed : OnErr result (IsIfTold new.failed name)
  pub read_faults : new.read_faults ≡ old.read_faults
  pub write_faults : Counts old.write_faults result new.write_faults

-- `write(piece)`
pub record Writes {E : Type 0} (piece : List ℕ) (old : ShelfState) (result : Result ℕ E) (new : ShelfState) : Type 0 where
  pub bound : WritesAtMost result piece
  pub some : IfOk result (λ n. 0 < length piece → 0 < n)
  -- the first n bytes were added; after a failure some first bytes of the piece, maybe none
  pub added : IfOk result (λ n. new.files ≡ with_added old.making (take n piece) old.files)
  pub part : OnErr result ((n : ℕ) × (new.files ≡ with_added old.making (take n piece) old.files))
  pub reading : new.reading ≡ old.reading
  pub writing : new.writing ≡ old.writing
  pub opened : new.opened ≡ old.opened
  pub unread : new.unread ≡ old.unread
  pub taken : new.taken ≡ old.taken
  pub making : new.making ≡ old.making
  pub kept : OnOk result (new.failed ≡ old.failed)
  -- the name of the file that is being made, which was told as the call began
  pub failed : OnErr result (IfSome new.failed (λ name. old.making ≡ Some name))
  pub read_faults : new.read_faults ≡ old.read_faults
  pub write_faults : Counts old.write_faults result new.write_faults

-- `finish()`
pub record Finishes {T E : Type 0} (old : ShelfState) (result : Result T E) (new : ShelfState) : Type 0 where
  pub files : new.files ≡ old.files
  -- nothing is being made, whatever the answer
  pub writing : new.writing ≡ false
  pub making : new.making ≡ None
  pub reading : new.reading ≡ old.reading
  pub opened : new.opened ≡ old.opened
  pub unread : new.unread ≡ old.unread
  pub taken : new.taken ≡ old.taken
  pub kept : OnOk result (new.failed ≡ old.failed)
  -- the name of the file that was being made, which was told as the call began
  pub failed : OnErr result (IfSome new.failed (λ name. old.making ≡ Some name))
  pub read_faults : new.read_faults ≡ old.read_faults
  pub write_faults : Counts old.write_faults result new.write_faults

-- `write(piece)` of a sink
pub record Says {E : Type 0} (piece : List ℕ) (old : SinkState) (result : Result ℕ E) (new : SinkState) : Type 0 where
  pub bound : WritesAtMost result piece
  pub some : IfOk result (λ n. 0 < length piece → 0 < n)
  -- the first n bytes were written; after a failure some first bytes of the piece, maybe none
  pub added : IfOk result (λ n. new.written ≡ append_known old.written (take n piece))
  pub part : OnErr result ((n : ℕ) × (new.written ≡ append_known old.written (take n piece)))
  pub faults : Counts old.faults result new.faults
