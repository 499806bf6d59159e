-- What a shelf and a sink in memory hold.
use Rattle.std.specs.Prelude.{◌≡◌, ℕ, min, List, [], ◌∷◌, ◌++◌, length, Option, Some, None, Contains, is_some, true, refl}
use Rattle.std.specs.Option.{option_map}
use Rattle.std.specs.FinMap.{insert, empty}
use Rattle.shelf_io.specs.Shelf.{Files, ShelfState, SinkState, Tells, next_count}

-- how many calls there were, and the numbers of the calls that are to fail
pub record FailSchedule : Type 0 where
  pub calls : ℕ
  pub failing : List ℕ

-- the number of the next call is in the list
abbrev pub IsDue : FailSchedule → Type 0
IsDue schedule = Contains schedule.failing (next_count schedule.calls)

-- one call more
abbrev pub after_call : FailSchedule → FailSchedule
after_call schedule = record schedule { calls = next_count schedule.calls }

-- one more call that is to fail
abbrev pub failing_at : ℕ → FailSchedule → FailSchedule
failing_at call schedule = record schedule { failing = schedule.failing ++ call ∷ [] }

-- no call yet, and none that is to fail
abbrev pub no_failures : FailSchedule
no_failures = record { calls = 0; failing = [] }

-- a shelf in memory
pub record MemFiles : Type 0 where
  pub files : Files
  -- the name of the open file, and its bytes that were not yet read
  pub opened : Option (List ℕ × List ℕ)
  -- the name of the file that is being made
  pub making : Option (List ℕ)
  pub taken : ℕ
  -- the name of the last failure, where memory was found for it
  pub failed : Option (List ℕ)
  pub schedule : FailSchedule
  pub read_faults : ℕ
  pub write_faults : ℕ

-- a shelf with no file, of which no call is to fail
abbrev pub empty_shelf : MemFiles
empty_shelf = record {
  files = empty;
  opened = None;
  making = None;
  taken = 0;
  failed = None;
  schedule = no_failures;
  read_faults = 0;
  write_faults = 0;
}

-- these bytes under this name, nothing open and nothing being made, and all else as it was
abbrev pub shelf_with : List ℕ → List ℕ → MemFiles → MemFiles
shelf_with name bytes m = record m { files = insert m.files name bytes; opened = None; making = None }

-- all unread bytes were read, or as many as the buffer holds
abbrev pub FillsUp : List ℕ → ℕ → List ℕ → Type 0
FillsUp buf n rest = n ≡ min (length buf) (length rest)

-- a sink in memory
pub record MemBytes : Type 0 where
  pub written : List ℕ
  pub schedule : FailSchedule
  pub faults : ℕ

-- a sink with nothing written, of which no call is to fail
abbrev pub empty_sink : MemBytes
empty_sink = record { written = []; schedule = no_failures; faults = 0 }

-- a shelf in memory tells all
abbrev pub shelf_told : MemFiles → ShelfState
shelf_told m = record {
  files = Some m.files;
  reading = is_some m.opened;
  writing = is_some m.making;
  opened = option_map (λ o. o.0) m.opened;
  unread = option_map (λ o. o.1) m.opened;
  taken = m.taken;
  making = m.making;
  failed = m.failed;
  read_faults = m.read_faults;
  write_faults = m.write_faults;
}

-- where a value is there, it is there after a map
some_mapped : {A B : Type 0} (f : A → B) (o : Option A) → is_some o ≡ true → is_some (option_map f o) ≡ true
some_mapped f None e = e
some_mapped f (Some x) e = refl

-- it tells the open file and the one that is being made
pub shelf_tells : (m : MemFiles) → Tells (shelf_told m)
shelf_tells m = record { opened = some_mapped (λ o. o.0) m.opened; unread = some_mapped (λ o. o.1) m.opened; making = λ e. e }

-- so does a sink
abbrev pub sink_told : MemBytes → SinkState
sink_told m = record { written = Some m.written; faults = m.faults }
