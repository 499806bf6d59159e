-- What the fields of a shelf in memory mean.
use Rattle.std.specs.Prelude.{ℕ, List, map, drop, Option, None, Some, string_bytes, slice_get}
use Rattle.std.specs.Option.{option_map}
use Rattle.std.specs.FinMap.{from_entries}
use Rattle.shelf_io.specs.Shelf.{Files}
use Rattle.shelf_io.specs.declared.mem_files.MemFile.{MemFile}
use Rattle.shelf_io.specs.MemState.{MemFiles}
use Rattle.shelf_io.specs.declared.mem_shelf.MemShelf.TheInside.{Inside}
use Rattle.shelf_io.specs.declared.mem_work.Work.{Work}
use Rattle.shelf_io.specs.declared.mem_work.Work.TheVariants.{Nothing, Reading, Making}

-- names and bytes, as they stand in the list
abbrev pub entries_of : List MemFile → List (List ℕ × List ℕ)
entries_of files = map (λ file. (string_bytes file.name, file.bytes.items)) files

-- the same as a map: where a name stands twice, the first counts
abbrev pub map_of : List (List ℕ × List ℕ) → Files
map_of entries = from_entries entries

-- the files of a list as a map
abbrev pub files_of : List MemFile → Files
files_of files = map_of (entries_of files)

-- the name of the open file, and its bytes that were not yet read
abbrev pub opened_of : List (List ℕ × List ℕ) → Work → Option (List ℕ × List ℕ)
opened_of entries Nothing = None
opened_of entries (Reading head) = option_map (λ e. (e.0, drop head.at e.1)) (slice_get entries head.file)
opened_of entries (Making name) = None

-- the name of the file that is being made
abbrev pub making_of : Work → Option (List ℕ)
making_of Nothing = None
making_of (Reading head) = None
making_of (Making name) = Some (string_bytes name)

-- what the fields hold, as contracts see it
abbrev pub shelf_view : Inside → MemFiles
shelf_view s = record {
  files = files_of s.files.items;
  opened = opened_of (entries_of s.files.items) s.work;
  making = making_of s.work;
  taken = s.taken;
  failed = option_map string_bytes s.failed;
  schedule = s.schedule;
  read_faults = s.read_faults;
  write_faults = s.write_faults;
}
