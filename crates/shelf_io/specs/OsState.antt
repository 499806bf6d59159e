-- What a shelf and a sink of the system tell: nothing of content.
use Rattle.std.specs.Prelude.{None, is_some}
use Rattle.shelf_io.specs.Shelf.{ShelfState, SinkState, nothing_told}
use Rattle.shelf_io.specs.declared.os.OsShelf.{OsShelf}
use Rattle.shelf_io.specs.declared.os.OsSink.{OsSink}

-- a shelf of the system
abbrev pub os_told : {R F X : Type 0} → OsShelf R F X → ShelfState
os_told s = nothing_told (is_some s.opened) (is_some s.making) s.taken s.read_faults s.write_faults

-- a sink of the system
abbrev pub output_told : {R : Type 0} → OsSink R → SinkState
output_told s = record { written = None; faults = s.faults }
