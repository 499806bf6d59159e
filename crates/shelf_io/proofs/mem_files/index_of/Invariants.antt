use Rattle.std.proofs.Common.{◌≡◌, ◌<◌, ℕ, List, slice_get, Some}
use Rattle.shelf_io.specs.MemView.{entries_of}
use Rattle.shelf_io.proofs.mem_files.index_of.Given as goal

-- no file so far has the name
abbrev pub invariant-loop-i : goal.invariant-loop-i
invariant-loop-i l = (k : ℕ) → k < l.i → (others : List ℕ) → slice_get (entries_of l.files) k ≡ Some (l.name, others) → ⊥
