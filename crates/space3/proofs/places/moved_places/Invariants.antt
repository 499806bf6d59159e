use Rattle.std.proofs.Common.{◌≡◌, take}
use Rattle.space3.specs.Moved.{moved_by}
use Rattle.space3.proofs.places.moved_places.Given as goal

abbrev pub invariant-loop-i : goal.invariant-loop-i
invariant-loop-i l = l.made.items ≡ moved_by (take l.i l.places) (take l.i l.dir) l.half
