use Rattle.std.proofs.Common.{◌≡◌, ◌≤◌, ◌+◌, ◌-◌, length, vec_len}
use Rattle.shelf_io.proofs.FrontRead.{FrontRead}
use Rattle.shelf_io.proofs.whole.read_all.Given as goal

abbrev pub invariant-loop-piece : goal.invariant-loop-piece
invariant-loop-piece g l =
    record {
      within : vec_len l.bytes ≤ l.limit + 1;
      all : length l.bytes.items ≡ vec_len l.bytes;
      state : FrontRead l.name l.bytes.items (g.S.Shelf.state l.fn.shelf) (g.S.Shelf.state l.shelf);
    }

abbrev pub decreases-loop-piece : goal.decreases-loop-piece
decreases-loop-piece g l = l.limit + 1 - vec_len l.bytes
