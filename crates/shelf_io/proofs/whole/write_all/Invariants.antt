use Rattle.std.proofs.Common.{◌≡◌, ◌≤◌, ◌-◌, length, take, Some, None, IsSome, true, false}
use Rattle.shelf_io.specs.Shelf.{IsIfTold, with_file}
use Rattle.shelf_io.proofs.whole.write_all.Given as goal

-- the file has so many of the bytes, and nothing failed
abbrev pub invariant-loop-sent : goal.invariant-loop-sent
invariant-loop-sent g l =
    let old = g.S.Shelf.state l.fn.shelf in
    let now = g.S.Shelf.state l.shelf in
    record {
      within : l.sent ≤ length l.bytes;
      writing : now.writing ≡ true;
      files : now.files ≡ with_file l.name (take l.sent l.bytes) old.files;
      making : IsIfTold now.making l.name;
      told : IsSome old.files → now.making ≡ Some l.name;
      reading : now.reading ≡ false;
      opened : now.opened ≡ None;
      unread : now.unread ≡ None;
      taken : now.taken ≡ old.taken;
      failed : now.failed ≡ old.failed;
      read_faults : now.read_faults ≡ old.read_faults;
      write_faults : now.write_faults ≡ old.write_faults;
    }

abbrev pub decreases-loop-sent : goal.decreases-loop-sent
decreases-loop-sent g l = length l.bytes - l.sent
