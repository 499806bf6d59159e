use Rattle.shelf_io.specs.MemView.{entries_of}
use Rattle.shelf_io.proofs.Entries.{opens_at}
use Rattle.shelf_io.proofs.mem_work.read_head.Goals as goal

pub returns-clause-some : goal.returns-clause-some
returns-clause-some c = opens_at (entries_of c.args.files.now) c.args.name.now c.in_ok-file.file c.in_ok-file.ensures.some
