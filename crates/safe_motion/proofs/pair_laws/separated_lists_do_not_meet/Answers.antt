use Rattle.safe_motion.proofs.Separation.{meeting_excludes_separation}
use Rattle.safe_motion.proofs.pair_laws.separated_lists_do_not_meet.Goals as goal

pub returns : goal.returns
returns c = λ xs ys w n. meeting_excludes_separation n w.0 w.1 xs ys w.2
