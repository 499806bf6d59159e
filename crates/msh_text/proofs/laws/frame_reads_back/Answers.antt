use Rattle.msh_text.proofs.FrameMeans.{frame_means}
use Rattle.msh_text.proofs.laws.frame_reads_back.Goals as goal

pub returns : goal.returns
returns c = frame_means
