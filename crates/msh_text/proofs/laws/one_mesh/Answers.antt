use Rattle.msh_text.proofs.Meaning.{one_mesh_of}
use Rattle.msh_text.proofs.laws.one_mesh.Goals as goal

pub returns : goal.returns
returns c = one_mesh_of
