-- What a command works on: a mesh and how it is read, the numbers of its bodies, and how many frames.
use Rattle.std.specs.Prelude.{ℕ, ℤ, pos, List, [], false, Option, Some, None}
use Rattle.dec_text.specs.declared.Snap.{Snap}
use Rattle.dec_text.specs.declared.Snap.TheVariants.{Nearest}
use Rattle.space3.specs.Vectors.{origin}
use Rattle.surface_mesh.specs.declared.materials.Numbers.{Numbers}
use Rattle.scene_toml.specs.declared.scene.Scene.{Scene}
use Rattle.work_gen.specs.Stack.{stack_scene}

-- the mesh file, what the names of the frames' files and of the traces' files begin with, where there are such files, the
-- grid of mesh and frames (how many digits, and what is done with coordinates off it), the numbers of the bodies, the
-- tolerance and the budget of each frame, and how many frames follow the start
pub record Job : Type 0 where
  pub mesh : List ℕ
  pub out : Option (List ℕ)
  pub trace : Option (List ℕ)
  pub digits : ℕ
  pub snap : Snap
  pub numbers : Numbers
  pub tol : ℤ
  pub budget : ℕ
  pub frames : ℕ

-- the numbers with which a mesh is checked by itself: density 1, and nothing else that matters
abbrev pub check_numbers : Numbers
check_numbers = record {
  base = record { density = pos 1; mu = pos 0; lambda = pos 0; fixed = false; velocity = origin };
  parts = [];
  kappa = pos 1;
  dhat = pos 2;
  friction = pos 0;
  slip = pos 1;
  gravity = origin;
}

-- to check a mesh: no frame but frame 0
abbrev pub check_job : (digits : ℕ) (mesh out : List ℕ) → Job
check_job digits mesh out = record {
  mesh = mesh;
  out = Some out;
  trace = None;
  digits = digits;
  snap = Nearest;
  numbers = check_numbers;
  tol = pos 0;
  budget = 1;
  frames = 0;
}

-- what a scene asks for
abbrev pub scene_job : Scene → Job
scene_job scene = record {
  mesh = scene.mesh;
  out = Some scene.out;
  trace = scene.trace;
  digits = scene.digits;
  snap = scene.snap;
  numbers = scene.numbers;
  tol = scene.tol;
  budget = scene.budget;
  frames = scene.frames;
}

-- what the stated stack asks for: a job without files
abbrev pub stack_job : Job
stack_job = record (scene_job stack_scene) { out = None }
