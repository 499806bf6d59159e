-- What words and files call for is safe.
use Rattle.std.proofs.Common.{◌≡◌, ℕ, ℤ, pos, int_le, ◌<ℤ◌, false, List, Option, Some, None, IfSome, length, option_map, subst, sym, arith}
use Rattle.std.specs.Prelude.{All}
use Rattle.std.specs.Option.{option_or}
use Rattle.std.proofs.lemmas.Int.{ints}
use Rattle.std.proofs.lemmas.List.Elements.{All-map, All-weaker}
use Rattle.std.proofs.lemmas.List.FromFn.{length-map-range_with_len}
use Rattle.list_laws.proofs.Elements.{All-map_back}
use Rattle.space3.specs.declared.lists.Tet.{Tet}
use Rattle.space3.specs.declared.mesh.Mesh.{Mesh}
use Rattle.space3.specs.Mesh.{rest_determinant}
use Rattle.boundary.specs.Surface.{SurfaceLists}
use Rattle.surface_mesh.specs.declared.materials.Numbers.{Numbers}
use Rattle.surface_mesh.specs.Safety.{IsSafeAt}
use Rattle.surface_mesh.specs.declared.setup.Setup.{Setup}
use Rattle.surface_mesh.specs.Setup.{is_fixed, setup_of, rest_of}
use Rattle.mesh_check.specs.declared.defects.Defect.TheVariants as defects
use Rattle.mesh_check.specs.Defects.{IsFirstDefect, first_flaw, first_not_positive, first_thin, first_long, first_heavy}
use Rattle.mesh_check.proofs.OneDefect.{none_means}
use Rattle.mesh_check.proofs.StandingPairs.{parts_apart}
use Rattle.list_laws.proofs.Searches.{none_found}
use Rattle.frame_driver.specs.Frames.{Frame}
use Rattle.frame_driver.specs.Paths.{first_before}
use Rattle.frame_driver.proofs.DownhillPaths.{path_goes_down}
use Rattle.frame_driver.proofs.HeldNodes.{path_holds}
use Rattle.frame_driver.proofs.SafePaths.{path_is_safe}
use Rattle.ipc_top.specs.CallsFor.{CallsFor, CommandCallsFor}
use Rattle.ipc_top.specs.Commands.{Command, command_of}
use Rattle.ipc_top.specs.Jobs.{Job}
use Rattle.ipc_top.specs.Motions.{IsSafeThroughout}
use Rattle.ipc_top.specs.Moves.{AreFrames, first_start}
use Rattle.ipc_top.specs.Plans.{Plan}
use Rattle.ipc_top.specs.Roles.{Seen}
use Rattle.ipc_top.proofs.EachPlan.{each_plan}

-- where the first of two is none, there is nothing in it
first_none : {X Y : Type 0} (f : X → Y) (found : Option X) (other : Option Y) → option_or (option_map f found) other ≡ None → found ≡ None
first_none f None other e = λ i. None
first_none f (Some x) other e = absurd cc

positive : (rest : ℤ) → int_le rest (pos 0) ≡ false → pos 0 <ℤ rest
positive rest e = omega (arith, ints)

rests_are_positive : (setup : Setup) → first_flaw setup ≡ None → All (λ rest. pos 0 <ℤ rest) setup.rest
rests_are_positive setup none =
    let other = option_or (option_map (λ tet. defects.Thin tet) (first_thin setup)) (option_or (option_map (λ tet. defects.Long tet) (first_long setup)) (option_map (λ node. defects.TooHeavy node) (first_heavy setup))) in
    All-weaker (λ rest. int_le rest (pos 0) ≡ false) (λ rest. pos 0 <ℤ rest) positive setup.rest
    (none_found (λ rest. int_le rest (pos 0)) setup.rest (first_none (λ tet. defects.NotPositive tet) (first_not_positive setup) other none))

-- bodies without a defect are safe where the mesh stands
start_is_safe : (mesh : Mesh) (surface : SurfaceLists) (numbers : Numbers) → let setup = setup_of mesh surface numbers in IsFirstDefect setup None → IsSafeAt setup mesh.places
start_is_safe mesh surface numbers none =
    let setup = setup_of mesh surface numbers in
    let clear = none_means setup none in
    record {
      apart = parts_apart setup clear.1;
      upright = All-map (λ nodes. pos 0 <ℤ rest_determinant mesh.places nodes) (λ (tet : Tet). tet.nodes) mesh.tets
          (All-map_back (λ rest. pos 0 <ℤ rest) (rest_of mesh) mesh.tets (rests_are_positive setup clear.0));
    }

-- and so is their motion
motion_safe : (job : Job) (mesh : Mesh) (surface : SurfaceLists) (frames : List Frame) → let setup = setup_of mesh surface job.numbers in IsFirstDefect setup None → AreFrames job setup (first_start job setup) frames → IsSafeThroughout (record { setup = setup; start = first_start job setup; frames = frames })
motion_safe job mesh surface frames none are =
    let setup = setup_of mesh surface job.numbers in
    let start : IsSafeAt setup mesh.places = start_is_safe mesh surface job.numbers none in
    record {
      at_start = start;
      on_frames = path_is_safe setup job.tol job.budget mesh.places (first_before setup) frames start are.path;
      downhill = path_goes_down setup job.tol job.budget mesh.places (first_before setup) frames are.path;
      held = path_holds setup job.tol job.budget mesh.places (first_before setup) frames (length-map-range_with_len (is_fixed mesh job.numbers) 0 (length mesh.numbers)) are.path;
    }

-- the motion that a plan shows is safe
abbrev pub ShowsSafety : Plan → Type 0
ShowsSafety plan = IfSome plan.motion IsSafeThroughout

pub plans_safe : (words : List (List ℕ)) (seen : Seen) (plan : Plan) → CallsFor words seen plan → ShowsSafety plan
plans_safe words seen plan called = by (command_of words) called.by_command
  where
    by : (command : Option Command) → CommandCallsFor command seen plan → ShowsSafety plan
    by None e = subst ShowsSafety (sym e) tt
    by (Some command) h =
        each_plan ShowsSafety command seen plan
        (record { three = λ acts. tt; five = λ acts. tt; six = λ acts. tt; seven = λ acts. tt; ten = λ acts. tt; taken = λ name p u. u; moves = motion_safe }) h
