-- A scene is read in groups of its keys.
use Rattle.std.proofs.Common.{◌≡◌, ◌∙◌, ◌++◌, List, pos, Result, Ok, Err, refl}
use Rattle.std.specs.Prelude.{codes, unsigned_abs}
use Rattle.dec_text.specs.declared.Snap.TheVariants.{Nearest}
use Rattle.toml.specs.Data.{Members}
use Rattle.space3.specs.Vectors.{origin}
use Rattle.scene_toml.specs.declared.groups.FileKeys.{FileKeys}
use Rattle.scene_toml.specs.declared.groups.ForceKeys.{ForceKeys}
use Rattle.scene_toml.specs.declared.groups.FrameKeys.{FrameKeys}
use Rattle.scene_toml.specs.declared.keys.Section.TheVariants.{Top}
use Rattle.scene_toml.specs.declared.keys.TheConstants.{NAME_LENGTHS, GRIDS, FRAME_COUNTS, BUDGETS, TOLERANCES, GRAVITIES, CONTACT_DISTANCES, STIFFNESSES, FRICTIONS, SLIPS, NO_RANGE}
use Rattle.scene_toml.specs.declared.refusal.SceneErr.{SceneErr}
use Rattle.scene_toml.specs.declared.scene.Scene.{Scene}
use Rattle.scene_toml.specs.Calls.{files_in, files_of, forces_in, forces_of, frames_in, frames_of, integer_at, integer_or_at, snap_at, text_at, vector_at}
use Rattle.scene_toml.specs.Keys.{key}
use Rattle.scene_toml.specs.Reading.{Reading, read_keys}
use Rattle.scene_toml.specs.Readings.{body_keys, file_keys, force_keys, frame_keys, no_numbers, no_scene}
use Rattle.scene_toml.specs.Scenes.{scene_in}
use Rattle.scene_toml.specs.Values.{and_then}

-- What follows several steps that make something, of which a part is taken.
after_three : {A B C S T U : Type 0} (a : Result A SceneErr) (b : Result B SceneErr) (c : Result C SceneErr) (made : A → B → C → S) (taken : S → T) (then : T → Result U SceneErr)
    → and_then a (λ x. and_then b (λ y. and_then c (λ z. then (taken (made x y z)))))
    ≡ and_then (and_then (and_then a (λ x. and_then b (λ y. and_then c (λ z. Ok (made x y z))))) (λ s. Ok (taken s))) then
after_three (Ok x) (Ok y) (Ok z) made taken then = refl
after_three (Ok x) (Ok y) (Err fault) made taken then = refl
after_three (Ok x) (Err fault) c made taken then = refl
after_three (Err fault) b c made taken then = refl

after_four : {A B C D S T U : Type 0} (a : Result A SceneErr) (b : Result B SceneErr) (c : Result C SceneErr) (d : Result D SceneErr) (made : A → B → C → D → S) (taken : S → T)
    (then : T → Result U SceneErr) → and_then a (λ x. and_then b (λ y. and_then c (λ z. and_then d (λ w. then (taken (made x y z w))))))
    ≡ and_then (and_then (and_then a (λ x. and_then b (λ y. and_then c (λ z. and_then d (λ w. Ok (made x y z w)))))) (λ s. Ok (taken s))) then
after_four (Ok x) b c d made taken then = after_three b c d (made x) taken then
after_four (Err fault) b c d made taken then = refl

after_five : {A B C D E S T U : Type 0} (a : Result A SceneErr) (b : Result B SceneErr) (c : Result C SceneErr) (d : Result D SceneErr) (e : Result E SceneErr)
    (made : A → B → C → D → E → S) (taken : S → T) (then : T → Result U SceneErr)
    → and_then a (λ x. and_then b (λ y. and_then c (λ z. and_then d (λ w. and_then e (λ v. then (taken (made x y z w v)))))))
    ≡ and_then (and_then (and_then a (λ x. and_then b (λ y. and_then c (λ z. and_then d (λ w. and_then e (λ v. Ok (made x y z w v))))))) (λ s. Ok (taken s))) then
after_five (Ok x) b c d e made taken then = after_four b c d e (made x) taken then
after_five (Err fault) b c d e made taken then = refl

abbrev with_files : FileKeys → Scene → Scene
with_files files s = record s { mesh = files.mesh; out = files.out; digits = files.digits; snap = files.snap }

abbrev with_frames : FrameKeys → Scene → Scene
with_frames group s = record s { frames = group.frames; budget = group.budget; tol = group.tol }

abbrev with_forces : ForceKeys → Scene → Scene
with_forces forces s = record s {
  numbers = record s.numbers { gravity = forces.gravity; dhat = forces.dhat; kappa = forces.kappa; friction = forces.friction; slip = forces.slip };
}

-- a group of keys before others
files_first : (later : List (Reading Scene)) (ms : Members) (s : Scene) → read_keys (file_keys ++ later) ms s ≡ and_then (files_in ms) (λ files. read_keys later ms (with_files files s))
files_first later ms s =
    after_four (text_at Top (key (codes "mesh") NAME_LENGTHS) ms) (text_at Top (key (codes "out") NAME_LENGTHS) ms) (integer_at Top (key (codes "digits") GRIDS) ms)
    (snap_at Top (key (codes "snap") NO_RANGE) Nearest ms)
    (λ mesh out digits snap. record no_scene { mesh = mesh; out = out; digits = unsigned_abs digits; snap = snap }) files_of (λ files. read_keys later ms (with_files files s))

frames_first : (later : List (Reading Scene)) (ms : Members) (s : Scene) → read_keys (frame_keys ++ later) ms s ≡ and_then (frames_in ms) (λ frames. read_keys later ms (with_frames frames s))
frames_first later ms s =
    after_three (integer_at Top (key (codes "frames") FRAME_COUNTS) ms) (integer_at Top (key (codes "budget") BUDGETS) ms) (integer_at Top (key (codes "tol") TOLERANCES) ms)
    (λ frames budget tol. record no_scene { frames = unsigned_abs frames; budget = unsigned_abs budget; tol = tol }) frames_of (λ frames. read_keys later ms (with_frames frames s))

forces_first : (later : List (Reading Scene)) (ms : Members) (s : Scene) → read_keys (force_keys ++ later) ms s ≡ and_then (forces_in ms) (λ forces. read_keys later ms (with_forces forces s))
forces_first later ms s =
    after_five (vector_at Top (key (codes "gravity") GRAVITIES) origin ms) (integer_at Top (key (codes "dhat") CONTACT_DISTANCES) ms) (integer_at Top (key (codes "kappa") STIFFNESSES) ms)
    (integer_or_at Top (key (codes "friction") FRICTIONS) (pos 0) ms) (integer_or_at Top (key (codes "slip") SLIPS) (pos 1) ms)
    (λ gravity dhat kappa friction slip. record no_scene { numbers = record no_numbers { gravity = gravity; dhat = dhat; kappa = kappa; friction = friction; slip = slip } })
    (λ s. forces_of s.numbers) (λ forces. read_keys later ms (with_forces forces s))

-- the groups one after the other, and then the last keys
pub scene_by_groups : (ms : Members) → scene_in ms
    ≡ and_then (files_in ms) (λ files. and_then (frames_in ms) (λ frames. and_then (forces_in ms) (λ forces.
    read_keys body_keys ms (with_forces forces (with_frames frames (with_files files no_scene))))))
scene_by_groups ms =
    files_first (frame_keys ++ (force_keys ++ body_keys)) ms no_scene
    ∙ (λ i. and_then (files_in ms) (λ files. (frames_first (force_keys ++ body_keys) ms (with_files files no_scene)
    ∙ (λ j. and_then (frames_in ms) (λ frames. forces_first body_keys ms (with_frames frames (with_files files no_scene)) j))) i))
