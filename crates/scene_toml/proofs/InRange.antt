-- What is read is in its key's range.
use Rattle.std.proofs.Common.{IfOk, ◌≡◌, ◌^◌, ◌+◌, ◌≤◌, ℕ, ℤ, pos, neg_ℤ, ◌≤ℤ◌, List, [], ◌∷◌, ◌++◌, length, Bool, true, false, int_le, Option, Some, None, Result, Ok, Err, if◌then◌else◌, refl, sym, ap, ◌∙◌, subst, arith}
use Rattle.std.specs.Prelude.{All, IfSome, unwrap_or}
use Rattle.std.proofs.lemmas.List.{length-append, length-map}
use Rattle.std.proofs.lemmas.List.Elements.{All-nil, All-cons, All-append, All-map, All-weaker}
use Rattle.std.proofs.lemmas.Bool.{and_parts}
use Rattle.std.proofs.lemmas.Float.{T_from_true}
use Rattle.std.proofs.lemmas.Int.{ints}
use Rattle.std.specs.Int.Signed.{le_z_yes}
use Rattle.std.specs.Prelude.{codes, unsigned_abs}
use Rattle.dec_text.specs.declared.Snap.TheVariants.{Nearest}
use Rattle.dec_text.specs.declared.TheConstants.{FINEST_GRID}
use Rattle.toml.specs.Data.{Data, string, integer, array, table, Items, no_items, item, Members, get_member}
use Rattle.space3.specs.declared.vectors.V3.{V3}
use Rattle.space3.specs.Vectors.{AtMost, Within, origin}
use Rattle.surface_mesh.specs.declared.materials.Material.{Material}
use Rattle.surface_mesh.specs.declared.ranges.TheConstants.{LEAST_DHAT, MOST_DHAT, MOST_FRICTION, MOST_GRAVITY, MOST_KAPPA, MOST_SLIP}
use Rattle.whole_laws.specs.Ranges.{IsFrom}
use Rattle.surface_mesh.specs.Materials.{IsMaterial}
use Rattle.scene_toml.specs.declared.keys.TheConstants.{BUDGET_LIMIT, FRAME_LIMIT, TOL_LIMIT, NAME_LENGTHS, GRIDS, FRAME_COUNTS, BUDGETS, TOLERANCES, GRAVITIES, CONTACT_DISTANCES, STIFFNESSES, FRICTIONS, SLIPS, DENSITIES, MODULI, VELOCITIES, NO_RANGE}
use Rattle.scene_toml.specs.declared.keys.Section.{Section}
use Rattle.scene_toml.specs.declared.keys.Section.TheVariants as sections
use Rattle.scene_toml.specs.declared.refusal.SceneErr.{SceneErr}
use Rattle.scene_toml.specs.declared.refusal.ReadSceneErr.{ReadSceneErr}
use Rattle.scene_toml.specs.declared.groups.FileKeys.{FileKeys}
use Rattle.scene_toml.specs.declared.groups.ForceKeys.{ForceKeys}
use Rattle.scene_toml.specs.declared.groups.FrameKeys.{FrameKeys}
use Rattle.scene_toml.specs.declared.scene.Scene.{Scene}
use Rattle.scene_toml.specs.Gives.{Gives}
use Rattle.scene_toml.specs.Calls.{bool_at, files_in, files_of, forces_in, forces_of, frames_in, frames_of, integer_at, integer_or_at, material_at, material_in, new_tag_at, optional_bool_at, optional_integer_at, optional_text_at, optional_vector_at, parts_at, snap_at, text_at, vector_at}
use Rattle.scene_toml.specs.declared.parts.PartKeys.{PartKeys}
use Rattle.scene_toml.specs.Parts.{are_tables, count_of, not_tables, part, part_in, part_of, parts_from, parts_of, with_base}
use Rattle.scene_toml.specs.Keys.{Key, key}
use Rattle.scene_toml.specs.Reading.{read_keys}
use Rattle.scene_toml.specs.Readings.{file_keys, force_keys, frame_keys, material_of, no_scene}
use Rattle.scene_toml.specs.Tables.{table_of, first_unknown}
use Rattle.scene_toml.specs.Values.{in_range, integer_of, integer_or, optional, text_of, three_integers, components_of, vector_of}
use Rattle.scene_toml.specs.Scenes.{IsName, IsScene, scene_in, scene_of_table, scene_of_text, unless_unknown}
use Rattle.scene_toml.proofs.KeyGroups.{scene_by_groups}
use Rattle.scene_toml.proofs.Steps.{and_then-ok}

ok_same : {T : Type 0} (x y : T) → ◌≡◌ {A = Result T SceneErr} (Ok x) (Ok y) → x ≡ y
ok_same x y e = cc

-- the one of two results that is a number
chosen : (b : Bool) (n m : ℤ) (fault : SceneErr) → (if b then Ok n else Err fault) ≡ Ok m → (b ≡ true) × (n ≡ m)
chosen true n m fault e = (refl, cc)
chosen false n m fault e = absurd cc

at_most : (a b : ℤ) → int_le a b ≡ true → a ≤ℤ b
at_most a b e = le_z_yes (T_from_true _ e)

in_range-holds : (section : Section) (key : Key) (n m : ℤ) → in_range section key n ≡ Ok m → (n ≡ m) × IsFrom key.least key.most m
in_range-holds section key n m e =
    let (inside, same) = chosen _ n m _ e in
    let (low, high) = and_parts _ _ inside in
    (same, subst (IsFrom key.least key.most) same (record { low = at_most key.least n low; high = at_most n key.most high }))

integer_of-holds : (section : Section) (key : Key) (value : Option Data) (n : ℤ) → integer_of section key value ≡ Ok n → IsFrom key.least key.most n
integer_of-holds section key (Some (integer m)) n e = (in_range-holds section key m n e).1
integer_of-holds section key (Some _) n e = absurd cc
integer_of-holds section key None n e = absurd cc

integer_at-holds : (section : Section) (key : Key) (ms : Members) (n : ℤ) → integer_at section key ms ≡ Ok n → IsFrom key.least key.most n
integer_at-holds section key ms n e = integer_of-holds section key (get_member key.name ms) n e

integer_or-holds : (section : Section) (key : Key) (absent : ℤ) (value : Option Data) (n : ℤ) → IsFrom key.least key.most absent → integer_or section key absent value ≡ Ok n
    → IsFrom key.least key.most n
integer_or-holds section key absent (Some value) n h e = integer_of-holds section key (Some value) n e
integer_or-holds section key absent None n h e = subst (IsFrom key.least key.most) (ok_same absent n e) h

text_of-holds : (section : Section) (key : Key) (value : Option Data) (text : List ℕ) → text_of section key value ≡ Ok text → IsFrom key.least key.most (pos (length text))
text_of-holds section key (Some (string s)) text e =
    and_then-ok (in_range section key (pos (length s))) _ text e
    (λ n n-is e. let (same, range) = in_range-holds section key _ n n-is in
    subst (λ t. IsFrom key.least key.most (pos (length t))) (ok_same _ text e) (subst (IsFrom key.least key.most) (sym same) range))
text_of-holds section key (Some _) text e = absurd cc
text_of-holds section key None text e = absurd cc

-- each component is in the range
record AreFrom (least most : ℤ) (v : V3) : Type 0 where
  pub x : IsFrom least most v.x
  pub y : IsFrom least most v.y
  pub z : IsFrom least most v.z

components_of-holds : (section : Section) (key : Key) (v : Option V3) (u : V3) → components_of section key v ≡ Ok u → AreFrom key.least key.most u
components_of-holds section key (Some v) u e =
    and_then-ok (in_range section key v.x) _ u e
    (λ x x-is e. and_then-ok (in_range section key v.y) _ u e
    (λ y y-is e. and_then-ok (in_range section key v.z) _ u e
    (λ z z-is e. subst (AreFrom key.least key.most) (ok_same _ u e)
    (record { x = (in_range-holds section key _ x x-is).1; y = (in_range-holds section key _ y y-is).1; z = (in_range-holds section key _ z z-is).1 }))))
components_of-holds section key None u e = absurd cc

vector_of-holds : (section : Section) (key : Key) (absent : V3) (value : Option Data) (u : V3) → AreFrom key.least key.most absent → vector_of section key absent value ≡ Ok u → AreFrom key.least key.most u
vector_of-holds section key absent (Some (array items)) u h e = components_of-holds section key (three_integers items) u e
vector_of-holds section key absent (Some _) u h e = absurd cc
vector_of-holds section key absent None u h e = subst (AreFrom key.least key.most) (ok_same _ u e) h

-- a vector at rest, whatever its range, where that has 0
at_rest : (least most : ℤ) → least ≤ℤ pos 0 → pos 0 ≤ℤ most → AreFrom least most origin
at_rest least most low high =
    let zero : IsFrom least most (pos 0) = record { low = low; high = high } in
    record { x = zero; y = zero; z = zero }

size_of : (bound : ℕ) (n : ℤ) → IsFrom (neg_ℤ (pos bound)) (pos bound) n → AtMost bound n
size_of bound n h = record { bound = omega (arith, ints, h.low, h.high) }

sizes_of : (bound : ℕ) (v : V3) → AreFrom (neg_ℤ (pos bound)) (pos bound) v → Within bound v
sizes_of bound v h = record { x = size_of bound v.x h.x; y = size_of bound v.y h.y; z = size_of bound v.z h.z }

material_in-holds : (ms : Members) (material : Material) → material_in ms ≡ Ok material → IsMaterial material
material_in-holds ms material e =
    and_then-ok (integer_at sections.Material (key (codes "density") DENSITIES) ms) _ material e
    (λ density density-is e. and_then-ok (integer_at sections.Material (key (codes "mu") MODULI) ms) _ material e
    (λ mu mu-is e. and_then-ok (integer_at sections.Material (key (codes "lambda") MODULI) ms) _ material e
    (λ lambda lambda-is e. and_then-ok (bool_at sections.Material (key (codes "fixed") NO_RANGE) false ms) _ material e
    (λ fixed fixed-is e. and_then-ok (vector_at sections.Material (key (codes "velocity") VELOCITIES) origin ms) _ material e
    (λ velocity velocity-is e.
    let velocity_from = vector_of-holds sections.Material (key (codes "velocity") VELOCITIES) origin (get_member (codes "velocity") ms) velocity (at_rest _ _ (omega arith) (omega arith)) velocity-is in
    subst IsMaterial (ok_same _ material e) (record {
      density = integer_at-holds sections.Material (key (codes "density") DENSITIES) ms density density-is;
      mu = integer_at-holds sections.Material (key (codes "mu") MODULI) ms mu mu-is;
      lambda = integer_at-holds sections.Material (key (codes "lambda") MODULI) ms lambda lambda-is;
      velocity = sizes_of 65536 velocity velocity_from;
    }))))))

material_of-holds : (value : Option Data) (material : Material) → material_of value ≡ Ok material → IsMaterial material
material_of-holds (Some (table ms)) material e = material_in-holds ms material e
material_of-holds (Some _) material e = absurd cc
material_of-holds None material e = absurd cc

-- what may be absent is in the range where it is there
optional-holds : {T : Type 0} (P : T → Type 0) (read : Option Data → Result T SceneErr) (value : Option Data) (o : Option T) → ((v : Option Data) (x : T) → read v ≡ Ok x → P x) → optional read value ≡ Ok o → IfSome o P
optional-holds P read (Some d) o h e = and_then-ok (read (Some d)) _ o e (λ x x-is e. subst (λ o. IfSome o P) (ok_same _ o e) (h (Some d) x x-is))
optional-holds P read None o h e = subst (λ o. IfSome o P) (ok_same _ o e) tt

-- what a part has in place of the base material's is in range
record IsPart (part : PartKeys) : Type 0 where
  pub density : IfSome part.density (IsFrom DENSITIES.0 DENSITIES.1)
  pub mu : IfSome part.mu (IsFrom MODULI.0 MODULI.1)
  pub lambda : IfSome part.lambda (IsFrom MODULI.0 MODULI.1)
  pub velocity : IfSome part.velocity (AreFrom VELOCITIES.0 VELOCITIES.1)

integer_if : (section : Section) (key : Key) (ms : Members) (o : Option ℤ) → optional_integer_at section key ms ≡ Ok o → IfSome o (IsFrom key.least key.most)
integer_if section key ms o e = optional-holds (IsFrom key.least key.most) (integer_of section key) (get_member key.name ms) o (λ v n n-is. integer_of-holds section key v n n-is) e

part_in-holds : (earlier : List PartKeys) (ms : Members) (part : PartKeys) → part_in earlier ms ≡ Ok part → IsPart part
part_in-holds earlier ms part e =
    let section = sections.Part (length earlier) in
    and_then-ok (new_tag_at earlier ms) _ part e
    (λ tag tag-is e. and_then-ok (optional_integer_at section (key (codes "density") DENSITIES) ms) _ part e
    (λ density density-is e. and_then-ok (optional_integer_at section (key (codes "mu") MODULI) ms) _ part e
    (λ mu mu-is e. and_then-ok (optional_integer_at section (key (codes "lambda") MODULI) ms) _ part e
    (λ lambda lambda-is e. and_then-ok (optional_bool_at section (key (codes "fixed") NO_RANGE) ms) _ part e
    (λ fixed fixed-is e. and_then-ok (optional_vector_at section (key (codes "velocity") VELOCITIES) ms) _ part e
    (λ velocity velocity-is e. subst IsPart (ok_same _ part e) (record {
      density = integer_if section (key (codes "density") DENSITIES) ms density density-is;
      mu = integer_if section (key (codes "mu") MODULI) ms mu mu-is;
      lambda = integer_if section (key (codes "lambda") MODULI) ms lambda lambda-is;
      velocity = optional-holds (AreFrom VELOCITIES.0 VELOCITIES.1) (vector_of section (key (codes "velocity") VELOCITIES) origin) (get_member (codes "velocity") ms) velocity
          (λ v u u-is. vector_of-holds section (key (codes "velocity") VELOCITIES) origin v u (at_rest _ _ (omega arith) (omega arith)) u-is) velocity-is;
    })))))))

part_of-holds : (earlier : List PartKeys) (d : Data) (part : PartKeys) → part_of earlier d ≡ Ok part → IsPart part
part_of-holds earlier (table ms) part e = part_in-holds earlier ms part e
part_of-holds earlier _ part e = absurd cc

-- parts in range, as many as tables
parts_from-holds : (earlier : List PartKeys) (items : Items) (parts : List PartKeys) → All IsPart earlier → parts_from earlier items ≡ Ok parts → All IsPart parts × (length parts ≡ length earlier + count_of items)
parts_from-holds earlier no_items parts h e =
    let same = ok_same _ parts e in
    (subst (All IsPart) same h, omega (arith, ap length same))
parts_from-holds earlier (item d more) parts h e =
    and_then-ok (part_of earlier d) _ parts e
    (λ part part-is e.
    let one = All-cons IsPart part [] (part_of-holds earlier d part part-is) (All-nil IsPart) in
    let (all, count) = parts_from-holds (earlier ++ part ∷ []) more parts (All-append IsPart earlier (part ∷ []) h one) e in
    (all, omega (arith, count, length-append earlier (part ∷ []))))

if_chosen : (b : Bool) (step : Result (List PartKeys) SceneErr) (fault : SceneErr) (parts : List PartKeys) → (if b then step else Err fault) ≡ Ok parts → step ≡ Ok parts
if_chosen true step fault parts e = e
if_chosen false step fault parts e = absurd cc

parts_of-holds : (value : Option Data) (parts : List PartKeys) → parts_of value ≡ Ok parts → All IsPart parts × (length parts ≤ 64)
parts_of-holds (Some (array items)) parts e =
    and_then-ok (in_range sections.Top part (pos (count_of items))) _ parts (if_chosen (are_tables items) _ not_tables parts e)
    (λ n n-is e.
    let (same, range) = in_range-holds sections.Top part (pos (count_of items)) n n-is in
    let (all, count) = parts_from-holds [] items parts (All-nil IsPart) e in
    (all, few (count_of items) (length parts) count (subst (IsFrom (pos 0) (pos 64)) (sym same) range)))
  where
    few : (n m : ℕ) → m ≡ 0 + n → IsFrom (pos 0) (pos 64) (pos n) → m ≤ 64
    few n m e h = omega (arith, ints, e, h.high)
parts_of-holds (Some _) parts e = absurd cc
parts_of-holds None parts e = (subst (All IsPart) (ok_same _ parts e) (All-nil IsPart), omega (arith, ap length (ok_same _ parts e)))

or_base : {T : Type 0} (P : T → Type 0) (o : Option T) (base : T) → P base → IfSome o P → P (unwrap_or o base)
or_base P (Some x) base h k = k
or_base P None base h k = h

with_base-holds : (base : Material) (part : PartKeys) → IsMaterial base → IsPart part → IsMaterial (with_base base part).1
with_base-holds base part h k = record {
  density = or_base (IsFrom DENSITIES.0 DENSITIES.1) part.density base.density h.density k.density;
  mu = or_base (IsFrom MODULI.0 MODULI.1) part.mu base.mu h.mu k.mu;
  lambda = or_base (IsFrom MODULI.0 MODULI.1) part.lambda base.lambda h.lambda k.lambda;
  velocity = or_base (Within 65536) part.velocity base.velocity h.velocity (if_within part.velocity k.velocity);
}
  where
    if_within : (o : Option V3) → IfSome o (AreFrom VELOCITIES.0 VELOCITIES.1) → IfSome o (Within 65536)
    if_within (Some v) h = sizes_of 65536 v h
    if_within None h = tt

is_name : (text : List ℕ) → IsFrom (pos 1) (pos 200) (pos (length text)) → IsName text
is_name text h = record { not_empty = omega (arith, ints, h.low); short = omega (arith, ints, h.high) }

optional_name : (value : Option Data) (trace : Option (List ℕ)) → optional (text_of sections.Top (key (codes "trace") NAME_LENGTHS)) value ≡ Ok trace → IfSome trace IsName
optional_name (Some d) trace e =
    and_then-ok (text_of sections.Top (key (codes "trace") NAME_LENGTHS) (Some d)) (λ text. Ok (Some text)) trace e
    (λ text text-is e. subst (λ (t : Option (List ℕ)). IfSome t IsName) (ok_same (Some text) trace e) (is_name text (text_of-holds sections.Top (key (codes "trace") NAME_LENGTHS) (Some d) text text-is)))
optional_name None trace e = subst (λ (t : Option (List ℕ)). IfSome t IsName) (ok_same None trace e) tt

count_from : (least most : ℕ) (n : ℤ) → IsFrom (pos least) (pos most) n → (least ≤ unsigned_abs n) × (unsigned_abs n ≤ most)
count_from least most n h = (omega (arith, ints, h.low, h.high), omega (arith, ints, h.low, h.high))

-- what the groups of keys give is in range
record AreFiles (files : FileKeys) : Type 0 where
  pub mesh : IsName files.mesh
  pub out : IsName files.out
  pub digits : files.digits ≤ FINEST_GRID

files_in-holds : (ms : Members) (files : FileKeys) → files_in ms ≡ Ok files → AreFiles files
files_in-holds ms files e =
    and_then-ok (read_keys file_keys ms no_scene) _ files e (λ s s-is e.
    and_then-ok (text_at sections.Top (key (codes "mesh") NAME_LENGTHS) ms) _ s s-is (λ mesh mesh-is s-is.
    and_then-ok (text_at sections.Top (key (codes "out") NAME_LENGTHS) ms) _ s s-is (λ out out-is s-is.
    and_then-ok (integer_at sections.Top (key (codes "digits") GRIDS) ms) _ s s-is (λ digits digits-is s-is.
    and_then-ok (snap_at sections.Top (key (codes "snap") NO_RANGE) Nearest ms) _ s s-is (λ snap snap-is s-is.
    subst AreFiles (ap files_of (ok_same _ s s-is) ∙ ok_same _ files e) (record {
      mesh = is_name mesh (text_of-holds sections.Top (key (codes "mesh") NAME_LENGTHS) (get_member (codes "mesh") ms) mesh mesh-is);
      out = is_name out (text_of-holds sections.Top (key (codes "out") NAME_LENGTHS) (get_member (codes "out") ms) out out-is);
      digits = (count_from 0 9 digits (integer_at-holds sections.Top (key (codes "digits") GRIDS) ms digits digits-is)).1;
    }))))))

record AreFrames (group : FrameKeys) : Type 0 where
  pub frames : group.frames ≤ FRAME_LIMIT
  pub some_budget : 1 ≤ group.budget
  pub budget : group.budget ≤ BUDGET_LIMIT
  pub tol : IsFrom (pos 0) TOL_LIMIT group.tol

frames_in-holds : (ms : Members) (group : FrameKeys) → frames_in ms ≡ Ok group → AreFrames group
frames_in-holds ms group e =
    and_then-ok (read_keys frame_keys ms no_scene) _ group e (λ s s-is e.
    and_then-ok (integer_at sections.Top (key (codes "frames") FRAME_COUNTS) ms) _ s s-is (λ frames frames-is s-is.
    and_then-ok (integer_at sections.Top (key (codes "budget") BUDGETS) ms) _ s s-is (λ budget budget-is s-is.
    and_then-ok (integer_at sections.Top (key (codes "tol") TOLERANCES) ms) _ s s-is (λ tol tol-is s-is.
    let budget_from = count_from 1 1000 budget (integer_at-holds sections.Top (key (codes "budget") BUDGETS) ms budget budget-is) in
    subst AreFrames (ap frames_of (ok_same _ s s-is) ∙ ok_same _ group e) (record {
      frames = (count_from 0 9999 frames (integer_at-holds sections.Top (key (codes "frames") FRAME_COUNTS) ms frames frames-is)).1;
      some_budget = budget_from.0;
      budget = budget_from.1;
      tol = integer_at-holds sections.Top (key (codes "tol") TOLERANCES) ms tol tol-is;
    })))))

record AreForces (forces : ForceKeys) : Type 0 where
  pub gravity : Within MOST_GRAVITY forces.gravity
  pub dhat : IsFrom LEAST_DHAT MOST_DHAT forces.dhat
  pub kappa : IsFrom (pos 1) MOST_KAPPA forces.kappa
  pub friction : IsFrom (pos 0) MOST_FRICTION forces.friction
  pub slip : IsFrom (pos 1) MOST_SLIP forces.slip

forces_in-holds : (ms : Members) (forces : ForceKeys) → forces_in ms ≡ Ok forces → AreForces forces
forces_in-holds ms forces e =
    and_then-ok (read_keys force_keys ms no_scene) _ forces e (λ s s-is e.
    and_then-ok (vector_at sections.Top (key (codes "gravity") GRAVITIES) origin ms) _ s s-is (λ gravity gravity-is s-is.
    and_then-ok (integer_at sections.Top (key (codes "dhat") CONTACT_DISTANCES) ms) _ s s-is (λ dhat dhat-is s-is.
    and_then-ok (integer_at sections.Top (key (codes "kappa") STIFFNESSES) ms) _ s s-is (λ kappa kappa-is s-is.
    and_then-ok (integer_or_at sections.Top (key (codes "friction") FRICTIONS) (pos 0) ms) _ s s-is (λ friction friction-is s-is.
    and_then-ok (integer_or_at sections.Top (key (codes "slip") SLIPS) (pos 1) ms) _ s s-is (λ slip slip-is s-is.
    let gravity_from = vector_of-holds sections.Top (key (codes "gravity") GRAVITIES) origin (get_member (codes "gravity") ms) gravity (at_rest _ _ (omega arith) (omega arith)) gravity-is in
    subst AreForces (ap (λ s. forces_of s.numbers) (ok_same _ s s-is) ∙ ok_same _ forces e) (record {
      gravity = sizes_of (2 ^ 20) gravity gravity_from;
      dhat = integer_at-holds sections.Top (key (codes "dhat") CONTACT_DISTANCES) ms dhat dhat-is;
      kappa = integer_at-holds sections.Top (key (codes "kappa") STIFFNESSES) ms kappa kappa-is;
      friction = integer_or-holds sections.Top (key (codes "friction") FRICTIONS) (pos 0) (get_member (codes "friction") ms) friction (record { low = omega arith; high = omega arith }) friction-is;
      slip = integer_or-holds sections.Top (key (codes "slip") SLIPS) (pos 1) (get_member (codes "slip") ms) slip (record { low = omega arith; high = omega arith }) slip-is;
    })))))))

scene_in-holds : (ms : Members) (scene : Scene) → scene_in ms ≡ Ok scene → IsScene scene
scene_in-holds ms scene e =
    and_then-ok (files_in ms) _ scene (sym (scene_by_groups ms) ∙ e) (λ files files-is e.
    and_then-ok (frames_in ms) _ scene e (λ frames frames-is e.
    and_then-ok (forces_in ms) _ scene e (λ forces forces-is e.
    and_then-ok (optional_text_at sections.Top (key (codes "trace") NAME_LENGTHS) ms) _ scene e (λ trace trace-is e.
    and_then-ok (material_at ms) _ scene e (λ base base-is e.
    and_then-ok (parts_at ms) _ scene e (λ parts parts-is e.
    let of_files = files_in-holds ms files files-is in
    let of_frames = frames_in-holds ms frames frames-is in
    let of_forces = forces_in-holds ms forces forces-is in
    let base_in = material_of-holds (get_member (codes "material") ms) base base-is in
    let (parts_in, few) = parts_of-holds (get_member (codes "part") ms) parts parts-is in
    subst IsScene (ok_same _ scene e) (record {
      mesh = of_files.mesh;
      out = of_files.out;
      digits = of_files.digits;
      frames = of_frames.frames;
      some_budget = of_frames.some_budget;
      budget = of_frames.budget;
      tol = of_frames.tol;
      trace = optional_name (get_member (codes "trace") ms) trace trace-is;
      numbers = record {
        base = base_in;
        few_parts = omega (arith, few, length-map parts (with_base base));
        parts = All-map (λ part. IsMaterial part.1) (with_base base) parts (All-weaker IsPart (λ part. IsMaterial (with_base base part).1) (λ part h. with_base-holds base part base_in h) parts parts_in);
        kappa = of_forces.kappa;
        dhat = of_forces.dhat;
        friction = of_forces.friction;
        slip = of_forces.slip;
        gravity = of_forces.gravity;
      };
    })))))))

scene_of_members-holds : (unknown : Option (List ℕ)) (ms : Members) (scene : Scene) → unless_unknown unknown (scene_in ms) ≡ Ok scene → IsScene scene
scene_of_members-holds (Some key) ms scene e = absurd cc
scene_of_members-holds None ms scene e = scene_in-holds ms scene e

scene_of_table-holds : (table : Option Members) (scene : Scene) → scene_of_table table ≡ Ok scene → IsScene scene
scene_of_table-holds (Some ms) scene e = scene_of_members-holds (first_unknown ms) ms scene e
scene_of_table-holds None scene e = absurd cc

pub scene_of_text-holds : (bytes : List ℕ) (scene : Scene) → scene_of_text bytes ≡ Ok scene → IsScene scene
scene_of_text-holds bytes scene e = scene_of_table-holds (table_of bytes) scene e

-- what a reader answers is in range, where it gives the scene that the text means
pub given_in_range : (bytes : List ℕ) (r : Result Scene ReadSceneErr) → Gives r (scene_of_text bytes) → IfOk r IsScene
given_in_range bytes (Ok scene) gives = scene_of_text-holds bytes scene gives
given_in_range bytes (Err e) gives = tt
