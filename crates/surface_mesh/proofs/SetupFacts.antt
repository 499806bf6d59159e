-- What holds of each setup that was built.
use Rattle.std.proofs.Common.{◌≡◌, ◌∙◌, ℤ, pos, ◌≤ℤ◌, Bool, true, false, cond, List, [], ◌∷◌, map, length, refl, sym, ap, subst, arith, lit≤}
use Rattle.std.proofs.lemmas.Int.{ints}
use Rattle.std.proofs.lemmas.List.{length-map}
use Rattle.std.proofs.lemmas.Option.{slice_get-map}
use Rattle.std.specs.Prelude.{ℕ, All, Option, Some, None, find, slice_get, option_map, if◌then◌else◌}
use Rattle.std.specs.Option.{option_map_or}
use Rattle.std.specs.Ordering.{int_eq}
use Rattle.std.proofs.lemmas.List.FromFn.{length-map-range_with_len}
use Rattle.std.proofs.lemmas.List.Elements.{All-head, All-tail, All-map, All-filter, All-weaker, All-same}
use Rattle.list_laws.proofs.Sums.{total_nonneg}
use Rattle.whole_laws.proofs.Order.{mul_nonneg_ℤ}
use Rattle.list_laws.proofs.Elements.{All-map_back}
use Rattle.space3.specs.declared.vectors.V3.{V3}
use Rattle.space3.specs.declared.lists.Tet.{Tet}
use Rattle.space3.specs.declared.mesh.Mesh.{Mesh}
use Rattle.space3.specs.Mesh.{IsSound}
use Rattle.space3.specs.Vectors.{AtMost, Within, origin}
use Rattle.boundary.specs.Surface.{SurfaceLists}
use Rattle.surface_mesh.specs.declared.materials.Material.{Material}
use Rattle.surface_mesh.specs.declared.materials.Numbers.{Numbers}
use Rattle.surface_mesh.specs.declared.setup.Setup.{Setup}
use Rattle.surface_mesh.specs.declared.ranges.TheConstants.{FASTEST}
use Rattle.surface_mesh.specs.Materials.{AreNumbers, IsMaterial, material_of, physical_tag}
use Rattle.surface_mesh.specs.Setup.{HasSurface, IsSetup, has_node, is_fixed, mass_of, node_positions, rest_of, setup_of, tets_at, velocity_of, weight_of}

-- ---- lengths
pub rest_length : (s : Setup) → IsSetup s → length s.rest ≡ length s.mesh.tets
rest_length s h = ap (λ (t : Setup). length t.rest) h.built ∙ length-map s.mesh.tets (rest_of s.mesh)

pub mass_length : (s : Setup) → IsSetup s → length s.mass ≡ length s.mesh.numbers
mass_length s h = ap (λ (t : Setup). length t.mass) h.built ∙ length-map-range_with_len (mass_of s.mesh s.numbers) 0 (length s.mesh.numbers)

pub fixed_length : (s : Setup) → IsSetup s → length s.fixed ≡ length s.mesh.numbers
fixed_length s h = ap (λ (t : Setup). length t.fixed) h.built ∙ length-map-range_with_len (is_fixed s.mesh s.numbers) 0 (length s.mesh.numbers)

pub velocity_length : (s : Setup) → IsSetup s → length s.velocity ≡ length s.mesh.numbers
velocity_length s h = ap (λ (t : Setup). length t.velocity) h.built ∙ length-map-range_with_len (velocity_of s.mesh s.numbers) 0 (length s.mesh.numbers)

-- ---- materials
found : {X : Type 0} (P : X → Type 0) (Q : Material → Type 0) (f : X → Material) (base : Material) (test : X → Bool) (xs : List X) → ((x : X) → P x → Q (f x)) → All P xs → Q base → Q (option_map_or f (find test xs) base)
found P Q f base test [] g h k = k
found P Q f base test (x ∷ xs) g h k =
    elim (test x) as (λ b. Q (option_map_or f (cond b (Some x) (find test xs)) base)) [
      | true ↦ g x (All-head P x xs h)
      | false ↦ found P Q f base test xs g (All-tail P x xs h) k
    ]

-- each tetrahedron's material is in range
pub material_is_in_range : (numbers : Numbers) (tet : Tet) → AreNumbers numbers → IsMaterial (material_of numbers tet)
material_is_in_range numbers tet h =
    found (λ part. IsMaterial part.1) IsMaterial (λ part. part.1) numbers.base (λ part. int_eq part.0 (physical_tag tet)) numbers.parts (λ part p. p) h.parts h.base

-- ---- masses
-- where no rest determinant is negative, no mass is
pub masses_are_not_negative : (s : Setup) → IsSetup s → All (λ rest. pos 0 ≤ℤ rest) s.rest → All (λ mass. pos 0 ≤ℤ mass) s.mass
masses_are_not_negative s h k =
    All-same (λ mass. pos 0 ≤ℤ mass) s.mass (map (mass_of s.mesh s.numbers) (node_positions s.mesh)) (ap (λ (t : Setup). t.mass) h.built)
    (All-map (λ mass. pos 0 ≤ℤ mass) (mass_of s.mesh s.numbers) (node_positions s.mesh) (λ i d l. mass _))
  where
    rests : All (λ tet. pos 0 ≤ℤ rest_of s.mesh tet) s.mesh.tets
    rests =
        All-map_back (λ rest. pos 0 ≤ℤ rest) (rest_of s.mesh) s.mesh.tets
        (All-same (λ rest. pos 0 ≤ℤ rest) (map (rest_of s.mesh) s.mesh.tets) s.rest (sym (ap (λ (t : Setup). t.rest) h.built)) k)

    weight : (tet : Tet) → pos 0 ≤ℤ rest_of s.mesh tet → pos 0 ≤ℤ weight_of s.mesh s.numbers tet
    weight tet l = mul_nonneg_ℤ (material_of s.numbers tet).density (rest_of s.mesh tet) (above (material_of s.numbers tet).density (material_is_in_range s.numbers tet h.in_range).density.low) l
      where
        above : (n : ℤ) → pos 1 ≤ℤ n → pos 0 ≤ℤ n
        above n l = omega (arith, ints)

    mass : (node : ℕ) → pos 0 ≤ℤ mass_of s.mesh s.numbers node
    mass node =
        total_nonneg (map (weight_of s.mesh s.numbers) (tets_at s.mesh node))
        (All-map (λ x. pos 0 ≤ℤ x) (weight_of s.mesh s.numbers) (tets_at s.mesh node)
        (All-filter (has_node node) (λ tet. pos 0 ≤ℤ weight_of s.mesh s.numbers tet) s.mesh.tets
        (All-weaker (λ tet. pos 0 ≤ℤ rest_of s.mesh tet) (λ tet. pos 0 ≤ℤ weight_of s.mesh s.numbers tet) weight s.mesh.tets rests)))

-- ---- velocities
choice : (P : V3 → Type 0) (f : Tet → V3) (fixed : Bool) (o : Option Tet) → P origin → ((tet : Tet) → P (f tet)) → P (if fixed then origin else option_map_or f o origin)
choice P f true o h k = h
choice P f false None h k = h
choice P f false (Some tet) h k = k tet

standing : Within FASTEST origin
standing = record { x = none; y = none; z = none }
  where
    none : AtMost FASTEST (pos 0)
    none = record { bound = lit≤ tt }

-- each velocity is one that a scene may give
pub velocities_are_within : (s : Setup) → IsSetup s → All (Within FASTEST) s.velocity
velocities_are_within s h =
    All-same (Within FASTEST) s.velocity (map (velocity_of s.mesh s.numbers) (node_positions s.mesh)) (ap (λ (t : Setup). t.velocity) h.built)
    (All-map (Within FASTEST) (velocity_of s.mesh s.numbers) (node_positions s.mesh) (λ i d l. each _))
  where
    each : (node : ℕ) → Within FASTEST (velocity_of s.mesh s.numbers node)
    each node = choice (Within FASTEST) (λ tet. (material_of s.numbers tet).velocity) (is_fixed s.mesh s.numbers node) (slice_get (tets_at s.mesh node) 0) standing (λ tet. (material_is_in_range s.numbers tet h.in_range).velocity)

-- a node that stays where it is has no velocity
pub fixed_node_stands : (s : Setup) (node : ℕ) → IsSetup s → slice_get s.fixed node ≡ Some true → slice_get s.velocity node ≡ Some origin
fixed_node_stands s node h e =
    ap (λ (t : Setup). slice_get t.velocity node) h.built ∙ slice_get-map (velocity_of s.mesh s.numbers) (node_positions s.mesh) node
    ∙ both (is_fixed s.mesh s.numbers) (velocity_of s.mesh s.numbers) (slice_get (node_positions s.mesh) node) (λ n. still (is_fixed s.mesh s.numbers n) _)
    (sym (slice_get-map (is_fixed s.mesh s.numbers) (node_positions s.mesh) node) ∙ sym (ap (λ (t : Setup). slice_get t.fixed node) h.built) ∙ e)
  where
    still : (fixed : Bool) (v : V3) → fixed ≡ true → (if fixed then origin else v) ≡ origin
    still true v e = refl
    still false v e = cc

    both : (f : ℕ → Bool) (g : ℕ → V3) (o : Option ℕ) → ((n : ℕ) → f n ≡ true → g n ≡ origin) → option_map f o ≡ Some true → option_map g o ≡ Some origin
    both f g None k e = cc
    both f g (Some n) k e = let e' : f n ≡ true = cc in ap Some (k n e')

-- ---- what was built
pub built_is_setup : (mesh : Mesh) (surface : SurfaceLists) (numbers : Numbers) (s : Setup) → IsSound mesh → HasSurface mesh surface → AreNumbers numbers → s ≡ setup_of mesh surface numbers → IsSetup s
built_is_setup mesh surface numbers s h j k e =
    subst IsSetup (sym e) (record { mesh_is_sound = h; has_surface = j; in_range = k; built = refl })
