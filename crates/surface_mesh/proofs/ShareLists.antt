-- The lists of a setup, taken out of the shares.
use Rattle.std.proofs.Common.{◌≡◌, ◌∙◌, ℕ, ℤ, Bool, ◌||◌, List, [], ◌∷◌, map, length, refl, ap, sym}
use Rattle.std.specs.Prelude.{not, is_some, ◌==◌, slice_get, Option, None, Some, option_map, if◌then◌else◌}
use Rattle.std.specs.List.{list_any}
use Rattle.std.specs.Option.{option_map_or, unwrap_or}
use Rattle.std.proofs.Math.Dec.{eqb-suc-zero}
use Rattle.std.proofs.lemmas.Simd.{map-map}
use Rattle.space3.specs.declared.vectors.V3.{V3}
use Rattle.space3.specs.declared.mesh.Mesh.{Mesh}
use Rattle.space3.specs.Vectors.{origin}
use Rattle.boundary.specs.Surface.{SurfaceLists}
use Rattle.surface_mesh.specs.declared.materials.Numbers.{Numbers}
use Rattle.surface_mesh.specs.declared.shares.Share.{Share}
use Rattle.surface_mesh.specs.Materials.{material_of}
use Rattle.surface_mesh.specs.Setup.{is_fixed, mass_of, node_positions, rest_of, setup_of, tets_at, velocity_of}
use Rattle.surface_mesh.specs.Calls.Shares.{share_at, start_velocity, stays}

no_first : {X Y : Type 0} (f : X → Y) (xs : List X) → not (is_some (option_map f (slice_get xs 0))) ≡ (length xs == 0)
no_first f [] = refl
no_first f (x ∷ xs) = sym (eqb-suc-zero (length xs))

or_else : {X Y : Type 0} (f : X → Y) (o : Option X) (y : Y) → unwrap_or (option_map f o) y ≡ option_map_or f o y
or_else f None y = refl
or_else f (Some x) y = refl

stays_is : (mesh : Mesh) (numbers : Numbers) (node : ℕ) → stays (share_at mesh numbers node) ≡ is_fixed mesh numbers node
stays_is mesh numbers node = ap (λ (b : Bool). b || list_any (λ tet. (material_of numbers tet).fixed) (tets_at mesh node)) (no_first (λ tet. (material_of numbers tet).velocity) (tets_at mesh node))

velocity_is : (mesh : Mesh) (numbers : Numbers) (node : ℕ) → start_velocity (share_at mesh numbers node) ≡ velocity_of mesh numbers node
velocity_is mesh numbers node = λ i. if stays_is mesh numbers node i then origin else or_else (λ tet. (material_of numbers tet).velocity) (slice_get (tets_at mesh node) 0) origin i

-- the setup of a mesh, out of its rest determinants and shares
pub setup_is : (mesh : Mesh) (surface : SurfaceLists) (numbers : Numbers) (rest mass : List ℤ) (fixed : List Bool) (velocity : List V3) (shares : List Share)
    → rest ≡ map (rest_of mesh) mesh.tets → shares ≡ map (share_at mesh numbers) (node_positions mesh)
    → mass ≡ map (λ share. share.mass) shares → fixed ≡ map stays shares → velocity ≡ map start_velocity shares
    → record { mesh = mesh; surface = surface; numbers = numbers; rest = rest; mass = mass; fixed = fixed; velocity = velocity } ≡ setup_of mesh surface numbers
setup_is mesh surface numbers rest mass fixed velocity shares rest-is shares-are mass-is fixed-is velocity-is =
    λ i. record { mesh = mesh; surface = surface; numbers = numbers; rest = rest-is i; mass = masses i; fixed = flags i; velocity = velocities i }
  where
    taken : {X : Type 0} (f : Share → X) (xs : List X) → xs ≡ map f shares → xs ≡ map (λ node. f (share_at mesh numbers node)) (node_positions mesh)
    taken f xs e = e ∙ ap (map f) shares-are ∙ map-map f (share_at mesh numbers) (node_positions mesh)

    masses : mass ≡ map (mass_of mesh numbers) (node_positions mesh)
    masses = taken (λ share. share.mass) mass mass-is

    flags : fixed ≡ map (is_fixed mesh numbers) (node_positions mesh)
    flags = taken stays fixed fixed-is ∙ (λ i. map (λ node. stays_is mesh numbers node i) (node_positions mesh))

    velocities : velocity ≡ map (velocity_of mesh numbers) (node_positions mesh)
    velocities = taken start_velocity velocity velocity-is ∙ (λ i. map (λ node. velocity_is mesh numbers node i) (node_positions mesh))
