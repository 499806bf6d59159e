-- The shares after the first tetrahedra of a mesh.
use Rattle.std.proofs.Common.{◌≡◌, ◌∙◌, ℕ, zero, suc, ◌+◌, ◌*◌, ◌^◌, ◌<◌, ◌≤◌, ℤ, ◌+ℤ◌, Bool, true, false, cond, ◌||◌, List, [], ◌∷◌, ◌++◌, map, take, get_or, length, replicate, refl, ap, sym, arith}
use Rattle.std.specs.Prelude.{filter, slice_get, Option, None, Some, option_map}
use Rattle.std.specs.List.{list_any, range_with_len}
use Rattle.std.specs.Option.{option_or}
use Rattle.std.proofs.Math.Bool.{or-false}
use Rattle.std.proofs.lemmas.List.{append-nil, map-append, take_more, take_all}
use Rattle.std.proofs.lemmas.List.Elements.{All-weaker, All-replicate, All-same, filter_more}
use Rattle.std.proofs.lemmas.List.Folds.{list_any-append}
use Rattle.std.proofs.lemmas.List.FromFn.{length-map-range_with_len}
use Rattle.space3.specs.declared.lists.Tet.{Tet}
use Rattle.space3.specs.declared.mesh.Mesh.{Mesh}
use Rattle.space3.specs.Mesh.{IsSoundTet}
use Rattle.space3.specs.Vectors.{AtMost}
use Rattle.surface_mesh.specs.declared.materials.Numbers.{Numbers}
use Rattle.surface_mesh.specs.declared.shares.Share.{Share}
use Rattle.surface_mesh.specs.Materials.{material_of}
use Rattle.surface_mesh.specs.Setup.{has_node, node_positions, rest_of, weight_of}
use Rattle.surface_mesh.specs.Calls.Shares.{with_share, share_sum, nothing, share_at, share_of, share_of_tets}
use Rattle.list_laws.proofs.Sums.{total-push}
use Rattle.list_laws.specs.Sums.{total}
use Rattle.surface_mesh.proofs.GivenShares.{AreLight, after, with_share_is_light, with_share_at_different}

-- what the first i tetrahedra give a node
abbrev pub share_so_far : Mesh → Numbers → ℕ → ℕ → Share
share_so_far mesh numbers i node = share_of_tets mesh numbers (filter (has_node node) (take i mesh.tets))

pub record AreSumsOf (mesh : Mesh) (numbers : Numbers) (i : ℕ) (rest : List ℤ) (shares : List Share) : Type 0 where
  pub rest_is : rest ≡ map (rest_of mesh) (take i mesh.tets)
  pub shares_are : shares ≡ map (share_so_far mesh numbers i) (node_positions mesh)
  pub light : AreLight (i * 2 ^ 78) shares

-- ---- one tetrahedron more, for one node
first_more : {X : Type 0} (xs : List X) (x : X) → slice_get (xs ++ x ∷ []) 0 ≡ option_or (slice_get xs 0) (Some x)
first_more [] x = refl
first_more (y ∷ xs) x = refl

map_or : {X Y : Type 0} (f : X → Y) (o : Option X) (x : X) → option_map f (option_or o (Some x)) ≡ option_or (option_map f o) (Some (f x))
map_or f None x = refl
map_or f (Some y) x = refl

share_of_tets-push : (mesh : Mesh) (numbers : Numbers) (tets : List Tet) (tet : Tet) → share_of_tets mesh numbers (tets ++ tet ∷ []) ≡ share_sum (share_of_tets mesh numbers tets) (share_of (material_of numbers tet) (rest_of mesh tet))
share_of_tets-push mesh numbers tets tet = λ i. record { mass = mass i; fixed = fixed i; velocity = velocity i }
  where
    mass : total (map (weight_of mesh numbers) (tets ++ tet ∷ [])) ≡ total (map (weight_of mesh numbers) tets) +ℤ weight_of mesh numbers tet
    mass = ap total (map-append (weight_of mesh numbers) tets (tet ∷ [])) ∙ total-push (map (weight_of mesh numbers) tets) (weight_of mesh numbers tet)

    fixed : list_any (λ t. (material_of numbers t).fixed) (tets ++ tet ∷ []) ≡ (list_any (λ t. (material_of numbers t).fixed) tets || (material_of numbers tet).fixed)
    fixed = list_any-append (λ t. (material_of numbers t).fixed) tets (tet ∷ []) ∙ ap (λ (b : Bool). list_any (λ t. (material_of numbers t).fixed) tets || b) (or-false (material_of numbers tet).fixed)

    velocity : option_map (λ t. (material_of numbers t).velocity) (slice_get (tets ++ tet ∷ []) 0) ≡ option_or (option_map (λ t. (material_of numbers t).velocity) (slice_get tets 0)) (Some (material_of numbers tet).velocity)
    velocity = ap (option_map (λ t. (material_of numbers t).velocity)) (first_more tets tet) ∙ map_or (λ t. (material_of numbers t).velocity) (slice_get tets 0) tet

-- ---- the loop
-- before the first tetrahedron
pub AreSumsOf-none : (mesh : Mesh) (numbers : Numbers) (rest : List ℤ) (shares : List Share) → rest ≡ [] → shares ≡ replicate (length mesh.numbers) nothing → AreSumsOf mesh numbers 0 rest shares
AreSumsOf-none mesh numbers rest shares e h = record {
  rest_is = e;
  shares_are = h ∙ same nothing 0 (length mesh.numbers);
  light = All-same (λ (x : Share). AtMost (0 * 2 ^ 78) x.mass) shares (replicate (length mesh.numbers) nothing) h (All-replicate (λ (x : Share). AtMost (0 * 2 ^ 78) x.mass) (length mesh.numbers) nothing (record { bound = omega arith }));
}
  where
    same : (x : Share) (a n : ℕ) → replicate n x ≡ map (λ k. x) (range_with_len a n)
    same x a zero = refl
    same x a (suc n) = ap (λ (xs : List Share). x ∷ xs) (same x (a + 1) n)

-- each sum stays small
pub stays_small : (mesh : Mesh) (numbers : Numbers) (i : ℕ) (rest : List ℤ) (shares : List Share) → i ≤ 65536 → AreSumsOf mesh numbers i rest shares → AreLight (2 ^ 120) shares
stays_small mesh numbers i rest shares h s = All-weaker (λ (x : Share). AtMost (i * 2 ^ 78) x.mass) (λ x. AtMost (2 ^ 120) x.mass) (λ x l. record { bound = omega (arith, l.bound) }) shares s.light

pub as_many : (mesh : Mesh) (numbers : Numbers) (i : ℕ) (rest : List ℤ) (shares : List Share) → AreSumsOf mesh numbers i rest shares → length shares ≡ length mesh.numbers
as_many mesh numbers i rest shares s = ap length s.shares_are ∙ length-map-range_with_len (share_so_far mesh numbers i) 0 (length mesh.numbers)

-- one tetrahedron more
pub AreSumsOf-push : (mesh : Mesh) (numbers : Numbers) (i : ℕ) (rest now : List ℤ) (shares after_shares : List Share) (tet : Tet) (given : Share) → i < length mesh.tets → tet ≡ get_or mesh.tets i tet → IsSoundTet (length mesh.numbers) tet
    → given ≡ share_of (material_of numbers tet) (rest_of mesh tet) → AtMost (2 ^ 76) given.mass → now ≡ rest ++ rest_of mesh tet ∷ [] → after_shares ≡ with_share given shares tet.nodes → AreSumsOf mesh numbers i rest shares → AreSumsOf mesh numbers (i + 1) now after_shares
AreSumsOf-push mesh numbers i rest now shares after_shares tet given there at sound is small pushed deals s = record {
  rest_is = pushed ∙ ap (λ (xs : List ℤ). xs ++ rest_of mesh tet ∷ []) s.rest_is ∙ sym (ap (map (rest_of mesh)) taken ∙ map-append (rest_of mesh) (take i mesh.tets) (tet ∷ []));
  shares_are = deals ∙ ap (λ (xs : List Share). with_share given xs tet.nodes) s.shares_are ∙ with_share_at_different given (share_so_far mesh numbers i) (length mesh.numbers) tet.nodes sound.different sound.there ∙ (λ j. map (λ k. each k j) (node_positions mesh));
  light =
      All-same (λ (x : Share). AtMost ((i + 1) * 2 ^ 78) x.mass) after_shares (with_share given shares tet.nodes) deals
      (All-weaker (λ (x : Share). AtMost (i * 2 ^ 78 + length tet.nodes * 2 ^ 76) x.mass) (λ (x : Share). AtMost ((i + 1) * 2 ^ 78) x.mass) (λ x l. record { bound = omega (arith, l.bound, sound.four) }) (with_share given shares tet.nodes)
      (with_share_is_light (i * 2 ^ 78) given shares tet.nodes small s.light));
}
  where
    taken : take (i + 1) mesh.tets ≡ take i mesh.tets ++ tet ∷ []
    taken = take_more mesh.tets i tet there ∙ ap (λ (t : Tet). take i mesh.tets ++ t ∷ []) (sym at)

    each : (k : ℕ) → after given (share_so_far mesh numbers i) tet.nodes k ≡ share_so_far mesh numbers (i + 1) k
    each k =
        choice (has_node k tet) (filter (has_node k) (take i mesh.tets))
        ∙ sym (ap (share_of_tets mesh numbers) (filter_more (has_node k) mesh.tets i tet there ∙ ap (λ (t : Tet). filter (has_node k) (take i mesh.tets) ++ cond (has_node k t) (t ∷ []) []) (sym at)))
      where
        choice : (b : Bool) (tets : List Tet) → cond b (share_sum (share_of_tets mesh numbers tets) given) (share_of_tets mesh numbers tets) ≡ share_of_tets mesh numbers (tets ++ cond b (tet ∷ []) [])
        choice true tets = ap (share_sum (share_of_tets mesh numbers tets)) is ∙ sym (share_of_tets-push mesh numbers tets tet)
        choice false tets = sym (ap (share_of_tets mesh numbers) (append-nil tets))

-- after the last
pub all_shares : (mesh : Mesh) (numbers : Numbers) (i : ℕ) (rest : List ℤ) (shares : List Share) → length mesh.tets ≤ i → AreSumsOf mesh numbers i rest shares → shares ≡ map (share_at mesh numbers) (node_positions mesh)
all_shares mesh numbers i rest shares h s = s.shares_are ∙ ap (λ (tets : List Tet). map (λ node. share_of_tets mesh numbers (filter (has_node node) tets)) (node_positions mesh)) (take_all i mesh.tets h)
