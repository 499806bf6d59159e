-- The mesh is sound as far as it has been read.
use Rattle.std.proofs.Common.{◌≡◌, ◌==◌, ◌∙◌, ℕ, zero, suc, ◌+◌, ◌-◌, ◌<◌, ◌≤◌, Bool, true, false, cond, List, [], ◌∷◌, ◌++◌, length, take, drop, length-drop, Option, Some, None, refl, sym, ap, subst, arith}
use Rattle.std.specs.Prelude.{codes, not, nat_lt, unwrap_or, unsigned_abs}
use Rattle.std.specs.List.{IsDistinct, AllByRecursion}
use Rattle.std.proofs.lemmas.Bool.{leb-false}
use Rattle.std.proofs.lemmas.Bool.Decides.{nat_tests}
use Rattle.std.proofs.lemmas.Option.{same_Some}
use Rattle.std.proofs.lemmas.List.{append-nil, length-append}
use Rattle.std.proofs.lemmas.List.Elements.{All-from_recursion}
use Rattle.line_fields.specs.Lines.{tag_of}
use Rattle.dec_text.specs.declared.Snap.{Snap}
use Rattle.space3.specs.declared.vectors.V3.{V3}
use Rattle.space3.specs.declared.lists.Tet.{Tet}
use Rattle.space3.specs.declared.mesh.Mesh.{Mesh}
use Rattle.space3.specs.Mesh.{IsNumber, IsSoundTet, IsSound}
use Rattle.mesh_words.specs.declared.elements.ElementType.{ElementType}
use Rattle.mesh_words.specs.declared.elements.ElementType.TheVariants.{Point, Line, Triangle, Tetrahedron}
use Rattle.mesh_words.specs.Rows.{Row, is_end}
use Rattle.mesh_words.specs.Numbers.{node_at, position_of}
use Rattle.mesh_words.specs.Elements.{node_count}
use Rattle.mesh_words.proofs.FieldValues.{bind_some, number_found, tag_count_found, tag_found, node_found}
use Rattle.msh_rows.specs.declared.sections.Opening.{Opening}
use Rattle.msh_rows.specs.declared.sections.Opening.TheVariants as openings
use Rattle.msh_rows.specs.Rows.{every, opening_of, count_of, node_of, element_of, as_tet, tet, are_different}
use Rattle.msh_rows.specs.RowKinds.{tet_kind, node_row_kind, end_row_kind}
use Rattle.msh_rows.proofs.ElementRows.{both_none}
use Rattle.msh_rows.proofs.RowMeanings.{no_kind, node_count_free, node_free, node_number, NodeRow, element_free, ElementRow, parts_found, HasParts}
use Rattle.msh_text.specs.declared.stage.Opened.{Opened}
use Rattle.msh_text.specs.declared.stage.Opened.TheVariants as opened
use Rattle.msh_text.specs.FirstFault.{Stage, Outside, Skipping, AtFormat, AtFormatEnd, AtNodeCount, AtNodes, AtElementCount, AtElements, mesh_of, opening_kind, kind_at, opens, with_node, with_element, stage_after, mesh_after}
use Rattle.msh_text.proofs.Numbers.{IsDistinct-are_different, IsDistinct-more, not_there}

pub record SoundSoFar (mesh : Mesh) : Type 0 where
  pub placed : length mesh.numbers ≡ length mesh.places
  pub few_nodes : length mesh.numbers ≤ 16384
  pub numbered : AllByRecursion IsNumber mesh.numbers
  pub different : IsDistinct (λ i j. i == j) mesh.numbers
  pub few_tets : length mesh.tets ≤ 65536
  pub tets : AllByRecursion (IsSoundTet (length mesh.numbers)) mesh.tets

-- before the nodes there is nothing
pub record IsEmpty (mesh : Mesh) : Type 0 where
  pub no_nodes : length mesh.numbers ≡ 0
  pub no_tets : mesh.tets ≡ []

pub record HasRoom (count : ℕ) (mesh : Mesh) : Type 0 where
  pub within : length mesh.numbers ≤ count
  pub few : count ≤ 16384
  pub no_tets : mesh.tets ≡ []

abbrev pub OutsideFits : Opened → Mesh → Type 0
OutsideFits opened.Nothing mesh = IsEmpty mesh
OutsideFits opened.Format mesh = IsEmpty mesh
OutsideFits opened.Nodes mesh = mesh.tets ≡ []
OutsideFits opened.Elements mesh = Unit {0}

-- what a stage says of the mesh so far
abbrev pub StageFits : Stage → Mesh → Type 0
StageFits (Outside last) mesh = OutsideFits last mesh
StageFits (Skipping last name) mesh = OutsideFits last mesh
StageFits AtFormat mesh = IsEmpty mesh
StageFits AtFormatEnd mesh = IsEmpty mesh
StageFits AtNodeCount mesh = IsEmpty mesh
StageFits (AtNodes count) mesh = HasRoom count mesh
StageFits AtElementCount mesh = mesh.tets ≡ []
StageFits (AtElements left) mesh = Unit {0}

pub record Fits (stage : Stage) (mesh : Mesh) : Type 0 where
  pub sound : SoundSoFar mesh
  pub stage_fits : StageFits stage mesh

pub fits-start : Fits (Outside opened.Nothing) (mesh_of [] [] [])
unfolding IsDistinct
fits-start = record {
  sound = record { placed = refl; few_nodes = omega arith; numbered = tt; different = tt; few_tets = omega arith; tets = tt };
  stage_fits = record { no_nodes = refl; no_tets = refl };
}

-- ---- rows outside

outside_fits : (o : Opening) (last : Opened) (mesh : Mesh) (row : Row) → opening_kind o last ≡ None → OutsideFits last mesh → StageFits (opens o last row) mesh
outside_fits openings.Format opened.Nothing mesh row e h = h
outside_fits openings.Format opened.Format mesh row e h = absurd cc
outside_fits openings.Format opened.Nodes mesh row e h = absurd cc
outside_fits openings.Format opened.Elements mesh row e h = absurd cc
outside_fits openings.Nodes opened.Nothing mesh row e h = absurd cc
outside_fits openings.Nodes opened.Format mesh row e h = h
outside_fits openings.Nodes opened.Nodes mesh row e h = absurd cc
outside_fits openings.Nodes opened.Elements mesh row e h = absurd cc
outside_fits openings.Elements opened.Nothing mesh row e h = absurd cc
outside_fits openings.Elements opened.Format mesh row e h = absurd cc
outside_fits openings.Elements opened.Nodes mesh row e h = h
outside_fits openings.Elements opened.Elements mesh row e h = absurd cc
outside_fits openings.Other last mesh row e h = h
outside_fits openings.Nothing last mesh row e h = h

skipping_fits : (b : Bool) (last : Opened) (name : List ℕ) (mesh : Mesh) → OutsideFits last mesh → StageFits (cond b (Outside last) (Skipping last name)) mesh
skipping_fits true last name mesh h = h
skipping_fits false last name mesh h = h

-- ---- nodes

count_fits : (mesh : Mesh) (row : Row) (n : ℕ) → count_of row ≡ Some n → n ≤ 16384 → IsEmpty mesh → HasRoom (unwrap_or (count_of row) 0) mesh
count_fits mesh row n e few h = rw e (record { within = omega (arith, h.no_nodes); few = few; no_tets = h.no_tets })

all_more : {X : Type 0} (P : X → Type 0) (xs : List X) (x : X) → AllByRecursion P xs → P x → AllByRecursion P (xs ++ x ∷ [])
all_more P [] x h p = (p, tt)
all_more P (y ∷ ys) x h p = (h.0, all_more P ys x h.1 p)

node_sound : (count : ℕ) (mesh : Mesh) (node : ℕ × V3) → SoundSoFar mesh → HasRoom count mesh → length mesh.numbers < count → IsNumber node.0 → position_of mesh.numbers node.0 ≡ None → Fits (AtNodes count) (with_node (Some node) mesh)
node_sound count mesh node s room lt number fresh = record {
  sound = record {
    placed = omega (arith, length-append mesh.numbers (node.0 ∷ []), length-append mesh.places (node.1 ∷ []), s.placed);
    few_nodes = omega (arith, length-append mesh.numbers (node.0 ∷ []), room.few, lt);
    numbered = all_more IsNumber mesh.numbers node.0 s.numbered number;
    different = IsDistinct-more mesh.numbers node.0 s.different (not_there mesh.numbers node.0 fresh);
    few_tets = s.few_tets;
    tets = rw room.no_tets tt;
  };
  stage_fits = record { within = omega (arith, length-append mesh.numbers (node.0 ∷ []), lt); few = room.few; no_tets = room.no_tets };
}

node_fits : (digits : ℕ) (snap : Snap) (count : ℕ) (mesh : Mesh) (row : Row) → NodeRow digits snap mesh.numbers row → length mesh.numbers < count → SoundSoFar mesh → HasRoom count mesh → Fits (AtNodes count) (with_node (node_of digits snap row) mesh)
node_fits digits snap count mesh row n lt s room =
    rw n.is_node (node_sound count mesh n.node s room lt (node_number digits snap row n.node n.is_node) n.fresh)

nodes_fit : (digits : ℕ) (snap : Snap) (count : ℕ) (mesh : Mesh) (row : Row) (b : Bool) → nat_lt (length mesh.numbers) count ≡ b → cond b (node_row_kind digits snap mesh.numbers row) (end_row_kind (codes "$EndNodes") row) ≡ None → SoundSoFar mesh → HasRoom count mesh
    → Fits (cond b (AtNodes count) (Outside opened.Nodes)) (cond b (with_node (node_of digits snap row) mesh) mesh)
nodes_fit digits snap count mesh row true lt e s room = node_fits digits snap count mesh row (node_free digits snap mesh.numbers row e) (grind (arith, nat_tests)) s room
nodes_fit digits snap count mesh row false lt e s room = record { sound = s; stage_fits = room.no_tets }

-- ---- elements

every_all : {X : Type 0} (of : List ℕ → Option X) (P : X → Type 0) → ((field : List ℕ) (x : X) → of field ≡ Some x → P x) → (fields : List (List ℕ)) (xs : List X) → every of fields ≡ Some xs → AllByRecursion P xs
unfolding every
every_all of P h [] xs e = subst (AllByRecursion P) (same_Some _ _ e) tt
every_all of P h (field ∷ fields) xs e =
    bind_some (of field) _ xs e (λ x x-is e.
    bind_some (every of fields) _ xs e (λ others others-are e.
    subst (AllByRecursion P) (same_Some _ _ e) (h field x x-is, every_all of P h fields others others-are)))

every_length : {X : Type 0} (of : List ℕ → Option X) (fields : List (List ℕ)) (xs : List X) → every of fields ≡ Some xs → length xs ≡ length fields
unfolding every
every_length of [] xs e = ap length (sym (same_Some _ _ e))
every_length of (field ∷ fields) xs e =
    bind_some (of field) _ xs e (λ x x-is e.
    bind_some (every of fields) _ xs e (λ others others-are e.
    ap length (sym (same_Some _ _ e)) ∙ ap suc (every_length of fields others others-are)))

take_few : {X : Type 0} (n : ℕ) (xs : List X) → length (take n xs) ≤ n
take_few zero xs = omega arith
take_few (suc n) [] = omega arith
take_few (suc n) (x ∷ xs) = omega (arith, take_few n xs)

is_tetrahedron : (type : ElementType) (t u : Tet) → as_tet type t ≡ Some u → (type ≡ Tetrahedron) × (t ≡ u)
is_tetrahedron Point t u e = absurd cc
is_tetrahedron Line t u e = absurd cc
is_tetrahedron Triangle t u e = absurd cc
is_tetrahedron Tetrahedron t u e = (refl, same_Some _ _ e)

minus : (all tags : ℕ) → all ≡ tags + 4 → all - tags ≡ 4
minus all tags e = omega (arith, e)

not_false : (b : Bool) → not b ≡ false → b ≡ true
not_false true e = refl
not_false false e = absurd cc

parts_sound : (numbers : List ℕ) (tets : ℕ) (row : Row) (t : Tet) → HasParts numbers row (Some t) → tet_kind tets (Some (Some t)) ≡ None → IsSoundTet (length numbers) t × (tets < 65536)
parts_sound numbers tets row t h fine =
    let p = h.parts in
    let is_tet = is_tetrahedron p.ty (tet p.number p.nodes p.tags) t h.element_is in
    let one = both_none _ _ fine in
    let two = both_none _ _ one.1 in
    let different : are_different t.nodes ≡ true = not_false _ (no_kind _ _ one.0) in
    let few : tets < 65536 = leb-false 65536 tets (no_kind _ _ two.0) in
    let four : length p.nodes ≡ 4 = every_length (node_at numbers) (drop p.tag_count h.rest) p.nodes p.nodes_are ∙ length-drop p.tag_count h.rest ∙ minus (length h.rest) p.tag_count (p.counted ∙ ap (λ (ty : ElementType). p.tag_count + node_count ty) is_tet.0) in
    let tags : length p.tags ≤ 255 = omega (arith, every_length tag_of (take p.tag_count h.rest) p.tags p.tags_are, take_few p.tag_count h.rest, tag_count_found h.count p.tag_count p.count_is) in (
      record {
        number = subst (λ (u : Tet). IsNumber u.number) is_tet.1 (number_found h.name p.number p.number_is);
        four = ap (λ (u : Tet). length u.nodes) (sym is_tet.1) ∙ four;
        different = IsDistinct-are_different t.nodes different;
        there = All-from_recursion (λ node. node < length numbers) t.nodes (subst (λ (u : Tet). AllByRecursion (λ node. node < length numbers) u.nodes) is_tet.1 (every_all (node_at numbers) (λ node. node < length numbers) (node_found numbers) (drop p.tag_count h.rest) p.nodes p.nodes_are));
        few_tags = subst (λ (u : Tet). length u.tags ≤ 255) is_tet.1 tags;
        tags = All-from_recursion (λ z. unsigned_abs z ≤ 2147483647) t.tags (subst (λ (u : Tet). AllByRecursion (λ z. unsigned_abs z ≤ 2147483647) u.tags) is_tet.1 (every_all tag_of (λ z. unsigned_abs z ≤ 2147483647) tag_found (take p.tag_count h.rest) p.tags p.tags_are));
      },
      few,
    )

element_sound : (left : ℕ) (mesh : Mesh) (row : Row) (element : Option Tet) → element_of mesh.numbers row ≡ Some element → tet_kind (length mesh.tets) (Some element) ≡ None → SoundSoFar mesh → Fits (AtElements left) (with_element (Some element) mesh)
element_sound left mesh row (Some t) e fine s =
    let sound = parts_sound mesh.numbers (length mesh.tets) row t (parts_found mesh.numbers row (Some t) e) fine in
    record {
      sound = record {
        placed = s.placed;
        few_nodes = s.few_nodes;
        numbered = s.numbered;
        different = s.different;
        few_tets = omega (arith, length-append mesh.tets (t ∷ []), sound.1);
        tets = all_more (IsSoundTet (length mesh.numbers)) mesh.tets t s.tets sound.0;
      };
      stage_fits = tt;
    }
element_sound left mesh row None e fine s = record {
  sound = subst (λ (ts : List Tet). SoundSoFar (mesh_of mesh.numbers mesh.places ts)) (sym (append-nil mesh.tets)) s;
  stage_fits = tt;
}

element_fits : (left : ℕ) (mesh : Mesh) (row : Row) → ElementRow mesh.numbers (length mesh.tets) row → SoundSoFar mesh → Fits (AtElements left) (with_element (element_of mesh.numbers row) mesh)
element_fits left mesh row h s = rw h.is_element (element_sound left mesh row h.element h.is_element h.fine s)

-- ---- any row

pub fits-next : (digits : ℕ) (snap : Snap) (stage : Stage) (mesh : Mesh) (row : Row) → kind_at digits snap stage mesh row ≡ None → Fits stage mesh → Fits (stage_after stage mesh row) (mesh_after digits snap stage mesh row)
fits-next digits snap (Outside last) mesh row e h = record { sound = h.sound; stage_fits = outside_fits (opening_of row) last mesh row e h.stage_fits }
fits-next digits snap (Skipping last name) mesh row e h = record { sound = h.sound; stage_fits = skipping_fits (is_end name row) last name mesh h.stage_fits }
fits-next digits snap AtFormat mesh row e h = record { sound = h.sound; stage_fits = h.stage_fits }
fits-next digits snap AtFormatEnd mesh row e h = record { sound = h.sound; stage_fits = h.stage_fits }
fits-next digits snap AtNodeCount mesh row e h = let n = node_count_free row e in record { sound = h.sound; stage_fits = count_fits mesh row n.0 n.1 n.2 h.stage_fits }
fits-next digits snap (AtNodes count) mesh row e h = nodes_fit digits snap count mesh row (nat_lt (length mesh.numbers) count) refl e h.sound h.stage_fits
fits-next digits snap AtElementCount mesh row e h = record { sound = h.sound; stage_fits = tt }
fits-next digits snap (AtElements zero) mesh row e h = record { sound = h.sound; stage_fits = tt }
fits-next digits snap (AtElements (suc left)) mesh row e h = element_fits left mesh row (element_free mesh.numbers (length mesh.tets) row e) h.sound

-- a mesh that is sound so far and has a tetrahedron is sound
some_nodes : (nodes : ℕ) (tets : List Tet) → 1 ≤ length tets → AllByRecursion (IsSoundTet nodes) tets → 1 ≤ nodes
some_nodes nodes [] some sound = absurd (omega arith)
some_nodes nodes (t ∷ tets) some sound = omega (arith, sound.0.there 0 0 (omega (arith, sound.0.four)))

pub sound_whole : (mesh : Mesh) → SoundSoFar mesh → 1 ≤ length mesh.tets → IsSound mesh
sound_whole mesh s some = record {
  placed = s.placed;
  some_nodes = some_nodes (length mesh.numbers) mesh.tets some s.tets;
  few_nodes = s.few_nodes;
  numbered = All-from_recursion IsNumber mesh.numbers s.numbered;
  different = s.different;
  some_tets = some;
  few_tets = s.few_tets;
  tets = All-from_recursion (IsSoundTet (length mesh.numbers)) mesh.tets s.tets;
}
