-- The mesh that is read is the one that the rows mean.
use Rattle.std.proofs.Common.{◌≡◌, ◌∙◌, ℕ, zero, suc, ◌+◌, ◌≤◌, Bool, true, false, cond, List, [], ◌∷◌, ◌++◌, length, map, Option, Some, None, refl, sym, ap, subst, append_assoc, arith, All}
use Rattle.std.specs.Prelude.{codes, nat_lt, unwrap_or}
use Rattle.std.specs.List.{zip, flat_map}
use Rattle.std.proofs.lemmas.Bool.Decides.{nat_tests}
use Rattle.std.proofs.lemmas.List.{append-nil, length-append}
use Rattle.std.proofs.lemmas.List.Elements.{All-cons, All-nil}
use Rattle.dec_text.specs.declared.Snap.{Snap}
use Rattle.space3.specs.declared.vectors.V3.{V3}
use Rattle.space3.specs.declared.lists.Tet.{Tet}
use Rattle.space3.specs.declared.mesh.Mesh.{Mesh}
use Rattle.space3.specs.Mesh.{IsSound}
use Rattle.mesh_words.specs.Rows.{Row, is_word, is_end, name_of}
use Rattle.msh_rows.specs.declared.sections.Opening.{Opening}
use Rattle.msh_rows.specs.declared.sections.Opening.TheVariants as openings
use Rattle.msh_rows.specs.Rows.{opening_of, count_of, node_of, element_of}
use Rattle.msh_rows.specs.RowKinds.{node_row_kind, end_row_kind, count_row_kind, node_count_row_kind}
use Rattle.msh_rows.proofs.RowMeanings.{end_free, count_free, node_count_free, format_free, node_free, element_free}
use Rattle.msh_text.specs.declared.stage.Opened.{Opened}
use Rattle.msh_text.specs.declared.stage.Opened.TheVariants as opened
use Rattle.msh_text.specs.MeshText.{AreSkipped, nothing_skipped, row_skipped, section_skipped, IsFormat, kept, Means}
use Rattle.msh_text.specs.FirstFault.{Stage, Outside, Skipping, AtFormat, AtFormatEnd, AtNodeCount, AtNodes, AtElementCount, AtElements, Progress, start, mesh_of, opening_kind, kind_at, kind_on, opens, with_node, with_element, stage_after, mesh_after, next, end_at, end_kind}
use Rattle.msh_text.proofs.Gets.{gets, gets-through, gets-at_end}
use Rattle.msh_text.proofs.SoundSoFar.{StageFits, Fits, fits-start, fits-next, sound_whole}

-- ---- what the rows mean from a stage on, down to the mesh at the end

-- skipped rows, a row that opens this, and what is so onward
pub record FromOpening (o : Opening) (rows : List Row) (Onward : List Row → Type 0) : Type 0 where
  pub before : List Row
  pub opening : Row
  pub more : List Row
  pub whole : rows ≡ before ++ opening ∷ more
  pub skipped : AreSkipped before
  pub opens_it : opening_of opening ≡ o
  pub onward : Onward more

pub record FromAfter (mesh : Mesh) (rows : List Row) (end : Mesh) : Type 0 where
  pub skipped : AreSkipped rows
  pub all : end ≡ mesh

abbrev pub with_tets : Mesh → List (Option Tet) → Mesh
with_tets mesh elements = mesh_of mesh.numbers mesh.places (mesh.tets ++ flat_map kept elements)

pub record FromElements (left : ℕ) (mesh : Mesh) (rows : List Row) (end : Mesh) : Type 0 where
  pub elements : List Row
  pub each_is : List (Option Tet)
  pub ending : Row
  pub after : List Row
  pub whole : rows ≡ elements ++ ending ∷ after
  pub counted : length elements ≡ left
  pub each : map (element_of mesh.numbers) elements ≡ map Some each_is
  pub ends : is_word (codes "$EndElements") ending ≡ true
  pub onward : FromAfter (with_tets mesh each_is) after end

pub record FromElementCount (mesh : Mesh) (rows : List Row) (end : Mesh) : Type 0 where
  pub count : Row
  pub left : ℕ
  pub more : List Row
  pub whole : rows ≡ count ∷ more
  pub counted : count_of count ≡ Some left
  pub onward : FromElements left mesh more end

abbrev pub with_nodes : Mesh → List (ℕ × V3) → Mesh
with_nodes mesh nodes =
    mesh_of (mesh.numbers ++ map (λ (n : ℕ × V3). n.0) nodes) (mesh.places ++ map (λ (n : ℕ × V3). n.1) nodes) mesh.tets

pub record FromNodes (digits : ℕ) (snap : Snap) (count : ℕ) (mesh : Mesh) (rows : List Row) (end : Mesh) : Type 0 where
  pub nodes : List Row
  pub new : List (ℕ × V3)
  pub ending : Row
  pub after : List Row
  pub whole : rows ≡ nodes ++ ending ∷ after
  pub counted : length mesh.numbers + length nodes ≡ count
  pub each : map (node_of digits snap) nodes ≡ map Some new
  pub ends : is_word (codes "$EndNodes") ending ≡ true
  pub onward : FromOpening openings.Elements after (λ more. FromElementCount (with_nodes mesh new) more end)

pub record FromNodeCount (digits : ℕ) (snap : Snap) (mesh : Mesh) (rows : List Row) (end : Mesh) : Type 0 where
  pub count : Row
  pub nodes : ℕ
  pub more : List Row
  pub whole : rows ≡ count ∷ more
  pub counted : count_of count ≡ Some nodes
  pub onward : FromNodes digits snap nodes mesh more end

pub record FromFormatEnd (digits : ℕ) (snap : Snap) (mesh : Mesh) (rows : List Row) (end : Mesh) : Type 0 where
  pub ending : Row
  pub after : List Row
  pub whole : rows ≡ ending ∷ after
  pub ends : is_word (codes "$EndMeshFormat") ending ≡ true
  pub onward : FromOpening openings.Nodes after (λ more. FromNodeCount digits snap mesh more end)

pub record FromFormat (digits : ℕ) (snap : Snap) (mesh : Mesh) (rows : List Row) (end : Mesh) : Type 0 where
  pub format : Row
  pub more : List Row
  pub whole : rows ≡ format ∷ more
  pub is_format : IsFormat format
  pub onward : FromFormatEnd digits snap mesh more end

abbrev pub FromOutside : ℕ → Snap → Opened → Mesh → List Row → Mesh → Type 0
FromOutside digits snap opened.Nothing mesh rows end = FromOpening openings.Format rows (λ more. FromFormat digits snap mesh more end)
FromOutside digits snap opened.Format mesh rows end = FromOpening openings.Nodes rows (λ more. FromNodeCount digits snap mesh more end)
FromOutside digits snap opened.Nodes mesh rows end = FromOpening openings.Elements rows (λ more. FromElementCount mesh more end)
FromOutside digits snap opened.Elements mesh rows end = FromAfter mesh rows end

pub record FromSkipping (digits : ℕ) (snap : Snap) (last : Opened) (name : List ℕ) (mesh : Mesh) (rows : List Row) (end : Mesh) : Type 0 where
  pub inside : List Row
  pub ending : Row
  pub more : List Row
  pub whole : rows ≡ inside ++ ending ∷ more
  pub none : All (λ row. is_end name row ≡ false) inside
  pub ends : is_end name ending ≡ true
  pub onward : FromOutside digits snap last mesh more end

abbrev pub From : ℕ → Snap → Stage → Mesh → List Row → Mesh → Type 0
From digits snap (Outside last) mesh rows end = FromOutside digits snap last mesh rows end
From digits snap (Skipping last name) mesh rows end = FromSkipping digits snap last name mesh rows end
From digits snap AtFormat mesh rows end = FromFormat digits snap mesh rows end
From digits snap AtFormatEnd mesh rows end = FromFormatEnd digits snap mesh rows end
From digits snap AtNodeCount mesh rows end = FromNodeCount digits snap mesh rows end
From digits snap (AtNodes count) mesh rows end = FromNodes digits snap count mesh rows end
From digits snap AtElementCount mesh rows end = FromElementCount mesh rows end
From digits snap (AtElements left) mesh rows end = FromElements left mesh rows end

-- ---- one row before a stage that means something

skip_row : (o : Opening) (rows : List Row) (Onward : List Row → Type 0) (row : Row) → opening_of row ≡ openings.Nothing → FromOpening o rows Onward → FromOpening o (row ∷ rows) Onward
skip_row o rows Onward row e h = record {
  before = row ∷ h.before;
  opening = h.opening;
  more = h.more;
  whole = ap (λ (rs : List Row). row ∷ rs) h.whole;
  skipped = row_skipped e h.skipped;
  opens_it = h.opens_it;
  onward = h.onward;
}

nothing_row : (digits : ℕ) (snap : Snap) (last : Opened) (mesh : Mesh) (row : Row) (rows : List Row) (end : Mesh) → opening_of row ≡ openings.Nothing → FromOutside digits snap last mesh rows end → FromOutside digits snap last mesh (row ∷ rows) end
nothing_row digits snap opened.Nothing mesh row rows end e h = skip_row openings.Format rows (λ more. FromFormat digits snap mesh more end) row e h
nothing_row digits snap opened.Format mesh row rows end e h = skip_row openings.Nodes rows (λ more. FromNodeCount digits snap mesh more end) row e h
nothing_row digits snap opened.Nodes mesh row rows end e h = skip_row openings.Elements rows (λ more. FromElementCount mesh more end) row e h
nothing_row digits snap opened.Elements mesh row rows end e h = record { skipped = row_skipped e h.skipped; all = h.all }

skip_section : (o : Opening) (rows inside : List Row) (ending : Row) (more : List Row) (Onward : List Row → Type 0) (row : Row) → opening_of row ≡ openings.Other → rows ≡ inside ++ ending ∷ more → All (λ r. is_end (name_of row) r ≡ false) inside
    → is_end (name_of row) ending ≡ true → FromOpening o more Onward → FromOpening o (row ∷ rows) Onward
skip_section o rows inside ending more Onward row e whole none ends h = record {
  before = row ∷ inside ++ ending ∷ h.before;
  opening = h.opening;
  more = h.more;
  whole = ap (λ (rs : List Row). row ∷ rs) (whole ∙ ap (λ (rs : List Row). inside ++ ending ∷ rs) h.whole ∙ sym (append_assoc inside (ending ∷ h.before) (h.opening ∷ h.more)));
  skipped = section_skipped inside ending h.before e none ends refl h.skipped;
  opens_it = h.opens_it;
  onward = h.onward;
}

section_row : (digits : ℕ) (snap : Snap) (last : Opened) (mesh : Mesh) (row : Row) (rows : List Row) (end : Mesh) → opening_of row ≡ openings.Other → FromSkipping digits snap last (name_of row) mesh rows end → FromOutside digits snap last mesh (row ∷ rows) end
section_row digits snap opened.Nothing mesh row rows end e h = skip_section openings.Format rows h.inside h.ending h.more (λ more. FromFormat digits snap mesh more end) row e h.whole h.none h.ends h.onward
section_row digits snap opened.Format mesh row rows end e h = skip_section openings.Nodes rows h.inside h.ending h.more (λ more. FromNodeCount digits snap mesh more end) row e h.whole h.none h.ends h.onward
section_row digits snap opened.Nodes mesh row rows end e h = skip_section openings.Elements rows h.inside h.ending h.more (λ more. FromElementCount mesh more end) row e h.whole h.none h.ends h.onward
section_row digits snap opened.Elements mesh row rows end e h = record { skipped = section_skipped h.inside h.ending h.more e h.none h.ends h.whole h.onward.skipped; all = h.onward.all }

opens_row : (o : Opening) (row : Row) (rows : List Row) (Onward : List Row → Type 0) → opening_of row ≡ o → Onward rows → FromOpening o (row ∷ rows) Onward
opens_row o row rows Onward e h = record { before = []; opening = row; more = rows; whole = refl; skipped = nothing_skipped; opens_it = e; onward = h }

outside_row : (digits : ℕ) (snap : Snap) (o : Opening) (last : Opened) (mesh : Mesh) (row : Row) (rows : List Row) (end : Mesh) → opening_of row ≡ o → opening_kind o last ≡ None → From digits snap (opens o last row) mesh rows end → FromOutside digits snap last mesh (row ∷ rows) end
outside_row digits snap openings.Format opened.Nothing mesh row rows end e k h = opens_row openings.Format row rows (λ more. FromFormat digits snap mesh more end) e h
outside_row digits snap openings.Format opened.Format mesh row rows end e k h = absurd cc
outside_row digits snap openings.Format opened.Nodes mesh row rows end e k h = absurd cc
outside_row digits snap openings.Format opened.Elements mesh row rows end e k h = absurd cc
outside_row digits snap openings.Nodes opened.Nothing mesh row rows end e k h = absurd cc
outside_row digits snap openings.Nodes opened.Format mesh row rows end e k h = opens_row openings.Nodes row rows (λ more. FromNodeCount digits snap mesh more end) e h
outside_row digits snap openings.Nodes opened.Nodes mesh row rows end e k h = absurd cc
outside_row digits snap openings.Nodes opened.Elements mesh row rows end e k h = absurd cc
outside_row digits snap openings.Elements opened.Nothing mesh row rows end e k h = absurd cc
outside_row digits snap openings.Elements opened.Format mesh row rows end e k h = absurd cc
outside_row digits snap openings.Elements opened.Nodes mesh row rows end e k h = opens_row openings.Elements row rows (λ more. FromElementCount mesh more end) e h
outside_row digits snap openings.Elements opened.Elements mesh row rows end e k h = absurd cc
outside_row digits snap openings.Other last mesh row rows end e k h = section_row digits snap last mesh row rows end e h
outside_row digits snap openings.Nothing last mesh row rows end e k h = nothing_row digits snap last mesh row rows end e h

skipping_row : (digits : ℕ) (snap : Snap) (last : Opened) (name : List ℕ) (mesh : Mesh) (row : Row) (rows : List Row) (end : Mesh) (b : Bool) → is_end name row ≡ b → From digits snap (cond b (Outside last) (Skipping last name)) mesh rows end
    → FromSkipping digits snap last name mesh (row ∷ rows) end
skipping_row digits snap last name mesh row rows end true e h = record { inside = []; ending = row; more = rows; whole = refl; none = All-nil (λ (r : Row). is_end name r ≡ false); ends = e; onward = h }
skipping_row digits snap last name mesh row rows end false e h = record {
  inside = row ∷ h.inside;
  ending = h.ending;
  more = h.more;
  whole = ap (λ (rs : List Row). row ∷ rs) h.whole;
  none = All-cons (λ (r : Row). is_end name r ≡ false) row h.inside e h.none;
  ends = h.ends;
  onward = h.onward;
}

format_row : (digits : ℕ) (snap : Snap) (mesh : Mesh) (row : Row) (rows : List Row) (end : Mesh) → kind_at digits snap AtFormat mesh row ≡ None → FromFormatEnd digits snap mesh rows end → FromFormat digits snap mesh (row ∷ rows) end
format_row digits snap mesh row rows end e h =
    let f = format_free row e in
    record { format = row; more = rows; whole = refl; is_format = record { size = f.size; fields = f.fields; whole = f.whole }; onward = h }

node_count_row : (digits : ℕ) (snap : Snap) (mesh : Mesh) (row : Row) (rows : List Row) (end : Mesh) → node_count_row_kind row ≡ None → FromNodes digits snap (unwrap_or (count_of row) 0) mesh rows end → FromNodeCount digits snap mesh (row ∷ rows) end
node_count_row digits snap mesh row rows end e h =
    let n = node_count_free row e in
    record { count = row; nodes = n.0; more = rows; whole = refl; counted = n.1; onward = subst (λ (o : Option ℕ). FromNodes digits snap (unwrap_or o 0) mesh rows end) n.1 h }

element_count_row : (mesh : Mesh) (row : Row) (rows : List Row) (end : Mesh) → count_row_kind row ≡ None → FromElements (unwrap_or (count_of row) 0) mesh rows end → FromElementCount mesh (row ∷ rows) end
element_count_row mesh row rows end e h =
    let n = count_free row e in
    record { count = row; left = n.0; more = rows; whole = refl; counted = n.1; onward = subst (λ (o : Option ℕ). FromElements (unwrap_or o 0) mesh rows end) n.1 h }

one_node_more : (mesh : Mesh) (node : ℕ × V3) (new : List (ℕ × V3)) → with_nodes (with_node (Some node) mesh) new ≡ with_nodes mesh (node ∷ new)
one_node_more mesh node new = λ i. mesh_of
    (append_assoc mesh.numbers (node.0 ∷ []) (map (λ (n : ℕ × V3). n.0) new) i)
    (append_assoc mesh.places (node.1 ∷ []) (map (λ (n : ℕ × V3). n.1) new) i) mesh.tets

node_row : (digits : ℕ) (snap : Snap) (count : ℕ) (mesh : Mesh) (row : Row) (rows : List Row) (end : Mesh) (node : ℕ × V3) → node_of digits snap row ≡ Some node → FromNodes digits snap count (with_node (Some node) mesh) rows end → FromNodes digits snap count mesh (row ∷ rows) end
node_row digits snap count mesh row rows end node e h = record {
  nodes = row ∷ h.nodes;
  new = node ∷ h.new;
  ending = h.ending;
  after = h.after;
  whole = ap (λ (rs : List Row). row ∷ rs) h.whole;
  counted = omega (arith, h.counted, length-append mesh.numbers (node.0 ∷ []));
  each = λ i. e i ∷ h.each i;
  ends = h.ends;
  onward = subst (λ (m : Mesh). FromOpening openings.Elements h.after (λ more. FromElementCount m more end)) (one_node_more mesh node h.new) h.onward;
}

no_node_more : (mesh : Mesh) → with_nodes mesh [] ≡ mesh
no_node_more mesh = λ i. mesh_of (append-nil mesh.numbers i) (append-nil mesh.places i) mesh.tets

nodes_end_row : (digits : ℕ) (snap : Snap) (count : ℕ) (mesh : Mesh) (row : Row) (rows : List Row) (end : Mesh) → length mesh.numbers ≡ count → is_word (codes "$EndNodes") row ≡ true → FromOutside digits snap opened.Nodes mesh rows end → FromNodes digits snap count mesh (row ∷ rows) end
nodes_end_row digits snap count mesh row rows end len w h = record {
  nodes = [];
  new = [];
  ending = row;
  after = rows;
  whole = refl;
  counted = omega (arith, len);
  each = refl;
  ends = w;
  onward = subst (λ (m : Mesh). FromOpening openings.Elements rows (λ more. FromElementCount m more end)) (sym (no_node_more mesh)) h;
}

same_length : (a b : ℕ) → nat_lt a b ≡ false → a ≤ b → a ≡ b
same_length a b lt le = grind (arith, nat_tests)

nodes_row : (digits : ℕ) (snap : Snap) (count : ℕ) (mesh : Mesh) (row : Row) (rows : List Row) (end : Mesh) (b : Bool) → nat_lt (length mesh.numbers) count ≡ b → length mesh.numbers ≤ count
    → cond b (node_row_kind digits snap mesh.numbers row) (end_row_kind (codes "$EndNodes") row) ≡ None
    → From digits snap (cond b (AtNodes count) (Outside opened.Nodes)) (cond b (with_node (node_of digits snap row) mesh) mesh) rows end → FromNodes digits snap count mesh (row ∷ rows) end
nodes_row digits snap count mesh row rows end true lt le e h =
    let n = node_free digits snap mesh.numbers row e in
    node_row digits snap count mesh row rows end n.node n.is_node (subst (λ (o : Option (ℕ × V3)). FromNodes digits snap count (with_node o mesh) rows end) n.is_node h)
nodes_row digits snap count mesh row rows end false lt le e h =
    let len : length mesh.numbers ≡ count = same_length (length mesh.numbers) count lt le in
    nodes_end_row digits snap count mesh row rows end len (end_free (codes "$EndNodes") row e) h

one_element_more : (mesh : Mesh) (element : Option Tet) (more : List (Option Tet)) → with_tets (with_element (Some element) mesh) more ≡ with_tets mesh (element ∷ more)
one_element_more mesh element more = ap (mesh_of mesh.numbers mesh.places) (append_assoc mesh.tets (kept element) (flat_map kept more))

element_row : (left : ℕ) (mesh : Mesh) (row : Row) (rows : List Row) (end : Mesh) (element : Option Tet) → element_of mesh.numbers row ≡ Some element → FromElements left (with_element (Some element) mesh) rows end → FromElements (suc left) mesh (row ∷ rows) end
element_row left mesh row rows end element e h = record {
  elements = row ∷ h.elements;
  each_is = element ∷ h.each_is;
  ending = h.ending;
  after = h.after;
  whole = ap (λ (rs : List Row). row ∷ rs) h.whole;
  counted = ap suc h.counted;
  each = λ i. e i ∷ h.each i;
  ends = h.ends;
  onward = subst (λ (m : Mesh). FromAfter m h.after end) (one_element_more mesh element h.each_is) h.onward;
}

elements_end_row : (mesh : Mesh) (row : Row) (rows : List Row) (end : Mesh) → is_word (codes "$EndElements") row ≡ true → FromAfter mesh rows end → FromElements 0 mesh (row ∷ rows) end
elements_end_row mesh row rows end w h = record {
  elements = [];
  each_is = [];
  ending = row;
  after = rows;
  whole = refl;
  counted = refl;
  each = refl;
  ends = w;
  onward = subst (λ (m : Mesh). FromAfter m rows end) (sym (ap (mesh_of mesh.numbers mesh.places) (append-nil mesh.tets))) h;
}

one_row : (digits : ℕ) (snap : Snap) (stage : Stage) (mesh : Mesh) (row : Row) (rows : List Row) (end : Mesh) → StageFits stage mesh → kind_at digits snap stage mesh row ≡ None
    → From digits snap (stage_after stage mesh row) (mesh_after digits snap stage mesh row) rows end → From digits snap stage mesh (row ∷ rows) end
one_row digits snap (Outside last) mesh row rows end f e h = outside_row digits snap (opening_of row) last mesh row rows end refl e h
one_row digits snap (Skipping last name) mesh row rows end f e h = skipping_row digits snap last name mesh row rows end (is_end name row) refl h
one_row digits snap AtFormat mesh row rows end f e h = format_row digits snap mesh row rows end e h
one_row digits snap AtFormatEnd mesh row rows end f e h = record { ending = row; after = rows; whole = refl; ends = end_free (codes "$EndMeshFormat") row e; onward = h }
one_row digits snap AtNodeCount mesh row rows end f e h = node_count_row digits snap mesh row rows end e h
one_row digits snap (AtNodes count) mesh row rows end f e h = nodes_row digits snap count mesh row rows end (nat_lt (length mesh.numbers) count) refl f.within e h
one_row digits snap AtElementCount mesh row rows end f e h = element_count_row mesh row rows end e h
one_row digits snap (AtElements zero) mesh row rows end f e h = elements_end_row mesh row rows end (end_free (codes "$EndElements") row e) h
one_row digits snap (AtElements (suc left)) mesh row rows end f e h =
    let n = element_free mesh.numbers (length mesh.tets) row e in
    element_row left mesh row rows end n.element n.is_element (subst (λ (o : Option (Option Tet)). FromElements left (with_element o mesh) rows end) n.is_element h)

-- ---- the end

no_row_outside : (digits : ℕ) (snap : Snap) (last : Opened) (mesh end : Mesh) → StageFits (Outside last) mesh → end_at (Outside last) mesh.tets ≡ None → mesh ≡ end → FromOutside digits snap last mesh [] end
no_row_outside digits snap opened.Nothing mesh end f e all = absurd cc
no_row_outside digits snap opened.Format mesh end f e all = let none = ap (end_at (Outside opened.Format)) (sym f.no_tets) ∙ e in absurd cc
no_row_outside digits snap opened.Nodes mesh end f e all = let none = ap (end_at (Outside opened.Nodes)) (sym f) ∙ e in absurd cc
no_row_outside digits snap opened.Elements mesh end f e all = record { skipped = nothing_skipped; all = sym all }

no_row : (digits : ℕ) (snap : Snap) (stage : Stage) (mesh end : Mesh) → StageFits stage mesh → end_at stage mesh.tets ≡ None → mesh ≡ end → From digits snap stage mesh [] end
no_row digits snap (Outside last) mesh end f e all = no_row_outside digits snap last mesh end f e all
no_row digits snap (Skipping last name) mesh end f e all = absurd cc
no_row digits snap AtFormat mesh end f e all = absurd cc
no_row digits snap AtFormatEnd mesh end f e all = absurd cc
no_row digits snap AtNodeCount mesh end f e all = absurd cc
no_row digits snap (AtNodes count) mesh end f e all = absurd cc
no_row digits snap AtElementCount mesh end f e all = absurd cc
no_row digits snap (AtElements left) mesh end f e all = absurd cc

-- ---- all rows

abbrev FitsProgress : Progress → Type 0
FitsProgress p = Fits p.stage p.mesh

pub from_gets : (p : Progress) (rows : List Row) (end : Mesh) → FitsProgress p → gets p rows ≡ Some end → From p.digits p.snap p.stage p.mesh rows end
unfolding kind_on next end_kind
from_gets p [] end f e = gets-at_end p end e (λ k all. no_row p.digits p.snap p.stage p.mesh end f.stage_fits k all)
from_gets p (row ∷ rows) end f e = gets-through p row rows end e (λ k more.
    one_row p.digits p.snap p.stage p.mesh row rows end f.stage_fits k (from_gets (next p row) rows end (fits-next p.digits p.snap p.stage p.mesh row k f) more))

-- the mesh at the end is sound
some_tets : (stage : Stage) (tets : List Tet) → end_at stage tets ≡ None → 1 ≤ length tets
some_tets (Outside opened.Nothing) tets e = absurd cc
some_tets (Outside opened.Format) [] e = absurd cc
some_tets (Outside opened.Format) (t ∷ tets) e = omega arith
some_tets (Outside opened.Nodes) [] e = absurd cc
some_tets (Outside opened.Nodes) (t ∷ tets) e = omega arith
some_tets (Outside opened.Elements) [] e = absurd cc
some_tets (Outside opened.Elements) (t ∷ tets) e = omega arith
some_tets (Skipping last name) tets e = absurd cc
some_tets AtFormat tets e = absurd cc
some_tets AtFormatEnd tets e = absurd cc
some_tets AtNodeCount tets e = absurd cc
some_tets (AtNodes count) tets e = absurd cc
some_tets AtElementCount tets e = absurd cc
some_tets (AtElements left) tets e = absurd cc

pub sound_end : (p : Progress) (rows : List Row) (end : Mesh) → FitsProgress p → gets p rows ≡ Some end → IsSound end
unfolding kind_on next end_kind
sound_end p [] end f e = gets-at_end p end e (λ k all. subst IsSound all (sound_whole p.mesh f.sound (some_tets p.stage p.mesh.tets k)))
sound_end p (row ∷ rows) end f e = gets-through p row rows end e (λ k more.
    sound_end (next p row) rows end (fits-next p.digits p.snap p.stage p.mesh row k f) more)

-- ---- the whole text

zip-parts : {A B : Type 0} (ps : List (A × B)) → zip (map (λ (p : A × B). p.0) ps) (map (λ (p : A × B). p.1) ps) ≡ ps
zip-parts [] = refl
zip-parts (p ∷ ps) = ap (λ (qs : List _). p ∷ qs) (zip-parts ps)

-- a section's rows before those that follow
in_section : (opening : Row) (content : List Row) (ending : Row) (after : List Row) → opening ∷ content ++ ending ∷ after ≡ (opening ∷ content ++ ending ∷ []) ++ after
in_section opening content ending after = ap (λ (rs : List Row). opening ∷ rs) (sym (append_assoc content (ending ∷ []) after))

meant : (digits : ℕ) (snap : Snap) (rows : List Row) (end : Mesh) → IsSound end → FromOutside digits snap opened.Nothing (mesh_of [] [] []) rows end → Means digits snap rows end
meant digits snap rows end sound o =
    let f = o.onward in
    let fe = f.onward in
    let no = fe.onward in
    let nc = no.onward in
    let n = nc.onward in
    let eo = n.onward in
    let ec = eo.onward in
    let e = ec.onward in
    let a = e.onward in
    let last = e.whole in
    let format_section = o.opening ∷ (f.format ∷ []) ++ fe.ending ∷ [] in
    let node_section = no.opening ∷ (nc.count ∷ n.nodes) ++ n.ending ∷ [] in
    let element_section = eo.opening ∷ (ec.count ∷ e.elements) ++ e.ending ∷ [] in
    let elements_are : ec.more ≡ e.elements ++ e.ending ∷ e.after = e.whole in
    let from_elements : eo.opening ∷ eo.more ≡ element_section ++ e.after = ap (λ (rs : List Row). eo.opening ∷ rs) (ec.whole ∙ ap (λ (rs : List Row). ec.count ∷ rs) e.whole) ∙ in_section eo.opening (ec.count ∷ e.elements) e.ending e.after in
    let after_nodes : n.after ≡ eo.before ++ (element_section ++ e.after) = eo.whole ∙ ap (λ (rs : List Row). eo.before ++ rs) from_elements in
    let from_nodes : no.opening ∷ no.more ≡ node_section ++ n.after = ap (λ (rs : List Row). no.opening ∷ rs) (nc.whole ∙ ap (λ (rs : List Row). nc.count ∷ rs) n.whole) ∙ in_section no.opening (nc.count ∷ n.nodes) n.ending n.after in
    let after_format : fe.after ≡ no.before ++ (node_section ++ n.after) = no.whole ∙ ap (λ (rs : List Row). no.before ++ rs) from_nodes in
    let from_format : o.opening ∷ o.more ≡ format_section ++ fe.after = ap (λ (rs : List Row). o.opening ∷ rs) (f.whole ∙ ap (λ (rs : List Row). f.format ∷ rs) fe.whole) ∙ in_section o.opening (f.format ∷ []) fe.ending fe.after in
    let numbers = map (λ (m : ℕ × V3). m.0) n.new in
    let places = map (λ (m : ℕ × V3). m.1) n.new in
    let same : end ≡ mesh_of numbers places (flat_map kept e.each_is) = a.all in
    record {
      before = o.before;
      format_section = format_section;
      between = no.before;
      node_section = node_section;
      then = eo.before;
      element_section = element_section;
      after = e.after;
      whole = o.whole ∙ ap (λ (rs : List Row). o.before ++ rs) (from_format ∙ ap (λ (rs : List Row). format_section ++ rs) (after_format ∙ ap (λ (rs : List Row). no.before ++ (node_section ++ rs)) after_nodes));
      skipped_before = o.skipped;
      skipped_between = no.skipped;
      skipped_then = eo.skipped;
      skipped_after = a.skipped;
      format = record {
        format = f.format;
        section = record { opening = o.opening; ending = fe.ending; opens_it = o.opens_it; ends_it = fe.ends; whole = refl };
        is_format = f.is_format;
      };
      nodes = record {
        content = nc.count ∷ n.nodes;
        nodes = n.nodes;
        section = record { opening = no.opening; ending = n.ending; opens_it = no.opens_it; ends_it = n.ends; whole = refl };
        counted = record { count = nc.count; rows = refl; counted = nc.counted ∙ ap Some (sym n.counted ∙ omega arith) };
        each = n.each ∙ ap (map Some) (sym (zip-parts n.new) ∙ ap (λ (m : Mesh). zip m.numbers m.places) (sym same));
      };
      elements = record {
        content = ec.count ∷ e.elements;
        elements = e.elements;
        section = record { opening = eo.opening; ending = e.ending; opens_it = eo.opens_it; ends_it = e.ends; whole = refl };
        counted = record { count = ec.count; rows = refl; counted = ec.counted ∙ ap Some (sym e.counted) };
        each_is = e.each_is;
        each = ap (λ (m : Mesh). map (element_of m.numbers) e.elements) same ∙ e.each;
        kept_are = ap (λ (m : Mesh). m.tets) same;
      };
      sound = sound;
    }

pub gets-means : (digits : ℕ) (snap : Snap) (rows : List Row) (mesh : Mesh) → gets (start digits snap) rows ≡ Some mesh → Means digits snap rows mesh
gets-means digits snap rows mesh e = meant digits snap rows mesh (sound_end (start digits snap) rows mesh fits-start e) (from_gets (start digits snap) rows mesh fits-start e)
