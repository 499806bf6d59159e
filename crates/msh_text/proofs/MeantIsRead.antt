-- The mesh that the rows mean is read from them.
use Rattle.std.proofs.Common.{◌≡◌, ◌==◌, ◌∙◌, ℕ, suc, ◌+◌, ◌<◌, ◌≤◌, Bool, true, false, cond, List, [], ◌∷◌, ◌++◌, length, map, Option, Some, None, refl, sym, ap, subst, append_assoc, arith, All}
use Rattle.std.specs.Prelude.{codes, nat_lt, nat_le}
use Rattle.std.specs.List.{zip, flat_map, IsDistinct, AllByRecursion}
use Rattle.std.proofs.lemmas.Bool.Decides.{nat_tests}
use Rattle.std.proofs.lemmas.List.{append-nil, length-append, length-map}
use Rattle.std.proofs.lemmas.List.Elements.{All-head, All-tail, recursion_from_All}
use Rattle.std.proofs.lemmas.Slice.Zip.{length-zip, firsts-zip, seconds-zip}
use Rattle.dec_text.specs.declared.Snap.{Snap}
use Rattle.space3.specs.declared.vectors.V3.{V3}
use Rattle.space3.specs.declared.lists.Tet.{Tet}
use Rattle.space3.specs.declared.mesh.Mesh.{Mesh}
use Rattle.space3.specs.Mesh.{IsSound, IsSoundTet}
use Rattle.mesh_words.specs.Rows.{Row, is_word, is_end, name_of}
use Rattle.mesh_words.specs.Numbers.{position_of}
use Rattle.msh_rows.specs.declared.sections.Opening.{Opening}
use Rattle.msh_rows.specs.declared.sections.Opening.TheVariants as openings
use Rattle.msh_rows.specs.Rows.{opening_of, count_of, node_of, element_of}
use Rattle.msh_rows.specs.RowKinds.{tet_kind, format_row_kind}
use Rattle.msh_rows.proofs.RowMeanings.{end_taken, count_taken, node_count_taken, format_taken, node_taken, element_taken}
use Rattle.msh_text.specs.declared.stage.Opened.{Opened}
use Rattle.msh_text.specs.declared.stage.Opened.TheVariants as opened
use Rattle.msh_text.specs.MeshText.{AreSkipped, nothing_skipped, row_skipped, section_skipped, IsSection, IsFormat, IsFormatSection, IsNodeSection, IsElementSection, kept, Means}
use Rattle.msh_text.specs.FirstFault.{Outside, Skipping, AtFormat, AtFormatEnd, AtNodeCount, AtNodes, AtElementCount, AtElements, Progress, progress, start, mesh_of, kind_on, with_node, with_element, next, end_kind}
use Rattle.msh_text.proofs.Gets.{gets, gets-on, gets-end}
use Rattle.msh_text.proofs.Numbers.{AreNew, AreNew-tail, AreNew-from_none, AreNew-position, are_different-IsDistinct}
use Rattle.msh_text.proofs.ReadIsMeant.{with_nodes, with_tets}

-- ---- one row

step_to : (p q : Progress) (row : Row) (rows : List Row) → kind_on p row ≡ None → next p row ≡ q → gets p (row ∷ rows) ≡ gets q rows
step_to p q row rows none there = gets-on p row rows none ∙ ap (λ (r : Progress). gets r rows) there

nothing_kind : (digits : ℕ) (snap : Snap) (last : Opened) (mesh : Mesh) (row : Row) → opening_of row ≡ openings.Nothing → kind_on (progress digits snap (Outside last) mesh) row ≡ None
unfolding kind_on
nothing_kind digits snap last mesh row e = rw e refl

nothing_next : (digits : ℕ) (snap : Snap) (last : Opened) (mesh : Mesh) (row : Row) → opening_of row ≡ openings.Nothing → next (progress digits snap (Outside last) mesh) row ≡ progress digits snap (Outside last) mesh
unfolding next
nothing_next digits snap last mesh row e = rw e refl

other_kind : (digits : ℕ) (snap : Snap) (last : Opened) (mesh : Mesh) (row : Row) → opening_of row ≡ openings.Other → kind_on (progress digits snap (Outside last) mesh) row ≡ None
unfolding kind_on
other_kind digits snap last mesh row e = rw e refl

other_next : (digits : ℕ) (snap : Snap) (last : Opened) (mesh : Mesh) (row : Row) → opening_of row ≡ openings.Other → next (progress digits snap (Outside last) mesh) row ≡ progress digits snap (Skipping last (name_of row)) mesh
unfolding next
other_next digits snap last mesh row e = rw e refl

format_kind : (digits : ℕ) (snap : Snap) (mesh : Mesh) (row : Row) → opening_of row ≡ openings.Format → kind_on (progress digits snap (Outside opened.Nothing) mesh) row ≡ None
unfolding kind_on
format_kind digits snap mesh row e = rw e refl

format_next : (digits : ℕ) (snap : Snap) (mesh : Mesh) (row : Row) → opening_of row ≡ openings.Format → next (progress digits snap (Outside opened.Nothing) mesh) row ≡ progress digits snap AtFormat mesh
unfolding next
format_next digits snap mesh row e = rw e refl

nodes_kind : (digits : ℕ) (snap : Snap) (mesh : Mesh) (row : Row) → opening_of row ≡ openings.Nodes → kind_on (progress digits snap (Outside opened.Format) mesh) row ≡ None
unfolding kind_on
nodes_kind digits snap mesh row e = rw e refl

nodes_next : (digits : ℕ) (snap : Snap) (mesh : Mesh) (row : Row) → opening_of row ≡ openings.Nodes → next (progress digits snap (Outside opened.Format) mesh) row ≡ progress digits snap AtNodeCount mesh
unfolding next
nodes_next digits snap mesh row e = rw e refl

elements_kind : (digits : ℕ) (snap : Snap) (mesh : Mesh) (row : Row) → opening_of row ≡ openings.Elements → kind_on (progress digits snap (Outside opened.Nodes) mesh) row ≡ None
unfolding kind_on
elements_kind digits snap mesh row e = rw e refl

elements_next : (digits : ℕ) (snap : Snap) (mesh : Mesh) (row : Row) → opening_of row ≡ openings.Elements → next (progress digits snap (Outside opened.Nodes) mesh) row ≡ progress digits snap AtElementCount mesh
unfolding next
elements_next digits snap mesh row e = rw e refl

skip_kind : (digits : ℕ) (snap : Snap) (last : Opened) (name : List ℕ) (mesh : Mesh) (row : Row) → kind_on (progress digits snap (Skipping last name) mesh) row ≡ None
unfolding kind_on
skip_kind digits snap last name mesh row = refl

skip_next : (digits : ℕ) (snap : Snap) (last : Opened) (name : List ℕ) (mesh : Mesh) (row : Row) (b : Bool) → is_end name row ≡ b → next (progress digits snap (Skipping last name) mesh) row ≡ progress digits snap (cond b (Outside last) (Skipping last name)) mesh
unfolding next
skip_next digits snap last name mesh row b e = ap (λ (t : Bool). progress digits snap (cond t (Outside last) (Skipping last name)) mesh) e

version_kind : (digits : ℕ) (snap : Snap) (mesh : Mesh) (row : Row) → IsFormat row → kind_on (progress digits snap AtFormat mesh) row ≡ None
unfolding kind_on
version_kind digits snap mesh row f = ap format_row_kind f.fields ∙ format_taken f.size f.whole

version_next : (digits : ℕ) (snap : Snap) (mesh : Mesh) (row : Row) → next (progress digits snap AtFormat mesh) row ≡ progress digits snap AtFormatEnd mesh
unfolding next
version_next digits snap mesh row = refl

format_end_kind : (digits : ℕ) (snap : Snap) (mesh : Mesh) (row : Row) → is_word (codes "$EndMeshFormat") row ≡ true → kind_on (progress digits snap AtFormatEnd mesh) row ≡ None
unfolding kind_on
format_end_kind digits snap mesh row w = end_taken (codes "$EndMeshFormat") row w

format_end_next : (digits : ℕ) (snap : Snap) (mesh : Mesh) (row : Row) → next (progress digits snap AtFormatEnd mesh) row ≡ progress digits snap (Outside opened.Format) mesh
unfolding next
format_end_next digits snap mesh row = refl

node_count_kind : (digits : ℕ) (snap : Snap) (mesh : Mesh) (row : Row) (n : ℕ) → count_of row ≡ Some n → n ≤ 16384 → kind_on (progress digits snap AtNodeCount mesh) row ≡ None
unfolding kind_on
node_count_kind digits snap mesh row n e few = node_count_taken row n e few

node_count_next : (digits : ℕ) (snap : Snap) (mesh : Mesh) (row : Row) (n : ℕ) → count_of row ≡ Some n → next (progress digits snap AtNodeCount mesh) row ≡ progress digits snap (AtNodes n) mesh
unfolding next
node_count_next digits snap mesh row n e = rw e refl

node_kind_on : (digits : ℕ) (snap : Snap) (count : ℕ) (mesh : Mesh) (row : Row) (node : ℕ × V3) → nat_lt (length mesh.numbers) count ≡ true → node_of digits snap row ≡ Some node → position_of mesh.numbers node.0 ≡ None
    → kind_on (progress digits snap (AtNodes count) mesh) row ≡ None
unfolding kind_on
node_kind_on digits snap count mesh row node lt e fresh = rw lt (node_taken digits snap mesh.numbers row node e fresh)

node_next_on : (digits : ℕ) (snap : Snap) (count : ℕ) (mesh : Mesh) (row : Row) (node : ℕ × V3) → nat_lt (length mesh.numbers) count ≡ true → node_of digits snap row ≡ Some node
    → next (progress digits snap (AtNodes count) mesh) row ≡ progress digits snap (AtNodes count) (with_node (Some node) mesh)
unfolding next
node_next_on digits snap count mesh row node lt e = rw (lt, e) refl

nodes_end_kind : (digits : ℕ) (snap : Snap) (count : ℕ) (mesh : Mesh) (row : Row) → nat_lt (length mesh.numbers) count ≡ false → is_word (codes "$EndNodes") row ≡ true → kind_on (progress digits snap (AtNodes count) mesh) row ≡ None
unfolding kind_on
nodes_end_kind digits snap count mesh row lt w = rw lt (end_taken (codes "$EndNodes") row w)

nodes_end_next : (digits : ℕ) (snap : Snap) (count : ℕ) (mesh : Mesh) (row : Row) → nat_lt (length mesh.numbers) count ≡ false → next (progress digits snap (AtNodes count) mesh) row ≡ progress digits snap (Outside opened.Nodes) mesh
unfolding next
nodes_end_next digits snap count mesh row lt = rw lt refl

element_count_kind : (digits : ℕ) (snap : Snap) (mesh : Mesh) (row : Row) (n : ℕ) → count_of row ≡ Some n → kind_on (progress digits snap AtElementCount mesh) row ≡ None
unfolding kind_on
element_count_kind digits snap mesh row n e = count_taken row n e

element_count_next : (digits : ℕ) (snap : Snap) (mesh : Mesh) (row : Row) (n : ℕ) → count_of row ≡ Some n → next (progress digits snap AtElementCount mesh) row ≡ progress digits snap (AtElements n) mesh
unfolding next
element_count_next digits snap mesh row n e = rw e refl

element_kind_on : (digits : ℕ) (snap : Snap) (left : ℕ) (mesh : Mesh) (row : Row) (element : Option Tet) → element_of mesh.numbers row ≡ Some element → tet_kind (length mesh.tets) (Some element) ≡ None
    → kind_on (progress digits snap (AtElements (suc left)) mesh) row ≡ None
unfolding kind_on
element_kind_on digits snap left mesh row element e fine = element_taken mesh.numbers (length mesh.tets) row element e fine

element_next_on : (digits : ℕ) (snap : Snap) (left : ℕ) (mesh : Mesh) (row : Row) (element : Option Tet) → element_of mesh.numbers row ≡ Some element
    → next (progress digits snap (AtElements (suc left)) mesh) row ≡ progress digits snap (AtElements left) (with_element (Some element) mesh)
unfolding next
element_next_on digits snap left mesh row element e = rw e refl

elements_end_kind : (digits : ℕ) (snap : Snap) (mesh : Mesh) (row : Row) → is_word (codes "$EndElements") row ≡ true → kind_on (progress digits snap (AtElements 0) mesh) row ≡ None
unfolding kind_on
elements_end_kind digits snap mesh row w = end_taken (codes "$EndElements") row w

elements_end_next : (digits : ℕ) (snap : Snap) (mesh : Mesh) (row : Row) → next (progress digits snap (AtElements 0) mesh) row ≡ progress digits snap (Outside opened.Elements) mesh
unfolding next
elements_end_next digits snap mesh row = refl

end_good : (digits : ℕ) (snap : Snap) (mesh : Mesh) (tets : List Tet) → mesh.tets ≡ tets → 1 ≤ length tets → end_kind (progress digits snap (Outside opened.Elements) mesh) ≡ None
unfolding end_kind
end_good digits snap mesh [] e some = absurd (omega arith)
end_good digits snap mesh (t ∷ tets) e some = rw e refl

-- ---- many rows

over_section : (digits : ℕ) (snap : Snap) (last : Opened) (name : List ℕ) (mesh : Mesh) (inside : List Row) (ending : Row) (rows : List Row) → All (λ row. is_end name row ≡ false) inside → is_end name ending ≡ true
    → gets (progress digits snap (Skipping last name) mesh) (inside ++ ending ∷ rows) ≡ gets (progress digits snap (Outside last) mesh) rows
over_section digits snap last name mesh [] ending rows h e = step_to _ _ ending rows (skip_kind digits snap last name mesh ending) (skip_next digits snap last name mesh ending true e)
over_section digits snap last name mesh (row ∷ inside) ending rows h e =
    step_to _ _ row (inside ++ ending ∷ rows) (skip_kind digits snap last name mesh row) (skip_next digits snap last name mesh row false (All-head (λ (r : Row). is_end name r ≡ false) row inside h))
    ∙ over_section digits snap last name mesh inside ending rows (All-tail (λ (r : Row). is_end name r ≡ false) row inside h) e

over_skipped : (digits : ℕ) (snap : Snap) (last : Opened) (mesh : Mesh) (rows more : List Row) → AreSkipped rows → gets (progress digits snap (Outside last) mesh) (rows ++ more) ≡ gets (progress digits snap (Outside last) mesh) more
over_skipped digits snap last mesh rows more nothing_skipped = refl
over_skipped digits snap last mesh rows more (row_skipped {row = row} {rows = rest} d h) =
    step_to _ _ row (rest ++ more) (nothing_kind digits snap last mesh row d) (nothing_next digits snap last mesh row d) ∙ over_skipped digits snap last mesh rest more h
over_skipped digits snap last mesh rows more (section_skipped {opening = opening} {more = others} inside ending rest d h e whole s) =
    step_to _ _ opening (others ++ more) (other_kind digits snap last mesh opening d) (other_next digits snap last mesh opening d)
    ∙ ap (λ (rs : List Row). gets (progress digits snap (Skipping last (name_of opening)) mesh) rs) (ap (λ (rs : List Row). rs ++ more) whole ∙ append_assoc inside (ending ∷ rest) more)
    ∙ over_section digits snap last (name_of opening) mesh inside ending (rest ++ more) h e ∙ over_skipped digits snap last mesh rest more s

-- a section before other rows
section_rows : (o : Opening) (word : List ℕ) (content rows more : List Row) (s : IsSection o word content rows) → rows ++ more ≡ s.opening ∷ content ++ s.ending ∷ more
section_rows o word content rows more s = ap (λ (rs : List Row). rs ++ more) s.whole ∙ ap (λ (rs : List Row). s.opening ∷ rs) (append_assoc content (s.ending ∷ []) more)

over_format : (digits : ℕ) (snap : Snap) (mesh : Mesh) (rows more : List Row) → IsFormatSection rows → gets (progress digits snap (Outside opened.Nothing) mesh) (rows ++ more) ≡ gets (progress digits snap (Outside opened.Format) mesh) more
over_format digits snap mesh rows more f =
    let s = f.section in
    ap (λ (rs : List Row). gets (progress digits snap (Outside opened.Nothing) mesh) rs) (section_rows openings.Format (codes "$EndMeshFormat") (f.format ∷ []) rows more s)
    ∙ step_to _ (progress digits snap AtFormat mesh) s.opening (f.format ∷ s.ending ∷ more) (format_kind digits snap mesh s.opening s.opens_it) (format_next digits snap mesh s.opening s.opens_it)
    ∙ step_to _ (progress digits snap AtFormatEnd mesh) f.format (s.ending ∷ more) (version_kind digits snap mesh f.format f.is_format) (version_next digits snap mesh f.format)
    ∙ step_to _ _ s.ending more (format_end_kind digits snap mesh s.ending s.ends_it) (format_end_next digits snap mesh s.ending)

-- ---- nodes

over_nodes : (digits : ℕ) (snap : Snap) (count : ℕ) (mesh : Mesh) (rows more : List Row) (new : List (ℕ × V3)) → map (node_of digits snap) rows ≡ map Some new → AreNew mesh.numbers (map (λ (n : ℕ × V3). n.0) new) → length mesh.numbers + length rows ≡ count
    → gets (progress digits snap (AtNodes count) mesh) (rows ++ more) ≡ gets (progress digits snap (AtNodes count) (with_nodes mesh new)) more
over_nodes digits snap count mesh [] more [] e new len = ap (λ (m : Mesh). gets (progress digits snap (AtNodes count) m) more) (λ i. mesh_of (sym (append-nil mesh.numbers) i) (sym (append-nil mesh.places) i) mesh.tets)
over_nodes digits snap count mesh [] more (n ∷ nodes) e new len = absurd cc
over_nodes digits snap count mesh (row ∷ rows) more [] e new len = absurd cc
over_nodes digits snap count mesh (row ∷ rows) more (n ∷ nodes) e new len =
    let first : node_of digits snap row ≡ Some n = cc in
    let others : map (node_of digits snap) rows ≡ map Some nodes = cc in
    let lt : nat_lt (length mesh.numbers) count ≡ true = let below : length mesh.numbers < count = omega (arith, len) in grind (arith, nat_tests) in
    let fresh = AreNew-position mesh.numbers n.0 (map (λ (m : ℕ × V3). m.0) nodes) new in
    step_to _ (progress digits snap (AtNodes count) (with_node (Some n) mesh)) row (rows ++ more) (node_kind_on digits snap count mesh row n lt first fresh) (node_next_on digits snap count mesh row n lt first)
    ∙ over_nodes digits snap count (with_node (Some n) mesh) rows more nodes others (AreNew-tail mesh.numbers n.0 (map (λ (m : ℕ × V3). m.0) nodes) new) (omega (arith, len, length-append mesh.numbers (n.0 ∷ [])))
    ∙ ap (λ (m : Mesh). gets (progress digits snap (AtNodes count) m) more) (λ i. mesh_of
    (append_assoc mesh.numbers (n.0 ∷ []) (map (λ (m : ℕ × V3). m.0) nodes) i)
    (append_assoc mesh.places (n.1 ∷ []) (map (λ (m : ℕ × V3). m.1) nodes) i) mesh.tets)

over_node_section : (digits : ℕ) (snap : Snap) (rows more : List Row) (numbers : List ℕ) (places : List V3) → IsNodeSection digits snap rows numbers places → length numbers ≡ length places → length numbers ≤ 16384 → IsDistinct (λ i j. i == j) numbers
    → gets (progress digits snap (Outside opened.Format) (mesh_of [] [] [])) (rows ++ more) ≡ gets (progress digits snap (Outside opened.Nodes) (mesh_of numbers places [])) more
over_node_section digits snap rows more numbers places n placed few different =
    let s = n.section in
    let c = n.counted in
    let empty = mesh_of [] [] [] in
    let pairs = zip numbers places in
    let numbers_are : map (λ (m : ℕ × V3). m.0) pairs ≡ numbers = firsts-zip numbers places (sym placed) in
    let places_are : map (λ (m : ℕ × V3). m.1) pairs ≡ places = seconds-zip numbers places (sym placed) in
    let as_many : length n.nodes ≡ length numbers = omega (arith, length-map n.nodes (node_of digits snap), ap length n.each, length-map pairs (λ (m : ℕ × V3). Some m), length-zip numbers places, placed) in
    let full : nat_lt (length numbers) (length n.nodes) ≡ false = let no_more : length n.nodes ≤ length numbers = omega (arith, as_many) in grind (arith, nat_tests) in
    let all : with_nodes empty pairs ≡ mesh_of numbers places [] = λ i. mesh_of (numbers_are i) (places_are i) [] in
    let rest = n.nodes ++ s.ending ∷ more in
    ap (λ (rs : List Row). gets (progress digits snap (Outside opened.Format) empty) rs) (section_rows openings.Nodes (codes "$EndNodes") n.content rows more s ∙ ap (λ (rs : List Row). s.opening ∷ rs ++ s.ending ∷ more) c.rows)
    ∙ step_to _ (progress digits snap AtNodeCount empty) s.opening (c.count ∷ rest) (nodes_kind digits snap empty s.opening s.opens_it) (nodes_next digits snap empty s.opening s.opens_it)
    ∙ step_to _ (progress digits snap (AtNodes (length n.nodes)) empty) c.count rest (node_count_kind digits snap empty c.count (length n.nodes) c.counted (omega (arith, as_many, few))) (node_count_next digits snap empty c.count (length n.nodes) c.counted)
    ∙ over_nodes digits snap (length n.nodes) empty n.nodes (s.ending ∷ more) pairs n.each (subst (AreNew []) (sym numbers_are) (AreNew-from_none numbers different)) (omega arith)
    ∙ ap (λ (m : Mesh). gets (progress digits snap (AtNodes (length n.nodes)) m) (s.ending ∷ more)) all
    ∙ step_to _ _ s.ending more (nodes_end_kind digits snap (length n.nodes) (mesh_of numbers places []) s.ending full s.ends_it) (nodes_end_next digits snap (length n.nodes) (mesh_of numbers places []) s.ending full)

-- ---- elements

tet_fine : (nodes tets : ℕ) (t : Tet) → IsSoundTet nodes t → tets < 65536 → tet_kind tets (Some (Some t)) ≡ None
tet_fine nodes tets t sound few =
    let different = are_different-IsDistinct t.nodes sound.different in
    let room : nat_le 65536 tets ≡ false = grind (arith, nat_tests) in
    rw (different, room) refl

element_fine : (nodes tets : ℕ) (element : Option Tet) (more : List (Option Tet)) → AllByRecursion (IsSoundTet nodes) (flat_map kept (element ∷ more)) → tets + length (flat_map kept (element ∷ more)) ≤ 65536 → tet_kind tets (Some element) ≡ None
element_fine nodes tets (Some t) more sound few = tet_fine nodes tets t sound.0 (omega (arith, few))
element_fine nodes tets None more sound few = refl

others_sound : (nodes : ℕ) (element : Option Tet) (more : List (Option Tet)) → AllByRecursion (IsSoundTet nodes) (flat_map kept (element ∷ more)) → AllByRecursion (IsSoundTet nodes) (flat_map kept more)
others_sound nodes (Some t) more sound = sound.1
others_sound nodes None more sound = sound

over_elements : (digits : ℕ) (snap : Snap) (mesh : Mesh) (rows more : List Row) (elements : List (Option Tet)) → map (element_of mesh.numbers) rows ≡ map Some elements → AllByRecursion (IsSoundTet (length mesh.numbers)) (flat_map kept elements)
    → length mesh.tets + length (flat_map kept elements) ≤ 65536
    → gets (progress digits snap (AtElements (length rows)) mesh) (rows ++ more) ≡ gets (progress digits snap (AtElements 0) (with_tets mesh elements)) more
over_elements digits snap mesh [] more [] e sound few = ap (λ (ts : List Tet). gets (progress digits snap (AtElements 0) (mesh_of mesh.numbers mesh.places ts)) more) (sym (append-nil mesh.tets))
over_elements digits snap mesh [] more (x ∷ xs) e sound few = absurd cc
over_elements digits snap mesh (row ∷ rows) more [] e sound few = absurd cc
over_elements digits snap mesh (row ∷ rows) more (element ∷ elements) e sound few =
    let first : element_of mesh.numbers row ≡ Some element = cc in
    let others : map (element_of mesh.numbers) rows ≡ map Some elements = cc in
    let after = with_element (Some element) mesh in
    step_to _ (progress digits snap (AtElements (length rows)) after) row (rows ++ more) (element_kind_on digits snap (length rows) mesh row element first (element_fine (length mesh.numbers) (length mesh.tets) element elements sound few)) (element_next_on digits snap (length rows) mesh row element first)
    ∙ over_elements digits snap after rows more elements others (others_sound (length mesh.numbers) element elements sound)
    (omega (arith, few, length-append mesh.tets (kept element), length-append (kept element) (flat_map kept elements)))
    ∙ ap (λ (ts : List Tet). gets (progress digits snap (AtElements 0) (mesh_of mesh.numbers mesh.places ts)) more) (append_assoc mesh.tets (kept element) (flat_map kept elements))

over_element_section : (digits : ℕ) (snap : Snap) (rows more : List Row) (mesh : Mesh) → IsElementSection rows mesh.numbers mesh.tets → IsSound mesh
    → gets (progress digits snap (Outside opened.Nodes) (mesh_of mesh.numbers mesh.places [])) (rows ++ more) ≡ gets (progress digits snap (Outside opened.Elements) mesh) more
over_element_section digits snap rows more mesh n sound =
    let s = n.section in
    let c = n.counted in
    let before = mesh_of mesh.numbers mesh.places [] in
    let rest = n.elements ++ s.ending ∷ more in
    let all : with_tets before n.each_is ≡ mesh = ap (mesh_of mesh.numbers mesh.places) (sym n.kept_are) in
    ap (λ (rs : List Row). gets (progress digits snap (Outside opened.Nodes) before) rs) (section_rows openings.Elements (codes "$EndElements") n.content rows more s ∙ ap (λ (rs : List Row). s.opening ∷ rs ++ s.ending ∷ more) c.rows)
    ∙ step_to _ (progress digits snap AtElementCount before) s.opening (c.count ∷ rest) (elements_kind digits snap before s.opening s.opens_it) (elements_next digits snap before s.opening s.opens_it)
    ∙ step_to _ (progress digits snap (AtElements (length n.elements)) before) c.count rest (element_count_kind digits snap before c.count (length n.elements) c.counted) (element_count_next digits snap before c.count (length n.elements) c.counted)
    ∙ over_elements digits snap before n.elements (s.ending ∷ more) n.each_is n.each (subst (AllByRecursion (IsSoundTet (length mesh.numbers))) n.kept_are (recursion_from_All (IsSoundTet (length mesh.numbers)) mesh.tets sound.tets)) (omega (arith, sound.few_tets, ap length n.kept_are))
    ∙ ap (λ (m : Mesh). gets (progress digits snap (AtElements 0) m) (s.ending ∷ more)) all
    ∙ step_to _ _ s.ending more (elements_end_kind digits snap mesh s.ending s.ends_it) (elements_end_next digits snap mesh s.ending)

-- ---- the whole text

pub means-gets : (digits : ℕ) (snap : Snap) (rows : List Row) (mesh : Mesh) → Means digits snap rows mesh → gets (start digits snap) rows ≡ Some mesh
means-gets digits snap rows mesh m =
    let from_elements = m.element_section ++ m.after in
    let from_nodes = m.node_section ++ (m.then ++ from_elements) in
    let from_format = m.format_section ++ (m.between ++ from_nodes) in
    let empty = mesh_of [] [] [] in
    let noded = mesh_of mesh.numbers mesh.places [] in
    ap (gets (start digits snap)) m.whole
    ∙ over_skipped digits snap opened.Nothing empty m.before from_format m.skipped_before
    ∙ over_format digits snap empty m.format_section (m.between ++ from_nodes) m.format
    ∙ over_skipped digits snap opened.Format empty m.between from_nodes m.skipped_between
    ∙ over_node_section digits snap m.node_section (m.then ++ from_elements) mesh.numbers mesh.places m.nodes m.sound.placed m.sound.few_nodes m.sound.different
    ∙ over_skipped digits snap opened.Nodes noded m.then from_elements m.skipped_then
    ∙ over_element_section digits snap m.element_section m.after mesh m.elements m.sound
    ∙ ap (λ (rs : List Row). gets (progress digits snap (Outside opened.Elements) mesh) rs) (sym (append-nil m.after))
    ∙ over_skipped digits snap opened.Elements mesh m.after [] m.skipped_after
    ∙ gets-end (progress digits snap (Outside opened.Elements) mesh) (end_good digits snap mesh mesh.tets refl m.sound.some_tets)
