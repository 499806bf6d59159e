-- The text of a frame means the mesh at its places.
use Rattle.std.proofs.Common.{◌≡◌, ◌==◌, ◌∙◌, ℕ, zero, suc, ◌+◌, ◌<◌, ◌≤◌, Bool, true, false, ℤ, List, [], ◌∷◌, ◌++◌, length, map, take, drop, Some, refl, sym, ap, subst, arith, All, decimal}
use Rattle.std.specs.Prelude.{codes, slice_index, unsigned_abs}
use Rattle.std.specs.Fmt.{signed_decimal}
use Rattle.std.specs.List.{zip, flat_map, list_all, IsDistinct, AllByRecursion}
use Rattle.std.proofs.Math.Seq.{take-append_seam, drop-append_seam}
use Rattle.std.proofs.lemmas.Bool.{and_parts, and_from, eq-eqb, le-leb, ne_eqb}
use Rattle.std.proofs.lemmas.List.{append-nil, length-append, length-map}
use Rattle.std.proofs.lemmas.List.Elements.{recursion_from_All}
use Rattle.std.proofs.lemmas.Slice.Zip.{length-zip}
use Rattle.line_fields.specs.Lines.{rows, fields, is_filled, whole_of, is_whole, tag_of}
use Rattle.line_fields.proofs.Fields.{filled_from_length}
use Rattle.line_fields.proofs.Written.{is_plain, is_plain_field, is_plain_row, rows-written, whole_of-decimal, tag_of-signed_decimal, is_plain_field-decimal, is_plain_field-signed_decimal}
use Rattle.dec_text.specs.declared.Snap.TheVariants.{Exact}
use Rattle.dec_text.specs.GridText.{grid_decimal}
use Rattle.dec_text.proofs.GridTexts.{read_back, place_is_word}
use Rattle.space3.specs.declared.vectors.V3.{V3}
use Rattle.space3.specs.declared.lists.Tet.{Tet}
use Rattle.space3.specs.declared.mesh.Mesh.{Mesh}
use Rattle.space3.specs.Box.{IsInTheBox}
use Rattle.space3.specs.Mesh.{IsNumber, IsSound, IsSoundTet}
use Rattle.mesh_words.specs.declared.elements.ElementType.TheVariants.{Tetrahedron}
use Rattle.mesh_words.specs.Rows.{Row, is_word}
use Rattle.mesh_words.specs.Numbers.{number_of, tag_count_of, position_of, node_at}
use Rattle.mesh_words.specs.Elements.{element_type_of}
use Rattle.mesh_words.specs.Kinds.{coordinate_of, place_of_result}
use Rattle.msh_rows.specs.declared.sections.Opening.TheVariants as openings
use Rattle.msh_rows.specs.Rows.{opening_of, count_of, node_of, element_of, every}
use Rattle.msh_rows.proofs.ElementRows.{value_of}
use Rattle.msh_text.specs.MeshText.{nothing_skipped, IsFormatSection, IsNodeSection, IsElementSection, kept, Means}
use Rattle.msh_text.specs.Texts.{TextMeans}
use Rattle.msh_text.specs.Frame.{node_row, tet_row, head_rows, node_rows, tet_rows, frame_rows, frame_text, placed_at}

-- ---- numbers, tags and coordinates are read back

number_back : (n : ℕ) → IsNumber n → number_of (decimal n) ≡ Some n
unfolding number_of
number_back n h = let whole = whole_of-decimal n h.high in let low = le-leb 1 n h.low in rw (whole, low) refl

count_back : (n : ℕ) → n ≤ 2147483647 → count_of (decimal n ∷ []) ≡ Some n
unfolding count_of
count_back n h = whole_of-decimal n h

tag_count_back : (n : ℕ) → n ≤ 255 → tag_count_of (decimal n) ≡ Some n
unfolding tag_count_of
tag_count_back n h = let whole = whole_of-decimal n (omega (arith, h)) in let few = le-leb n 255 h in rw (whole, few) refl

coordinate_back : (x : ℤ) (digits : ℕ) → unsigned_abs x ≤ 1048576 → coordinate_of (grid_decimal x digits) digits Exact ≡ Some x
unfolding coordinate_of
coordinate_back x digits h = ap place_of_result (read_back x digits h)

node_back : (digits : ℕ) (node : ℕ × V3) → IsNumber node.0 → IsInTheBox node.1 → node_of digits Exact (node_row digits node) ≡ Some node
unfolding node_of
node_back digits node n p =
    rw (number_back node.0 n, coordinate_back node.1.x digits p.x.bound, coordinate_back node.1.y digits p.y.bound, coordinate_back node.1.z digits p.z.bound) refl

nodes_back : (digits : ℕ) (numbers : List ℕ) (places : List V3) → AllByRecursion IsNumber numbers → AllByRecursion IsInTheBox places → map (node_of digits Exact) (map (node_row digits) (zip numbers places)) ≡ map Some (zip numbers places)
nodes_back digits [] places n p = refl
nodes_back digits (m ∷ numbers) [] n p = refl
nodes_back digits (m ∷ numbers) (x ∷ places) n p = λ i. node_back digits (m, x) n.0 p.0 i ∷ nodes_back digits numbers places n.1 p.1 i

-- ---- nodes by their numbers

all_at : (P : ℕ → Type 0) (xs : List ℕ) (i : ℕ) → AllByRecursion P xs → i < length xs → P (slice_index xs i)
all_at P [] i h lt = absurd (omega arith)
all_at P (x ∷ xs) zero h lt = h.0
all_at P (x ∷ xs) (suc i) h lt = all_at P xs i h.1 (omega arith)

pub position_back : (ns : List ℕ) (i : ℕ) → IsDistinct (λ m n. m == n) ns → i < length ns → position_of ns (slice_index ns i) ≡ Some i
unfolding position_of IsDistinct
position_back [] i h lt = absurd (omega arith)
position_back (n ∷ ns) zero h lt = let same = eq-eqb n n refl in rw same refl
position_back (n ∷ ns) (suc i) h lt =
    let other : (n == slice_index ns i) ≡ false = all_at (λ m. (n == m) ≡ false) ns i h.0 (omega arith) in
    rw (other, position_back ns i h.1 (omega arith)) refl

node_at_back : (numbers : List ℕ) (node : ℕ) → AllByRecursion IsNumber numbers → IsDistinct (λ m n. m == n) numbers → node < length numbers → node_at numbers (decimal (slice_index numbers node)) ≡ Some node
unfolding node_at
node_at_back numbers node n d lt = rw (number_back (slice_index numbers node) (all_at IsNumber numbers node n lt)) (position_back numbers node d lt)

every_node_back : (numbers nodes : List ℕ) → AllByRecursion IsNumber numbers → IsDistinct (λ m n. m == n) numbers → AllByRecursion (λ node. node < length numbers) nodes → every (node_at numbers) (map (λ node. decimal (slice_index numbers node)) nodes) ≡ Some nodes
unfolding every
every_node_back numbers [] n d h = refl
every_node_back numbers (node ∷ nodes) n d h = rw (node_at_back numbers node n d h.0, every_node_back numbers nodes n d h.1) refl

every_tag_back : (tags : List ℤ) → AllByRecursion (λ z. unsigned_abs z ≤ 2147483647) tags → every tag_of (map signed_decimal tags) ≡ Some tags
unfolding every
every_tag_back [] h = refl
every_tag_back (t ∷ tags) h = rw (tag_of-signed_decimal t h.0, every_tag_back tags h.1) refl

-- ---- elements

type_back : element_type_of (codes "4") ≡ Some Tetrahedron
unfolding element_type_of whole_of is_whole
type_back = refl

front_of : {X : Type 0} (n : ℕ) (a b : List X) → length a ≡ n → take n (a ++ b) ≡ a
front_of n a b e = ap (λ k. take k (a ++ b)) (sym e) ∙ take-append_seam a b

back_of : {X : Type 0} (n : ℕ) (a b : List X) → length a ≡ n → drop n (a ++ b) ≡ b
back_of n a b e = ap (λ k. drop k (a ++ b)) (sym e) ∙ drop-append_seam a b

tet_back : (numbers : List ℕ) (t : Tet) → AllByRecursion IsNumber numbers → IsDistinct (λ m n. m == n) numbers → IsSoundTet (length numbers) t → element_of numbers (tet_row numbers t) ≡ Some (Some t)
tet_back numbers t n d s =
    let tags = map signed_decimal t.tags in
    let nodes = map (λ node. decimal (slice_index numbers node)) t.nodes in
    let tag_length : length tags ≡ length t.tags = length-map t.tags signed_decimal in
    let node_length : length nodes ≡ length t.nodes = length-map t.nodes (λ node. decimal (slice_index numbers node)) in
    value_of numbers (decimal t.number) (codes "4") (decimal (length t.tags)) (tags ++ nodes) t.number Tetrahedron (length t.tags) t.tags t.nodes
    (number_back t.number s.number) type_back (tag_count_back (length t.tags) s.few_tags)
    (ap (every tag_of) (front_of (length t.tags) tags nodes tag_length) ∙ every_tag_back t.tags (recursion_from_All (λ z. unsigned_abs z ≤ 2147483647) t.tags s.tags))
    (ap (every (node_at numbers)) (back_of (length t.tags) tags nodes tag_length) ∙ every_node_back numbers t.nodes n d (recursion_from_All (λ node. node < length numbers) t.nodes s.there))
    (omega (arith, length-append tags nodes, tag_length, node_length, s.four))

tets_back : (numbers : List ℕ) (tets : List Tet) → AllByRecursion IsNumber numbers → IsDistinct (λ m n. m == n) numbers → AllByRecursion (IsSoundTet (length numbers)) tets → map (element_of numbers) (map (tet_row numbers) tets) ≡ map Some (map Some tets)
tets_back numbers [] n d s = refl
tets_back numbers (t ∷ tets) n d s = λ i. tet_back numbers t n d s.0 i ∷ tets_back numbers tets n d s.1 i

all_kept : (tets : List Tet) → tets ≡ flat_map kept (map Some tets)
all_kept [] = refl
all_kept (t ∷ tets) = ap (λ (ts : List Tet). t ∷ ts) (all_kept tets)

-- ---- the rows are read back

list_all-append : {X : Type 0} (p : X → Bool) (a b : List X) → list_all p a ≡ true → list_all p b ≡ true → list_all p (a ++ b) ≡ true
list_all-append p [] b e f = f
list_all-append p (x ∷ a) b e f = let both = and_parts (p x) (list_all p a) e in and_from (p x) (list_all p (a ++ b)) both.0 (list_all-append p a b both.1 f)

plain_byte : (b : ℕ) → 45 ≤ b → is_plain b ≡ true
plain_byte b low =
    let space = ne_eqb b 32 (λ e. omega (arith, low, e)) in
    let tab = ne_eqb b 9 (λ e. omega (arith, low, e)) in
    let return = ne_eqb b 13 (λ e. omega (arith, low, e)) in
    let feed = ne_eqb b 10 (λ e. omega (arith, low, e)) in
    rw (space, tab, return, feed) refl

plain_bytes : (bytes : List ℕ) → AllByRecursion (λ b. (45 ≤ b) × (b ≤ 57)) bytes → list_all is_plain bytes ≡ true
plain_bytes [] h = refl
plain_bytes (b ∷ bytes) h = and_from (is_plain b) (list_all is_plain bytes) (plain_byte b h.0.0) (plain_bytes bytes h.1)

plain_coordinate : (x : ℤ) (digits : ℕ) → unsigned_abs x ≤ 1048576 → is_plain_field (grid_decimal x digits) ≡ true
plain_coordinate x digits small =
    let word = place_is_word x digits (omega (arith, small)) in
    and_from (is_filled (grid_decimal x digits)) (list_all is_plain (grid_decimal x digits)) (filled_from_length (grid_decimal x digits) word.0) (plain_bytes (grid_decimal x digits) (recursion_from_All (λ b. (45 ≤ b) × (b ≤ 57)) (grid_decimal x digits) word.1))

plain_number : (n : ℕ) → n ≤ 2147483647 → is_plain_field (decimal n) ≡ true
plain_number n h = is_plain_field-decimal n (omega (arith, h))

plain_node : (digits : ℕ) (node : ℕ × V3) → IsNumber node.0 → IsInTheBox node.1 → is_plain_row (node_row digits node) ≡ true
plain_node digits node n p =
    rw (plain_number node.0 n.high, plain_coordinate node.1.x digits p.x.bound, plain_coordinate node.1.y digits p.y.bound, plain_coordinate node.1.z digits p.z.bound) refl

plain_nodes : (digits : ℕ) (numbers : List ℕ) (places : List V3) → AllByRecursion IsNumber numbers → AllByRecursion IsInTheBox places → list_all is_plain_row (map (node_row digits) (zip numbers places)) ≡ true
plain_nodes digits [] places n p = refl
plain_nodes digits (m ∷ numbers) [] n p = refl
plain_nodes digits (m ∷ numbers) (x ∷ places) n p =
    and_from (is_plain_row (node_row digits (m, x))) (list_all is_plain_row (map (node_row digits) (zip numbers places))) (plain_node digits (m, x) n.0 p.0) (plain_nodes digits numbers places n.1 p.1)

plain_tags : (tags : List ℤ) → AllByRecursion (λ z. unsigned_abs z ≤ 2147483647) tags → list_all is_plain_field (map signed_decimal tags) ≡ true
plain_tags [] h = refl
plain_tags (t ∷ tags) h = and_from (is_plain_field (signed_decimal t)) (list_all is_plain_field (map signed_decimal tags)) (is_plain_field-signed_decimal t (omega (arith, h.0))) (plain_tags tags h.1)

plain_node_numbers : (numbers nodes : List ℕ) → AllByRecursion IsNumber numbers → AllByRecursion (λ node. node < length numbers) nodes → list_all is_plain_field (map (λ node. decimal (slice_index numbers node)) nodes) ≡ true
plain_node_numbers numbers [] n h = refl
plain_node_numbers numbers (node ∷ nodes) n h =
    and_from (is_plain_field (decimal (slice_index numbers node))) (list_all is_plain_field (map (λ k. decimal (slice_index numbers k)) nodes)) (plain_number (slice_index numbers node) (all_at IsNumber numbers node n h.0).high) (plain_node_numbers numbers nodes n h.1)

plain_tet : (numbers : List ℕ) (t : Tet) → AllByRecursion IsNumber numbers → IsSoundTet (length numbers) t → is_plain_row (tet_row numbers t) ≡ true
plain_tet numbers t n s =
    let tags = map signed_decimal t.tags in
    let nodes = map (λ node. decimal (slice_index numbers node)) t.nodes in
    let rest : list_all is_plain_field (tags ++ nodes) ≡ true = list_all-append is_plain_field tags nodes (plain_tags t.tags (recursion_from_All (λ z. unsigned_abs z ≤ 2147483647) t.tags s.tags))
    (plain_node_numbers numbers t.nodes n (recursion_from_All (λ node. node < length numbers) t.nodes s.there)) in
    let number = plain_number t.number s.number.high in
    let count = plain_number (length t.tags) (omega (arith, s.few_tags)) in
    rw (number, count, rest) refl

plain_tets : (numbers : List ℕ) (tets : List Tet) → AllByRecursion IsNumber numbers → AllByRecursion (IsSoundTet (length numbers)) tets → list_all is_plain_row (map (tet_row numbers) tets) ≡ true
plain_tets numbers [] n s = refl
plain_tets numbers (t ∷ tets) n s =
    and_from (is_plain_row (tet_row numbers t)) (list_all is_plain_row (map (tet_row numbers) tets)) (plain_tet numbers t n s.0) (plain_tets numbers tets n s.1)

-- what a frame's parts are known to be
pub record IsFrame (mesh : Mesh) (places : List V3) : Type 0 where
  pub sound : IsSound mesh
  pub placed : length places ≡ length mesh.numbers
  pub in_box : All IsInTheBox places

plain_node_rows : (digits : ℕ) (mesh : Mesh) (places : List V3) → IsFrame mesh places → list_all is_plain_row (node_rows digits mesh.numbers places) ≡ true
plain_node_rows digits mesh places f =
    let numbers = recursion_from_All IsNumber mesh.numbers f.sound.numbered in
    let nodes = plain_nodes digits mesh.numbers places numbers (recursion_from_All IsInTheBox places f.in_box) in
    let count = plain_number (length mesh.numbers) (omega (arith, f.sound.few_nodes)) in
    let rest = list_all-append is_plain_row (map (node_row digits) (zip mesh.numbers places)) ((codes "$EndNodes" ∷ []) ∷ []) nodes refl in
    rw (count, rest) refl

plain_tet_rows : (mesh : Mesh) (places : List V3) → IsFrame mesh places → list_all is_plain_row (tet_rows mesh.numbers mesh.tets) ≡ true
plain_tet_rows mesh places f =
    let numbers = recursion_from_All IsNumber mesh.numbers f.sound.numbered in
    let tets = plain_tets mesh.numbers mesh.tets numbers (recursion_from_All (IsSoundTet (length mesh.numbers)) mesh.tets f.sound.tets) in
    let count = plain_number (length mesh.tets) (omega (arith, f.sound.few_tets)) in
    let rest = list_all-append is_plain_row (map (tet_row mesh.numbers) mesh.tets) ((codes "$EndElements" ∷ []) ∷ []) tets refl in
    rw (count, rest) refl

rows_back : (mesh : Mesh) (places : List V3) (digits : ℕ) → IsFrame mesh places → rows (frame_text mesh places digits) ≡ frame_rows mesh places digits
unfolding frame_text
rows_back mesh places digits f =
    rows-written (frame_rows mesh places digits)
    (list_all-append is_plain_row head_rows (node_rows digits mesh.numbers places ++ tet_rows mesh.numbers mesh.tets) refl
    (list_all-append is_plain_row (node_rows digits mesh.numbers places) (tet_rows mesh.numbers mesh.tets) (plain_node_rows digits mesh places f) (plain_tet_rows mesh places f)))

-- ---- the sections

format_section : IsFormatSection head_rows
unfolding opening_of is_word whole_of is_whole
format_section = record {
  format = codes "2.2" ∷ codes "0" ∷ codes "8" ∷ [];
  section = record { opening = codes "$MeshFormat" ∷ []; ending = codes "$EndMeshFormat" ∷ []; opens_it = refl; ends_it = refl; whole = refl };
  is_format = record { size = codes "8"; fields = refl; whole = refl };
}

opens_nodes : opening_of (codes "$Nodes" ∷ []) ≡ openings.Nodes
unfolding opening_of is_word
opens_nodes = refl

ends_nodes : is_word (codes "$EndNodes") (codes "$EndNodes" ∷ []) ≡ true
unfolding is_word
ends_nodes = refl

opens_elements : opening_of (codes "$Elements" ∷ []) ≡ openings.Elements
unfolding opening_of is_word
opens_elements = refl

ends_elements : is_word (codes "$EndElements") (codes "$EndElements" ∷ []) ≡ true
unfolding is_word
ends_elements = refl

node_section : (mesh : Mesh) (places : List V3) (digits : ℕ) → IsFrame mesh places → IsNodeSection digits Exact (node_rows digits mesh.numbers places) mesh.numbers places
node_section mesh places digits f =
    let pairs = zip mesh.numbers places in
    let nodes = map (node_row digits) pairs in
    let as_many : length mesh.numbers ≡ length nodes = omega (arith, length-map pairs (node_row digits), length-zip mesh.numbers places, f.placed) in
    record {
      content = (decimal (length mesh.numbers) ∷ []) ∷ nodes;
      nodes = nodes;
      section = record { opening = codes "$Nodes" ∷ []; ending = codes "$EndNodes" ∷ []; opens_it = opens_nodes; ends_it = ends_nodes; whole = refl };
      counted = record { count = decimal (length mesh.numbers) ∷ []; rows = refl; counted = count_back (length mesh.numbers) (omega (arith, f.sound.few_nodes)) ∙ ap Some as_many };
      each = nodes_back digits mesh.numbers places (recursion_from_All IsNumber mesh.numbers f.sound.numbered) (recursion_from_All IsInTheBox places f.in_box);
    }

element_section : (mesh : Mesh) (places : List V3) → IsFrame mesh places → IsElementSection (tet_rows mesh.numbers mesh.tets) mesh.numbers mesh.tets
element_section mesh places f =
    let elements = map (tet_row mesh.numbers) mesh.tets in
    let as_many : length mesh.tets ≡ length elements = sym (length-map mesh.tets (tet_row mesh.numbers)) in
    record {
      content = (decimal (length mesh.tets) ∷ []) ∷ elements;
      elements = elements;
      section = record { opening = codes "$Elements" ∷ []; ending = codes "$EndElements" ∷ []; opens_it = opens_elements; ends_it = ends_elements; whole = refl };
      counted = record { count = decimal (length mesh.tets) ∷ []; rows = refl; counted = count_back (length mesh.tets) (omega (arith, f.sound.few_tets)) ∙ ap Some as_many };
      each_is = map Some mesh.tets;
      each = tets_back mesh.numbers mesh.tets (recursion_from_All IsNumber mesh.numbers f.sound.numbered) f.sound.different (recursion_from_All (IsSoundTet (length mesh.numbers)) mesh.tets f.sound.tets);
      kept_are = all_kept mesh.tets;
    }

sound_at : (mesh : Mesh) (places : List V3) → IsFrame mesh places → IsSound (placed_at mesh places)
sound_at mesh places f = record {
  placed = sym f.placed;
  some_nodes = f.sound.some_nodes;
  few_nodes = f.sound.few_nodes;
  numbered = f.sound.numbered;
  different = f.sound.different;
  some_tets = f.sound.some_tets;
  few_tets = f.sound.few_tets;
  tets = f.sound.tets;
}

rows_mean : (mesh : Mesh) (places : List V3) (digits : ℕ) → IsFrame mesh places → Means digits Exact (frame_rows mesh places digits) (placed_at mesh places)
rows_mean mesh places digits f = record {
  before = [];
  format_section = head_rows;
  between = [];
  node_section = node_rows digits mesh.numbers places;
  then = [];
  element_section = tet_rows mesh.numbers mesh.tets;
  after = [];
  whole = ap (λ (rs : List Row). head_rows ++ (node_rows digits mesh.numbers places ++ rs)) (sym (append-nil (tet_rows mesh.numbers mesh.tets)));
  skipped_before = nothing_skipped;
  skipped_between = nothing_skipped;
  skipped_then = nothing_skipped;
  skipped_after = nothing_skipped;
  format = format_section;
  nodes = node_section mesh places digits f;
  elements = element_section mesh places f;
  sound = sound_at mesh places f;
}

pub frame_means : (mesh : Mesh) (places : List V3) (digits : ℕ) → IsSound mesh → length places ≡ length mesh.numbers → All IsInTheBox places → TextMeans (frame_text mesh places digits) digits Exact (placed_at mesh places)
frame_means mesh places digits sound placed in_box =
    let f : IsFrame mesh places = record { sound = sound; placed = placed; in_box = in_box } in
    subst (λ rs. Means digits Exact rs (placed_at mesh places)) (sym (rows_back mesh places digits f)) (rows_mean mesh places digits f)
