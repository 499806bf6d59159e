-- A row with which nothing is wrong means something, and what means something has nothing wrong with it.
use Rattle.std.proofs.Common.{◌≡◌, ◌==◌, ◌∙◌, ℕ, ◌+◌, ◌≤◌, Bool, true, false, ℤ, List, [], ◌∷◌, length, map, take, drop, Option, Some, None, Result, Ok, Err, refl, sym, ap, subst, arith}
use Rattle.std.specs.Prelude.{is_some, not, nat_lt, codes, unwrap_or, IsSome}
use Rattle.std.specs.Str.{bytes_eq}
use Rattle.std.proofs.lemmas.Bool.{eqb-true, eq-eqb}
use Rattle.std.proofs.lemmas.Bool.Decides.{nat_tests}
use Rattle.std.proofs.lemmas.Option.{same_Some, cond_some}
use Rattle.line_fields.specs.Lines.{tag_of, whole_of}
use Rattle.dec_text.specs.declared.Snap.{Snap}
use Rattle.dec_text.specs.declared.DecErr.{DecErr}
use Rattle.dec_text.specs.declared.DecErr.TheVariants as decimals
use Rattle.dec_text.specs.Grid.{grid_value}
use Rattle.space3.specs.declared.vectors.V3.{V3}
use Rattle.space3.specs.declared.lists.Tet.{Tet}
use Rattle.space3.specs.Vectors.{vector}
use Rattle.space3.specs.Mesh.{IsNumber}
use Rattle.mesh_words.specs.declared.kinds.MshKind.{MshKind}
use Rattle.mesh_words.specs.declared.kinds.MshKind.TheVariants.{BadNumber}
use Rattle.mesh_words.specs.declared.elements.ElementType.{ElementType}
use Rattle.mesh_words.specs.Rows.{Row, field_at, is_dollar, is_word}
use Rattle.mesh_words.specs.Numbers.{◌>>=◌, number_of, tag_count_of, node_at, position_of}
use Rattle.mesh_words.specs.Elements.{element_type_of, type_of_code, node_count}
use Rattle.mesh_words.specs.Kinds.{first_of, kind_if, kind_without, node_kind, type_kind, code_kind, coordinate_kind, coordinate_of, grid_kind, place_of_result}
use Rattle.mesh_words.proofs.FieldValues.{bind_some, number_found, number_no_dollar, whole_no_dollar}
use Rattle.mesh_words.proofs.SectionWords.{bytes_eq-true}
use Rattle.msh_rows.specs.Rows.{every, count_of, node_of, place_at, element_of, as_tet, tet}
use Rattle.msh_rows.specs.RowKinds.{end_row_kind, format_row_kind, count_row_kind, node_count_row_kind, place_kind, node_row_kind, field_count_of, tag_kind, head_kind, tag_fields, node_fields, tet_kind, element_row_kind}
use Rattle.msh_rows.proofs.ElementRows.{both_none, node_there, every_there, value_of}

-- ---- kinds that are none

pub no_kind : (b : Bool) (kind : MshKind) → kind_if b kind ≡ None → b ≡ false
no_kind true kind e = absurd cc
no_kind false kind e = refl

not_false : (b : Bool) → not b ≡ false → b ≡ true
not_false true e = refl
not_false false e = absurd cc

some_of : {X : Type 0} (o : Option X) (kind : MshKind) → kind_without o kind ≡ None → (x : X) × (o ≡ Some x)
some_of (Some x) kind e = (x, refl)
some_of None kind e = absurd cc

pub end_free : (word : List ℕ) (row : Row) → end_row_kind word row ≡ None → is_word word row ≡ true
unfolding end_row_kind
end_free word row e = not_false _ (no_kind _ _ e)

pub end_taken : (word : List ℕ) (row : Row) → is_word word row ≡ true → end_row_kind word row ≡ None
unfolding end_row_kind
end_taken word row e = rw e refl

-- ---- counts

count_shape : (row : Row) (n : ℕ) → (length row == 1) ≡ true → whole_of (field_at row 0) ≡ Some n → count_of row ≡ Some n
unfolding count_of
count_shape [] n l w = absurd cc
count_shape (f ∷ []) n l w = w
count_shape (f ∷ g ∷ more) n l w = let len = eqb-true (length (f ∷ g ∷ more)) 1 l in absurd (omega (arith, len))

pub count_free : (row : Row) → count_row_kind row ≡ None → (n : ℕ) × (count_of row ≡ Some n)
unfolding count_row_kind
count_free row e =
    let one = both_none _ _ e in
    let two = both_none _ _ one.1 in
    let three = both_none _ _ two.1 in
    let whole = some_of (whole_of (field_at row 0)) _ three.0 in
    (whole.0, count_shape row whole.0 (not_false _ (no_kind _ _ two.0)) whole.1)

pub count_taken : (row : Row) (n : ℕ) → count_of row ≡ Some n → count_row_kind row ≡ None
unfolding count_row_kind count_of is_dollar
count_taken [] n e = absurd cc
count_taken (f ∷ []) n e = let d = whole_no_dollar f (ap is_some e) in rw (d, e) refl
count_taken (f ∷ g ∷ more) n e = absurd cc

pub node_count_free : (row : Row) → node_count_row_kind row ≡ None → (n : ℕ) × (count_of row ≡ Some n) × (n ≤ 16384)
unfolding node_count_row_kind
node_count_free row e =
    let one = both_none _ _ e in
    let two = both_none _ _ one.1 in
    let count = count_free row one.0 in
    let few : nat_lt 16384 count.0 ≡ false = ap (λ (o : Option ℕ). nat_lt 16384 (unwrap_or o 0)) (sym count.1) ∙ no_kind _ _ two.0 in
    (count.0, count.1, grind (arith, nat_tests))

pub node_count_taken : (row : Row) (n : ℕ) → count_of row ≡ Some n → n ≤ 16384 → node_count_row_kind row ≡ None
unfolding node_count_row_kind
node_count_taken row n e few =
    let fine : nat_lt 16384 n ≡ false = grind (arith, nat_tests) in
    rw (count_taken row n e, e, fine) refl

-- ---- the format

pub record Format (row : Row) : Type 0 where
  pub size : List ℕ
  pub fields : row ≡ codes "2.2" ∷ codes "0" ∷ size ∷ []
  pub whole : IsSome (whole_of size)

format_shape : (row : Row) (n : ℕ) → (length row == 3) ≡ true → bytes_eq (field_at row 0) (codes "2.2") ≡ true → bytes_eq (field_at row 1) (codes "0") ≡ true → whole_of (field_at row 2) ≡ Some n → Format row
format_shape [] n l a b w = absurd cc
format_shape (f ∷ []) n l a b w = absurd cc
format_shape (f ∷ g ∷ []) n l a b w = absurd cc
format_shape (f ∷ g ∷ h ∷ []) n l a b w = record { size = h; fields = λ i. bytes_eq-true f (codes "2.2") a i ∷ bytes_eq-true g (codes "0") b i ∷ h ∷ []; whole = ap is_some w }
format_shape (f ∷ g ∷ h ∷ k ∷ more) n l a b w = let len = eqb-true (length (f ∷ g ∷ h ∷ k ∷ more)) 3 l in absurd (omega (arith, len))

pub format_free : (row : Row) → format_row_kind row ≡ None → Format row
unfolding format_row_kind
format_free row e =
    let one = both_none _ _ e in
    let two = both_none _ _ one.1 in
    let three = both_none _ _ two.1 in
    let four = both_none _ _ three.1 in
    let five = both_none _ _ four.1 in
    let six = both_none _ _ five.1 in
    let whole = some_of (whole_of (field_at row 2)) _ six.0 in
    format_shape row whole.0 (not_false _ (no_kind _ _ two.0)) (not_false _ (no_kind _ _ three.0)) (not_false _ (no_kind _ _ five.0)) whole.1

whole_size : (o : Option ℕ) → is_some o ≡ true → kind_without o BadNumber ≡ None
whole_size (Some n) e = refl
whole_size None e = absurd cc

pub format_taken : (size : List ℕ) → IsSome (whole_of size) → format_row_kind (codes "2.2" ∷ codes "0" ∷ size ∷ []) ≡ None
unfolding format_row_kind is_dollar
format_taken size w = rw (whole_size (whole_of size) w) refl

-- ---- nodes

result_free : (r : Result ℤ DecErr) → grid_kind r ≡ None → is_some (place_of_result r) ≡ true
result_free (Ok x) e = refl
result_free (Err decimals.NotDecimal) e = absurd cc
result_free (Err decimals.OffGrid) e = absurd cc
result_free (Err decimals.OutOfBox) e = absurd cc

result_taken : (r : Result ℤ DecErr) (x : ℤ) → place_of_result r ≡ Some x → grid_kind r ≡ None
result_taken (Ok y) x e = refl
result_taken (Err f) x e = absurd cc

some_value : {X : Type 0} (o : Option X) → is_some o ≡ true → (x : X) × (o ≡ Some x)
some_value (Some x) e = (x, refl)
some_value None e = absurd cc

coordinate_free : (field : List ℕ) (digits : ℕ) (snap : Snap) → coordinate_kind field digits snap ≡ None → (x : ℤ) × (coordinate_of field digits snap ≡ Some x)
unfolding coordinate_kind coordinate_of
coordinate_free field digits snap e = some_value _ (result_free (grid_value field digits snap) e)

coordinate_taken : (field : List ℕ) (digits : ℕ) (snap : Snap) (x : ℤ) → coordinate_of field digits snap ≡ Some x → coordinate_kind field digits snap ≡ None
unfolding coordinate_kind coordinate_of
coordinate_taken field digits snap x e = result_taken (grid_value field digits snap) x e

place_free : (digits : ℕ) (snap : Snap) (x y z : List ℕ) → place_kind digits snap x y z ≡ None → (place : V3) × (place_at digits snap x y z ≡ Some place)
place_free digits snap x y z e =
    let one = both_none (coordinate_kind x digits snap) _ e in
    let two = both_none (coordinate_kind y digits snap) _ one.1 in
    let three = both_none (coordinate_kind z digits snap) _ two.1 in
    let a = coordinate_free x digits snap one.0 in
    let b = coordinate_free y digits snap two.0 in
    let c = coordinate_free z digits snap three.0 in
    (vector a.0 b.0 c.0, rw (a.1, b.1, c.1) refl)

place_taken : (digits : ℕ) (snap : Snap) (x y z : List ℕ) (place : V3) → place_at digits snap x y z ≡ Some place → place_kind digits snap x y z ≡ None
place_taken digits snap x y z place e =
    bind_some (coordinate_of x digits snap) _ place e (λ a a-is e.
    bind_some (coordinate_of y digits snap) _ place e (λ b b-is e.
    bind_some (coordinate_of z digits snap) _ place e (λ c c-is e.
    rw (coordinate_taken x digits snap a a-is, coordinate_taken y digits snap b b-is, coordinate_taken z digits snap c c-is) refl)))

pub record NodeRow (digits : ℕ) (snap : Snap) (numbers : List ℕ) (row : Row) : Type 0 where
  pub node : ℕ × V3
  pub is_node : node_of digits snap row ≡ Some node
  pub fresh : position_of numbers node.0 ≡ None

none_of : {X : Type 0} (o : Option X) → is_some o ≡ false → o ≡ None
none_of (Some x) e = absurd cc
none_of None e = refl

node_value : (digits : ℕ) (snap : Snap) (name x y z : List ℕ) (n : ℕ) (place : V3) → number_of name ≡ Some n → place_at digits snap x y z ≡ Some place → node_of digits snap (name ∷ x ∷ y ∷ z ∷ []) ≡ Some (n, place)
unfolding node_of
node_value digits snap name x y z n place e f = rw (e, f) refl

node_shape : (digits : ℕ) (snap : Snap) (numbers : List ℕ) (row : Row) (n : ℕ) (place : V3) → (length row == 4) ≡ true → number_of (field_at row 0) ≡ Some n → place_at digits snap (field_at row 1) (field_at row 2) (field_at row 3) ≡ Some place
    → position_of numbers n ≡ None → NodeRow digits snap numbers row
node_shape digits snap numbers [] n place l e f g = absurd cc
node_shape digits snap numbers (a ∷ []) n place l e f g = absurd cc
node_shape digits snap numbers (a ∷ b ∷ []) n place l e f g = absurd cc
node_shape digits snap numbers (a ∷ b ∷ c ∷ []) n place l e f g = absurd cc
node_shape digits snap numbers (a ∷ b ∷ c ∷ d ∷ []) n place l e f g = record { node = (n, place); is_node = node_value digits snap a b c d n place e f; fresh = g }
node_shape digits snap numbers (a ∷ b ∷ c ∷ d ∷ k ∷ more) n place l e f g = let len = eqb-true (length (a ∷ b ∷ c ∷ d ∷ k ∷ more)) 4 l in absurd (omega (arith, len))

node_at-number : (numbers field : List ℕ) (n : ℕ) → number_of field ≡ Some n → node_at numbers field ≡ position_of numbers n
unfolding node_at
node_at-number numbers field n e = rw e refl

pub node_free : (digits : ℕ) (snap : Snap) (numbers : List ℕ) (row : Row) → node_row_kind digits snap numbers row ≡ None → NodeRow digits snap numbers row
unfolding node_row_kind
node_free digits snap numbers row e =
    let one = both_none _ _ e in
    let two = both_none _ _ one.1 in
    let three = both_none _ _ two.1 in
    let four = both_none _ _ three.1 in
    let five = both_none (place_kind digits snap (field_at row 1) (field_at row 2) (field_at row 3)) _ four.1 in
    let number = some_of (number_of (field_at row 0)) _ three.0 in
    let place = place_free digits snap (field_at row 1) (field_at row 2) (field_at row 3) five.0 in
    let fresh : position_of numbers number.0 ≡ None = sym (node_at-number numbers (field_at row 0) number.0 number.1) ∙ none_of _ (no_kind _ _ four.0) in
    node_shape digits snap numbers row number.0 place.0 (not_false _ (no_kind _ _ two.0)) number.1 place.1 fresh

node_kinds : (digits : ℕ) (snap : Snap) (numbers : List ℕ) (name x y z : List ℕ) (n : ℕ) (place : V3) → number_of name ≡ Some n → place_at digits snap x y z ≡ Some place → position_of numbers n ≡ None
    → node_row_kind digits snap numbers (name ∷ x ∷ y ∷ z ∷ []) ≡ None
unfolding node_row_kind is_dollar
node_kinds digits snap numbers name x y z n place e f g =
    let d = number_no_dollar name n e in
    let fresh : node_at numbers name ≡ None = node_at-number numbers name n e ∙ g in
    rw (d, e, fresh, place_taken digits snap x y z place f) refl

pub node_taken : (digits : ℕ) (snap : Snap) (numbers : List ℕ) (row : Row) (node : ℕ × V3) → node_of digits snap row ≡ Some node → position_of numbers node.0 ≡ None → node_row_kind digits snap numbers row ≡ None
unfolding node_of
node_taken digits snap numbers [] node e g = absurd cc
node_taken digits snap numbers (a ∷ []) node e g = absurd cc
node_taken digits snap numbers (a ∷ b ∷ []) node e g = absurd cc
node_taken digits snap numbers (a ∷ b ∷ c ∷ []) node e g = absurd cc
node_taken digits snap numbers (a ∷ b ∷ c ∷ d ∷ []) node e g =
    bind_some (number_of a) _ node e (λ n n-is e.
    bind_some (place_at digits snap b c d) _ node e (λ place place-is e.
    let same : (n, place) ≡ node = same_Some _ _ e in
    node_kinds digits snap numbers a b c d n place n-is place-is (ap (λ (m : ℕ × V3). position_of numbers m.0) same ∙ g)))
node_taken digits snap numbers (a ∷ b ∷ c ∷ d ∷ k ∷ more) node e g = absurd cc

pub node_number : (digits : ℕ) (snap : Snap) (row : Row) (node : ℕ × V3) → node_of digits snap row ≡ Some node → IsNumber node.0
unfolding node_of
node_number digits snap [] node e = absurd cc
node_number digits snap (a ∷ []) node e = absurd cc
node_number digits snap (a ∷ b ∷ []) node e = absurd cc
node_number digits snap (a ∷ b ∷ c ∷ []) node e = absurd cc
node_number digits snap (a ∷ b ∷ c ∷ d ∷ []) node e =
    bind_some (number_of a) _ node e (λ n n-is e.
    bind_some (place_at digits snap b c d) _ node e (λ place place-is e.
    subst (λ (m : ℕ × V3). IsNumber m.0) (same_Some _ _ e) (number_found a n n-is)))
node_number digits snap (a ∷ b ∷ c ∷ d ∷ k ∷ more) node e = absurd cc

-- ---- elements

by_type : (o : Option ElementType) (kind : MshKind) → kind_without o kind ≡ None → (type : ElementType) × (o ≡ Some type)
by_type (Some type) kind e = (type, refl)
by_type None kind e = absurd cc

by_code : (o : Option ℕ) → code_kind o ≡ None → (type : ElementType) × ((o >>= (λ code. type_of_code code)) ≡ Some type)
by_code (Some code) e = by_type (type_of_code code) _ e
by_code None e = absurd cc

code_taken : (o : Option ℕ) (type : ElementType) → (o >>= (λ code. type_of_code code)) ≡ Some type → code_kind o ≡ None
code_taken (Some code) type e = rw e refl
code_taken None type e = absurd cc

type_free : (field : List ℕ) → type_kind field ≡ None → (type : ElementType) × (element_type_of field ≡ Some type)
unfolding type_kind element_type_of
type_free field e = by_code (whole_of field) e

type_taken : (field : List ℕ) (type : ElementType) → element_type_of field ≡ Some type → type_kind field ≡ None
unfolding type_kind element_type_of
type_taken field type e = code_taken (whole_of field) type e

tag_free : (field : List ℕ) → tag_kind field ≡ None → is_some (tag_of field) ≡ true
tag_free field e = let s = some_of (tag_of field) _ e in ap is_some s.1

-- the parts of an element's row
pub record ElementParts (numbers : List ℕ) (name type count : List ℕ) (rest : List (List ℕ)) : Type 0 where
  pub number : ℕ
  pub ty : ElementType
  pub tag_count : ℕ
  pub tags : List ℤ
  pub nodes : List ℕ
  pub number_is : number_of name ≡ Some number
  pub type_is : element_type_of type ≡ Some ty
  pub count_is : tag_count_of count ≡ Some tag_count
  pub tags_are : every tag_of (take tag_count rest) ≡ Some tags
  pub nodes_are : every (node_at numbers) (drop tag_count rest) ≡ Some nodes
  pub counted : length rest ≡ tag_count + node_count ty

pub parts_value : (numbers : List ℕ) (name type count : List ℕ) (rest : List (List ℕ)) (p : ElementParts numbers name type count rest)
    → element_of numbers (name ∷ type ∷ count ∷ rest) ≡ Some (as_tet p.ty (tet p.number p.nodes p.tags))
parts_value numbers name type count rest p = value_of numbers name type count rest p.number p.ty p.tag_count p.tags p.nodes p.number_is p.type_is p.count_is p.tags_are p.nodes_are p.counted

-- a row that means an element has such parts
pub record HasParts (numbers : List ℕ) (row : Row) (element : Option Tet) : Type 0 where
  pub name : List ℕ
  pub type : List ℕ
  pub count : List ℕ
  pub rest : List (List ℕ)
  pub whole : row ≡ name ∷ type ∷ count ∷ rest
  pub parts : ElementParts numbers name type count rest
  pub element_is : as_tet parts.ty (tet parts.number parts.nodes parts.tags) ≡ element

pub parts_found : (numbers : List ℕ) (row : Row) (element : Option Tet) → element_of numbers row ≡ Some element → HasParts numbers row element
unfolding element_of
parts_found numbers [] element e = absurd cc
parts_found numbers (a ∷ []) element e = absurd cc
parts_found numbers (a ∷ b ∷ []) element e = absurd cc
parts_found numbers (a ∷ b ∷ c ∷ rest) element e =
    bind_some (number_of a) _ element e (λ n n-is e.
    bind_some (element_type_of b) _ element e (λ type type-is e.
    bind_some (tag_count_of c) _ element e (λ count count-is e.
    bind_some (every tag_of (take count rest)) _ element e (λ tags tags-are e.
    bind_some (every (node_at numbers) (drop count rest)) _ element e (λ nodes nodes-are e.
    let g = cond_some (length rest == count + node_count type) (as_tet type (tet n nodes tags)) element e in
    record {
      name = a;
      type = b;
      count = c;
      rest = rest;
      whole = refl;
      parts = record {
        number = n;
        ty = type;
        tag_count = count;
        tags = tags;
        nodes = nodes;
        number_is = n-is;
        type_is = type-is;
        count_is = count-is;
        tags_are = tags-are;
        nodes_are = nodes-are;
        counted = eqb-true _ _ g.0;
      };
      element_is = g.1;
    })))))

-- nothing is wrong with a row that means an element, but for its tetrahedron
every_taken : {X : Type 0} (of : List ℕ → Option X) (kind : List ℕ → Option MshKind) → ((field : List ℕ) (x : X) → of field ≡ Some x → kind field ≡ None) → (fields : List (List ℕ)) (xs : List X) → every of fields ≡ Some xs → first_of (map kind fields) ≡ None
unfolding every
every_taken of kind h [] xs e = refl
every_taken of kind h (field ∷ fields) xs e =
    bind_some (of field) _ xs e (λ x x-is e.
    bind_some (every of fields) _ xs e (λ others others-are e.
    rw (h field x x-is) (every_taken of kind h fields others others-are)))

tag_taken : (field : List ℕ) (t : ℤ) → tag_of field ≡ Some t → tag_kind field ≡ None
tag_taken field t e = rw e refl

node_field_taken : (numbers field : List ℕ) (i : ℕ) → node_at numbers field ≡ Some i → node_kind numbers field ≡ None
unfolding node_at node_kind
node_field_taken numbers field i e = bind_some (number_of field) _ i e (λ n n-is e. rw (n-is, e) refl)

head_taken : (numbers name type count : List ℕ) (rest : List (List ℕ)) (p : ElementParts numbers name type count rest) → head_kind (name ∷ type ∷ count ∷ rest) ≡ None
unfolding head_kind is_dollar
head_taken numbers name type count rest p =
    let d = number_no_dollar name p.number p.number_is in
    let long : nat_lt (length (name ∷ type ∷ count ∷ rest)) 3 ≡ false = grind (arith, nat_tests) in
    let len : (length (name ∷ type ∷ count ∷ rest) == 3 + (p.tag_count + node_count p.ty)) ≡ true = eq-eqb _ _ (omega (arith, p.counted)) in
    rw (d, long, p.number_is, type_taken type p.ty p.type_is, p.count_is, p.type_is, len) refl

parts_taken : (numbers : List ℕ) (tets : ℕ) (name type count : List ℕ) (rest : List (List ℕ)) (p : ElementParts numbers name type count rest) (element : Option Tet) → element_of numbers (name ∷ type ∷ count ∷ rest) ≡ Some element → tet_kind tets (Some element) ≡ None
    → element_row_kind numbers tets (name ∷ type ∷ count ∷ rest) ≡ None
unfolding element_row_kind
parts_taken numbers tets name type count rest p element e fine =
    let tags = every_taken tag_of tag_kind tag_taken (take p.tag_count rest) p.tags p.tags_are in
    let nodes = every_taken (node_at numbers) (node_kind numbers) (node_field_taken numbers) (drop p.tag_count rest) p.nodes p.nodes_are in
    rw (head_taken numbers name type count rest p, p.count_is, tags, nodes, e, fine) refl

pub element_taken : (numbers : List ℕ) (tets : ℕ) (row : Row) (element : Option Tet) → element_of numbers row ≡ Some element → tet_kind tets (Some element) ≡ None → element_row_kind numbers tets row ≡ None
element_taken numbers tets row element e fine =
    let h = parts_found numbers row element e in
    ap (element_row_kind numbers tets) h.whole
    ∙ parts_taken numbers tets h.name h.type h.count h.rest h.parts element (ap (element_of numbers) (sym h.whole) ∙ e) fine

-- a row with which nothing is wrong means an element
pub record ElementRow (numbers : List ℕ) (tets : ℕ) (row : Row) : Type 0 where
  pub element : Option Tet
  pub is_element : element_of numbers row ≡ Some element
  pub fine : tet_kind tets (Some element) ≡ None

element_shape : (numbers : List ℕ) (row : Row) (n : ℕ) (type : ElementType) (count : ℕ) (tags : List ℤ) (nodes : List ℕ) → number_of (field_at row 0) ≡ Some n → element_type_of (field_at row 1) ≡ Some type → tag_count_of (field_at row 2) ≡ Some count
    → every tag_of (take count (drop 3 row)) ≡ Some tags → every (node_at numbers) (drop count (drop 3 row)) ≡ Some nodes → length row ≡ 3 + (count + node_count type) → element_of numbers row ≡ Some (as_tet type (tet n nodes tags))
element_shape numbers [] n type count tags nodes a b c d e l = absurd (omega (arith, l))
element_shape numbers (f ∷ []) n type count tags nodes a b c d e l = absurd (omega (arith, l))
element_shape numbers (f ∷ g ∷ []) n type count tags nodes a b c d e l = absurd (omega (arith, l))
element_shape numbers (f ∷ g ∷ h ∷ rest) n type count tags nodes a b c d e l = value_of numbers f g h rest n type count tags nodes a b c d e (omega (arith, l))

pub element_free : (numbers : List ℕ) (tets : ℕ) (row : Row) → element_row_kind numbers tets row ≡ None → ElementRow numbers tets row
unfolding element_row_kind head_kind
element_free numbers tets row e =
    let head = both_none (head_kind row) _ e in
    let tags = both_none (first_of (map tag_kind (tag_fields row))) _ head.1 in
    let nodes = both_none (first_of (map (node_kind numbers) (node_fields row))) _ tags.1 in
    let last = both_none (tet_kind tets (element_of numbers row)) _ nodes.1 in
    let one = both_none _ _ head.0 in
    let two = both_none _ _ one.1 in
    let three = both_none _ _ two.1 in
    let four = both_none (type_kind (field_at row 1)) _ three.1 in
    let five = both_none _ _ four.1 in
    let six = both_none _ _ five.1 in
    let number = some_of (number_of (field_at row 0)) _ three.0 in
    let type = type_free (field_at row 1) four.0 in
    let count = some_of (tag_count_of (field_at row 2)) _ five.0 in
    let first_tags : take (unwrap_or (tag_count_of (field_at row 2)) 0) (drop 3 row) ≡ take count.0 (drop 3 row) = ap (λ (o : Option ℕ). take (unwrap_or o 0) (drop 3 row)) count.1 in
    let other : drop (unwrap_or (tag_count_of (field_at row 2)) 0) (drop 3 row) ≡ drop count.0 (drop 3 row) = ap (λ (o : Option ℕ). drop (unwrap_or o 0) (drop 3 row)) count.1 in
    let some_tags = some_value (every tag_of (tag_fields row)) (every_there tag_of tag_kind tag_free (tag_fields row) tags.0) in
    let some_nodes = some_value (every (node_at numbers) (node_fields row)) (every_there (node_at numbers) (node_kind numbers) (node_there numbers) (node_fields row) nodes.0) in
    let long : length row ≡ 3 + (count.0 + node_count type.0) = eqb-true _ _ (not_false _ (no_kind _ _ six.0)) ∙ (λ i. field_count_of (type.1 i) (count.1 i)) in
    let value = element_shape numbers row number.0 type.0 count.0 some_tags.0 some_nodes.0 number.1 type.1 count.1 (ap (every tag_of) (sym first_tags) ∙ some_tags.1) (ap (every (node_at numbers)) (sym other) ∙ some_nodes.1) long in
    record {
      element = as_tet type.0 (tet number.0 some_nodes.0 some_tags.0);
      is_element = value;
      fine = ap (tet_kind tets) (sym value) ∙ last.0;
    }
