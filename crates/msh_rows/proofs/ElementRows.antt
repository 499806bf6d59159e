-- The row of an element, from its parts.
use Rattle.std.proofs.Common.{◌≡◌, ◌∙◌, ℕ, ◌+◌, Bool, true, ℤ, List, [], ◌∷◌, length, map, take, drop, Option, Some, None, refl, sym, ap}
use Rattle.std.specs.Prelude.{is_some}
use Rattle.std.proofs.lemmas.Bool.{eq-eqb}
use Rattle.line_fields.specs.Lines.{fields, tag_of, whole_of, is_whole}
use Rattle.space3.specs.declared.lists.Tet.{Tet}
use Rattle.mesh_words.specs.declared.kinds.MshKind.{MshKind}
use Rattle.mesh_words.specs.declared.kinds.MshKind.TheVariants.{UnknownNode}
use Rattle.mesh_words.specs.declared.elements.ElementType.{ElementType}
use Rattle.mesh_words.specs.declared.elements.ElementType.TheVariants.{Point, Line, Triangle, Tetrahedron}
use Rattle.mesh_words.specs.Rows.{Row, field_at}
use Rattle.mesh_words.specs.Numbers.{◌>>=◌, number_of, tag_count_of, node_at, position_of}
use Rattle.mesh_words.specs.Elements.{element_type_of, node_count}
use Rattle.mesh_words.specs.Kinds.{first_of, or_else, node_kind, name_kind, kind_without}
use Rattle.msh_rows.specs.declared.elements.Head.{Head}
use Rattle.msh_rows.specs.declared.elements.RowErr.{RowErr}
use Rattle.msh_rows.specs.declared.elements.RowErr.TheVariants as errors
use Rattle.msh_rows.specs.Rows.{every, element_of, as_tet, tet}
use Rattle.msh_rows.specs.RowKinds.{tag_kind, head_kind, corner_kind, tet_kind, element_row_kind, FailsRow}
use Rattle.msh_rows.specs.Calls.Elements.{IsHead, AreTags, corners_kind}

-- ---- what an element's row means

-- nothing but a row of three fields and more has a type and a number of tags
pub record Shape (row : Row) : Type 0 where
  pub name : List ℕ
  pub type : List ℕ
  pub count : List ℕ
  pub rest : List (List ℕ)
  pub whole : row ≡ name ∷ type ∷ count ∷ rest

no_type : element_type_of [] ≡ None
unfolding element_type_of whole_of is_whole
no_type = refl

no_count : tag_count_of [] ≡ None
unfolding tag_count_of whole_of is_whole
no_count = refl

pub shape_of : (row : Row) (type : ElementType) (tags : ℕ) → element_type_of (field_at row 1) ≡ Some type → tag_count_of (field_at row 2) ≡ Some tags → Shape row
shape_of [] type tags t n = let none = no_type in absurd cc
shape_of (a ∷ []) type tags t n = let none = no_type in absurd cc
shape_of (a ∷ b ∷ []) type tags t n = let none = no_count in absurd cc
shape_of (a ∷ b ∷ c ∷ rest) type tags t n = record { name = a; type = b; count = c; rest = rest; whole = refl }

pub value_of : (numbers : List ℕ) (name type count : List ℕ) (rest : List (List ℕ)) (number : ℕ) (ty : ElementType) (n : ℕ) (tags : List ℤ) (nodes : List ℕ)
    → number_of name ≡ Some number → element_type_of type ≡ Some ty → tag_count_of count ≡ Some n → every tag_of (take n rest) ≡ Some tags → every (node_at numbers) (drop n rest) ≡ Some nodes
    → length rest ≡ n + node_count ty → element_of numbers (name ∷ type ∷ count ∷ rest) ≡ Some (as_tet ty (tet number nodes tags))
unfolding element_of
value_of numbers name type count rest number ty n tags nodes e1 e2 e3 e4 e5 e6 = let len = eq-eqb (length rest) (n + node_count ty) e6 in rw (e1, e2, e3, e4, e5, len) refl

-- an element whose parts are known
pub record Parts (numbers : List ℕ) (row : Row) (head : Head) (rest : List (List ℕ)) (tags : List ℤ) : Type 0 where
  pub free : head_kind row ≡ None
  pub is_head : IsHead row head
  pub are_tags : AreTags head.tag_count (fields head.rest.now) rest tags

element_by_shape : (numbers : List ℕ) (row : Row) (head : Head) (rest : List (List ℕ)) (tags : List ℤ) (nodes : List ℕ) → Shape row → Parts numbers row head rest tags → every (node_at numbers) rest ≡ Some nodes
    → element_of numbers row ≡ Some (as_tet head.element_type (tet head.number nodes tags))
element_by_shape numbers row head rest tags nodes s p e =
    let h = p.is_head in
    let t = p.are_tags in
    let same : s.rest ≡ fields head.rest.now = sym (ap (drop 3) s.whole) ∙ h.rest in
    let number : number_of s.name ≡ Some head.number = ap (λ (r : Row). number_of (field_at r 0)) (sym s.whole) ∙ h.number in
    let type : element_type_of s.type ≡ Some head.element_type = ap (λ (r : Row). element_type_of (field_at r 1)) (sym s.whole) ∙ h.type_is in
    let count : tag_count_of s.count ≡ Some head.tag_count = ap (λ (r : Row). tag_count_of (field_at r 2)) (sym s.whole) ∙ h.tags in
    ap (element_of numbers) s.whole
    ∙ value_of numbers s.name s.type s.count s.rest head.number head.element_type head.tag_count tags nodes number type count
    (ap (λ (fs : List (List ℕ)). every tag_of (take head.tag_count fs)) same ∙ t.tags_are)
    (ap (λ (fs : List (List ℕ)). every (node_at numbers) (drop head.tag_count fs)) same ∙ ap (every (node_at numbers)) (sym t.rest_is) ∙ e)
    (ap length same ∙ h.counted)

pub element_is : (numbers : List ℕ) (row : Row) (head : Head) (rest : List (List ℕ)) (tags : List ℤ) (nodes : List ℕ) → Parts numbers row head rest tags → every (node_at numbers) rest ≡ Some nodes
    → element_of numbers row ≡ Some (as_tet head.element_type (tet head.number nodes tags))
element_is numbers row head rest tags nodes p e = element_by_shape numbers row head rest tags nodes (shape_of row head.element_type head.tag_count p.is_head.type_is p.is_head.tags) p e

-- ---- what is wrong with it

pub head_wrong : (numbers : List ℕ) (tets : ℕ) (row : Row) (kind : MshKind) → head_kind row ≡ Some kind → element_row_kind numbers tets row ≡ Some kind
unfolding element_row_kind
head_wrong numbers tets row kind e = rw e refl

after_head : (numbers : List ℕ) (tets : ℕ) (row : Row) (head : Head) → head_kind row ≡ None → IsHead row head
    → element_row_kind numbers tets row ≡ or_else (first_of (map tag_kind (take head.tag_count (fields head.rest.now)))) (or_else (first_of (map (node_kind numbers) (drop head.tag_count (fields head.rest.now)))) (or_else (tet_kind tets (element_of numbers row)) None))
unfolding element_row_kind
after_head numbers tets row head e h = rw (e, h.tags, h.rest) refl

tags_fail : (e : RowErr) (kind more total : Option MshKind) → total ≡ or_else kind more → FailsRow e kind → FailsRow e total
tags_fail errors.Memory kind more total t h = tt
tags_fail (errors.Kind k) kind more total t h = t ∙ rw h refl

pub tags_wrong : (numbers : List ℕ) (tets : ℕ) (row : Row) (head : Head) (e : RowErr) → head_kind row ≡ None → IsHead row head → FailsRow e (first_of (map tag_kind (take head.tag_count (fields head.rest.now)))) → FailsRow e (element_row_kind numbers tets row)
tags_wrong numbers tets row head e free h f = tags_fail e _ _ _ (after_head numbers tets row head free h) f

after_tags : (numbers : List ℕ) (tets : ℕ) (row : Row) (head : Head) (rest : List (List ℕ)) (tags : List ℤ) → Parts numbers row head rest tags
    → element_row_kind numbers tets row ≡ or_else (first_of (map (node_kind numbers) rest)) (or_else (tet_kind tets (element_of numbers row)) None)
after_tags numbers tets row head rest tags p =
    after_head numbers tets row head p.free p.is_head ∙ rw (p.are_tags.kinds, p.are_tags.rest_is) refl

pub nodes_wrong : (numbers : List ℕ) (tets : ℕ) (row : Row) (head : Head) (rest : List (List ℕ)) (tags : List ℤ) (kind : MshKind) → Parts numbers row head rest tags → first_of (map (node_kind numbers) rest) ≡ Some kind → element_row_kind numbers tets row ≡ Some kind
nodes_wrong numbers tets row head rest tags kind p e = after_tags numbers tets row head rest tags p ∙ rw e refl

corners_fail : (nodes tet_wrong : Option MshKind) (o : Option (List ℕ)) (tets : ℕ) (kind : MshKind) → or_else nodes (corners_kind tets o) ≡ Some kind → ((corners : List ℕ) → o ≡ Some corners → tet_wrong ≡ corner_kind tets corners) → or_else nodes (or_else tet_wrong None) ≡ Some kind
corners_fail (Some k) tet_wrong o tets kind e h = e
corners_fail None tet_wrong None tets kind e h = absurd cc
corners_fail None tet_wrong (Some corners) tets kind e h = rw (h corners refl, e) refl

pub corners_wrong : (numbers : List ℕ) (tets : ℕ) (row : Row) (head : Head) (rest : List (List ℕ)) (tags : List ℤ) (kind : MshKind) → Parts numbers row head rest tags → head.element_type ≡ Tetrahedron
    → or_else (first_of (map (node_kind numbers) rest)) (corners_kind tets (every (node_at numbers) rest)) ≡ Some kind → element_row_kind numbers tets row ≡ Some kind
corners_wrong numbers tets row head rest tags kind p type e =
    after_tags numbers tets row head rest tags p
    ∙ corners_fail _ _ (every (node_at numbers) rest) tets kind e (λ corners c. ap (tet_kind tets) (element_is numbers row head rest tags corners p c ∙ ap (λ (ty : ElementType). Some (as_tet ty (tet head.number corners tags))) type))

-- ---- nothing is

pub both_none : (nodes more : Option MshKind) → or_else nodes more ≡ None → (nodes ≡ None) × (more ≡ None)
both_none (Some k) more e = absurd cc
both_none None more e = (refl, e)

pub record IsTet (numbers : List ℕ) (tets : ℕ) (row : Row) (found : Option Tet) : Type 0 where
  pub free : element_row_kind numbers tets row ≡ None
  pub value : element_of numbers row ≡ Some found

pub tet_right : (numbers : List ℕ) (tets : ℕ) (row : Row) (head : Head) (rest : List (List ℕ)) (tags : List ℤ) (corners : List ℕ) → Parts numbers row head rest tags → head.element_type ≡ Tetrahedron
    → or_else (first_of (map (node_kind numbers) rest)) (corners_kind tets (every (node_at numbers) rest)) ≡ None → every (node_at numbers) rest ≡ Some corners
    → IsTet numbers tets row (Some (tet head.number corners tags))
tet_right numbers tets row head rest tags corners p type e c =
    let value : element_of numbers row ≡ Some (Some (tet head.number corners tags)) = element_is numbers row head rest tags corners p c ∙ ap (λ (ty : ElementType). Some (as_tet ty (tet head.number corners tags))) type in
    let both = both_none (first_of (map (node_kind numbers) rest)) (corners_kind tets (every (node_at numbers) rest)) e in
    let fine : corner_kind tets corners ≡ None = ap (corners_kind tets) (sym c) ∙ both.1 in
    record { free = after_tags numbers tets row head rest tags p ∙ rw (both.0, value, fine) refl; value = value }

some_from : (o : Option ℕ) → kind_without o UnknownNode ≡ None → is_some o ≡ true
some_from (Some i) e = refl
some_from None e = absurd cc

named : (o : Option ℕ) (numbers : List ℕ) → name_kind numbers o ≡ None → is_some (o >>= (λ n. position_of numbers n)) ≡ true
named (Some n) numbers e = some_from (position_of numbers n) e
named None numbers e = absurd cc

pub node_there : (numbers : List ℕ) (field : List ℕ) → node_kind numbers field ≡ None → is_some (node_at numbers field) ≡ true
unfolding node_kind node_at
node_there numbers field e = named (number_of field) numbers e

-- where nothing is wrong with each field, each is something
every_step : {X : Type 0} (of : List ℕ → Option X) (field : List ℕ) (fields : List (List ℕ)) (o : Option X) (p : Option (List X)) → of field ≡ o → every of fields ≡ p → is_some o ≡ true → is_some p ≡ true → is_some (every of (field ∷ fields)) ≡ true
unfolding every
every_step of field fields (Some i) (Some is) e f a b = rw (e, f) refl
every_step of field fields (Some i) None e f a b = absurd cc
every_step of field fields None p e f a b = absurd cc

pub every_there : {X : Type 0} (of : List ℕ → Option X) (kind : List ℕ → Option MshKind) → ((field : List ℕ) → kind field ≡ None → is_some (of field) ≡ true) → (fields : List (List ℕ)) → first_of (map kind fields) ≡ None → is_some (every of fields) ≡ true
unfolding every
every_there of kind h [] e = refl
every_there of kind h (field ∷ fields) e =
    let both = both_none (kind field) (first_of (map kind fields)) e in
    every_step of field fields (of field) (every of fields) refl refl (h field both.0) (every_there of kind h fields both.1)

other_type : (type : ElementType) (t : Tet) → (type ≡ Tetrahedron → ⊥) → as_tet type t ≡ None
other_type Point t h = refl
other_type Line t h = refl
other_type Triangle t h = refl
other_type Tetrahedron t h = absurd (h refl)

other_by_nodes : (numbers : List ℕ) (tets : ℕ) (row : Row) (head : Head) (rest : List (List ℕ)) (tags : List ℤ) (o : Option (List ℕ)) → Parts numbers row head rest tags → (head.element_type ≡ Tetrahedron → ⊥) → first_of (map (node_kind numbers) rest) ≡ None
    → every (node_at numbers) rest ≡ o → is_some o ≡ true → IsTet numbers tets row None
other_by_nodes numbers tets row head rest tags (Some nodes) p type e c s =
    let value : element_of numbers row ≡ Some None = element_is numbers row head rest tags nodes p c ∙ ap (λ (t : Option Tet). Some t) (other_type head.element_type (tet head.number nodes tags) type) in
    record { free = after_tags numbers tets row head rest tags p ∙ rw (e, value) refl; value = value }
other_by_nodes numbers tets row head rest tags None p type e c s = absurd cc

pub other_right : (numbers : List ℕ) (tets : ℕ) (row : Row) (head : Head) (rest : List (List ℕ)) (tags : List ℤ) → Parts numbers row head rest tags → (head.element_type ≡ Tetrahedron → ⊥) → first_of (map (node_kind numbers) rest) ≡ None
    → IsTet numbers tets row None
other_right numbers tets row head rest tags p type e = other_by_nodes numbers tets row head rest tags (every (node_at numbers) rest) p type e refl (every_there (node_at numbers) (node_kind numbers) (node_there numbers) rest e)
