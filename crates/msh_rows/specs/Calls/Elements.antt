-- An element's row part by part.
use Rattle.std.specs.Prelude.{◌≡◌, ℕ, ℤ, ◌+◌, ◌++◌, List, map, take, drop, length, Option, Some, None, Result, Ok, Err}
use Rattle.line_fields.specs.Lines.{fields, tag_of}
use Rattle.mesh_words.specs.declared.kinds.MshKind.{MshKind}
use Rattle.mesh_words.specs.Rows.{Row, field_at}
use Rattle.mesh_words.specs.Numbers.{number_of, tag_count_of}
use Rattle.mesh_words.specs.Elements.{element_type_of, node_count}
use Rattle.mesh_words.specs.Kinds.{first_of}
use Rattle.msh_rows.specs.declared.elements.Head.{Head}
use Rattle.msh_rows.specs.declared.elements.RowErr.{RowErr}
use Rattle.msh_rows.specs.Rows.{every}
use Rattle.msh_rows.specs.RowKinds.{tag_kind, corner_kind, FailsRow}

-- what stands before an element's tags, and the fields that follow
pub record IsHead (row : Row) (head : Head) : Type 0 where
  pub number : number_of (field_at row 0) ≡ Some head.number
  pub type_is : element_type_of (field_at row 1) ≡ Some head.element_type
  pub tags : tag_count_of (field_at row 2) ≡ Some head.tag_count
  pub rest : drop 3 row ≡ fields head.rest.now
  pub counted : length (fields head.rest.now) ≡ head.tag_count + node_count head.element_type

-- the tags that the first fields are, and the fields that follow
pub record AreTags (count : ℕ) (all rest : List (List ℕ)) (tags : List ℤ) : Type 0 where
  pub kinds : first_of (map tag_kind (take count all)) ≡ None
  pub tags_are : every tag_of (take count all) ≡ Some tags
  pub rest_is : rest ≡ drop count all

abbrev pub TagsRead : {X : Type 0} → (X → List (List ℕ)) → ℕ → List (List ℕ) → Result X RowErr → List ℤ → Type 0
TagsRead view count all (Ok rest) tags = AreTags count all (view rest) tags
TagsRead view count all (Err e) tags = FailsRow e (first_of (map tag_kind (take count all)))

-- tags after those that are known
abbrev pub after_tags : List ℤ → Option (List ℤ) → Option (List ℤ)
after_tags known (Some tags) = Some (known ++ tags)
after_tags known None = None

-- what is wrong with four nodes, where they are known
abbrev pub corners_kind : ℕ → Option (List ℕ) → Option MshKind
corners_kind tets (Some corners) = corner_kind tets corners
corners_kind tets None = None
