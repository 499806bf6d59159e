-- The mesh that a text in Gmsh's MSH 2.2 means. A text is taken as its rows: the lines that have a field, each as the list
-- of its fields.
use Rattle.std.specs.Prelude.{◌≡◌, ◌++◌, ℕ, false, true, List, [], ◌∷◌, map, length, codes, Option, Some, None, IsSome, All}
use Rattle.std.specs.List.{zip, flat_map}
use Rattle.line_fields.specs.Lines.{whole_of}
use Rattle.dec_text.specs.declared.Snap.{Snap}
use Rattle.space3.specs.declared.vectors.V3.{V3}
use Rattle.space3.specs.declared.lists.Tet.{Tet}
use Rattle.space3.specs.declared.mesh.Mesh.{Mesh}
use Rattle.space3.specs.Mesh.{IsSound}
use Rattle.mesh_words.specs.Rows.{Row, is_word, is_end, name_of}
use Rattle.msh_rows.specs.declared.sections.Opening.{Opening}
use Rattle.msh_rows.specs.declared.sections.Opening.TheVariants as openings
use Rattle.msh_rows.specs.Rows.{opening_of, count_of, node_of, element_of}

-- rows that are skipped: rows that open nothing, and sections of other names
pub data AreSkipped : List Row → Type 0 where
  nothing_skipped : AreSkipped []
  row_skipped : {row : Row} {rows : List Row} → opening_of row ≡ openings.Nothing → AreSkipped rows → AreSkipped (row ∷ rows)
  section_skipped : {opening : Row} {more : List Row} (inside : List Row) (ending : Row) (rows : List Row)
      → opening_of opening ≡ openings.Other
      → All (λ row. is_end (name_of opening) row ≡ false) inside
      → is_end (name_of opening) ending ≡ true
      → more ≡ inside ++ ending ∷ rows
      → AreSkipped rows
      → AreSkipped (opening ∷ more)

-- a section: a row that opens it, the content, and a row that begins with its end word
pub record IsSection (opens : Opening) (end_word : List ℕ) (content rows : List Row) : Type 0 where
  pub opening : Row
  pub ending : Row
  pub opens_it : opening_of opening ≡ opens
  pub ends_it : is_word end_word ending ≡ true
  pub whole : rows ≡ opening ∷ content ++ ending ∷ []

-- version 2.2 as text, and the size of its numbers
pub record IsFormat (row : Row) : Type 0 where
  pub size : List ℕ
  pub fields : row ≡ codes "2.2" ∷ codes "0" ∷ size ∷ []
  pub whole : IsSome (whole_of size)

pub record IsFormatSection (rows : List Row) : Type 0 where
  pub format : Row
  pub section : IsSection openings.Format (codes "$EndMeshFormat") (format ∷ []) rows
  pub is_format : IsFormat format

-- a row with a count, and as many rows
pub record IsCounted (items content : List Row) : Type 0 where
  pub count : Row
  pub rows : content ≡ count ∷ items
  pub counted : count_of count ≡ Some (length items)

-- the nodes: each row is the node at its place in the lists
pub record IsNodeSection (digits : ℕ) (snap : Snap) (rows : List Row) (numbers : List ℕ) (places : List V3) : Type 0 where
  pub content : List Row
  pub nodes : List Row
  pub section : IsSection openings.Nodes (codes "$EndNodes") content rows
  pub counted : IsCounted nodes content
  pub each : map (node_of digits snap) nodes ≡ map Some (zip numbers places)

-- a tetrahedron is kept, and no other element
abbrev pub kept : Option Tet → List Tet
kept (Some tet) = tet ∷ []
kept None = []

-- the elements: each row is an element over the nodes of these numbers, and the tetrahedra among them are kept
pub record IsElementSection (rows : List Row) (numbers : List ℕ) (tets : List Tet) : Type 0 where
  pub content : List Row
  pub elements : List Row
  pub section : IsSection openings.Elements (codes "$EndElements") content rows
  pub counted : IsCounted elements content
  pub each_is : List (Option Tet)
  pub each : map (element_of numbers) elements ≡ map Some each_is
  pub kept_are : tets ≡ flat_map kept each_is

-- The rows are the three sections in their order, between rows that are skipped, and they mean this mesh, which is sound.
pub record Means (digits : ℕ) (snap : Snap) (rows : List Row) (mesh : Mesh) : Type 0 where
  pub before : List Row
  pub format_section : List Row
  pub between : List Row
  pub node_section : List Row
  pub then : List Row
  pub element_section : List Row
  pub after : List Row
  pub whole : rows ≡ before ++ (format_section ++ (between ++ (node_section ++ (then ++ (element_section ++ after)))))
  pub skipped_before : AreSkipped before
  pub skipped_between : AreSkipped between
  pub skipped_then : AreSkipped then
  pub skipped_after : AreSkipped after
  pub format : IsFormatSection format_section
  pub nodes : IsNodeSection digits snap node_section mesh.numbers mesh.places
  pub elements : IsElementSection element_section mesh.numbers mesh.tets
  pub sound : IsSound mesh
