-- The loop over an element's tags.
use Rattle.std.proofs.Common.{◌≡◌, ◌≤◌, ◌<◌, ◌+◌, ◌-◌, ◌∙◌, ℕ, zero, suc, ℤ, List, [], ◌∷◌, ◌++◌, length, map, take, drop, Option, Some, None, refl, sym, ap, append_assoc, arith}
use Rattle.std.proofs.lemmas.List.{append-nil}
use Rattle.line_fields.specs.Lines.{tag_of}
use Rattle.mesh_words.specs.declared.kinds.MshKind.{MshKind}
use Rattle.mesh_words.specs.declared.kinds.MshKind.TheVariants.{BadNumber}
use Rattle.mesh_words.specs.Numbers.{◌>>=◌}
use Rattle.mesh_words.specs.Kinds.{first_of}
use Rattle.msh_rows.specs.Rows.{every}
use Rattle.msh_rows.specs.RowKinds.{tag_kind}
use Rattle.msh_rows.specs.Calls.Elements.{AreTags, after_tags}

abbrev Fields : Type 0
Fields = List (List ℕ)

-- what is left to try gives what all tags give
pub record SoFar (count : ℕ) (all : Fields) (left : ℕ) (rest : Fields) (known : List ℤ) : Type 0 where
  pub kinds : first_of (map tag_kind (take count all)) ≡ first_of (map tag_kind (take left rest))
  pub tags : every tag_of (take count all) ≡ after_tags known (every tag_of (take left rest))
  pub rest_is : drop count all ≡ drop left rest
  pub room : left ≤ length rest

after_none : (o : Option (List ℤ)) → o ≡ after_tags [] o
after_none (Some tags) = refl
after_none None = refl

pub so_far-start : (count : ℕ) (all : Fields) (known : List ℤ) → known ≡ [] → count ≤ length all → SoFar count all count all known
so_far-start count all known e room = record { kinds = refl; tags = rw e (after_none (every tag_of (take count all))); rest_is = refl; room = room }

after_one : (known : List ℤ) (tag : ℤ) (o : Option (List ℤ)) → after_tags known (o >>= (λ tags. Some (tag ∷ tags))) ≡ after_tags (known ++ tag ∷ []) o
after_one known tag (Some tags) = ap (λ (ts : List ℤ). Some ts) (sym (append_assoc known (tag ∷ []) tags))
after_one known tag None = refl

kind_more : (left : ℕ) (field : List ℕ) (more : Fields) (tag : ℤ) → tag_of field ≡ Some tag → first_of (map tag_kind (take (suc left) (field ∷ more))) ≡ first_of (map tag_kind (take left more))
kind_more left field more tag t = rw t refl

tags_more : (left : ℕ) (known : List ℤ) (field : List ℕ) (more : Fields) (tag : ℤ) → tag_of field ≡ Some tag → after_tags known (every tag_of (take (suc left) (field ∷ more))) ≡ after_tags (known ++ tag ∷ []) (every tag_of (take left more))
unfolding every
tags_more left known field more tag t = rw t (after_one known tag (every tag_of (take left more)))

pub so_far-more : (count : ℕ) (all : Fields) (left : ℕ) (rest : Fields) (known : List ℤ) (field : List ℕ) (more : Fields) (tag : ℤ) → SoFar count all left rest known → 0 < left → rest ≡ field ∷ more → tag_of field ≡ Some tag → SoFar count all (left - 1) more (known ++ tag ∷ [])
so_far-more count all zero rest known field more tag h some e t = absurd (omega arith)
so_far-more count all (suc left) rest known field more tag h some e t =
    let k : suc left - 1 ≡ left = omega arith in
    rw k (record {
      kinds = h.kinds ∙ ap (λ r. first_of (map tag_kind (take (suc left) r))) e ∙ kind_more left field more tag t;
      tags = h.tags ∙ ap (λ r. after_tags known (every tag_of (take (suc left) r))) e ∙ tags_more left known field more tag t;
      rest_is = h.rest_is ∙ ap (drop (suc left)) e;
      room = omega (arith, h.room, ap length e);
    })

pub so_far-bad : (count : ℕ) (all : Fields) (left : ℕ) (rest : Fields) (known : List ℤ) (field : List ℕ) (more : Fields) → SoFar count all left rest known → 0 < left → rest ≡ field ∷ more → tag_of field ≡ None → first_of (map tag_kind (take count all)) ≡ Some BadNumber
so_far-bad count all zero rest known field more h some e t = absurd (omega arith)
so_far-bad count all (suc left) rest known field more h some e t = h.kinds ∙ ap (λ r. first_of (map tag_kind (take (suc left) r))) e ∙ rw t refl

pub so_far-end : (count : ℕ) (all : Fields) (left : ℕ) (rest : Fields) (known : List ℤ) → SoFar count all left rest known → left ≤ 0 → AreTags count all rest known
unfolding every
so_far-end count all zero rest known h none = record { kinds = h.kinds; tags_are = h.tags ∙ ap (λ (ts : List ℤ). Some ts) (append-nil known); rest_is = sym h.rest_is }
so_far-end count all (suc left) rest known h none = absurd (omega arith)
