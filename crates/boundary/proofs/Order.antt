-- The order of lists of nodes.
use Rattle.std.proofs.Common.{◌≡◌, ◌∙◌, ℕ, Bool, true, false, not, List, ◌⊎◌, inl, inr, sym, refl, ap, subst}
use Rattle.std.specs.Prelude.{◌&&◌, nat_eq}
use Rattle.std.specs.declared.cmp.Ordering.{Ordering}
use Rattle.std.specs.declared.cmp.Ordering.TheVariants.{Less, Equal, Greater}
use Rattle.std.specs.Ordering.{is_lt, is_eq, ordering_reverse}
use Rattle.std.specs.Cmp.{IsTotalOrder}
use Rattle.std.specs.Cmp.Lexicographic.{pointwise, bytes_decides, texts_ties}
use Rattle.std.proofs.lemmas.Cmp.{nat_list_cmp_total}
use Rattle.list_laws.proofs.StrictlySorted.{not_before_itself}
use Rattle.boundary.specs.Faces.{node_order}

pub is_total : IsTotalOrder node_order
is_total = nat_list_cmp_total

pub same_nodes : (x y : List ℕ) → pointwise nat_eq x y ≡ true → x ≡ y
same_nodes x y = (bytes_decides x y).0

pub same_test : (x y : List ℕ) → x ≡ y → pointwise nat_eq x y ≡ true
same_test x y = (bytes_decides x y).1

-- the one is before the other, or they are the same, or it is after it
pub ways : (x y : List ℕ) → (node_order x y ≡ Less) ⊎ ((x ≡ y) ⊎ (node_order y x ≡ Less))
ways x y = by (node_order x y) refl
  where
    by : (o : Ordering) → node_order x y ≡ o → (node_order x y ≡ Less) ⊎ ((x ≡ y) ⊎ (node_order y x ≡ Less))
    by Less e = inl e
    by Equal e = inr (inl (same_nodes x y (texts_ties x y ∙ ap is_eq e)))
    by Greater e = inr (inr (is_total.antisymm y x ∙ ap ordering_reverse e))

-- what isn't after another and differs is before it
pub comes_before : (x y : List ℕ) → is_lt (node_order y x) ≡ false → pointwise nat_eq y x ≡ false → node_order x y ≡ Less
comes_before x y h d =
    elim (ways x y) [
      | inl l ↦ l
      | inr r ↦ elim r [
        | inl e ↦ let t : true ≡ false = sym (same_test y x (sym e)) ∙ d in cc
        | inr g ↦ let t : true ≡ false = sym (ap is_lt g) ∙ h in cc
      ]
    ]

-- what is before another isn't the same
pub differs : (x y : List ℕ) → node_order x y ≡ Less → pointwise nat_eq x y ≡ false
differs x y h = by (pointwise nat_eq x y) refl
  where
    by : (b : Bool) → pointwise nat_eq x y ≡ b → pointwise nat_eq x y ≡ false
    by true e = absurd (not_before_itself is_total x (subst (λ z. node_order x z ≡ Less) (sym (same_nodes x y e)) h))
    by false e = e

-- neither is before the other exactly where they are the same
pub tie_test : (x y : List ℕ) → (not (is_lt (node_order x y)) && not (is_lt (node_order y x))) ≡ pointwise nat_eq y x
tie_test x y =
    ap (λ o. not (is_lt (node_order x y)) && not (is_lt o)) (is_total.antisymm y x)
    ∙ by (node_order x y)
    ∙ turned (node_order x y)
    ∙ sym (ap is_eq (is_total.antisymm y x))
    ∙ sym (texts_ties y x)
  where
    by : (o : Ordering) → (not (is_lt o) && not (is_lt (ordering_reverse o))) ≡ is_eq o
    by Less = refl
    by Equal = refl
    by Greater = refl

    turned : (o : Ordering) → is_eq o ≡ is_eq (ordering_reverse o)
    turned Less = refl
    turned Equal = refl
    turned Greater = refl
