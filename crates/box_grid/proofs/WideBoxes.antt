-- A box that is widened by a reach touches those that are within that reach of it.
use Rattle.std.proofs.Common.{◌≡◌, ◌∙◌, ℕ, ◌+◌, Bool, true, false, ◌&&◌, ℤ, pos, ◌+ℤ◌, ◌-ℤ◌, ◌≤ℤ◌, ap, sym, refl, arith}
use Rattle.std.specs.Prelude.{int_le}
use Rattle.std.proofs.lemmas.Int.{ints}
use Rattle.space3.specs.Vectors.{AtMost, Within}
use Rattle.space3.specs.Boxes.{are_within}
use Rattle.space3.specs.declared.boxes.BoundingBox.{BoundingBox}
use Rattle.space3.specs.declared.places.TheConstants.{BOX_LIMIT}
use Rattle.space3.specs.declared.vectors.V3.{V3}
use Rattle.space3.proofs.BoxLemmas.{corners_within, gap_closes, gap_parts, gap_within}
use Rattle.box_grid.specs.declared.limits.TheConstants.{REACH_LIMIT}
use Rattle.box_grid.specs.Near.{LiesInTheBox}
use Rattle.box_grid.specs.Calls.Cells.{LiesByTheBox, widened}

-- ---- places of corners
wider : (a : V3) → Within BOX_LIMIT a → Within (BOX_LIMIT + REACH_LIMIT) a
wider a h = record { x = each a.x h.x; y = each a.y h.y; z = each a.z h.z }
  where
    each : (z : ℤ) → AtMost BOX_LIMIT z → AtMost (BOX_LIMIT + REACH_LIMIT) z
    each z h = record { bound = omega (arith, h.bound) }

pub by_the_box : (b : BoundingBox) → LiesInTheBox b → LiesByTheBox b
by_the_box b h = record { least = wider b.least h.least; greatest = wider b.greatest h.greatest }

-- ---- the test of two corners
le_as_gap : (a b : ℤ) → int_le a b ≡ int_le (a -ℤ b) (pos 0)
le_as_gap a b = grind (arith, ints)

abbrev pub corner_before : V3 → V3 → Bool
corner_before a b = int_le a.x b.x && int_le a.y b.y && int_le a.z b.z

pub touching_corners : (a b : BoundingBox) → (corner_before b.least a.greatest && corner_before a.least b.greatest) ≡ are_within 0 a b
touching_corners a b =
    (λ i. (le_as_gap b.least.x a.greatest.x i && le_as_gap b.least.y a.greatest.y i && le_as_gap b.least.z a.greatest.z i) && (le_as_gap a.least.x b.greatest.x i && le_as_gap a.least.y b.greatest.y i && le_as_gap a.least.z b.greatest.z i))
    ∙ corners_within 0 a b

-- where the first test passes the second decides, and else they don't touch
pub second_decides : (a b : BoundingBox) (first second : Bool) → first ≡ true → first ≡ corner_before b.least a.greatest → second ≡ corner_before a.least b.greatest → second ≡ are_within 0 a b
second_decides a b first second t e f = f ∙ ap (λ s. s && corner_before a.least b.greatest) (sym t ∙ e) ∙ touching_corners a b

pub first_decides : (a b : BoundingBox) (first : Bool) → first ≡ false → first ≡ corner_before b.least a.greatest → first ≡ are_within 0 a b
first_decides a b first t e = t ∙ ap (λ s. s && corner_before a.least b.greatest) (sym t ∙ e) ∙ touching_corners a b

-- ---- the reach
same_tests : (s t : Bool) → (s ≡ true → t ≡ true) → (t ≡ true → s ≡ true) → s ≡ t
same_tests true t f g = sym (f refl)
same_tests false true f g = g refl
same_tests false false f g = refl

-- along an axis
reach_along : (reach : ℕ) (al ag bl bg : ℤ) → gap_within 0 (al -ℤ pos reach) (ag +ℤ pos reach) bl bg ≡ gap_within reach al ag bl bg
reach_along reach al ag bl bg =
    same_tests (gap_within 0 (al -ℤ pos reach) (ag +ℤ pos reach) bl bg) (gap_within reach al ag bl bg)
    (λ t. let p = gap_parts 0 (al -ℤ pos reach) (ag +ℤ pos reach) bl bg t in gap_closes reach al ag bl bg (far bl ag reach p.0) (near al bg reach p.1))
    (λ t. let p = gap_parts reach al ag bl bg t in gap_closes 0 (al -ℤ pos reach) (ag +ℤ pos reach) bl bg (far_back bl ag reach p.0) (near_back al bg reach p.1))
  where
    far : (b a : ℤ) (reach : ℕ) → (b -ℤ (a +ℤ pos reach)) ≤ℤ pos 0 → (b -ℤ a) ≤ℤ pos reach
    far b a reach h = omega (arith, ints)

    near : (a b : ℤ) (reach : ℕ) → ((a -ℤ pos reach) -ℤ b) ≤ℤ pos 0 → (a -ℤ b) ≤ℤ pos reach
    near a b reach h = omega (arith, ints)

    far_back : (b a : ℤ) (reach : ℕ) → (b -ℤ a) ≤ℤ pos reach → (b -ℤ (a +ℤ pos reach)) ≤ℤ pos 0
    far_back b a reach h = omega (arith, ints)

    near_back : (a b : ℤ) (reach : ℕ) → (a -ℤ b) ≤ℤ pos reach → ((a -ℤ pos reach) -ℤ b) ≤ℤ pos 0
    near_back a b reach h = omega (arith, ints)

pub widened_touches : (reach : ℕ) (a b : BoundingBox) → are_within 0 (widened reach a) b ≡ are_within reach a b
widened_touches reach a b = λ i.
    reach_along reach a.least.x a.greatest.x b.least.x b.greatest.x i
    && reach_along reach a.least.y a.greatest.y b.least.y b.greatest.y i
    && reach_along reach a.least.z a.greatest.z b.least.z b.greatest.z i
