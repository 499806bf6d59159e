-- Least and greatest numbers of lists, and boxes of joined lists.
use Rattle.std.proofs.Common.{◌≡◌, ◌∙◌, ℕ, suc, ℤ, pos, ◌-ℤ◌, ◌≤ℤ◌, List, [], ◌∷◌, ◌++◌, inl, inr, map, refl, ap, sym, subst, arith, Bool, true, false, w64, to_z, of_z}
use mir.Val.{SFits}
use Rattle.std.proofs.lemmas.Int.{ints, clamps, to_z-of_z, fold-int_min_bounds, fold-int_max_bounds, fold-int_min_reached, fold-int_max_reached}
use Rattle.std.specs.Prelude.{All, Any, Contains, IsTrue, int_le, ◌&&◌, ◌⊎◌, ◌↔◌}
use Rattle.std.specs.List.{fold}
use Rattle.std.specs.Int.{int_min, int_max}
use Rattle.std.proofs.lemmas.List.{map-append}
use Rattle.std.proofs.lemmas.List.Sums.{fold-append}
use Rattle.std.proofs.lemmas.List.Elements.{All-cons, All-map, All-weaker}
use Rattle.std.proofs.lemmas.Bool.{and_parts}
use Rattle.space3.specs.declared.vectors.V3.{V3}
use Rattle.space3.specs.declared.boxes.BoundingBox.{BoundingBox}
use Rattle.space3.specs.Vectors.{AtMost, Within, vector}
use Rattle.space3.specs.Boxes.{IsBetween, BoxesTouch, least_of, greatest_of, box_of, box_around, are_within}

-- ---- joined lists
min_assoc : (a b c : ℤ) → int_min (int_min a b) c ≡ int_min a (int_min b c)
min_assoc a b c = omega (arith, ints, clamps)

max_assoc : (a b c : ℤ) → int_max (int_max a b) c ≡ int_max a (int_max b c)
max_assoc a b c = omega (arith, ints, clamps)

-- what an operation that groups either way makes of a list, after a first number
fold-first : (f : ℤ → ℤ → ℤ) → ((a b c : ℤ) → f (f a b) c ≡ f a (f b c)) → (a y : ℤ) (ys : List ℤ) → fold f (f a y) ys ≡ f a (fold f y ys)
fold-first f assoc a y [] = refl
fold-first f assoc a y (z ∷ ys) = ap (λ b. fold f b ys) (assoc a y z) ∙ fold-first f assoc a (f y z) ys

fold-joined : (f : ℤ → ℤ → ℤ) → ((a b c : ℤ) → f (f a b) c ≡ f a (f b c)) → (x y : ℤ) (xs ys : List ℤ) → fold f x (xs ++ y ∷ ys) ≡ f (fold f x xs) (fold f y ys)
fold-joined f assoc x y xs ys = fold-append f x xs (y ∷ ys) ∙ fold-first f assoc (fold f x xs) y ys

pub least-joined : (x y : ℤ) (xs ys : List ℤ) → least_of (x ∷ (xs ++ y ∷ ys)) ≡ int_min (least_of (x ∷ xs)) (least_of (y ∷ ys))
least-joined = fold-joined int_min min_assoc

pub greatest-joined : (x y : ℤ) (xs ys : List ℤ) → greatest_of (x ∷ (xs ++ y ∷ ys)) ≡ int_max (greatest_of (x ∷ xs)) (greatest_of (y ∷ ys))
greatest-joined = fold-joined int_max max_assoc

least-along : (axis : V3 → ℤ) (p q : V3) (xs ys : List V3) → int_min (least_of (map axis (p ∷ xs))) (least_of (map axis (q ∷ ys))) ≡ least_of (map axis ((p ∷ xs) ++ (q ∷ ys)))
least-along axis p q xs ys = sym (ap (λ zs. least_of (axis p ∷ zs)) (map-append axis xs (q ∷ ys)) ∙ least-joined (axis p) (axis q) (map axis xs) (map axis ys))

greatest-along : (axis : V3 → ℤ) (p q : V3) (xs ys : List V3) → int_max (greatest_of (map axis (p ∷ xs))) (greatest_of (map axis (q ∷ ys))) ≡ greatest_of (map axis ((p ∷ xs) ++ (q ∷ ys)))
greatest-along axis p q xs ys = sym (ap (λ zs. greatest_of (axis p ∷ zs)) (map-append axis xs (q ∷ ys)) ∙ greatest-joined (axis p) (axis q) (map axis xs) (map axis ys))

abbrev box_between : V3 → V3 → BoundingBox
box_between a b = record { least = a; greatest = b }

pub box-joined : (p q : V3) (xs ys : List V3) → box_around (box_of (p ∷ xs)) (box_of (q ∷ ys)) ≡ box_of ((p ∷ xs) ++ (q ∷ ys))
box-joined p q xs ys = λ i. box_between
    (vector (least-along (λ r. r.x) p q xs ys i) (least-along (λ r. r.y) p q xs ys i) (least-along (λ r. r.z) p q xs ys i))
    (vector (greatest-along (λ r. r.x) p q xs ys i) (greatest-along (λ r. r.y) p q xs ys i) (greatest-along (λ r. r.z) p q xs ys i))

-- ---- a number between the least and the greatest
below_least : (c x : ℤ) (xs : List ℤ) → Any (λ y. y ≤ℤ c) (x ∷ xs) → least_of (x ∷ xs) ≤ℤ c
below_least c x xs (k, y, k_in, at, low) =
    let bounds = fold-int_min_bounds x xs (least_of (x ∷ xs)) refl in
    let each = All-cons (λ z. least_of (x ∷ xs) ≤ℤ z) x xs bounds.0 bounds.1 in
    trans (least_of (x ∷ xs)) y c (subst (λ z. least_of (x ∷ xs) ≤ℤ z) at (each k y k_in)) low
  where
    trans : (a b c : ℤ) → a ≤ℤ b → b ≤ℤ c → a ≤ℤ c
    trans a b c h k = omega (arith, ints)

above_greatest : (c x : ℤ) (xs : List ℤ) → Any (λ y. c ≤ℤ y) (x ∷ xs) → c ≤ℤ greatest_of (x ∷ xs)
above_greatest c x xs (k, y, k_in, at, high) =
    let bounds = fold-int_max_bounds x xs (greatest_of (x ∷ xs)) refl in
    let each = All-cons (λ z. z ≤ℤ greatest_of (x ∷ xs)) x xs bounds.0 bounds.1 in
    trans c y (greatest_of (x ∷ xs)) high (subst (λ z. z ≤ℤ greatest_of (x ∷ xs)) at (each k y k_in))
  where
    trans : (a b c : ℤ) → a ≤ℤ b → b ≤ℤ c → a ≤ℤ c
    trans a b c h k = omega (arith, ints)

-- an element with a fact, given that a number is the first or in the rest
some_has : (P : ℤ → Type 0) (x r : ℤ) (xs : List ℤ) → P r → (r ≡ x) ⊎ Contains xs r → Any P (x ∷ xs)
some_has P x r xs h (inl e) = (0, x, omega arith, refl, subst P e h)
some_has P x r xs h (inr (k, k_in, at)) = (suc k, r, omega arith, at, h)

-- a fact of all, given that a number is the first or in the rest
one_has : (P : ℤ → Type 0) (x r : ℤ) (xs : List ℤ) → All P (x ∷ xs) → (r ≡ x) ⊎ Contains xs r → P r
one_has P x r xs h (inl e) = subst P (sym e) (h 0 x (omega arith))
one_has P x r xs h (inr (k, k_in, at)) = subst P at (h (suc k) r (omega arith))

pub between-is : (c x : ℤ) (xs : List ℤ) → least_of (x ∷ xs) ≤ℤ c → c ≤ℤ greatest_of (x ∷ xs) → IsBetween c (x ∷ xs)
between-is c x xs low high = (
  some_has (λ y. y ≤ℤ c) x (least_of (x ∷ xs)) xs low (fold-int_min_reached x xs (least_of (x ∷ xs)) refl),
  some_has (λ y. c ≤ℤ y) x (greatest_of (x ∷ xs)) xs high (fold-int_max_reached x xs (greatest_of (x ∷ xs)) refl),
)

-- the least of a list is at most the greatest
ordered : (x : ℤ) (xs : List ℤ) → least_of (x ∷ xs) ≤ℤ greatest_of (x ∷ xs)
ordered x xs = chain _ x _ (fold-int_min_bounds x xs (least_of (x ∷ xs)) refl).0 (fold-int_max_bounds x xs (greatest_of (x ∷ xs)) refl).0
  where
    chain : (a b c : ℤ) → a ≤ℤ b → b ≤ℤ c → a ≤ℤ c
    chain a b c h k = omega (arith, ints)

-- what holds of each number holds of the least and of the greatest
pub least-has : (P : ℤ → Type 0) (x : ℤ) (xs : List ℤ) → All P (x ∷ xs) → P (least_of (x ∷ xs))
least-has P x xs h = one_has P x (least_of (x ∷ xs)) xs h (fold-int_min_reached x xs (least_of (x ∷ xs)) refl)

pub greatest-has : (P : ℤ → Type 0) (x : ℤ) (xs : List ℤ) → All P (x ∷ xs) → P (greatest_of (x ∷ xs))
greatest-has P x xs h = one_has P x (greatest_of (x ∷ xs)) xs h (fold-int_max_reached x xs (greatest_of (x ∷ xs)) refl)

-- a bound of all points is one of both corners
pub corners_keep_bound : (b : ℕ) (p : V3) (points : List V3) → All (Within b) (p ∷ points) → Within b (box_of (p ∷ points)).least × Within b (box_of (p ∷ points)).greatest
corners_keep_bound b p points h = (
  record { x = least-has (AtMost b) p.x (map (λ r. r.x) points) xs; y = least-has (AtMost b) p.y (map (λ r. r.y) points) ys; z = least-has (AtMost b) p.z (map (λ r. r.z) points) zs },
  record { x = greatest-has (AtMost b) p.x (map (λ r. r.x) points) xs; y = greatest-has (AtMost b) p.y (map (λ r. r.y) points) ys; z = greatest-has (AtMost b) p.z (map (λ r. r.z) points) zs },
)
  where
    xs : All (AtMost b) (map (λ r. r.x) (p ∷ points))
    xs = All-map (AtMost b) (λ r. r.x) (p ∷ points) (All-weaker (Within b) (λ r. AtMost b r.x) (λ r k. k.x) (p ∷ points) h)

    ys : All (AtMost b) (map (λ r. r.y) (p ∷ points))
    ys = All-map (AtMost b) (λ r. r.y) (p ∷ points) (All-weaker (Within b) (λ r. AtMost b r.y) (λ r k. k.y) (p ∷ points) h)

    zs : All (AtMost b) (map (λ r. r.z) (p ∷ points))
    zs = All-map (AtMost b) (λ r. r.z) (p ∷ points) (All-weaker (Within b) (λ r. AtMost b r.z) (λ r k. k.z) (p ∷ points) h)

-- ---- a gap and its two parts
abbrev pub gap_within : ℕ → ℤ → ℤ → ℤ → ℤ → Bool
gap_within reach al ag bl bg = int_le (int_max (pos 0) (int_max (bl -ℤ ag) (al -ℤ bg))) (pos reach)

tested : (g r : ℤ) → g ≤ℤ r → int_le g r ≡ true
tested g r h = grind (arith, ints)

said : (g r : ℤ) → int_le g r ≡ true → g ≤ℤ r
said g r e = grind (arith, ints)

pub gap_closes : (reach : ℕ) (al ag bl bg : ℤ) → (bl -ℤ ag) ≤ℤ pos reach → (al -ℤ bg) ≤ℤ pos reach → gap_within reach al ag bl bg ≡ true
gap_closes reach al ag bl bg h k = tested _ (pos reach) (small al ag bl bg reach h k)
  where
    small : (al ag bl bg : ℤ) (reach : ℕ) → (bl -ℤ ag) ≤ℤ pos reach → (al -ℤ bg) ≤ℤ pos reach → int_max (pos 0) (int_max (bl -ℤ ag) (al -ℤ bg)) ≤ℤ pos reach
    small al ag bl bg reach h k = omega (arith, ints, clamps)

pub gap_parts : (reach : ℕ) (al ag bl bg : ℤ) → gap_within reach al ag bl bg ≡ true → ((bl -ℤ ag) ≤ℤ pos reach) × ((al -ℤ bg) ≤ℤ pos reach)
gap_parts reach al ag bl bg e = let h = said _ (pos reach) e in (left al ag bl bg reach h, right al ag bl bg reach h)
  where
    left : (al ag bl bg : ℤ) (reach : ℕ) → int_max (pos 0) (int_max (bl -ℤ ag) (al -ℤ bg)) ≤ℤ pos reach → (bl -ℤ ag) ≤ℤ pos reach
    left al ag bl bg reach h = omega (arith, ints, clamps)

    right : (al ag bl bg : ℤ) (reach : ℕ) → int_max (pos 0) (int_max (bl -ℤ ag) (al -ℤ bg)) ≤ℤ pos reach → (al -ℤ bg) ≤ℤ pos reach
    right al ag bl bg reach h = omega (arith, ints, clamps)

pub gap_test : (reach : ℕ) (al ag bl bg : ℤ) → gap_within reach al ag bl bg ≡ (int_le (bl -ℤ ag) (pos reach) && int_le (al -ℤ bg) (pos reach))
gap_test reach al ag bl bg = same _ _ (λ e. let p = gap_parts reach al ag bl bg e in both (tested _ (pos reach) p.0) (tested _ (pos reach) p.1)) (λ e. let p = and_parts _ _ e in gap_closes reach al ag bl bg (said _ (pos reach) p.0) (said _ (pos reach) p.1))
  where
    both : {a b : Bool} → a ≡ true → b ≡ true → (a && b) ≡ true
    both e f = rw (e, f) refl

    same : (a b : Bool) → (a ≡ true → b ≡ true) → (b ≡ true → a ≡ true) → a ≡ b
    same true b f g = sym (f refl)
    same false true f g = g refl
    same false false f g = refl

-- a difference of two numbers that go to their bits and back, compared
pub past_test : (r : Bool) (reach : ℕ) (a b : ℤ) → SFits w64 a → SFits w64 b → r ≡ int_le (to_z w64 (of_z w64 a) -ℤ to_z w64 (of_z w64 b)) (pos reach) → r ≡ int_le (a -ℤ b) (pos reach)
past_test r reach a b f g e = e ∙ (λ i. int_le (to_z-of_z w64 a f i -ℤ to_z-of_z w64 b g i) (pos reach))

-- the two tests of each axis, in the order of the corners
abbrev corner_within : ℕ → V3 → V3 → Bool
corner_within reach a b = int_le (a.x -ℤ b.x) (pos reach) && int_le (a.y -ℤ b.y) (pos reach) && int_le (a.z -ℤ b.z) (pos reach)

pub corners_within : (reach : ℕ) (a b : BoundingBox) → (corner_within reach b.least a.greatest && corner_within reach a.least b.greatest) ≡ are_within reach a b
corners_within reach a b =
    sorted (int_le (b.least.x -ℤ a.greatest.x) (pos reach)) (int_le (b.least.y -ℤ a.greatest.y) (pos reach)) (int_le (b.least.z -ℤ a.greatest.z) (pos reach))
    (int_le (a.least.x -ℤ b.greatest.x) (pos reach)) (int_le (a.least.y -ℤ b.greatest.y) (pos reach)) (int_le (a.least.z -ℤ b.greatest.z) (pos reach))
    ∙ sym (λ i. gap_test reach a.least.x a.greatest.x b.least.x b.greatest.x i && gap_test reach a.least.y a.greatest.y b.least.y b.greatest.y i && gap_test reach a.least.z a.greatest.z b.least.z b.greatest.z i)
  where
    sorted : (a b c d e f : Bool) → ((a && b && c) && (d && e && f)) ≡ ((a && d) && (b && e) && (c && f))
    sorted false b c d e f = refl
    sorted true false c false e f = refl
    sorted true false c true e f = refl
    sorted true true false false e f = refl
    sorted true true false true false f = refl
    sorted true true false true true f = refl
    sorted true true true false e f = refl
    sorted true true true true false f = refl
    sorted true true true true true f = refl

-- the lesser or the greater of two numbers that go to their bits and back
pub picked_number : (f : ℤ → ℤ → ℤ) (r a b : ℤ) → SFits w64 r → SFits w64 a → SFits w64 b → r ≡ f (to_z w64 (of_z w64 a)) (to_z w64 (of_z w64 b)) → to_z w64 (of_z w64 r) ≡ f a b
picked_number f r a b h k l e = to_z-of_z w64 r h ∙ e ∙ (λ i. f (to_z-of_z w64 a k i) (to_z-of_z w64 b l i))

-- ---- boxes that touch
touch_along : (axis : V3 → ℤ) (p q : V3) (xs ys : List V3) (c : ℤ) → IsBetween c (map axis (p ∷ xs)) → IsBetween c (map axis (q ∷ ys)) →
    gap_within 0 (least_of (map axis (p ∷ xs))) (greatest_of (map axis (p ∷ xs))) (least_of (map axis (q ∷ ys))) (greatest_of (map axis (q ∷ ys))) ≡ true
touch_along axis p q xs ys c f g =
    gap_closes 0 (least_of (map axis (p ∷ xs))) (greatest_of (map axis (p ∷ xs))) (least_of (map axis (q ∷ ys))) (greatest_of (map axis (q ∷ ys)))
    (no_gap _ c _ (below_least c (axis q) (map axis ys) g.0) (above_greatest c (axis p) (map axis xs) f.1))
    (no_gap _ c _ (below_least c (axis p) (map axis xs) f.0) (above_greatest c (axis q) (map axis ys) g.1))
  where
    no_gap : (a c b : ℤ) → a ≤ℤ c → c ≤ℤ b → (a -ℤ b) ≤ℤ pos 0
    no_gap a c b h k = omega (arith, ints)

-- the greater of the two least numbers is in both
common_along : (axis : V3 → ℤ) (p q : V3) (xs ys : List V3) →
    gap_within 0 (least_of (map axis (p ∷ xs))) (greatest_of (map axis (p ∷ xs))) (least_of (map axis (q ∷ ys))) (greatest_of (map axis (q ∷ ys))) ≡ true →
    (c : ℤ) × IsBetween c (map axis (p ∷ xs)) × IsBetween c (map axis (q ∷ ys))
common_along axis p q xs ys e =
    let al = least_of (map axis (p ∷ xs)) in
    let ag = greatest_of (map axis (p ∷ xs)) in
    let bl = least_of (map axis (q ∷ ys)) in
    let bg = greatest_of (map axis (q ∷ ys)) in
    let parts = gap_parts 0 al ag bl bg e in (
      int_max al bl,
      between-is (int_max al bl) (axis p) (map axis xs) (first al bl) (both al bl ag (ordered (axis p) (map axis xs)) (closed bl ag parts.0)),
      between-is (int_max al bl) (axis q) (map axis ys) (second al bl) (both al bl bg (closed al bg parts.1) (ordered (axis q) (map axis ys))),
    )
  where
    closed : (a b : ℤ) → (a -ℤ b) ≤ℤ pos 0 → a ≤ℤ b
    closed a b h = omega (arith, ints)

    first : (a b : ℤ) → a ≤ℤ int_max a b
    first a b = omega (arith, ints, clamps)

    second : (a b : ℤ) → b ≤ℤ int_max a b
    second a b = omega (arith, ints, clamps)

    both : (a b c : ℤ) → a ≤ℤ c → b ≤ℤ c → int_max a b ≤ℤ c
    both a b c h k = omega (arith, ints, clamps)

pub touch-is : (p q : V3) (xs ys : List V3) → IsTrue (are_within 0 (box_of (p ∷ xs)) (box_of (q ∷ ys))) ↔ BoxesTouch (p ∷ xs) (q ∷ ys)
touch-is p q xs ys = (
  λ t.
      let outer = and_parts _ _ t in
      let inner = and_parts _ _ outer.0 in
      let x = common_along (λ r. r.x) p q xs ys inner.0 in
      let y = common_along (λ r. r.y) p q xs ys inner.1 in
      let z = common_along (λ r. r.z) p q xs ys outer.1 in
      (vector x.0 y.0 z.0, record { x = x.1; y = y.1; z = z.1 }, record { x = x.2; y = y.2; z = z.2 }),
  λ h.
      all_true (touch_along (λ r. r.x) p q xs ys h.0.x h.1.x h.2.x) (touch_along (λ r. r.y) p q xs ys h.0.y h.1.y h.2.y) (touch_along (λ r. r.z) p q xs ys h.0.z h.1.z h.2.z),
)
  where
    all_true : {a b c : Bool} → a ≡ true → b ≡ true → c ≡ true → (a && b && c) ≡ true
    all_true e f g = rw (e, f, g) refl
