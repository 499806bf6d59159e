-- Boxes that don't touch leave an axis that separates.
use Rattle.std.proofs.Common.{◌≡◌, ℕ, ◌+◌, ◌^◌, ◌<◌, ◌≤◌, ℤ, pos, ◌-ℤ◌, neg_ℤ, ◌≤ℤ◌, ◌<ℤ◌, List, [], ◌∷◌, map, ◌⊎◌, inl, inr, arith}
use Rattle.std.specs.Prelude.{All, Any}
use Rattle.std.proofs.lemmas.Int.{ints, by_lt_z}
use Rattle.std.proofs.lemmas.List.Elements.{All-weaker}
use Rattle.space3.specs.declared.vectors.V3.{V3}
use Rattle.space3.specs.Vectors.{vector, dot_product, difference, multiple}
use Rattle.whole_laws.proofs.Ring.{ring, v, num, neg, ◌⊖◌}
use Rattle.whole_laws.proofs.Blends.{AreShares, blend_pos}
use Rattle.list_laws.proofs.Elements.{all_or_any, All-append_left, All-append_right}
use Rattle.list_laws.proofs.PairsOfElements.{Each, Each-map, Each-map_back, Each-both}
use Rattle.safe_motion.specs.declared.motion.Move.{Move}
use Rattle.safe_motion.specs.Moments.{IsFraction, place_at, places_at, start_places, end_places}
use Rattle.safe_motion.specs.Meeting.{Separates}
use Rattle.space3.specs.Boxes.{IsBetween}
use Rattle.safe_motion.specs.SweptBoxes.{both_ends, SweptBoxesTouch}
use Rattle.safe_motion.specs.Certificates.{PairCertificate}
use Rattle.space3.proofs.VectorForms.{components, at, ◌⊖₃◌, ◌⊗₃◌, dot}
use Rattle.safe_motion.proofs.Inside.{dot-place}

-- one order or the other holds of each two numbers of the two lists, or some number is between the ends of both
split : (xs ys : List ℤ) → (Each (λ x y. y <ℤ x) xs ys ⊎ Each (λ x y. x <ℤ y) xs ys) ⊎ ((c : ℤ) × IsBetween c xs × IsBetween c ys)
split xs ys =
    elim (each_or_some (λ x y. y <ℤ x) (λ x y. x ≤ℤ y) (λ x y. by_lt_z y x (λ h. inl h) (λ h. inr h))) [
      | inl above ↦ inl (inl above)
      | inr low ↦ elim (each_or_some (λ x y. x <ℤ y) (λ x y. y ≤ℤ x) (λ x y. by_lt_z x y (λ h. inl h) (λ h. inr h))) [
        | inl below ↦ inl (inr below)
        | inr high ↦ inr (common low high)
      ]
    ]
  where
    each_or_some : (P Q : ℤ → ℤ → Type 0) → ((x y : ℤ) → P x y ⊎ Q x y) → Each P xs ys ⊎ Any (λ x. Any (λ y. Q x y) ys) xs
    each_or_some P Q f = all_or_any (λ x. All (λ y. P x y) ys) (λ x. Any (λ y. Q x y) ys) (λ x. all_or_any (P x) (Q x) (f x) ys) xs

    -- the greater of a number of xs that is at most one of ys, and a number of ys that is at most one of xs
    common : Any (λ x. Any (λ y. x ≤ℤ y) ys) xs → Any (λ x. Any (λ y. y ≤ℤ x) ys) xs → (c : ℤ) × IsBetween c xs × IsBetween c ys
    common (i, x, i_in, x_at, (k, z, k_in, z_at, low)) (j, u, j_in, u_at, (l, y, l_in, y_at, high)) =
        by_lt_z x y
        (λ h. (y, ((i, x, i_in, x_at, weak x y h), (j, u, j_in, u_at, high)), ((l, y, l_in, y_at, same y), (l, y, l_in, y_at, same y))))
        (λ h. (x, ((i, x, i_in, x_at, same x), (i, x, i_in, x_at, same x)), ((l, y, l_in, y_at, h), (k, z, k_in, z_at, low))))
      where
        weak : (a b : ℤ) → a <ℤ b → a ≤ℤ b
        weak a b h = omega (arith, ints)

        same : (a : ℤ) → a ≤ℤ a
        same a = omega (arith, ints)

-- the two parts of a sum of two lists
each_start : (R : V3 → V3 → Type 0) (xs ys : List Move) → Each R (both_ends xs) (both_ends ys) → Each (λ a b. R a.start b.start) xs ys
each_start R xs ys h =
    Each-map_back R (λ (m : Move). m.start) xs ys
    (All-weaker (λ a. All (R a) (both_ends ys)) (λ a. All (R a) (start_places ys)) (λ a. All-append_left (R a) (start_places ys) (end_places ys)) (start_places xs)
    (All-append_left (λ a. All (R a) (both_ends ys)) (start_places xs) (end_places xs) h))

each_end : (R : V3 → V3 → Type 0) (xs ys : List Move) → Each R (both_ends xs) (both_ends ys) → Each (λ a b. R a.end b.end) xs ys
each_end R xs ys h =
    Each-map_back R (λ (m : Move). m.end) xs ys
    (All-weaker (λ a. All (R a) (both_ends ys)) (λ a. All (R a) (end_places ys)) (λ a. All-append_right (R a) (start_places ys) (end_places ys)) (end_places xs)
    (All-append_right (λ a. All (R a) (both_ends ys)) (start_places xs) (end_places xs) h))

-- a vector that separates all the places at start and end separates the parts at every moment
separates_throughout : (n : V3) (xs ys : List Move) (p q : ℕ) → IsFraction p q → Separates n (both_ends xs) (both_ends ys) → Separates n (places_at p q xs) (places_at p q ys)
separates_throughout n xs ys p q f h =
    let Apart = λ (a b : V3). pos 0 <ℤ dot_product n (difference a b) in
    Each-map Apart (place_at p q) xs ys
    (Each-both (λ a b. Apart a.start b.start) (λ a b. Apart a.end b.end) (λ a b. Apart (place_at p q a) (place_at p q b)) xs ys
    (λ a b before after. rw (dot-place n a b p q) (blend_pos _ _ _ _ (shares p q f.within f.divisor) before after))
    (each_start Apart xs ys h) (each_end Apart xs ys h))
  where
    shares : (p q : ℕ) → p ≤ q → 0 < q → AreShares (pos q -ℤ pos p) (pos p)
    shares p q h k = record { first = omega (arith, ints); second = omega (arith, ints); some = omega (arith, ints) }

serves_throughout : (n : V3) (xs ys : List Move) → Separates n (both_ends xs) (both_ends ys) → (depth : ℕ) → PairCertificate depth xs ys
serves_throughout n xs ys h depth = λ j l. record {
  normal = n;
  serves = record {
    before = separates_throughout n xs ys j (2 ^ depth) (record { within = omega arith; divisor = omega arith }) h;
    after = separates_throughout n xs ys (j + 1) (2 ^ depth) (record { within = omega arith; divisor = omega arith }) h;
  };
}

-- A coordinate, the product with n, in which all points of one part are past those of the other.
by_axis : (n : V3) (f : V3 → ℤ) → ((a b : V3) → dot_product n (difference a b) ≡ f a -ℤ f b) → (xs ys : List Move) →
    Each (λ x y. y <ℤ x) (map f (both_ends xs)) (map f (both_ends ys)) ⊎ Each (λ x y. x <ℤ y) (map f (both_ends xs)) (map f (both_ends ys)) → (depth : ℕ) → PairCertificate depth xs ys
by_axis n f e xs ys h = elim h [
  | inl above ↦ serves_throughout n xs ys (pointwise (λ x y. y <ℤ x) n (λ a b l. rw (e a b) (past (f a) (f b) l)) above)
  | inr below ↦ serves_throughout (multiple (neg_ℤ (pos 1)) n) xs ys (pointwise (λ x y. x <ℤ y) (multiple (neg_ℤ (pos 1)) n) (λ a b l. rw (turned a b, e a b) (short (f a) (f b) l)) below)
]
  where
    past : (x y : ℤ) → y <ℤ x → pos 0 <ℤ (x -ℤ y)
    past x y h = omega (arith, ints)

    short : (x y : ℤ) → x <ℤ y → pos 0 <ℤ neg_ℤ (x -ℤ y)
    short x y h = omega (arith, ints)

    turned : (a b : V3) → dot_product (multiple (neg_ℤ (pos 1)) n) (difference a b) ≡ neg_ℤ (dot_product n (difference a b))
    turned a b = ring (components (n ∷ a ∷ b ∷ [])) (dot (neg (num (pos 1)) ⊗₃ at 0) (at 3 ⊖₃ at 6)) (neg (dot (at 0) (at 3 ⊖₃ at 6))) tt

    pointwise : (R : ℤ → ℤ → Type 0) (m : V3) → ((a b : V3) → R (f a) (f b) → pos 0 <ℤ dot_product m (difference a b)) → Each R (map f (both_ends xs)) (map f (both_ends ys)) → Separates m (both_ends xs) (both_ends ys)
    pointwise R m g each = let back = Each-map_back R f (both_ends xs) (both_ends ys) each in λ k d i l c j. g _ _ (back k d i l c j)

pub untouched_is_certified : (xs ys : List Move) → ¬ SweptBoxesTouch xs ys → (depth : ℕ) → PairCertificate depth xs ys
untouched_is_certified xs ys apart =
    elim (split (map (λ (p : V3). p.x) (both_ends xs)) (map (λ (p : V3). p.x) (both_ends ys))) [
      | inl order ↦ by_axis (vector (pos 1) (pos 0) (pos 0)) (λ p. p.x) along_x xs ys order
      | inr x ↦ elim (split (map (λ (p : V3). p.y) (both_ends xs)) (map (λ (p : V3). p.y) (both_ends ys))) [
        | inl order ↦ by_axis (vector (pos 0) (pos 1) (pos 0)) (λ p. p.y) along_y xs ys order
        | inr y ↦ elim (split (map (λ (p : V3). p.z) (both_ends xs)) (map (λ (p : V3). p.z) (both_ends ys))) [
          | inl order ↦ by_axis (vector (pos 0) (pos 0) (pos 1)) (λ p. p.z) along_z xs ys order
          | inr z ↦ absurd (apart (vector x.0 y.0 z.0, record { x = x.1; y = y.1; z = z.1 }, record { x = x.2; y = y.2; z = z.2 }))
        ]
      ]
    ]
  where
    along_x : (a b : V3) → dot_product (vector (pos 1) (pos 0) (pos 0)) (difference a b) ≡ a.x -ℤ b.x
    along_x a b = ring (components (a ∷ b ∷ [])) (dot (num (pos 1), num (pos 0), num (pos 0)) (at 0 ⊖₃ at 3)) (v 0 ⊖ v 3) tt

    along_y : (a b : V3) → dot_product (vector (pos 0) (pos 1) (pos 0)) (difference a b) ≡ a.y -ℤ b.y
    along_y a b = ring (components (a ∷ b ∷ [])) (dot (num (pos 0), num (pos 1), num (pos 0)) (at 0 ⊖₃ at 3)) (v 1 ⊖ v 4) tt

    along_z : (a b : V3) → dot_product (vector (pos 0) (pos 0) (pos 1)) (difference a b) ≡ a.z -ℤ b.z
    along_z a b = ring (components (a ∷ b ∷ [])) (dot (num (pos 0), num (pos 0), num (pos 1)) (at 0 ⊖₃ at 3)) (v 2 ⊖ v 5) tt
