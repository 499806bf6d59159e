-- The near pairs by their first parts are a filter of the pair order.
use Rattle.std.proofs.Common.{◌≡◌, ◌∙◌, ℕ, ◌+◌, Bool, true, false, ◌&&◌, cond, List, [], ◌∷◌, ◌++◌, map, length, get_or, ap, sym, refl, append_assoc, arith}
use Rattle.std.specs.Prelude.{Option, nat_le, not, if◌then◌else◌}
use Rattle.std.specs.List.{filter, flat_map, range_with_len}
use Rattle.std.proofs.Math.ListN.{get_or-map}
use Rattle.std.proofs.lemmas.List.{length-map}
use Rattle.list_laws.proofs.Filters.{filter-flat_map, filter-map}
use Rattle.list_laws.proofs.Pushes.{flat_map_counted_more}
use Rattle.space3.specs.declared.boxes.BoundingBox.{BoundingBox}
use Rattle.space3.specs.declared.vectors.V3.{V3}
use Rattle.space3.specs.Boxes.{are_within}
use Rattle.boundary.specs.declared.pairs.Pair.{Pair}
use Rattle.boundary.specs.declared.pairs.PairKind.{PairKind}
use Rattle.boundary.specs.declared.pairs.PairKind.TheVariants.{VE, VT, EE, ET}
use Rattle.boundary.specs.Pairs.{all_pairs, counts, first_parts, is_in_order, kinds, pair_of, pairs_of_kind, part_pair, second_parts, share_node}
use Rattle.boundary.specs.Surface.{SurfaceLists}
use Rattle.box_grid.specs.Near.{box_at}
use Rattle.broad_grid.specs.declared.near.FirstPart.{FirstPart}
use Rattle.broad_grid.specs.NearPairs.{are_boxes_within, close_pairs_of, is_close}
use Rattle.broad_grid.specs.PartBoxes.{part_box, swept_box}
use Rattle.broad_grid.specs.Calls.Boxes.{BoxesOfParts, HasBoxes, first_boxes, second_boxes}
use Rattle.broad_grid.specs.Calls.Rows.{first_part, least_second, near_row, near_rows, near_rows_of_kinds, is_near_loose, wanted_row}
use Rattle.broad_grid.specs.Calls.Walk.{near_pairs_of, wanted_pairs_of}
use Rattle.broad_grid.proofs.BoxesInTheBox.{around_itself}

-- ---- filters
and_true : (b : Bool) → (b && true) ≡ b
and_true true = refl
and_true false = refl

and_false : (b : Bool) → (b && false) ≡ false
and_false true = refl
and_false false = refl

-- a filter of a filter
pub filter-filter : {A : Type 0} (p q : A → Bool) (xs : List A) → filter p (filter q xs) ≡ filter (λ x. p x && q x) xs
filter-filter p q [] = refl
filter-filter {A = A} p q (x ∷ xs) =
    one (q x)
    ∙ ap (λ (l : List A). cond (p x && q x) (x ∷ l) l) (filter-filter p q xs)
  where
    one : (b : Bool) → filter p (cond b (x ∷ filter q xs) (filter q xs)) ≡ cond (p x && b) (x ∷ filter p (filter q xs)) (filter p (filter q xs))
    one true = sym (ap (λ t. cond t (x ∷ filter p (filter q xs)) (filter p (filter q xs))) (and_true (p x)))
    one false = sym (ap (λ t. cond t (x ∷ filter p (filter q xs)) (filter p (filter q xs))) (and_false (p x)))

and_turned : (a b : Bool) → (a && b) ≡ (b && a)
and_turned true b = sym (and_true b)
and_turned false b = sym (and_false b)

none_pass : {A : Type 0} (xs : List A) → filter (λ x. false) xs ≡ []
none_pass [] = refl
none_pass (x ∷ xs) = none_pass xs

joined_empty : {X A : Type 0} (xs : List X) → flat_map {X = X} {A = A} (λ x. []) xs ≡ []
joined_empty [] = refl
joined_empty (x ∷ xs) = joined_empty xs

-- ---- a filter of the pairs of a kind, by first parts
abbrev rows_that_pass : (Pair → Bool) → SurfaceLists → PairKind → List Pair
rows_that_pass p s kind =
    flat_map (λ a. map (pair_of kind a) (filter (λ b. p (pair_of kind a b) && counts s (pair_of kind a b)) (range_with_len 0 (length (second_parts s kind))))) (range_with_len 0 (length (first_parts s kind)))

by_rows : (p : Pair → Bool) (s : SurfaceLists) (kind : PairKind) → filter p (pairs_of_kind s kind) ≡ rows_that_pass p s kind
by_rows p s kind =
    let m = length (first_parts s kind) in
    let n = length (second_parts s kind) in
    let both : Pair → Bool = λ q. p q && counts s q in
    filter-filter p (counts s) (all_pairs kind m n)
    ∙ filter-flat_map both (λ a. map (pair_of kind a) (range_with_len 0 n)) (range_with_len 0 m)
    ∙ (λ i. flat_map (λ a. filter-map both (pair_of kind a) (range_with_len 0 n) i) (range_with_len 0 m))

-- ---- the rows of boxes
-- a second part that is in order is not below the least one
from_least : (kind : PairKind) (a b : ℕ) → is_in_order kind a b ≡ true → nat_le (least_second kind a) b ≡ true
from_least VE a b e = grind arith
from_least VT a b e = grind arith
from_least EE a b e = grind arith
from_least ET a b e = grind arith

-- the near positions that count
near_that_count : (reach : ℕ) (s : SurfaceLists) (first : FirstPart) (boxes : List BoundingBox) →
    near_row reach s first boxes ≡ map (pair_of first.kind first.a) (filter (λ b. are_within reach first.around (box_at boxes b) && counts s (pair_of first.kind first.a b)) (range_with_len 0 (length boxes)))
near_that_count reach s first boxes =
    let kind = first.kind in
    let a = first.a in
    let near : ℕ → Bool = λ b. are_within reach first.around (box_at boxes b) in
    let late : ℕ → Bool = λ b. nat_le (least_second kind a) b && near b in
    let count : ℕ → Bool = λ b. counts s (pair_of kind a b) in
    let positions = range_with_len 0 (length boxes) in
    let same : (b : ℕ) → (count b && late b) ≡ (near b && count b) = λ b.
    turned (is_in_order kind a b) (nat_le (least_second kind a) b) (not (share_node (part_pair s (pair_of kind a b)))) (near b) (from_least kind a b) in
    ap (map (pair_of kind a)) (filter-filter count late positions ∙ (λ i. filter (λ b. same b i) positions))
  where
    turned : (ordered late apart near : Bool) → (ordered ≡ true → late ≡ true) → ((ordered && apart) && (late && near)) ≡ (near && (ordered && apart))
    turned true late apart near h = rw (h refl) (and_turned apart near)
    turned false late apart near h = sym (and_false near)

-- the rows that are wanted
wanted_that_count : (loose : Option BoundingBox) (reach : ℕ) (s : SurfaceLists) (first : FirstPart) (boxes : List BoundingBox) →
    wanted_row loose reach s first boxes ≡ map (pair_of first.kind first.a) (filter (λ b. (is_near_loose reach loose first.around && are_within reach first.around (box_at boxes b)) && counts s (pair_of first.kind first.a b)) (range_with_len 0 (length boxes)))
wanted_that_count loose reach s first boxes = one (is_near_loose reach loose first.around)
  where
    one : (t : Bool) → (if t then near_row reach s first boxes else [])
        ≡ map (pair_of first.kind first.a) (filter (λ b. (t && are_within reach first.around (box_at boxes b)) && counts s (pair_of first.kind first.a b)) (range_with_len 0 (length boxes)))
    one true = near_that_count reach s first boxes
    one false = sym (ap (map (pair_of first.kind first.a)) (none_pass (range_with_len 0 (length boxes))))

-- the boxes of parts, in place of their nodes
rows_of_boxes : (loose : Option BoundingBox) (reach : ℕ) (s : SurfaceLists) (x0 x1 : List V3) (kind : PairKind) (firsts seconds : List BoundingBox) → firsts ≡ map (swept_box x0 x1) (first_parts s kind) → seconds ≡ map (swept_box x0 x1) (second_parts s kind) →
    near_rows loose reach s kind firsts seconds ≡ rows_that_pass (λ p. is_near_loose reach loose (swept_box x0 x1 (part_pair s p).left) && are_boxes_within reach s x0 x1 p) s kind
rows_of_boxes loose reach s x0 x1 kind firsts seconds e f =
    let sweep = swept_box x0 x1 in
    let m : length firsts ≡ length (first_parts s kind) = ap length e ∙ length-map (first_parts s kind) sweep in
    let n : length seconds ≡ length (second_parts s kind) = ap length f ∙ length-map (second_parts s kind) sweep in
    let first : (a : ℕ) → box_at firsts a ≡ sweep (get_or (first_parts s kind) a []) = λ a. ap (λ l. box_at l a) e ∙ get_or-map sweep (first_parts s kind) a [] in
    let second : (b : ℕ) → box_at seconds b ≡ sweep (get_or (second_parts s kind) b []) = λ b. ap (λ l. box_at l b) f ∙ get_or-map sweep (second_parts s kind) b [] in
    (λ i. flat_map (λ a. wanted_that_count loose reach s (first_part kind firsts a) seconds i) (range_with_len 0 (length firsts)))
    ∙ (λ i. flat_map (λ a. map (pair_of kind a) (filter (λ b. (is_near_loose reach loose (first a i) && are_within reach (first a i) (second b i)) && counts s (pair_of kind a b)) (range_with_len 0 (n i)))) (range_with_len 0 (m i)))

vertices_first : (s : SurfaceLists) (x0 x1 : List V3) (boxes : BoxesOfParts) → HasBoxes s x0 x1 boxes → boxes.vertices ≡ map (swept_box x0 x1) (map (λ vertex. vertex ∷ []) s.vertices)
vertices_first s x0 x1 boxes h = h.vertices ∙ composed s.vertices
  where
    composed : (vs : List ℕ) → map (λ vertex. swept_box x0 x1 (vertex ∷ [])) vs ≡ map (swept_box x0 x1) (map (λ vertex. vertex ∷ []) vs)
    composed [] = refl
    composed (v ∷ vs) = ap (λ (l : List BoundingBox). swept_box x0 x1 (v ∷ []) ∷ l) (composed vs)

pub firsts_are : (s : SurfaceLists) (x0 x1 : List V3) (boxes : BoxesOfParts) → HasBoxes s x0 x1 boxes → (kind : PairKind) → first_boxes boxes kind ≡ map (swept_box x0 x1) (first_parts s kind)
firsts_are s x0 x1 boxes h VE = vertices_first s x0 x1 boxes h
firsts_are s x0 x1 boxes h VT = vertices_first s x0 x1 boxes h
firsts_are s x0 x1 boxes h EE = h.edges
firsts_are s x0 x1 boxes h ET = h.edges

pub seconds_are : (s : SurfaceLists) (x0 x1 : List V3) (boxes : BoxesOfParts) → HasBoxes s x0 x1 boxes → (kind : PairKind) → second_boxes boxes kind ≡ map (swept_box x0 x1) (second_parts s kind)
seconds_are s x0 x1 boxes h VE = h.edges
seconds_are s x0 x1 boxes h VT = h.triangles
seconds_are s x0 x1 boxes h EE = h.edges
seconds_are s x0 x1 boxes h ET = h.triangles

pub rows_are_wanted_pairs : (loose : Option BoundingBox) (reach : ℕ) (s : SurfaceLists) (x0 x1 : List V3) (boxes : BoxesOfParts) (ks : List PairKind) → HasBoxes s x0 x1 boxes → near_rows_of_kinds loose reach s boxes ks ≡ wanted_pairs_of loose reach s x0 x1 ks
rows_are_wanted_pairs loose reach s x0 x1 boxes ks h =
    let wanted : Pair → Bool = λ p. is_near_loose reach loose (swept_box x0 x1 (part_pair s p).left) && are_boxes_within reach s x0 x1 p in
    (λ i. flat_map (λ kind. rows_of_boxes loose reach s x0 x1 kind (first_boxes boxes kind) (second_boxes boxes kind) (firsts_are s x0 x1 boxes h kind) (seconds_are s x0 x1 boxes h kind) i) ks)
    ∙ sym (λ i. flat_map (λ kind. by_rows wanted s kind i) ks)
    ∙ sym (filter-flat_map wanted (pairs_of_kind s) ks)

-- ---- close pairs
no_close_rows : (m n : ℕ) (kind : PairKind) → flat_map (λ a. map (pair_of kind a) (filter (λ b. false) (range_with_len 0 n))) (range_with_len 0 m) ≡ []
no_close_rows m n kind =
    (λ i. flat_map (λ a. map (pair_of kind a) (none_pass (range_with_len 0 n) i)) (range_with_len 0 m))
    ∙ joined_empty (range_with_len 0 m)

-- a box that stays is its own swept box
pub stays : (reach : ℕ) (x : List V3) (left right : List ℕ) → are_within reach (swept_box x x left) (swept_box x x right) ≡ are_within reach (part_box x left) (part_box x right)
stays reach x left right = λ i. are_within reach (around_itself (part_box x left) i) (around_itself (part_box x right) i)

pub close_as_near : (reach : ℕ) (s : SurfaceLists) (x : List V3) → near_pairs_of reach s x x (VT ∷ EE ∷ []) ≡ close_pairs_of reach s x
close_as_near reach s x =
    let near = are_boxes_within reach s x x in
    let close = is_close reach s x in
    let count : (kind : PairKind) → ℕ = λ kind. length (second_parts s kind) in
    let none_of : (kind : PairKind) → rows_that_pass close s kind ≡ [] → filter close (pairs_of_kind s kind) ≡ [] = λ kind e. by_rows close s kind ∙ e in
    let vertex_edge = none_of VE (no_close_rows (length (first_parts s VE)) (count VE) VE) in
    let edge_triangle = none_of ET (no_close_rows (length (first_parts s ET)) (count ET) ET) in
    let vertex_triangle : filter near (pairs_of_kind s VT) ≡ filter close (pairs_of_kind s VT) =
    by_rows near s VT
    ∙ (λ i. flat_map (λ a. map (pair_of VT a) (filter (λ b. stays reach x (get_or (first_parts s VT) a []) (get_or (second_parts s VT) b []) i && counts s (pair_of VT a b)) (range_with_len 0 (count VT)))) (range_with_len 0 (length (first_parts s VT))))
    ∙ sym (by_rows close s VT) in
    let edges : filter near (pairs_of_kind s EE) ≡ filter close (pairs_of_kind s EE) =
    by_rows near s EE
    ∙ (λ i. flat_map (λ a. map (pair_of EE a) (filter (λ b. stays reach x (get_or (first_parts s EE) a []) (get_or (second_parts s EE) b []) i && counts s (pair_of EE a b)) (range_with_len 0 (count EE)))) (range_with_len 0 (length (first_parts s EE))))
    ∙ sym (by_rows close s EE) in
    filter-flat_map near (pairs_of_kind s) (VT ∷ EE ∷ [])
    ∙ (λ i. vertex_triangle i ++ (edges i ++ []))
    ∙ (λ i. sym vertex_edge i ++ (filter close (pairs_of_kind s VT) ++ (filter close (pairs_of_kind s EE) ++ (sym edge_triangle i ++ []))))
    ∙ sym (filter-flat_map close (pairs_of_kind s) kinds)

-- ---- the walk
-- one row more
pub rows_more : (row : ℕ → List Pair) (a : ℕ) (start before after last : List Pair) → before ≡ start ++ flat_map row (range_with_len 0 a) → last ≡ row a → after ≡ before ++ last → after ≡ start ++ flat_map row (range_with_len 0 (a + 1))
rows_more row a start before after last so_far is pushed =
    pushed
    ∙ (λ i. so_far i ++ is i)
    ∙ append_assoc start (flat_map row (range_with_len 0 a)) (row a)
    ∙ ap (λ l. start ++ l) (sym (flat_map_counted_more row a))
