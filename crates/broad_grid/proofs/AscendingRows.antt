-- The ascending list of the second parts found that have no node of the first part gives the near pairs of that part.
use Rattle.std.proofs.Common.{◌≡◌, ◌∙◌, ℕ, ◌<◌, ◌&&◌, Bool, true, false, not, List, [], ◌∷◌, ◌++◌, length, map, get_or, ap, sym, subst, arith}
use Rattle.std.specs.Prelude.{nat_le}
use Rattle.std.specs.List.{filter, range_with_len, All, Contains}
use Rattle.std.specs.List.Sorted.{IsStrictlyIncreasing}
use Rattle.std.proofs.Math.ListN.{get_or-map}
use Rattle.std.proofs.lemmas.Bool.{and_parts}
use Rattle.std.proofs.lemmas.List.{get_or_default}
use Rattle.std.proofs.lemmas.List.Elements.{All-contains, Contains-get_or}
use Rattle.std.proofs.lemmas.List.FromFn.{get_or-range_with_len, length-range_with_len}
use Rattle.list_laws.proofs.Membership.{Contains-filter, Contains-from_filter, Contains-range}
use Rattle.space3.specs.Boxes.{are_within}
use Rattle.space3.specs.declared.boxes.BoundingBox.{BoundingBox}
use Rattle.boundary.specs.declared.pairs.PairKind.{PairKind}
use Rattle.boundary.specs.declared.pairs.PairKind.TheVariants.{VE, VT, EE, ET}
use Rattle.boundary.specs.Pairs.{counts, first_parts, is_in_order, pair_of, second_parts, share_node}
use Rattle.boundary.specs.Surface.{SurfaceLists}
use Rattle.box_grid.specs.Near.{HasJust, box_at, near_positions}
use Rattle.box_grid.specs.Calls.Cells.{PassesBelow}
use Rattle.broad_grid.specs.declared.near.FirstPart.{FirstPart}
use Rattle.broad_grid.specs.Calls.Rows.{are_apart, is_apart_from, least_second, near_row}
use Rattle.broad_grid.proofs.RowsOfPairs.{filter-filter}
use Rattle.broad_grid.proofs.SameFilter.{is_filter}

-- a second part from the least one on is in order, and one in order is from there on
in_order : (kind : PairKind) (a b : ℕ) → nat_le (least_second kind a) b ≡ is_in_order kind a b
in_order VE a b = grind arith
in_order VT a b = grind arith
in_order EE a b = grind arith
in_order ET a b = grind arith

below_range : (n : ℕ) → All (λ i. i < n) (range_with_len 0 n)
below_range n k d l = omega (arith, get_or-range_with_len 0 n k d (omega (arith, length-range_with_len 0 n, l)), length-range_with_len 0 n, l)

-- what is found are positions of boxes
pub found_are_there : (reach : ℕ) (around : BoundingBox) (from : ℕ) (boxes : List BoundingBox) (found list : List ℕ) (n : ℕ) → HasJust (near_positions reach around from boxes) found → list ≡ found → length boxes ≡ n → All (λ b. b < n) list
found_are_there reach around from boxes found list n just same many =
    subst (All (λ b. b < n)) (sym same)
    (λ k d l.
    let late : ℕ → Bool = λ i. nat_le from i && are_within reach around (box_at boxes i) in
    let r = Contains-from_filter late (range_with_len 0 (length boxes)) (get_or found k d) (just.no_other (get_or found k d) (Contains-get_or found k d l)) in
    omega (arith, many, All-contains (λ i. i < length boxes) (range_with_len 0 (length boxes)) (get_or found k d) (below_range (length boxes)) r.0))

-- a position that counts and is near, from the least one on
abbrev is_wanted : ℕ → SurfaceLists → FirstPart → List BoundingBox → ℕ → Bool
is_wanted reach s first boxes b =
    counts s (pair_of first.kind first.a b) && (nat_le (least_second first.kind first.a) b && are_within reach first.around (box_at boxes b))

joined : (p q : Bool) → p ≡ true → q ≡ true → (p && q) ≡ true
joined true q e f = f
joined false q e f = e

pub row_is : (reach : ℕ) (s : SurfaceLists) (first : FirstPart) (boxes : List BoundingBox) (from : ℕ) (found apart ascending : List ℕ) → from ≡ least_second first.kind first.a → HasJust (near_positions reach first.around from boxes) found → apart ≡ filter (are_apart s first.kind first.a) found → IsStrictlyIncreasing ascending → ((x : ℕ) → Contains apart x → Contains ascending x) → ((x : ℕ) → Contains ascending x → Contains apart x) → map (pair_of first.kind first.a) ascending ≡ near_row reach s first boxes
row_is reach s first boxes from found apart ascending least some is rises keeps adds_none =
    let n = length boxes in
    let positions = range_with_len 0 n in
    let late : ℕ → Bool = λ b. nat_le (least_second first.kind first.a) b && are_within reach first.around (box_at boxes b) in
    let count : ℕ → Bool = λ b. counts s (pair_of first.kind first.a b) in
    ap (map (pair_of first.kind first.a))
    (is_filter (is_wanted reach s first boxes) n ascending rises (λ k d l. passes (get_or ascending k d) (Contains-get_or ascending k d l)) there
    ∙ sym (filter-filter count late positions))
  where
    just : HasJust (near_positions reach first.around (least_second first.kind first.a) boxes) found
    just = subst (λ f. HasJust (near_positions reach first.around f boxes) found) least some

    passes : (b : ℕ) → Contains ascending b → PassesBelow (length boxes) (is_wanted reach s first boxes) b
    passes b h =
        let positions = range_with_len 0 (length boxes) in
        let low = nat_le (least_second first.kind first.a) b in
        let near = are_within reach first.around (box_at boxes b) in
        let ordered = is_in_order first.kind first.a b in
        let in_found = Contains-from_filter (are_apart s first.kind first.a) found b (subst (λ (xs : List ℕ). Contains xs b) is (adds_none b h)) in
        let late = Contains-from_filter (λ x. nat_le (least_second first.kind first.a) x && are_within reach first.around (box_at boxes x)) positions b (just.no_other b in_found.0) in
        let first_here : ordered ≡ true = sym (in_order first.kind first.a b) ∙ (and_parts low near late.1).0 in
        record {
          below = All-contains (λ i. i < length boxes) positions b (below_range (length boxes)) late.0;
          passes = joined (ordered && are_apart s first.kind first.a b) (low && near) (joined ordered (are_apart s first.kind first.a b) first_here in_found.1) late.1;
        }

    there : (b : ℕ) → b < length boxes → is_wanted reach s first boxes b ≡ true → Contains ascending b
    there b l t =
        let late : ℕ → Bool = λ x. nat_le (least_second first.kind first.a) x && are_within reach first.around (box_at boxes x) in
        let parts = and_parts (counts s (pair_of first.kind first.a b)) (late b) t in
        let in_found = just.each b (Contains-filter late (range_with_len 0 (length boxes)) b parts.1 (Contains-range (length boxes) b l)) in
        let apart_b = (and_parts (is_in_order first.kind first.a b) (are_apart s first.kind first.a b) parts.0).1 in
        keeps b (subst (λ (xs : List ℕ). Contains xs b) (sym is) (Contains-filter (are_apart s first.kind first.a) found b apart_b in_found))

-- parts that are known by their nodes
pub apart_by_nodes : (s : SurfaceLists) (kind : PairKind) (a : ℕ) (nodes : List ℕ) (parts : List (List ℕ)) (seconds found new : List ℕ) → nodes ≡ get_or (first_parts s kind) a [] → parts ≡ second_parts s kind → new ≡ seconds ++ filter (is_apart_from parts nodes) found → new ≡ seconds ++ filter (are_apart s kind a) found
apart_by_nodes s kind a nodes parts seconds found new e f is =
    is ∙ (λ i. seconds ++ filter (λ b. not (share_node (record { left = e i; right = get_or (f i) b [] }))) found)

-- the nodes of a vertex
pub nodes_of_vertex : (s : SurfaceLists) (kind : PairKind) (a d : ℕ) (vertices nodes : List ℕ) → first_parts s kind ≡ map (λ vertex. vertex ∷ []) s.vertices → a < length (first_parts s kind) → vertices ≡ s.vertices → nodes ≡ get_or vertices a d ∷ [] → nodes ≡ get_or (first_parts s kind) a []
nodes_of_vertex s kind a d vertices nodes parts l same is =
    is
    ∙ ap (λ vs. get_or vs a d ∷ []) same
    ∙ sym (get_or-map (λ (vertex : ℕ). vertex ∷ []) s.vertices a d)
    ∙ get_or_default (map (λ (vertex : ℕ). vertex ∷ []) s.vertices) a (d ∷ []) [] (subst (λ (ps : List (List ℕ)). a < length ps) parts l)
    ∙ ap (λ (ps : List (List ℕ)). get_or ps a []) (sym parts)
