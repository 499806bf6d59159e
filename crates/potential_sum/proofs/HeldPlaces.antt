-- Where fixed nodes stay, the energy of what they hold stays.
use Rattle.std.proofs.Common.{◌≡◌, ◌∙◌, ◌&&◌, ◌<◌, ℕ, zero, suc, ℤ, ◌+ℤ◌, Bool, true, false, cond, List, [], ◌∷◌, length, map, unsigned_abs, refl, ap, sym, arith}
use Rattle.std.specs.Prelude.{All, ◌||◌, not, slice_index, slice_index_or}
use Rattle.std.specs.List.{filter}
use Rattle.std.proofs.lemmas.Bool.{and_parts}
use Rattle.std.proofs.lemmas.List.Elements.{All-head, All-map, All-tail}
use Rattle.std.proofs.lemmas.List.Sums.{AllPass-from_list_all}
use Rattle.list_laws.specs.Sums.{total}
use Rattle.list_laws.proofs.Filters.{filter-map}
use Rattle.space3.specs.declared.vectors.V3.{V3}
use Rattle.space3.specs.Vectors.{vector}
use Rattle.space3.specs.Boxes.{are_within, box_of}
use Rattle.space3.specs.Mesh.{place_of}
use Rattle.safe_motion.specs.Safety.{PartPair}
use Rattle.boundary.specs.declared.pairs.Pair.{Pair}
use Rattle.boundary.specs.Pairs.{pairs_of, part_pair}
use Rattle.broad_grid.specs.Held.{are_held}
use Rattle.broad_grid.specs.Moving.{is_same}
use Rattle.broad_grid.proofs.MovingPairs.{same_place}
use Rattle.broad_grid.specs.NearPairs.{close_pairs_of, is_close, is_of_close_kind}
use Rattle.surface_mesh.specs.declared.setup.Setup.{Setup}
use Rattle.surface_mesh.specs.Setup.{IsSetup}
use Rattle.near_pair.specs.Answers.{near_between}
use Rattle.neo_hooke.specs.Energy.{elastic_energy}
use Rattle.barrier_term.specs.Barrier.{barrier_energy}
use Rattle.potential_sum.specs.Bodies.{ElasticTet, corners_at, elastic_of, elastic_tets}
use Rattle.potential_sum.specs.Calls.Held.{have_fixed_stayed}
use Rattle.potential_sum.specs.Contacts.{close_parts, near_of_parts, nodes_of_parts}
use Rattle.potential_sum.specs.Held.{held_energy, held_parts, held_tets}
use Rattle.potential_sum.proofs.LooseParts.{are_held-append}

-- each fixed node has the same place in both lists
pub record FixedStay (fixed : List Bool) (before now : List V3) : Type 0 where
  pub each : (node : ℕ) → slice_index_or fixed node false ≡ true → place_of before node ≡ place_of now node

same_places : (fixed : List Bool) (before now : List V3) (node : ℕ) → length before ≡ length fixed → length now ≡ length fixed → have_fixed_stayed fixed before now ≡ true → slice_index_or fixed node false ≡ true → place_of before node ≡ place_of now node
same_places [] before now node m n e f = cc
same_places (b ∷ fixed) [] now node m n e f = absurd (omega (arith, m))
same_places (b ∷ fixed) (p ∷ before) [] node m n e f = absurd (omega (arith, n))
same_places (b ∷ fixed) (p ∷ before) (q ∷ now) zero m n e f = same_place p q (if_fixed b f (and_parts _ _ e).0)
  where
    if_fixed : (b : Bool) → b ≡ true → (not b || is_same p q) ≡ true → is_same p q ≡ true
    if_fixed true f e = e
    if_fixed false f e = cc
same_places (b ∷ fixed) (p ∷ before) (q ∷ now) (suc node) m n e f = same_places fixed before now node (omega (arith, m)) (omega (arith, n)) (and_parts _ _ e).1 f

pub fixed_stay : (fixed : List Bool) (before now : List V3) → length before ≡ length fixed → length now ≡ length fixed → have_fixed_stayed fixed before now ≡ true → FixedStay fixed before now
fixed_stay fixed before now m n e = record { each = λ node f. same_places fixed before now node m n e f }

-- so do nodes all of which are fixed
part_stays : (fixed : List Bool) (before now : List V3) (nodes : List ℕ) → FixedStay fixed before now → are_held fixed nodes ≡ true → map (place_of before) nodes ≡ map (place_of now) nodes
part_stays fixed before now [] stay e = refl
part_stays fixed before now (n ∷ ns) stay e =
    let both = and_parts (slice_index_or fixed n false) (are_held fixed ns) e in
    λ i. stay.each n both.0 i ∷ part_stays fixed before now ns stay both.1 i

tet_stays : (fixed : List Bool) (before now : List V3) (nodes : List ℕ) → length nodes ≡ 4 → FixedStay fixed before now → are_held fixed nodes ≡ true → corners_at before nodes ≡ corners_at now nodes
tet_stays fixed before now nodes four stay e = λ i. corner 0 (omega (arith, four)) i ∷ corner 1 (omega (arith, four)) i ∷ corner 2 (omega (arith, four)) i ∷ corner 3 (omega (arith, four)) i ∷ []
  where
    corner : (k : ℕ) → k < length nodes → place_of before (slice_index nodes k) ≡ place_of now (slice_index nodes k)
    corner k l = stay.each (slice_index nodes k) (AllPass-from_list_all (λ node. slice_index_or fixed node false) nodes e k 0 l)

-- images of what passes a test
alike_where : {X Y : Type 0} (test : X → Bool) (f g : X → Y) (xs : List X) → All (λ x. test x ≡ true → f x ≡ g x) xs → map f (filter test xs) ≡ map g (filter test xs)
alike_where test f g [] h = refl
alike_where test f g (x ∷ xs) h = one (test x) refl (alike_where test f g xs (All-tail (λ y. test y ≡ true → f y ≡ g y) x xs h))
  where
    one : (b : Bool) → test x ≡ b → map f (filter test xs) ≡ map g (filter test xs) → map f (cond b (x ∷ filter test xs) (filter test xs)) ≡ map g (cond b (x ∷ filter test xs) (filter test xs))
    one true e rest = λ i. All-head (λ y. test y ≡ true → f y ≡ g y) x xs h e i ∷ rest i
    one false e rest = rest

-- two tests that agree on what passes a third
same_where : {X : Type 0} (test p q : X → Bool) (xs : List X) → ((x : X) → test x ≡ true → p x ≡ q x) → filter test (filter p xs) ≡ filter test (filter q xs)
same_where test p q [] h = refl
same_where {X = X} test p q (x ∷ xs) h = one (test x) refl (same_where test p q xs h)
  where
    one : (b : Bool) → test x ≡ b → filter test (filter p xs) ≡ filter test (filter q xs) → filter test (cond (p x) (x ∷ filter p xs) (filter p xs)) ≡ filter test (cond (q x) (x ∷ filter q xs) (filter q xs))
    one true e rest = (λ i. filter test (cond (h x e i) (x ∷ filter p xs) (filter p xs))) ∙ either (q x) (ap (λ l. cond (test x) (x ∷ l) l) rest) rest
      where
        either : (b : Bool) → cond (test x) (x ∷ filter test (filter p xs)) (filter test (filter p xs)) ≡ cond (test x) (x ∷ filter test (filter q xs)) (filter test (filter q xs)) → filter test (filter p xs) ≡ filter test (filter q xs)
            → filter test (cond b (x ∷ filter p xs) (filter p xs)) ≡ filter test (cond b (x ∷ filter q xs) (filter q xs))
        either true more less = more
        either false more less = less
    one false e rest = dropped (p x) (filter p xs) ∙ rest ∙ sym (dropped (q x) (filter q xs))
      where
        dropped : (b : Bool) (ys : List X) → filter test (cond b (x ∷ ys) ys) ≡ filter test ys
        dropped true ys = rw e refl
        dropped false ys = refl

pub held_energy_stays : (s : Setup) (before now : List V3) → IsSetup s → FixedStay s.fixed before now → held_energy s before ≡ held_energy s now
held_energy_stays s before now built stay = λ i. total (tets i) +ℤ total (parts i)
  where
    energy : List V3 → ElasticTet → ℤ
    energy x tet = elastic_energy tet.rest tet.mu tet.lambda (corners_at x tet.nodes)

    barrier : List V3 → PartPair → ℤ
    barrier x p = barrier_energy s.numbers.kappa s.numbers.dhat (near_of_parts x p)

    is_held : PartPair → Bool
    is_held p = are_held s.fixed (nodes_of_parts p)

    tets : map (energy before) (held_tets s) ≡ map (energy now) (held_tets s)
    tets =
        alike_where (λ tet. are_held s.fixed tet.nodes) (energy before) (energy now) (elastic_tets s)
        (All-map (λ tet. are_held s.fixed tet.nodes ≡ true → energy before tet ≡ energy now tet) (elastic_of s) s.mesh.tets
        (λ k d l e. ap (λ (x : List V3). elastic_energy (elastic_of s (slice_index_or s.mesh.tets k d)).rest (elastic_of s (slice_index_or s.mesh.tets k d)).mu (elastic_of s (slice_index_or s.mesh.tets k d)).lambda x)
        (tet_stays s.fixed before now (slice_index_or s.mesh.tets k d).nodes (built.mesh_is_sound.tets k d l).four stay e)))

    -- the parts of a held pair
    both : (p : PartPair) → is_held p ≡ true → (are_held s.fixed p.left ≡ true) × (are_held s.fixed p.right ≡ true)
    both p e = and_parts (are_held s.fixed p.left) (are_held s.fixed p.right) (sym (are_held-append s.fixed p.left p.right) ∙ e)

    close_alike : (p : Pair) → is_held (part_pair s.surface p) ≡ true → is_close (unsigned_abs s.numbers.dhat) s.surface before p ≡ is_close (unsigned_abs s.numbers.dhat) s.surface now p
    close_alike p e =
        let nodes = part_pair s.surface p in
        let each = both nodes e in
        λ i. is_of_close_kind p.kind && are_within (unsigned_abs s.numbers.dhat) (box_of (part_stays s.fixed before now nodes.left stay each.0 i)) (box_of (part_stays s.fixed before now nodes.right stay each.1 i))

    same_parts : held_parts s before ≡ held_parts s now
    same_parts =
        filter-map is_held (part_pair s.surface) (close_pairs_of (unsigned_abs s.numbers.dhat) s.surface before)
        ∙ ap (map (part_pair s.surface)) (same_where (λ p. is_held (part_pair s.surface p)) (is_close (unsigned_abs s.numbers.dhat) s.surface before) (is_close (unsigned_abs s.numbers.dhat) s.surface now) (pairs_of s.surface) close_alike)
        ∙ sym (filter-map is_held (part_pair s.surface) (close_pairs_of (unsigned_abs s.numbers.dhat) s.surface now))

    parts : map (barrier before) (held_parts s before) ≡ map (barrier now) (held_parts s now)
    parts =
        ap (map (barrier before)) same_parts
        ∙ alike_where is_held (barrier before) (barrier now) (close_parts s now)
        (λ k d l e. let p = slice_index_or (close_parts s now) k d in
        let each = both p e in
        λ i. barrier_energy s.numbers.kappa s.numbers.dhat (near_between (part_stays s.fixed before now p.left stay each.0 i) (part_stays s.fixed before now p.right stay each.1 i)))
