-- Contributions all of whose nodes are fixed change nothing at free nodes.
use Rattle.std.proofs.Common.{◌≡◌, ◌∙◌, ℕ, ℤ, ◌+ℤ◌, Bool, true, false, ◌&&◌, cond, List, [], ◌∷◌, ◌++◌, map, unsigned_abs, refl, ap, sym, subst, arith}
use Rattle.std.specs.Prelude.{All, not, slice_index_or}
use Rattle.std.specs.List.{filter}
use Rattle.std.proofs.lemmas.Bool.{and_parts}
use Rattle.std.proofs.lemmas.Int.{ints}
use Rattle.std.proofs.lemmas.List.{map-append}
use Rattle.std.proofs.lemmas.List.Folds.{list_all-append}
use Rattle.std.proofs.lemmas.Simd.{map-map}
use Rattle.std.proofs.lemmas.List.Elements.{All-nil, All-cons}
use Rattle.list_laws.specs.Sums.{total}
use Rattle.list_laws.proofs.Filters.{filter-map}
use Rattle.space3.specs.declared.vectors.V3.{V3}
use Rattle.space3.specs.Vectors.{sum_of}
use Rattle.boundary.specs.Pairs.{part_pair}
use Rattle.broad_grid.specs.Held.{are_held, loose_close_pairs_of}
use Rattle.broad_grid.specs.NearPairs.{close_pairs_of}
use Rattle.surface_mesh.specs.declared.setup.Setup.{Setup}
use Rattle.surface_mesh.specs.Setup.{node_positions}
use Rattle.potential_sum.specs.Bodies.{elastic_tets}
use Rattle.potential_sum.specs.Calls.Barriers.{barrier_at}
use Rattle.potential_sum.specs.Contacts.{close_parts}
use Rattle.potential_sum.specs.Held.{loose_tets}
use Rattle.potential_sum.specs.Terms.{FrameTerms}
use Rattle.potential_sum.specs.Calls.Loose.{held, loose, loose_contributions}
use Rattle.potential_sum.specs.Contributions.{Contribution, barrier_contribution, contributions, elastic_contribution, friction_contribution, inertia_contribution, pull_at, vector_total}
use Rattle.potential_sum.proofs.PullSums.{none_at, vector_total-append}
use Rattle.potential_sum.proofs.VectorSums.{origin-sum_of}

-- a free node is none of the held ones
differ : (fixed : List Bool) (node : ℕ) (nodes : List ℕ) → slice_index_or fixed node false ≡ false → are_held fixed nodes ≡ true → All (λ n. ¬ (n ≡ node)) nodes
differ fixed node [] free e = All-nil (λ n. ¬ (n ≡ node))
differ fixed node (n ∷ ns) free e =
    let both = and_parts _ _ e in
    All-cons (λ m. ¬ (m ≡ node)) n ns (λ same. unlike (subst (λ m. slice_index_or fixed m false ≡ true) same both.0)) (differ fixed node ns free both.1)
  where
    unlike : slice_index_or fixed node false ≡ true → ⊥
    unlike h = cc

-- what pulls at a free node
pub pulls_of_loose : (fixed : List Bool) (node : ℕ) (parts : List Contribution) → slice_index_or fixed node false ≡ false → vector_total (map (pull_at node) (loose fixed parts)) ≡ vector_total (map (pull_at node) parts)
pulls_of_loose fixed node [] free = refl
pulls_of_loose fixed node (part ∷ parts) free = one (are_held fixed part.nodes) refl (pulls_of_loose fixed node parts free)
  where
    one : (b : Bool) → are_held fixed part.nodes ≡ b → vector_total (map (pull_at node) (loose fixed parts)) ≡ vector_total (map (pull_at node) parts) →
        vector_total (map (pull_at node) (cond (not (are_held fixed part.nodes)) (part ∷ loose fixed parts) (loose fixed parts))) ≡ sum_of (pull_at node part) (vector_total (map (pull_at node) parts))
    one true e rest =
        rw e (rest ∙ sym (ap (λ (v : V3). sum_of v (vector_total (map (pull_at node) parts))) (none_at node part.nodes part.pulls (differ fixed node part.nodes free e)) ∙ origin-sum_of (vector_total (map (pull_at node) parts))))
    one false e rest = rw e (ap (sum_of (pull_at node part)) rest)

-- the energies of all are those of the loose ones and those of the held ones
pub energies_of_both : (fixed : List Bool) (parts : List Contribution) → total (map (λ part. part.energy) parts) ≡ total (map (λ part. part.energy) (loose fixed parts)) +ℤ total (map (λ part. part.energy) (held fixed parts))
energies_of_both fixed [] = refl
energies_of_both fixed (part ∷ parts) = one (are_held fixed part.nodes) refl (energies_of_both fixed parts)
  where
    energy : Contribution → ℤ
    energy part = part.energy

    one : (b : Bool) → are_held fixed part.nodes ≡ b → total (map energy parts) ≡ total (map energy (loose fixed parts)) +ℤ total (map energy (held fixed parts)) →
        part.energy +ℤ total (map energy parts) ≡ total (map energy (cond (not (are_held fixed part.nodes)) (part ∷ loose fixed parts) (loose fixed parts))) +ℤ total (map energy (cond (are_held fixed part.nodes) (part ∷ held fixed parts) (held fixed parts)))
    one true e rest = rw e (ap (λ (z : ℤ). part.energy +ℤ z) rest ∙ second part.energy (total (map energy (loose fixed parts))) (total (map energy (held fixed parts))))
      where
        second : (a b c : ℤ) → a +ℤ (b +ℤ c) ≡ b +ℤ (a +ℤ c)
        second a b c = omega (arith, ints)
    one false e rest = rw e (ap (λ (z : ℤ). part.energy +ℤ z) rest ∙ first part.energy (total (map energy (loose fixed parts))) (total (map energy (held fixed parts))))
      where
        first : (a b c : ℤ) → a +ℤ (b +ℤ c) ≡ (a +ℤ b) +ℤ c
        first a b c = omega (arith, ints)

-- each node of two lists is fixed
pub are_held-append : (fixed : List Bool) (xs ys : List ℕ) → are_held fixed (xs ++ ys) ≡ (are_held fixed xs && are_held fixed ys)
are_held-append fixed xs ys = list_all-append (λ node. slice_index_or fixed node false) xs ys

-- the contributions of loose tetrahedra, and of loose pairs
pub of_loose_tets : (s : Setup) (x : List V3) → loose s.fixed (map (elastic_contribution x) (elastic_tets s)) ≡ map (elastic_contribution x) (loose_tets s)
of_loose_tets s x = filter-map (λ part. not (are_held s.fixed part.nodes)) (elastic_contribution x) (elastic_tets s)

pub of_loose_pairs : (s : Setup) (x : List V3) →
    loose s.fixed (map (barrier_contribution s.numbers x) (close_parts s x)) ≡ map (barrier_at s x) (loose_close_pairs_of s.fixed (unsigned_abs s.numbers.dhat) s.surface x)
of_loose_pairs s x =
    let close = close_pairs_of (unsigned_abs s.numbers.dhat) s.surface x in
    ap (loose s.fixed) (map-map (barrier_contribution s.numbers x) (part_pair s.surface) close) ∙ filter-map (λ part. not (are_held s.fixed part.nodes)) (barrier_at s x) close
    ∙ (λ i. map (barrier_at s x) (filter (λ p. not (are_held-append s.fixed (part_pair s.surface p).left (part_pair s.surface p).right i)) close))

-- at a free node all contributions pull as the loose ones do
pub pulls_of_all : (s : Setup) (frame : FrameTerms) (x : List V3) (node : ℕ) → slice_index_or s.fixed node false ≡ false →
    vector_total (map (pull_at node) (loose_contributions s frame x)) ≡ vector_total (map (pull_at node) (contributions s frame x))
pulls_of_all s frame x node free =
    sums nodes (loose s.fixed tets) (loose s.fixed near) ∙ (λ i. sum_of (sum_of (sum_of (sum nodes) (pulls_of_loose s.fixed node tets free i)) (pulls_of_loose s.fixed node near free i)) (sum rubbing)) ∙ sym (sums nodes tets near)
  where
    nodes : List Contribution
    nodes = map (inertia_contribution s frame x) (node_positions s.mesh)

    tets : List Contribution
    tets = map (elastic_contribution x) (elastic_tets s)

    near : List Contribution
    near = map (barrier_contribution s.numbers x) (close_parts s x)

    rubbing : List Contribution
    rubbing = map (friction_contribution s.numbers x) frame.contacts

    sum : List Contribution → V3
    sum parts = vector_total (map (pull_at node) parts)

    joined : (xs ys : List Contribution) → sum (xs ++ ys) ≡ sum_of (sum xs) (sum ys)
    joined xs ys = ap vector_total (map-append (pull_at node) xs ys) ∙ vector_total-append (map (pull_at node) xs) (map (pull_at node) ys)

    sums : (ns ts ps : List Contribution) → sum (((ns ++ ts) ++ ps) ++ rubbing) ≡ sum_of (sum_of (sum_of (sum ns) (sum ts)) (sum ps)) (sum rubbing)
    sums ns ts ps = joined ((ns ++ ts) ++ ps) rubbing ∙ ap (λ (v : V3). sum_of v (sum rubbing)) (joined (ns ++ ts) ps ∙ ap (λ (v : V3). sum_of v (sum ps)) (joined ns ts))
