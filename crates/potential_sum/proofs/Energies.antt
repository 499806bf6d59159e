-- Sums of energies.
use Rattle.std.proofs.Common.{◌≡◌, ◌∙◌, ℕ, ◌+◌, ◌*◌, ◌^◌, ◌≤◌, ◌<◌, ℤ, pos, ◌+ℤ◌, ◌*ℤ◌, List, [], ◌∷◌, ◌++◌, length, map, refl, ap, sym, arith, unsigned_abs, to_z, of_z, neg_ℤ, true, false, FitsSigned}
use Rattle.std.specs.Prelude.{Bool, nat_lt, if◌then◌else◌}
use Rattle.std.specs.Int.{w128}
use Rattle.std.specs.List.{range_with_len}
use Rattle.std.specs.List.Sorted.{IsPermutation}
use Rattle.std.proofs.lemmas.List.{map-append}
use Rattle.std.proofs.lemmas.List.Sorted.{IsPermutation-map}
use Rattle.std.proofs.lemmas.Simd.{map-map}
use Rattle.std.proofs.lemmas.Int.{ints, to_z-of_z, fits_signed_from_abs}
use Rattle.whole_laws.proofs.Order.{size_sum}
use Rattle.list_laws.specs.Sums.{total}
use Rattle.list_laws.proofs.Filters.{filter-map}
use Rattle.num_q.specs.Rounding.{floor_of}
use Rattle.space3.specs.declared.vectors.V3.{V3}
use Rattle.space3.specs.Vectors.{AtMost, dot_product}
use Rattle.space3.specs.Mesh.{place_of}
use Rattle.safe_motion.specs.Safety.{PartPair}
use Rattle.boundary.specs.declared.pairs.Pair.{Pair}
use Rattle.broad_grid.specs.Held.{are_held, loose_close_pairs_of}
use Rattle.fixed_log.specs.Logarithm.{ln_ratio_of}
use Rattle.near_pair.specs.declared.near.Near.{Near}
use Rattle.near_pair.specs.Answers.{near_between, squared_distance}
use Rattle.barrier_term.specs.Barrier.{depth, energy_at as barrier_energy_at, reach_of}
use Rattle.surface_mesh.specs.declared.materials.Numbers.{Numbers}
use Rattle.surface_mesh.specs.declared.setup.Setup.{Setup}
use Rattle.surface_mesh.specs.Setup.{node_positions}
use Rattle.inertia_term.specs.Inertia.{inertia_energy, offset_of}
use Rattle.neo_hooke.specs.Energy.{shear_energy, stretch_energy, volume_energy}
use Rattle.neo_hooke.specs.Rest.{edge_matrix}
use Rattle.neo_hooke.specs.Strain.{log_volume, squared_strain}
use Rattle.friction_lag.specs.declared.contacts.Contact.{Contact}
use Rattle.friction_lag.specs.Contacts.{LaggedContact}
use Rattle.friction_lag.specs.Lagged.{lagged_in}
use Rattle.friction_lag.proofs.Sizes.{energy_is_small}
use Rattle.vec_q.proofs.CutVectors.{cut_at_most}
use Rattle.potential_sum.specs.declared.bodies.Body.{Body}
use Rattle.potential_sum.specs.Bodies.{ElasticTet, corners_at, elastic_tets}
use Rattle.potential_sum.specs.Calls.Barriers.{barrier_at}
use Rattle.potential_sum.specs.Calls.Friction.{friction_at}
use Rattle.potential_sum.specs.Calls.Inertia.{energy_at}
use Rattle.potential_sum.specs.Calls.Kept.{elastic_in}
use Rattle.potential_sum.specs.Calls.Loose.{held, loose}
use Rattle.potential_sum.specs.Contributions.{Contribution, barrier_contribution, elastic_contribution, friction_contribution, inertia_contribution}
use Rattle.potential_sum.specs.Contacts.{close_parts}
use Rattle.potential_sum.specs.Held.{held_energy, held_parts, held_tets, loose_tets}
use Rattle.potential_sum.specs.Potential.{potential}
use Rattle.potential_sum.specs.Terms.{FrameTerms}
use Rattle.potential_sum.proofs.LooseParts.{energies_of_both, of_loose_pairs, of_loose_tets}
use Rattle.potential_sum.proofs.OtherOrders.{total-permutation}

-- a sum of i numbers of at most 2^90 each, and one such number more
pub record IsAdded (before after : List ℤ) (i : ℕ) (a r : ℤ) : Type 0 where
  pub fits : FitsSigned w128 (a +ℤ r)
  pub sum : to_z w128 (of_z w128 (a +ℤ r)) ≡ total after
  pub bound : unsigned_abs (to_z w128 (of_z w128 (a +ℤ r))) ≤ (i + 1) * 2 ^ 90

pub added : (before after : List ℤ) (i : ℕ) (a r x : ℤ) → a ≡ total before → unsigned_abs a ≤ i * 2 ^ 90 → r ≡ x → AtMost (2 ^ 90) x → i < 2 ^ 34 → total after ≡ total before +ℤ x → IsAdded before after i a r
added before after i a r x h k e l few s =
    let one : unsigned_abs r ≤ 2 ^ 90 = rw e l.bound in
    let all : unsigned_abs (a +ℤ r) ≤ (i + 1) * 2 ^ 90 = omega (arith, size_sum a r) in
    let fits : FitsSigned w128 (a +ℤ r) = fits_signed_from_abs w128 (a +ℤ r) (omega arith) in
    record {
      fits = fits;
      sum = to_z-of_z w128 (a +ℤ r) fits ∙ (λ j. h j +ℤ e j) ∙ sym s;
      bound = rw (to_z-of_z w128 (a +ℤ r) fits) all;
    }

-- the sum of two lists
pub total-append : (xs ys : List ℤ) → total (xs ++ ys) ≡ total xs +ℤ total ys
total-append [] ys = sym (none (total ys))
  where
    none : (a : ℤ) → pos 0 +ℤ a ≡ a
    none a = omega (arith, ints)
total-append (x ∷ xs) ys = ap (λ (t : ℤ). x +ℤ t) (total-append xs ys) ∙ sym (regrouped x (total xs) (total ys))
  where
    regrouped : (a b c : ℤ) → (a +ℤ b) +ℤ c ≡ a +ℤ (b +ℤ c)
    regrouped a b c = omega (arith, ints)

-- the energy of each contribution is small
pub inertia-small : (mass : ℤ) (place target : V3) → AtMost (2 ^ 90) (inertia_energy mass place target)
inertia-small mass place target =
    let offset = offset_of place target in cut_at_most 90 (floor_of (mass *ℤ dot_product offset offset) (pos 65536))

pub elastic-small : (places : List V3) (tet : ElasticTet) → AtMost (2 ^ 90) (elastic_contribution places tet).energy
elastic-small places tet =
    let edges = edge_matrix (corners_at places tet.nodes) in
    let log = log_volume tet.rest edges in
    cut_at_most 90 (stretch_energy tet.mu tet.rest.r (squared_strain tet.rest edges) +ℤ shear_energy tet.mu tet.rest.r log +ℤ volume_energy tet.lambda tet.rest.r log)

pub barrier-small : (numbers : Numbers) (places : List V3) (parts : PartPair) → AtMost (2 ^ 90) (barrier_contribution numbers places parts).energy
barrier-small numbers places parts = where_active (nat_lt d e)
  where
    near : Near
    near = near_between (map (place_of places) parts.left) (map (place_of places) parts.right)

    d : ℕ
    d = squared_distance near

    e : ℕ
    e = reach_of numbers.dhat

    where_active : (b : Bool) → AtMost (2 ^ 90) (if b then barrier_energy_at numbers.kappa d e else pos 0)
    where_active true = cut_at_most 90 (floor_of (numbers.kappa *ℤ depth d e *ℤ depth d e *ℤ neg_ℤ (ln_ratio_of d e)) (pos (2 ^ 40)))
    where_active false = record { bound = omega arith }

pub friction-small : (numbers : Numbers) (places : List V3) (contact : LaggedContact) → AtMost (2 ^ 90) (friction_contribution numbers places contact).energy
friction-small numbers places contact = energy_is_small contact numbers.friction numbers.slip (corners_at places contact.nodes)

-- the energies of nodes, tetrahedra, pairs and contacts
energies-of : (nodes tets pairs contacts : List Contribution) → total (map (λ part. part.energy) (nodes ++ tets ++ pairs ++ contacts)) ≡
    ((total (map (λ part. part.energy) nodes) +ℤ total (map (λ part. part.energy) tets)) +ℤ total (map (λ part. part.energy) pairs)) +ℤ total (map (λ part. part.energy) contacts)
energies-of nodes tets pairs contacts =
    joined (nodes ++ tets ++ pairs) contacts
    ∙ ap (λ (z : ℤ). z +ℤ total (map energy contacts)) (joined (nodes ++ tets) pairs ∙ ap (λ (z : ℤ). z +ℤ total (map energy pairs)) (joined nodes tets))
  where
    energy : Contribution → ℤ
    energy part = part.energy

    joined : (xs ys : List Contribution) → total (map energy (xs ++ ys)) ≡ total (map energy xs) +ℤ total (map energy ys)
    joined xs ys = ap total (map-append energy xs ys) ∙ total-append (map energy xs) (map energy ys)

-- the energies of images
pub energies-map : {X Y : Type 0} (f : Y → Contribution) (g : X → Y) (xs : List X) (ys : List Y) → map g xs ≡ ys → total (map (λ x. (f (g x)).energy) xs) ≡ total (map (λ part. part.energy) (map f ys))
energies-map f g xs ys e =
    ap total (sym (map-map (λ y. (f y).energy) g xs) ∙ ap (map (λ y. (f y).energy)) e ∙ sym (map-map (λ (part : Contribution). part.energy) f ys))

-- the energies of tetrahedra, in another order
pub elastic-kept : (places : List V3) (tets : List ElasticTet) (bodies : List Body) → IsPermutation tets (map elastic_in bodies) →
    total (map (λ body. (elastic_contribution places (elastic_in body)).energy) bodies) ≡ total (map (λ part. part.energy) (map (elastic_contribution places) tets))
elastic-kept places tets bodies kept =
    energies-map (elastic_contribution places) elastic_in bodies (map elastic_in bodies) refl
    ∙ total-permutation (map energy (map (elastic_contribution places) tets)) (map energy (map (elastic_contribution places) (map elastic_in bodies)))
    (IsPermutation-map energy _ _ (IsPermutation-map (elastic_contribution places) tets (map elastic_in bodies) kept))
  where
    energy : Contribution → ℤ
    energy part = part.energy

-- the energy of the held contributions
energies-held : (s : Setup) (x : List V3) → total (map (λ part. part.energy) (held s.fixed (map (elastic_contribution x) (elastic_tets s))))
    +ℤ total (map (λ part. part.energy) (held s.fixed (map (barrier_contribution s.numbers x) (close_parts s x)))) ≡ held_energy s x
energies-held s x = (λ i. of_tets i +ℤ of_parts i)
  where
    energy : Contribution → ℤ
    energy part = part.energy

    is_held : Contribution → Bool
    is_held part = are_held s.fixed part.nodes

    of_tets : total (map energy (held s.fixed (map (elastic_contribution x) (elastic_tets s)))) ≡ total (map (λ tet. (elastic_contribution x tet).energy) (held_tets s))
    of_tets = ap (λ (parts : List Contribution). total (map energy parts)) (filter-map is_held (elastic_contribution x) (elastic_tets s)) ∙ ap total (map-map energy (elastic_contribution x) (held_tets s))

    of_parts : total (map energy (held s.fixed (map (barrier_contribution s.numbers x) (close_parts s x)))) ≡ total (map (λ parts. (barrier_contribution s.numbers x parts).energy) (held_parts s x))
    of_parts = ap (λ (parts : List Contribution). total (map energy parts)) (filter-map is_held (barrier_contribution s.numbers x) (close_parts s x)) ∙ ap total (map-map energy (barrier_contribution s.numbers x) (held_parts s x))

-- the potential, from what is kept and from the pairs that were found
pub potential-kept : (s : Setup) (frame : FrameTerms) (x : List V3) (bodies : List Body) (pairs : List Pair) (contacts : List Contact) → length x ≡ length s.mesh.numbers → IsPermutation (loose_tets s) (map elastic_in bodies) →
    pairs ≡ loose_close_pairs_of s.fixed (unsigned_abs s.numbers.dhat) s.surface x → map lagged_in contacts ≡ frame.contacts →
    (((total (map (energy_at s.mass frame.targets x) (range_with_len 0 (length x))) +ℤ total (map (λ body. (elastic_contribution x (elastic_in body)).energy) bodies)) +ℤ total (map (λ pair. (barrier_at s x pair).energy) pairs))
    +ℤ total (map (λ contact. (friction_at s.numbers x contact).energy) contacts)) +ℤ held_energy s x ≡ potential s frame x
potential-kept s frame x bodies pairs contacts e kept found lagged =
    (λ i. (((of_nodes i +ℤ of_tets i) +ℤ of_pairs i) +ℤ of_contacts i) +ℤ sym (energies-held s x) i)
    ∙ regrouped (sum nodes) (sum (loose s.fixed tets)) (sum (loose s.fixed near)) (sum rubbing) (sum (held s.fixed tets)) (sum (held s.fixed near))
    ∙ (λ i. ((sum nodes +ℤ sym (energies_of_both s.fixed tets) i) +ℤ sym (energies_of_both s.fixed near) i) +ℤ sum rubbing)
    ∙ sym (energies-of nodes tets near rubbing)
  where
    energy : Contribution → ℤ
    energy part = part.energy

    sum : List Contribution → ℤ
    sum parts = total (map energy parts)

    nodes : List Contribution
    nodes = map (inertia_contribution s frame x) (node_positions s.mesh)

    tets : List Contribution
    tets = map (elastic_contribution x) (elastic_tets s)

    near : List Contribution
    near = map (barrier_contribution s.numbers x) (close_parts s x)

    rubbing : List Contribution
    rubbing = map (friction_contribution s.numbers x) frame.contacts

    of_nodes : total (map (energy_at s.mass frame.targets x) (range_with_len 0 (length x))) ≡ sum nodes
    of_nodes = (λ i. total (map (energy_at s.mass frame.targets x) (range_with_len 0 (e i)))) ∙ ap total (sym (map-map energy (inertia_contribution s frame x) (node_positions s.mesh)))

    of_tets : total (map (λ body. (elastic_contribution x (elastic_in body)).energy) bodies) ≡ sum (loose s.fixed tets)
    of_tets = elastic-kept x (loose_tets s) bodies kept ∙ ap sum (sym (of_loose_tets s x))

    of_pairs : total (map (λ pair. (barrier_at s x pair).energy) pairs) ≡ sum (loose s.fixed near)
    of_pairs = ap total (sym (map-map energy (barrier_at s x) pairs)) ∙ ap (λ (list : List Pair). sum (map (barrier_at s x) list)) found ∙ ap sum (sym (of_loose_pairs s x))

    of_contacts : total (map (λ contact. (friction_at s.numbers x contact).energy) contacts) ≡ sum rubbing
    of_contacts = energies-map (friction_contribution s.numbers x) lagged_in contacts frame.contacts lagged

    regrouped : (n a b c d f : ℤ) → (((n +ℤ a) +ℤ b) +ℤ c) +ℤ (d +ℤ f) ≡ ((n +ℤ (a +ℤ d)) +ℤ (b +ℤ f)) +ℤ c
    regrouped n a b c d f = omega (arith, ints)
