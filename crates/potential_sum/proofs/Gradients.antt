-- The gradient from what was added up; how long it is, how great its numbers are, and where those of a node stand.
use Rattle.std.proofs.Common.{◌≡◌, ◌∙◌, ℕ, suc, ◌+◌, ◌-◌, ◌*◌, ◌<◌, ◌≤◌, ◌^◌, ℤ, true, false, List, [], ◌∷◌, ◌++◌, length, map, get_or, refl, ap, sym, subst, arith, lit≤, length-append, unsigned_abs}
use Rattle.std.specs.Prelude.{◌==◌, All, Bool, if◌then◌else◌, slice_index_or, zip}
use Rattle.std.specs.List.{flat_map, range_with_len}
use Rattle.std.specs.List.Sorted.{IsPermutation}
use Rattle.std.proofs.lemmas.List.{length-map, map-append}
use Rattle.std.proofs.lemmas.List.Elements.{All-nil, All-cons, All-head, All-tail, All-append, All-map}
use Rattle.std.proofs.lemmas.List.FromFn.{length-range_with_len}
use Rattle.std.proofs.lemmas.List.Sorted.{IsPermutation-append_left, IsPermutation-append_right, IsPermutation-map}
use Rattle.std.proofs.lemmas.Simd.{map-map}
use Rattle.std.proofs.lemmas.Slice.Zip.{length-zip}
use Rattle.block_rows.proofs.Threes.{get_or-threes, length-threes}
use Rattle.list_laws.proofs.CountedWrites.{All-counted, get_or-counted}
use Rattle.space3.specs.declared.vectors.V3.{V3}
use Rattle.space3.specs.declared.vectors.W3.{W3}
use Rattle.space3.specs.Vectors.{AtMost, Within, origin, sum_of}
use Rattle.space3.proofs.Bounds.{within_more, within-sum}
use Rattle.vec_q.specs.Rows.{components}
use Rattle.safe_motion.specs.Safety.{PartPair}
use Rattle.boundary.specs.declared.pairs.Pair.{Pair}
use Rattle.broad_grid.specs.Held.{loose_close_pairs_of}
use Rattle.surface_mesh.specs.declared.materials.Numbers.{Numbers}
use Rattle.surface_mesh.specs.declared.setup.Setup.{Setup}
use Rattle.surface_mesh.specs.Setup.{IsSetup, node_positions}
use Rattle.friction_lag.specs.declared.contacts.Contact.{Contact}
use Rattle.friction_lag.specs.Contacts.{LaggedContact}
use Rattle.friction_lag.specs.Lagged.{lagged_in}
use Rattle.potential_sum.specs.declared.bodies.Body.{Body}
use Rattle.potential_sum.specs.declared.contacts.TheConstants.{MOST_CLOSE}
use Rattle.potential_sum.specs.Bodies.{ElasticTet, elastic_of, elastic_tets}
use Rattle.potential_sum.specs.Calls.Barriers.{MayPush, barrier_at}
use Rattle.potential_sum.specs.Calls.Friction.{MaySlide, friction_at}
use Rattle.potential_sum.specs.Calls.Inertia.{part_at}
use Rattle.potential_sum.specs.Calls.Kept.{elastic_in}
use Rattle.potential_sum.specs.Calls.Sums.{node_sums, nothing, numbers_of, wide}
use Rattle.potential_sum.specs.Contributions.{Contribution, barrier_contribution, contributions, elastic_contribution, friction_contribution, inertia_contribution, pull_at, vector_total}
use Rattle.potential_sum.specs.Contacts.{close_parts}
use Rattle.potential_sum.specs.Potential.{gradient, gradient_at}
use Rattle.potential_sum.specs.Held.{loose_tets}
use Rattle.potential_sum.specs.Terms.{FrameTerms, KeptTerms, StandFor}
use Rattle.potential_sum.specs.Calls.Loose.{loose_contributions}
use Rattle.potential_sum.proofs.LooseParts.{of_loose_pairs, of_loose_tets, pulls_of_all}
use Rattle.potential_sum.specs.Upright.{IsUpright}
use Rattle.potential_sum.proofs.Parts.{All-zip_right, barrier-pulls-weak, elastic-pulls-weak, friction-pulls-weak, inertia-pulls-weak}
use Rattle.potential_sum.proofs.CloseParts.{close_parts_may_push, few_close_parts}
use Rattle.potential_sum.proofs.FrameContacts.{may_slide}
use Rattle.potential_sum.proofs.OtherOrders.{vector_total-permutation}
use Rattle.potential_sum.proofs.PullSums.{length-node_sums, once-size, vector_total-append}

-- ---- from what is kept, and the pairs that were found
pub contributions-kept : (s : Setup) (frame : FrameTerms) (x : List V3) (bodies : List Body) (pairs : List Pair) (contacts : List Contact) → length x ≡ length s.mesh.numbers → IsPermutation (loose_tets s) (map elastic_in bodies) →
    pairs ≡ loose_close_pairs_of s.fixed (unsigned_abs s.numbers.dhat) s.surface x → map lagged_in contacts ≡ frame.contacts →
    IsPermutation (loose_contributions s frame x)
    (map (part_at s.mass frame.targets x) (range_with_len 0 (length x)) ++ map (λ body. elastic_contribution x (elastic_in body)) bodies ++ map (barrier_at s x) pairs ++ map (friction_at s.numbers x) contacts)
contributions-kept s frame x bodies pairs contacts e kept found lagged =
    subst (λ (parts : List Contribution). IsPermutation parts computed) (λ i. nodes ++ sym (of_loose_tets s x) i ++ sym (of_loose_pairs s x) i ++ rubbing)
    (subst (IsPermutation (nodes ++ map (elastic_contribution x) (loose_tets s) ++ near ++ rubbing)) (sym same)
    (IsPermutation-append_left rubbing _ _ (IsPermutation-append_left near _ _
    (IsPermutation-append_right nodes _ _ (IsPermutation-map (elastic_contribution x) (loose_tets s) (map elastic_in bodies) kept)))))
  where
    computed : List Contribution
    computed = map (part_at s.mass frame.targets x) (range_with_len 0 (length x)) ++ map (λ body. elastic_contribution x (elastic_in body)) bodies ++ map (barrier_at s x) pairs ++ map (friction_at s.numbers x) contacts

    nodes : List Contribution
    nodes = map (inertia_contribution s frame x) (node_positions s.mesh)

    near : List Contribution
    near = map (barrier_at s x) (loose_close_pairs_of s.fixed (unsigned_abs s.numbers.dhat) s.surface x)

    rubbing : List Contribution
    rubbing = map (friction_contribution s.numbers x) frame.contacts

    images : {X Y : Type 0} (f : Y → Contribution) (g : X → Y) (xs : List X) (ys : List Y) → map g xs ≡ ys → map (λ x. f (g x)) xs ≡ map f ys
    images f g xs ys e = sym (map-map f g xs) ∙ ap (map f) e

    same : map (part_at s.mass frame.targets x) (range_with_len 0 (length x)) ++ map (λ body. elastic_contribution x (elastic_in body)) bodies ++ map (barrier_at s x) pairs ++ map (friction_at s.numbers x) contacts
        ≡ nodes ++ map (elastic_contribution x) (map elastic_in bodies) ++ near ++ rubbing
    same = λ i. map (inertia_contribution s frame x) (range_with_len 0 (e i)) ++ images (elastic_contribution x) elastic_in bodies (map elastic_in bodies) refl i
        ++ map (barrier_at s x) (found i)
        ++ images (friction_contribution s.numbers x) lagged_in contacts frame.contacts lagged i

-- the sums at all nodes don't depend on the order
pub node_sums-permutation : (n : ℕ) (xs ys : List Contribution) → IsPermutation xs ys → node_sums n ys ≡ node_sums n xs
node_sums-permutation n xs ys moved = λ i. map (λ node. wide (vector_total-permutation (map (pull_at node) xs) (map (pull_at node) ys) (IsPermutation-map (pull_at node) xs ys moved) i)) (range_with_len 0 n)

pub flat_map_agree : {A : Type 0} (f g : ℕ → List A) (xs : List ℕ) → All (λ x. f x ≡ g x) xs → flat_map f xs ≡ flat_map g xs
flat_map_agree f g [] h = refl
flat_map_agree f g (x ∷ xs) h = λ i. All-head (λ y. f y ≡ g y) x xs h i ++ flat_map_agree f g xs (All-tail (λ y. f y ≡ g y) x xs h) i

pub numbers-sums : (s : Setup) (frame : FrameTerms) (x : List V3) (sums : List W3) → length x ≡ length s.mesh.numbers → sums ≡ node_sums (length x) (loose_contributions s frame x) →
    flat_map (λ node. numbers_of (slice_index_or s.fixed node false) (slice_index_or sums node nothing)) (range_with_len 0 (length sums)) ≡ gradient s frame x
numbers-sums s frame x sums e made =
    let parts = loose_contributions s frame x in
    let n = length s.mesh.numbers in
    let sum : ℕ → W3 = λ node. wide (vector_total (map (pull_at node) parts)) in
    let f : ℕ → List ℤ = λ node. numbers_of (slice_index_or s.fixed node false) (slice_index_or sums node nothing) in
    let g : ℕ → List ℤ = λ node. numbers_of (slice_index_or s.fixed node false) (wide (vector_total (map (pull_at node) (contributions s frame x)))) in
    let same : sums ≡ node_sums n parts = made ∙ ap (λ (count : ℕ). node_sums count parts) e in
    let long : length sums ≡ n = ap length same ∙ length-node_sums n parts in
    ap (λ (count : ℕ). flat_map f (range_with_len 0 count)) long
    ∙ flat_map_agree f g (range_with_len 0 n) (All-counted (λ node. f node ≡ g node) n (λ node h.
    ap (numbers_of (slice_index_or s.fixed node false)) (ap (λ (list : List W3). get_or list node nothing) same ∙ get_or-counted sum n node nothing h)
    ∙ where_free node (slice_index_or s.fixed node false) refl))
  where
    where_free : (node : ℕ) (fixed : Bool) → slice_index_or s.fixed node false ≡ fixed →
        numbers_of fixed (wide (vector_total (map (pull_at node) (loose_contributions s frame x)))) ≡ numbers_of fixed (wide (vector_total (map (pull_at node) (contributions s frame x))))
    where_free node true e = refl
    where_free node false e = ap (λ (v : V3). numbers_of false (wide v)) (pulls_of_all s frame x node e)

-- three numbers per node
pub length-gradient : (s : Setup) (frame : FrameTerms) (places : List V3) → length (gradient s frame places) ≡ 3 * length s.mesh.numbers
length-gradient s frame places =
    length-threes (λ node. components (gradient_at s frame places node)) (node_positions s.mesh) (λ node. refl) ∙ ap (λ n. 3 * n) (length-range_with_len 0 (length s.mesh.numbers))

-- those of a node stand at 3 times its position
pub gradient_stands : (s : Setup) (frame : FrameTerms) (places : List V3) (node k : ℕ) (d : ℤ) → node < length s.mesh.numbers → k < 3 → get_or (gradient s frame places) (3 * node + k) d ≡ get_or (components (gradient_at s frame places node)) k d
gradient_stands s frame places node k d = get_or-threes (λ n. components (gradient_at s frame places n)) (length s.mesh.numbers) node k d (λ n. refl)

-- ---- sizes
vector_total-size : (b : ℕ) (vs : List V3) → All (Within b) vs → Within (length vs * b) (vector_total vs)
vector_total-size b [] h = record { x = record { bound = omega arith }; y = record { bound = omega arith }; z = record { bound = omega arith } }
vector_total-size b (v ∷ vs) h =
    within-sum b (length vs * b) (length (v ∷ vs) * b) v (vector_total vs) (All-head (Within b) v vs h) (vector_total-size b vs (All-tail (Within b) v vs h)) (grown (length vs) b)
  where
    grown : (n b : ℕ) → b + n * b ≤ (suc n) * b
    grown n b = omega arith

-- no pull is strong, and there are four at most
pub record IsFaint (part : Contribution) : Type 0 where
  pub few : length part.pulls ≤ 4
  pub weak : All (Within (2 ^ 90)) part.pulls

pull_at-size : (node : ℕ) (part : Contribution) → IsFaint part → Within (2 ^ 92) (pull_at node part)
pull_at-size node part h =
    let pairs = zip part.nodes part.pulls in
    let f : ℕ × V3 → V3 = λ pull. if pull.0 == node then pull.1 else origin in
    within_more (length (map f pairs) * 2 ^ 90) (2 ^ 92) (vector_total (map f pairs))
    (vector_total-size (2 ^ 90) (map f pairs) (All-map (Within (2 ^ 90)) f pairs (λ k d l. chosen (_ == node) _ (All-zip_right (Within (2 ^ 90)) part.nodes part.pulls h.weak k d l))))
    (omega (arith, length-map pairs f, length-zip part.nodes part.pulls, h.few))
  where
    chosen : (b : Bool) (v : V3) → Within (2 ^ 90) v → Within (2 ^ 90) (if b then v else origin)
    chosen true v h = h
    chosen false v h = record { x = record { bound = omega arith }; y = record { bound = omega arith }; z = record { bound = omega arith } }

inertia-faint : (s : Setup) (frame : FrameTerms) (places : List V3) (node : ℕ) → IsFaint (inertia_contribution s frame places node)
inertia-faint s frame places node = record { few = omega arith; weak = inertia-pulls-weak s.mass frame.targets places node }

elastic-faint : (places : List V3) (tet : ElasticTet) → IsFaint (elastic_contribution places tet)
elastic-faint places tet = record { few = omega arith; weak = elastic-pulls-weak places tet }

-- what nodes and tetrahedra pull with
abbrev bodies : Setup → FrameTerms → List V3 → List Contribution
bodies s frame places = map (inertia_contribution s frame places) (node_positions s.mesh) ++ map (elastic_contribution places) (elastic_tets s)

bodies_faint : (s : Setup) (frame : FrameTerms) (places : List V3) → All IsFaint (bodies s frame places)
bodies_faint s frame places =
    All-append IsFaint (map (inertia_contribution s frame places) (node_positions s.mesh)) (map (elastic_contribution places) (elastic_tets s))
    (All-map IsFaint (inertia_contribution s frame places) (node_positions s.mesh) (λ k d l. inertia-faint s frame places _))
    (All-map IsFaint (elastic_contribution places) (elastic_tets s) (λ k d l. elastic-faint places _))

many : (s : Setup) (frame : FrameTerms) (places : List V3) → IsSetup s → length (bodies s frame places) ≤ 81920
many s frame places built =
    let nodes = map (inertia_contribution s frame places) (node_positions s.mesh) in
    let tets = map (elastic_contribution places) (elastic_tets s) in
    omega (arith, length-append nodes tets, length-map (node_positions s.mesh) (inertia_contribution s frame places), length-range_with_len 0 (length s.mesh.numbers), length-map (elastic_tets s) (elastic_contribution places), length-map s.mesh.tets (elastic_of s), built.mesh_is_sound.few_nodes, built.mesh_is_sound.few_tets)

-- a barrier and a contact pull at each node once at most, since their nodes differ
barrier-pull-size : (numbers : Numbers) (places : List V3) (node : ℕ) (parts : PartPair) → MayPush places parts → Within (2 ^ 90) (pull_at node (barrier_contribution numbers places parts))
barrier-pull-size numbers places node parts h = once-size (2 ^ 90) node (parts.left ++ parts.right) (barrier_contribution numbers places parts).pulls h.different (barrier-pulls-weak numbers places parts)

friction-pull-size : (numbers : Numbers) (places : List V3) (node : ℕ) (contact : LaggedContact) → MaySlide places contact → Within (2 ^ 90) (pull_at node (friction_contribution numbers places contact))
friction-pull-size numbers places node contact h = once-size (2 ^ 90) node contact.nodes (friction_contribution numbers places contact).pulls h.different (friction-pulls-weak numbers places contact)

-- no more parts than a surface has close ones, each of which pulls once at most
pulls_once : {X : Type 0} (node : ℕ) (f : X → Contribution) (xs : List X) → All (λ x. Within (2 ^ 90) (pull_at node (f x))) xs → length xs ≤ MOST_CLOSE → Within (MOST_CLOSE * 2 ^ 90) (vector_total (map (pull_at node) (map f xs)))
pulls_once node f xs weak few =
    let pulls : List V3 = map (pull_at node) (map f xs) in
    within_more (length pulls * 2 ^ 90) (MOST_CLOSE * 2 ^ 90) (vector_total pulls)
    (vector_total-size (2 ^ 90) pulls (All-map (Within (2 ^ 90)) (pull_at node) (map f xs) (All-map (λ part. Within (2 ^ 90) (pull_at node part)) f xs weak)))
    (omega (arith, length-map (map f xs) (pull_at node), length-map xs f, few))

-- each of the three numbers of a node is below 2^124
gradient_at_is_small : (s : Setup) (terms : KeptTerms) (places : List V3) (node : ℕ) → IsSetup s → StandFor s terms → IsUpright s places → Within (2 ^ 124 - 1) (gradient_at s terms.frame places node)
gradient_at_is_small s terms places node built stand pose = either (slice_index_or s.fixed node false)
  where
    frame : FrameTerms
    frame = terms.frame

    near : List Contribution
    near = map (barrier_contribution s.numbers places) (close_parts s places)

    rubbing : List Contribution
    rubbing = map (friction_contribution s.numbers places) frame.contacts

    sum : List Contribution → V3
    sum parts = vector_total (map (pull_at node) parts)

    joined : (xs ys : List Contribution) → sum (xs ++ ys) ≡ sum_of (sum xs) (sum ys)
    joined xs ys = ap vector_total (map-append (pull_at node) xs ys) ∙ vector_total-append (map (pull_at node) xs) (map (pull_at node) ys)

    of_bodies : Within (81920 * 2 ^ 92) (sum (bodies s frame places))
    of_bodies =
        let pulls : List V3 = map (pull_at node) (bodies s frame places) in
        within_more (length pulls * 2 ^ 92) (81920 * 2 ^ 92) (vector_total pulls)
        (vector_total-size (2 ^ 92) pulls (All-map (Within (2 ^ 92)) (pull_at node) (bodies s frame places) (λ k d l. pull_at-size node _ (bodies_faint s frame places k d l))))
        (omega (arith, length-map (bodies s frame places) (pull_at node), many s frame places built))

    of_barriers : Within (MOST_CLOSE * 2 ^ 90) (sum near)
    of_barriers = pulls_once node (barrier_contribution s.numbers places) (close_parts s places) (λ k d l. barrier-pull-size s.numbers places node _ (close_parts_may_push s places built pose k d l)) (few_close_parts s places built)

    of_contacts : Within (MOST_CLOSE * 2 ^ 90) (sum rubbing)
    of_contacts = pulls_once node (friction_contribution s.numbers places) frame.contacts (λ k d l. friction-pull-size s.numbers places node _ (may_slide s places frame.contacts built pose stand.contacts k d l)) stand.few

    free : Within (2 ^ 124 - 1) (sum (contributions s frame places))
    free =
        subst (Within (2 ^ 124 - 1)) (sym (joined (bodies s frame places ++ near) rubbing ∙ ap (λ (v : V3). sum_of v (sum rubbing)) (joined (bodies s frame places) near)))
        (within-sum (81920 * 2 ^ 92 + MOST_CLOSE * 2 ^ 90) (MOST_CLOSE * 2 ^ 90) (2 ^ 124 - 1) (sum_of (sum (bodies s frame places)) (sum near)) (sum rubbing)
        (within-sum (81920 * 2 ^ 92) (MOST_CLOSE * 2 ^ 90) (81920 * 2 ^ 92 + MOST_CLOSE * 2 ^ 90) (sum (bodies s frame places)) (sum near) of_bodies of_barriers (lit≤ tt)) of_contacts (lit≤ tt))

    either : (fixed : Bool) → Within (2 ^ 124 - 1) (if fixed then origin else sum (contributions s frame places))
    either true = record { x = record { bound = omega arith }; y = record { bound = omega arith }; z = record { bound = omega arith } }
    either false = free

-- each number of a gradient is
pub gradient_is_small : (s : Setup) (terms : KeptTerms) (places : List V3) → IsSetup s → StandFor s terms → IsUpright s places → All (AtMost (2 ^ 124 - 1)) (gradient s terms.frame places)
gradient_is_small s terms places built stand pose = joined (node_positions s.mesh)
  where
    three : (v : V3) → Within (2 ^ 124 - 1) v → All (AtMost (2 ^ 124 - 1)) (components v)
    three v h = All-cons (AtMost (2 ^ 124 - 1)) v.x (v.y ∷ v.z ∷ []) h.x (All-cons (AtMost (2 ^ 124 - 1)) v.y (v.z ∷ []) h.y (All-cons (AtMost (2 ^ 124 - 1)) v.z [] h.z (All-nil (AtMost (2 ^ 124 - 1)))))

    joined : (nodes : List ℕ) → All (AtMost (2 ^ 124 - 1)) (flat_map (λ node. components (gradient_at s terms.frame places node)) nodes)
    joined [] = All-nil (AtMost (2 ^ 124 - 1))
    joined (node ∷ nodes) =
        All-append (AtMost (2 ^ 124 - 1)) (components (gradient_at s terms.frame places node)) (flat_map (λ n. components (gradient_at s terms.frame places n)) nodes)
        (three (gradient_at s terms.frame places node) (gradient_at_is_small s terms places node built stand pose)) (joined nodes)
