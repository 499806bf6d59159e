-- Pulls that are added at their nodes, one after another, give the sum of all at each node.
use Rattle.std.proofs.Common.{◌≡◌, ◌∙◌, ℕ, suc, ◌<◌, Bool, true, false, List, [], ◌∷◌, ◌++◌, map, set, get_or, length, take, drop, replicate, refl, ap, sym, subst, arith, append_assoc}
use Rattle.std.specs.Prelude.{◌==◌, All, zip, if◌then◌else◌}
use Rattle.std.specs.List.{range_with_len}
use Rattle.std.proofs.lemmas.Bool.{eq-eqb, eqb-true, ne_eqb}
use Rattle.std.proofs.lemmas.List.{get_or_default}
use Rattle.std.proofs.lemmas.List.Elements.{All-head, All-tail}
use Rattle.std.proofs.lemmas.List.FromFn.{length-map-range_with_len}
use Rattle.std.proofs.Math.Seq.{take-append_seam}
use Rattle.list_laws.proofs.CountedWrites.{get_or-counted, replicate-counted, set-counted}
use Rattle.space3.specs.declared.vectors.V3.{V3}
use Rattle.space3.specs.declared.vectors.W3.{W3}
use Rattle.space3.specs.Vectors.{Within, origin, sum_of}
use Rattle.potential_sum.specs.Calls.Barriers.{AreDifferent}
use Rattle.potential_sum.proofs.VectorSums.{origin-sum_of, sum_of-assoc, sum_of-origin}
use Rattle.potential_sum.specs.Contributions.{Contribution, pull_at, sum_at, vector_total}
use Rattle.potential_sum.specs.Calls.Sums.{as_pull, node_sums, nothing, pulls_of, wide, wide_sum, with_parts, with_pulls}

-- ---- sums of vectors
vector_total-push : (vs : List V3) (v : V3) → vector_total (vs ++ v ∷ []) ≡ sum_of (vector_total vs) v
vector_total-push [] v = sum_of-origin v ∙ sym (origin-sum_of v)
vector_total-push (w ∷ ws) v = ap (sum_of w) (vector_total-push ws v) ∙ sym (sum_of-assoc w (vector_total ws) v)

pub vector_total-append : (vs ws : List V3) → vector_total (vs ++ ws) ≡ sum_of (vector_total vs) (vector_total ws)
vector_total-append [] ws = sym (origin-sum_of (vector_total ws))
vector_total-append (v ∷ vs) ws = ap (sum_of v) (vector_total-append vs ws) ∙ sym (sum_of-assoc v (vector_total vs) (vector_total ws))

map-push : {X Y : Type 0} (f : X → Y) (xs : List X) (x : X) → map f (xs ++ x ∷ []) ≡ map f xs ++ f x ∷ []
map-push f [] x = refl
map-push {Y = Y} f (y ∷ ys) x = ap (λ (zs : List Y). f y ∷ zs) (map-push f ys x)

-- ---- pulls
-- a pull at a node, as it counts there and elsewhere
abbrev counted : ℕ → ℕ × V3 → V3
counted k pull = if pull.0 == k then pull.1 else origin

chosen : (b : Bool) (v : V3) → b ≡ true → (if b then v else origin) ≡ v
chosen true v e = refl
chosen false v e = cc

passed : (b : Bool) (v : V3) → b ≡ false → (if b then v else origin) ≡ origin
passed true v e = cc
passed false v e = refl

abbrev sums_at : (ℕ → V3) → ℕ → List W3
sums_at f count = map (λ k. wide (f k)) (range_with_len 0 count)

scattered : (f : ℕ → V3) (count : ℕ) (pulls : List (ℕ × V3)) → All (λ pull. pull.0 < count) pulls →
    with_pulls (sums_at f count) (map as_pull pulls) ≡ sums_at (λ k. sum_of (f k) (vector_total (map (counted k) pulls))) count
scattered f count [] there = λ i. sums_at (λ k. sym (sum_of-origin (f k)) i) count
scattered f count (p ∷ ps) there =
    ap (λ (sums : List W3). with_pulls sums (map as_pull ps)) first
    ∙ scattered next count ps (All-tail (λ pull. pull.0 < count) p ps there)
    ∙ (λ i. sums_at (λ k. sum_of-assoc (f k) (counted k p) (vector_total (map (counted k) ps)) i) count)
  where
    next : ℕ → V3
    next k = sum_of (f k) (counted k p)

    here : p.0 < count
    here = All-head (λ pull. pull.0 < count) p ps there

    first : set (sums_at f count) p.0 (wide_sum (get_or (sums_at f count) p.0 nothing) (wide p.1)) ≡ sums_at next count
    first =
        set-counted (λ k. wide (f k)) (λ k. wide (next k)) count p.0 _ here
        (ap (λ (sum : W3). wide_sum sum (wide p.1)) (get_or-counted (λ k. wide (f k)) count p.0 nothing here) ∙ ap (λ (v : V3). wide (sum_of (f p.0) v)) (sym (chosen (p.0 == p.0) p.1 (eq-eqb p.0 p.0 refl))))
        (λ k h. ap wide (sym (ap (sum_of (f k)) (passed (p.0 == k) p.1 (ne_eqb p.0 k h)) ∙ sum_of-origin (f k))))

-- ---- contributions
-- each node of a contribution is below so many
abbrev pub IsInside : ℕ → Contribution → Type 0
IsInside count part = All (λ pull. pull.0 < count) (zip part.nodes part.pulls)

one_more : (count : ℕ) (done : List Contribution) (part : Contribution) → IsInside count part → with_pulls (node_sums count done) (pulls_of part) ≡ node_sums count (done ++ part ∷ [])
one_more count done part inside =
    scattered (λ k. vector_total (map (pull_at k) done)) count (zip part.nodes part.pulls) inside
    ∙ (λ i. sums_at (λ k. sym (ap vector_total (map-push (pull_at k) done part) ∙ vector_total-push (map (pull_at k) done) (pull_at k part)) i) count)

pub with_parts-sums : (count : ℕ) (done parts : List Contribution) → All (IsInside count) parts → with_parts (node_sums count done) parts ≡ node_sums count (done ++ parts)
with_parts-sums count done [] inside = ap (node_sums count) (sym (append-nil done))
  where
    append-nil : (xs : List Contribution) → xs ++ [] ≡ xs
    append-nil [] = refl
    append-nil (x ∷ xs) = ap (λ (ys : List Contribution). x ∷ ys) (append-nil xs)
with_parts-sums count done (part ∷ parts) inside =
    ap (λ (sums : List W3). with_parts sums parts) (one_more count done part (All-head (IsInside count) part parts inside))
    ∙ with_parts-sums count (done ++ part ∷ []) parts (All-tail (IsInside count) part parts inside)
    ∙ ap (node_sums count) (append_assoc done (part ∷ []) parts)

-- the pulls of one contribution more
pub with_parts-push : (sums : List W3) (parts : List Contribution) (part : Contribution) → with_parts sums (parts ++ part ∷ []) ≡ with_pulls (with_parts sums parts) (pulls_of part)
with_parts-push sums [] part = refl
with_parts-push sums (p ∷ ps) part = with_parts-push (with_pulls sums (pulls_of p)) ps part

-- no sum yet
pub node_sums-none : (count : ℕ) → replicate count nothing ≡ node_sums count []
node_sums-none count = replicate-counted nothing 0 count

pub length-node_sums : (count : ℕ) (parts : List Contribution) → length (node_sums count parts) ≡ count
length-node_sums count parts = length-map-range_with_len (λ node. wide (vector_total (map (pull_at node) parts))) 0 count

-- a whole list that is written back
pub written_back : (now old : List W3) (count : ℕ) → length now ≡ count → take count (now ++ drop (length now) old) ≡ now
written_back now old count e = subst (λ (n : ℕ). take n (now ++ drop (length now) old) ≡ now) e (take-append_seam now (drop (length now) old))

-- ---- of nodes that differ one at most is this node
pub none_at : (k : ℕ) (nodes : List ℕ) (vs : List V3) → All (λ node. ¬ (node ≡ k)) nodes → sum_at k nodes vs ≡ origin
none_at k [] vs h = refl
none_at k (node ∷ nodes) [] h = refl
none_at k (node ∷ nodes) (v ∷ vs) h =
    (λ i. sum_of (passed (node == k) v (ne_eqb node k (All-head (λ n. ¬ (n ≡ k)) node nodes h)) i) (none_at k nodes vs (All-tail (λ n. ¬ (n ≡ k)) node nodes h) i))
    ∙ sum_of-origin origin

differ_from : (node : ℕ) (nodes : List ℕ) → AreDifferent (node ∷ nodes) → All (λ n. ¬ (n ≡ node)) nodes
differ_from node nodes h = λ k d l e. h.each 0 (suc k) (omega arith) (omega (arith, l)) (sym (get_or_default nodes k 0 d l ∙ e))

differ_after : (node : ℕ) (nodes : List ℕ) → AreDifferent (node ∷ nodes) → AreDifferent nodes
differ_after node nodes h = record { each = λ i j l m. h.each (suc i) (suc j) (omega (arith, l)) (omega (arith, m)) }

pub once-size : (most k : ℕ) (nodes : List ℕ) (vs : List V3) → AreDifferent nodes → All (Within most) vs → Within most (sum_at k nodes vs)
once-size most k [] vs h w = record { x = record { bound = omega arith }; y = record { bound = omega arith }; z = record { bound = omega arith } }
once-size most k (node ∷ nodes) [] h w = record { x = record { bound = omega arith }; y = record { bound = omega arith }; z = record { bound = omega arith } }
once-size most k (node ∷ nodes) (v ∷ vs) h w = either (node == k) refl (once-size most k nodes vs (differ_after node nodes h) (All-tail (Within most) v vs w))
  where
    either : (b : Bool) → (node == k) ≡ b → Within most (sum_at k nodes vs) → Within most (sum_at k (node ∷ nodes) (v ∷ vs))
    either true e rest =
        subst (Within most) (sym ((λ i. sum_of (chosen (node == k) v e i) (none_at k nodes vs (subst (λ n. All (λ m. ¬ (m ≡ n)) nodes) (eqb-true node k e) (differ_from node nodes h)) i)) ∙ sum_of-origin v))
        (All-head (Within most) v vs w)
    either false e rest = subst (Within most) (sym ((λ i. sum_of (passed (node == k) v e i) (sum_at k nodes vs)) ∙ origin-sum_of (sum_at k nodes vs))) rest
