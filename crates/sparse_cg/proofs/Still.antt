-- A node that stays in each turn: where its row of the matrix is that of the unit matrix and its slopes are 0.
use Rattle.std.proofs.Common.{◌≡◌, ◌≢◌, ◌∙◌, ℕ, zero, suc, ◌+◌, ◌*◌, ◌/◌, ◌<◌, ◌^◌, ℤ, pos, negsuc, ◌≤ℤ◌, ◌<ℤ◌, ◌+ℤ◌, ◌-ℤ◌, ◌*ℤ◌, Bool, List, [], ◌∷◌, ◌++◌, map, get_or, refl, sym, ap, subst, arith}
use Rattle.std.specs.Prelude.{replicate, if◌then◌else◌, neg_ℤ}
use Rattle.std.specs.Int.{int_max}
use Rattle.std.specs.List.{range_with_len}
use Rattle.std.proofs.lemmas.Int.{clamps, ints}
use Rattle.whole_laws.proofs.Floors.{floor_below, floor_least}
use Rattle.list_laws.specs.Chains.{Follow}
use Rattle.list_laws.specs.Sums.{total}
use Rattle.list_laws.proofs.CountedWrites.{get_or-counted}
use Rattle.num_q.specs.Rounding.{floor_of, cut_of, round_of}
use Rattle.space3.specs.declared.vectors.V3.{V3}
use Rattle.space3.specs.Mesh.{place_of}
use Rattle.space3.specs.Vectors.{dot_product, origin, vector}
use Rattle.vec_q.specs.Matrices.{M3, transposed, unit_times}
use Rattle.block_rows.specs.Tables.{Table, diagonal_of, no_block, product, product_at, row_times, three_at, unit_block}
use Rattle.block_rows.proofs.AddedEntries.{by_order, is_other}
use Rattle.block_rows.proofs.Threes.{get_or-threes}
use Rattle.sparse_cg.specs.Directions.{IsNewton, rounded}
use Rattle.sparse_cg.specs.Jacobi.{jacobi, jacobi_at, jacobi_component}
use Rattle.sparse_cg.specs.Systems.{System, apply, combined, over_diagonal, quotient_of, system_of}
use Rattle.sparse_cg.specs.Turns.{IsTurn, Numbers, approached, moved, residual, start, turned}

-- ---- lists with a 0 at a place
abbrev IsZero : ℕ → List ℤ → Type 0
IsZero i xs = get_or xs i (pos 0) ≡ pos 0

map_at : (f : ℤ → ℤ) (xs : List ℤ) (i : ℕ) → f (pos 0) ≡ pos 0 → IsZero i xs → IsZero i (map f xs)
map_at f [] i z e = refl
map_at f (x ∷ xs) zero z e = ap f e ∙ z
map_at f (x ∷ xs) (suc i) z e = map_at f xs i z e

combined_at : (f : ℤ → ℤ → ℤ) (xs ys : List ℤ) (i : ℕ) → f (pos 0) (pos 0) ≡ pos 0 → IsZero i xs → IsZero i ys → IsZero i (combined f xs ys)
combined_at f [] ys i z e g = refl
combined_at f (x ∷ xs) [] i z e g = refl
combined_at f (x ∷ xs) (y ∷ ys) zero z e g = (λ k. f (e k) (g k)) ∙ z
combined_at f (x ∷ xs) (y ∷ ys) (suc i) z e g = combined_at f xs ys i z e g

-- where the second number makes no difference
over_at : (f : ℤ → ℤ → ℤ) (xs ys : List ℤ) (i : ℕ) → ((y : ℤ) → f (pos 0) y ≡ pos 0) → IsZero i xs → IsZero i (combined f xs ys)
over_at f [] ys i z e = refl
over_at f (x ∷ xs) [] i z e = refl
over_at f (x ∷ xs) (y ∷ ys) zero z e = (λ k. f (e k) y) ∙ z y
over_at f (x ∷ xs) (y ∷ ys) (suc i) z e = over_at f xs ys i z e

zeros_at : (n i : ℕ) → IsZero i (replicate n (pos 0))
zeros_at zero i = refl
zeros_at (suc n) zero = refl
zeros_at (suc n) (suc i) = zeros_at n i

pub total_of_zeros : (f : ℕ → ℤ) (xs : List ℕ) → ((x : ℕ) → f x ≡ pos 0) → total (map f xs) ≡ pos 0
total_of_zeros f [] h = refl
total_of_zeros f (x ∷ xs) h = (λ k. h x k +ℤ total_of_zeros f xs h k)

-- ---- 0 over a number
none_over : (n : ℕ) → 0 / suc n ≡ 0
none_over n = omega arith

pub nothing_over : (d : ℤ) → floor_of (pos 0) d ≡ pos 0
nothing_over (pos zero) = refl
nothing_over (pos (suc n)) = ap pos (none_over n)
nothing_over (negsuc n) = ap (λ (k : ℕ). neg_ℤ (pos k)) (none_over n)

pub nothing_times : (a : ℤ) → pos 0 *ℤ a ≡ pos 0
nothing_times a = omega (arith, ints)

times_nothing : (a : ℤ) → a *ℤ pos 0 ≡ pos 0
times_nothing a = omega (arith, ints)

-- ---- the three numbers of a node are 0
pub record AreZeros (node : ℕ) (xs : List ℤ) : Type 0 where
  pub x : IsZero (3 * node) xs
  pub y : IsZero (3 * node + 1) xs
  pub z : IsZero (3 * node + 2) xs

to_each : (node : ℕ) (xs ys : List ℤ) → ((i : ℕ) → IsZero i xs → IsZero i ys) → AreZeros node xs → AreZeros node ys
to_each node xs ys f h = record { x = f (3 * node) h.x; y = f (3 * node + 1) h.y; z = f (3 * node + 2) h.z }

to_each_of_two : (node : ℕ) (xs ys zs : List ℤ) → ((i : ℕ) → IsZero i xs → IsZero i ys → IsZero i zs) → AreZeros node xs → AreZeros node ys → AreZeros node zs
to_each_of_two node xs ys zs f h k = record { x = f (3 * node) h.x k.x; y = f (3 * node + 1) h.y k.y; z = f (3 * node + 2) h.z k.z }

pub three_zeros : (node : ℕ) (xs : List ℤ) → AreZeros node xs → three_at xs node ≡ origin
three_zeros node xs h = λ i. vector (h.x i) (h.y i) (h.z i)

-- ---- a row of the unit matrix
abbrev pub HasUnitRow : Table → ℕ → Type 0
HasUnitRow table node = (column : ℕ) → table node column ≡ unit_block node column

pub dot_with_origin : (v w : V3) → w ≡ origin → dot_product v w ≡ pos 0
dot_with_origin v w e = ap (dot_product v) e ∙ flat v.x v.y v.z
  where
    flat : (x y z : ℤ) → dot_product (vector x y z) origin ≡ pos 0
    flat x y z = omega (arith, ints)

module _ (nodes : ℕ) (table : Table) (node : ℕ) (there : node < nodes) (unit : HasUnitRow table node) where
  -- a row of the block in a column: 0 there, but where the column is the node's
  row_product : (row : M3 → V3) → row (transposed no_block) ≡ origin → (p : List ℤ) → three_at p node ≡ origin → row_times nodes (λ column. row (transposed (table node column))) p ≡ pos 0
  row_product row none p still = total_of_zeros (λ column. dot_product (row (transposed (table node column))) (three_at p column)) (range_with_len 0 nodes) each
    where
      other : (column : ℕ) → node ≢ column → dot_product (row (transposed (table node column))) (three_at p column) ≡ pos 0
      other column h =
          ap (λ (b : M3). dot_product (row (transposed b)) (three_at p column)) (unit column ∙ ap (λ (same : Bool). if same then unit_times (pos 1) else no_block) (is_other node column h))
          ∙ ap (λ (v : V3). dot_product v (three_at p column)) none ∙ swapped (three_at p column)
        where
          swapped : (w : V3) → dot_product origin w ≡ pos 0
          swapped w = none_of w.x w.y w.z
            where
              none_of : (x y z : ℤ) → dot_product origin (vector x y z) ≡ pos 0
              none_of x y z = omega (arith, ints)

      each : (column : ℕ) → dot_product (row (transposed (table node column))) (three_at p column) ≡ pos 0
      each column =
          by_order node column (λ less. other column (λ e. omega arith))
          (λ same. dot_with_origin (row (transposed (table node column))) (three_at p column) (ap (three_at p) (sym same) ∙ still))
          (λ more. other column (λ e. omega arith))

  product_at_node : (p : List ℤ) (k : ℕ) → k < 3 → get_or (product nodes table p) (3 * node + k) (pos 0) ≡ get_or (product_at nodes table p node) k (pos 0)
  product_at_node p k l = get_or-threes (product_at nodes table p) nodes node k (pos 0) (λ x. refl) there l

  product_still : (p : List ℤ) → AreZeros node p → AreZeros node (product nodes table p)
  product_still p h =
      let still = three_zeros node p h in record {
        x = ap (λ (i : ℕ). get_or (product nodes table p) i (pos 0)) (no_more (3 * node)) ∙ product_at_node p 0 (omega arith) ∙ row_product (λ m. m.first) refl p still;
        y = product_at_node p 1 (omega arith) ∙ row_product (λ m. m.second) refl p still;
        z = product_at_node p 2 (omega arith) ∙ row_product (λ m. m.third) refl p still;
      }
    where
      no_more : (n : ℕ) → n ≡ n + 0
      no_more n = omega arith

  -- ---- turns
  module _ (slopes : List ℤ) (shift : ℕ) (flat : AreZeros node slopes) where
    abbrev system : System
    system = system_of nodes table slopes shift

    pub record IsStill (n : Numbers) : Type 0 where
      pub x : AreZeros node n.x
      pub r : AreZeros node n.r
      pub p : AreZeros node n.p

    target_still : AreZeros node system.target
    target_still = to_each node slopes system.target (λ i. map_at (λ slope. floor_of (neg_ℤ (cut_of 100 slope)) (pos (2 ^ shift))) slopes i (nothing_over (pos (2 ^ shift)))) flat

    over_still : (r : List ℤ) → AreZeros node r → AreZeros node (over_diagonal system r)
    over_still r h = to_each node r (over_diagonal system r) (λ i. over_at (quotient_of shift) r system.divisors i none) h
      where
        none : (d : ℤ) → quotient_of shift (pos 0) d ≡ pos 0
        none d = ap (λ (n : ℤ). cut_of 44 (floor_of n d)) (nothing_times (pos (2 ^ (16 + shift)))) ∙ ap (cut_of 44) (nothing_over d)

    apply_still : (p : List ℤ) → AreZeros node p → AreZeros node (apply system p)
    apply_still p h =
        to_each node (product nodes table p) (apply system p) (λ i. map_at (λ number. floor_of number (pos (2 ^ (16 + shift)))) (product nodes table p) i (nothing_over (pos (2 ^ (16 + shift))))) (product_still p h)

    residual_still : (x : List ℤ) → AreZeros node x → AreZeros node (residual system x)
    residual_still x h =
        to_each_of_two node system.target (apply system x) (residual system x) (λ i. combined_at (λ b number. cut_of 44 (b -ℤ number)) system.target (apply system x) i refl) target_still (apply_still x h)

    moved_still : (share : ℤ) (xs ps : List ℤ) → AreZeros node xs → AreZeros node ps → AreZeros node (combined (moved share) xs ps)
    moved_still share xs ps h k = to_each_of_two node xs ps (combined (moved share) xs ps) (λ i. combined_at (moved share) xs ps i none) h k
      where
        none : moved share (pos 0) (pos 0) ≡ pos 0
        none = ap (λ (n : ℤ). cut_of 44 (pos 0 +ℤ floor_of n (pos (2 ^ 20)))) (times_nothing share)

    start_still : IsStill (start system)
    start_still = record {
      x = record { x = zeros_at (3 * nodes) (3 * node); y = zeros_at (3 * nodes) (3 * node + 1); z = zeros_at (3 * nodes) (3 * node + 2) };
      r = target_still;
      p = over_still system.target target_still;
    }

    turned_still : (n : Numbers) → IsStill n → IsStill (turned system n)
    turned_still n h =
        let near : Numbers = approached system n in
        let x = moved_still _ n.x n.p h.x h.p in
        let r = residual_still near.x x in
        record { x = x; r = r; p = moved_still _ (over_diagonal system near.r) near.p (over_still near.r r) h.p }

    turns_still : (n : Numbers) (turns : List Numbers) (last : Numbers) → IsStill n → Follow (λ _ turn. turn) (IsTurn system) n (turns ++ last ∷ []) → IsStill last
    turns_still n [] last h f = subst IsStill (sym f.0.is) (turned_still n h)
    turns_still n (turn ∷ turns) last h f = turns_still turn turns last (subst IsStill (sym f.0.is) (turned_still n h)) f.1

-- ---- the directions
rounded_still : (node : ℕ) (x : List ℤ) → AreZeros node x → three_at (map rounded x) node ≡ origin
rounded_still node x h = three_zeros node (map rounded x) (to_each node x (map rounded x) (λ i. map_at rounded x i refl) h)

pub newton_is_still : (nodes : ℕ) (table : Table) (slopes : List ℤ) (node : ℕ) (direction : List V3) → node < nodes → HasUnitRow table node → AreZeros node slopes
    → IsNewton nodes table slopes direction → place_of direction node ≡ origin
newton_is_still nodes table slopes node direction there unit flat h =
    let last = turns_still nodes table node there unit slopes h.shift flat (start (system_of nodes table slopes h.shift)) h.is_end.before h.is_end.last (start_still nodes table node there unit slopes h.shift flat) h.is_end.turns in
    ap (λ (d : List V3). place_of d node) h.is_end.is ∙ get_or-counted (three_at (map rounded h.is_end.last.x)) nodes node origin there ∙ rounded_still node h.is_end.last.x last.x

jacobi_still : (slope diagonal : ℤ) → slope ≡ pos 0 → jacobi_component diagonal slope ≡ pos 0
jacobi_still slope diagonal e = ap (jacobi_component diagonal) e ∙ ap (cut_of 21) (round_of_nothing (int_max (pos 1) diagonal) (at_least_one diagonal))
  where
    at_least_one : (d : ℤ) → pos 1 ≤ℤ int_max (pos 1) d
    at_least_one d = omega (arith, ints, clamps)

    between : (q : ℤ) → pos 0 ≤ℤ q → q <ℤ pos 1 → q ≡ pos 0
    between q low high = omega (arith, ints, low, high)

    round_of_nothing : (b : ℤ) → pos 1 ≤ℤ b → round_of (neg_ℤ (pos 0)) b ≡ pos 0
    round_of_nothing b h =
        let z : ℤ = pos 2 *ℤ neg_ℤ (pos 0) +ℤ b in
        let d : ℤ = pos 2 *ℤ b in
        between (round_of (neg_ℤ (pos 0)) b) (floor_least z d (pos 0) (omega (arith, ints, h)) (omega (arith, ints, h))) (floor_below z d (pos 1) (omega (arith, ints, h)) (omega (arith, ints, h)))

pub jacobi_is_still : (nodes : ℕ) (table : Table) (slopes : List ℤ) (node : ℕ) → node < nodes → AreZeros node slopes → place_of (jacobi nodes table slopes) node ≡ origin
jacobi_is_still nodes table slopes node there flat =
    let d = diagonal_of (table node node) in
    get_or-counted (jacobi_at table slopes) nodes node origin there ∙ (λ i. vector (jacobi_still _ d.x flat.x i) (jacobi_still _ d.y flat.y i) (jacobi_still _ d.z flat.z i))
