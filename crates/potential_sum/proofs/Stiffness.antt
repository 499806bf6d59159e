-- Sums of blocks, and tables to which the blocks of contributions are added.
use Rattle.std.proofs.Common.{◌≡◌, ◌∙◌, ℕ, ◌+◌, ◌*◌, ◌<◌, ◌≤◌, ℤ, pos, Bool, true, false, List, [], ◌∷◌, ◌++◌, length, map, take, get_or, refl, ap, sym, subst, arith}
use Rattle.std.specs.Prelude.{◌==◌, ◌&&◌, ◌||◌, All, IfNone, Option, None, Some, if◌then◌else◌, slice_index}
use Rattle.std.specs.List.{flat_map, range_with_len}
use Rattle.std.proofs.lemmas.Bool.Decides.{nat_tests}
use Rattle.std.proofs.lemmas.List.Sums.{AllPass-from_list_all}
use Rattle.std.proofs.lemmas.List.{map-append, map_more, take_all}
use Rattle.std.proofs.lemmas.List.Elements.{All-head, All-tail}
use Rattle.std.proofs.lemmas.List.FromFn.{map-range_with_len_more}
use Rattle.list_laws.proofs.CountedWrites.{All-counted, get_or-counted}
use Rattle.list_laws.proofs.Pushes.{flat_map_counted_more}
use Rattle.vec_q.specs.Matrices.{M3, columns}
use Rattle.vec_q.specs.Rows.{matrix_of, rows_of}
use Rattle.vec_q.specs.Widths.{AreBelow}
use Rattle.inertia_term.specs.Inertia.{inertia_block}
use Rattle.block_rows.specs.Stored.{StoredSums, nodes_of, table_of}
use Rattle.block_rows.specs.Tables.{Table, free_table, no_block, sum_of_blocks, with_block, zeros}
use Rattle.block_rows.proofs.AddedEntries.{is_other}
use Rattle.block_rows.proofs.FreeTables.{free_again, free_agree, free_at}
use Rattle.potential_sum.specs.Contributions.{Contribution}
use Rattle.potential_sum.specs.Matrix.{block_total, stiffness_at}
use Rattle.broad_grid.specs.Held.{are_held}
use Rattle.potential_sum.specs.Calls.Stiffness.{AreSixteenSmall, HasNoBlocks, HaveMore, at_pair, between, block_at, blocks_in, four_rows, in_row, in_rows, inertia_table, sixteen, sixteen_of, stiffness_of, stiffness_of_one, sum_of_tables}
use Rattle.potential_sum.proofs.Gradients.{flat_map_agree}
use Rattle.potential_sum.proofs.VectorSums.{origin-sum_of, sum_of-assoc, sum_of-origin}

-- ---- sums of blocks
pub none_right : (a : M3) → sum_of_blocks a no_block ≡ a
none_right a = λ i. columns (sum_of-origin a.first i) (sum_of-origin a.second i) (sum_of-origin a.third i)

pub none_left : (a : M3) → sum_of_blocks no_block a ≡ a
none_left a = λ i. columns (origin-sum_of a.first i) (origin-sum_of a.second i) (origin-sum_of a.third i)

pub regrouped : (a b c : M3) → sum_of_blocks (sum_of_blocks a b) c ≡ sum_of_blocks a (sum_of_blocks b c)
regrouped a b c = λ i. columns
    (sum_of-assoc a.first b.first c.first i)
    (sum_of-assoc a.second b.second c.second i)
    (sum_of-assoc a.third b.third c.third i)

pub block_total-append : (xs ys : List M3) → block_total (xs ++ ys) ≡ sum_of_blocks (block_total xs) (block_total ys)
block_total-append [] ys = sym (none_left (block_total ys))
block_total-append (x ∷ xs) ys = ap (sum_of_blocks x) (block_total-append xs ys) ∙ sym (regrouped x (block_total xs) (block_total ys))

-- one more
block_total-push : (xs : List M3) (x : M3) → block_total (xs ++ x ∷ []) ≡ sum_of_blocks (block_total xs) x
block_total-push xs x = block_total-append xs (x ∷ []) ∙ ap (sum_of_blocks (block_total xs)) (none_right x)

-- ---- one block
pub with_one : (i j : ℕ) (block : M3) (table : Table) → with_block i j block table ≡ sum_of_tables table (at_pair i j block)
with_one i j block table = λ t. λ row column. at_place (row == i) (column == j) (i == row) (j == column) (turned row i) (turned column j) (table row column) t
  where
    turned : (a b : ℕ) → (a == b) ≡ (b == a)
    turned a b = grind (arith, nat_tests)

    at_place : (p q r s : Bool) → p ≡ r → q ≡ s → (old : M3) → (if p && q then sum_of_blocks old block else old) ≡ sum_of_blocks old (if r && s then block else no_block)
    at_place p q r s e f old = (λ t. chosen (e t && f t) t) ∙ refl
      where
        chosen : (b : Bool) → (if b then sum_of_blocks old block else old) ≡ sum_of_blocks old (if b then block else no_block)
        chosen true = refl
        chosen false = sym (none_right old)

-- ---- sums with more
pub nothing_more : (sums : StoredSums) → HaveMore (λ row column. no_block) 0 sums sums
nothing_more sums = record {
  fixed = refl;
  nodes = refl;
  table = ap (free_table sums.fixed) (sym (λ t. λ row column. none_right (table_of sums.rows row column) t));
  count = omega arith;
}

-- what stands at free nodes tells what stands there once more is added
free_of_sum : (fixed : List Bool) (a b : Table) → free_table fixed (sum_of_tables (free_table fixed a) b) ≡ free_table fixed (sum_of_tables a b)
free_of_sum fixed a b =
    free_agree fixed (sum_of_tables (free_table fixed a) b) (sum_of_tables a b)
    (λ row column free. ap (λ m. sum_of_blocks m (b row column)) (free_at fixed a row column free))

pub more_again : (a b c : StoredSums) (s t : Table) (m n : ℕ) → HaveMore s m a b → HaveMore t n b c → HaveMore (sum_of_tables s t) (m + n) a c
more_again a b c s t m n h k =
    let fixed = a.fixed in
    record {
      fixed = k.fixed ∙ h.fixed;
      nodes = k.nodes ∙ h.nodes;
      table = subst (λ (flags : List Bool). free_table flags (table_of c.rows) ≡ free_table flags (sum_of_tables (table_of b.rows) t)) h.fixed k.table
          ∙ sym (free_of_sum fixed (table_of b.rows) t)
          ∙ ap (λ (u : Table). free_table fixed (sum_of_tables u t)) h.table
          ∙ free_of_sum fixed (sum_of_tables (table_of a.rows) s) t
          ∙ ap (free_table fixed) (λ i. λ row column. regrouped (table_of a.rows row column) (s row column) (t row column) i);
      count = omega (arith, h.count, k.count);
    }

pub more_as : (a b : StoredSums) (s t : Table) (m n : ℕ) → HaveMore s m a b → s ≡ t → m ≡ n → HaveMore t n a b
more_as a b s t m n h e f = record {
  fixed = h.fixed;
  nodes = h.nodes;
  table = h.table ∙ ap (λ (u : Table). free_table a.fixed (sum_of_tables (table_of a.rows) u)) e;
  count = omega (arith, h.count, f);
}

pub one_more : (a b : StoredSums) (i j : ℕ) (block : M3) → b.fixed ≡ a.fixed → nodes_of b.rows ≡ nodes_of a.rows → table_of b.rows ≡ free_table a.fixed (with_block i j block (table_of a.rows)) → b.added ≡ a.added + 1
    → HaveMore (at_pair i j block) 1 a b
one_more a b i j block fixed nodes table count = record {
  fixed = fixed;
  nodes = nodes;
  table = ap (free_table a.fixed) table ∙ free_again a.fixed (with_block i j block (table_of a.rows)) ∙ ap (free_table a.fixed) (with_one i j block (table_of a.rows));
  count = omega (arith, count);
}

-- ---- four blocks, and four times four
pub in_row_more : (i : ℕ) (node : ℕ → ℕ) (block : ℕ → M3) (k : ℕ) → sum_of_tables (in_row i node block k) (at_pair i (node k) (block k)) ≡ in_row i node block (k + 1)
in_row_more i node block k = λ t. λ row column. each row column t
  where
    each : (row column : ℕ) → sum_of_blocks (in_row i node block k row column) (at_pair i (node k) (block k) row column) ≡ in_row i node block (k + 1) row column
    each row column =
        let at : ℕ → M3 = λ j. at_pair i (node j) (block j) row column in
        sym (ap block_total (map-range_with_len_more at 0 k k (omega arith)) ∙ block_total-push (map at (range_with_len 0 k)) (at k))

pub in_rows_more : (nodes : List ℕ) (block : (i j : ℕ) → M3) (k : ℕ) → sum_of_tables (in_rows nodes block k) (in_row (slice_index nodes k) (slice_index nodes) (block k) (length nodes)) ≡ in_rows nodes block (k + 1)
in_rows_more nodes block k = λ t. λ row column. each row column t
  where
    each : (row column : ℕ) → sum_of_blocks (in_rows nodes block k row column) (in_row (slice_index nodes k) (slice_index nodes) (block k) (length nodes) row column) ≡ in_rows nodes block (k + 1) row column
    each row column =
        let of_row : ℕ → List M3 = λ i. map (λ j. at_pair (slice_index nodes i) (slice_index nodes j) (block i j) row column) (range_with_len 0 (length nodes)) in
        sym (ap block_total (flat_map_counted_more of_row k) ∙ block_total-append (flat_map of_row (range_with_len 0 k)) (of_row k))

-- ---- contributions
pub stiffness_of-append : (xs ys : List Contribution) → stiffness_of (xs ++ ys) ≡ sum_of_tables (stiffness_of xs) (stiffness_of ys)
stiffness_of-append xs ys = λ t. λ row column. each row column t
  where
    each : (row column : ℕ) → stiffness_of (xs ++ ys) row column ≡ sum_of_blocks (stiffness_of xs row column) (stiffness_of ys row column)
    each row column = ap block_total (map-append (stiffness_at row column) xs ys) ∙ block_total-append (map (stiffness_at row column) xs) (map (stiffness_at row column) ys)

stiffness_of-push : (xs : List Contribution) (x : Contribution) → sum_of_tables (stiffness_of xs) (stiffness_of_one x) ≡ stiffness_of (xs ++ x ∷ [])
stiffness_of-push xs x = ap (sum_of_tables (stiffness_of xs)) (sym (λ t. λ row column. none_right (stiffness_at row column x) t)) ∙ sym (stiffness_of-append xs (x ∷ []))

-- a contribution of one of the elements of a list more
pub part_more : {X : Type 0} (f : X → Contribution) (xs : List X) (i : ℕ) (d : X) (a b c : StoredSums) → i < length xs
    → HaveMore (stiffness_of (map f (take i xs))) (16 * i) a b → HaveMore (stiffness_of_one (f (get_or xs i d))) 16 b c → HaveMore (stiffness_of (map f (take (i + 1) xs))) (16 * (i + 1)) a c
part_more f xs i d a b c there h k =
    let done = map f (take i xs) in
    let next = f (get_or xs i d) in
    more_as a c (sum_of_tables (stiffness_of done) (stiffness_of_one next)) (stiffness_of (map f (take (i + 1) xs))) (16 * i + 16) (16 * (i + 1))
    (more_again a b c (stiffness_of done) (stiffness_of_one next) (16 * i) 16 h k)
    (stiffness_of-push done next ∙ ap stiffness_of (sym (map_more f xs i d there))) (omega arith)

-- those of all elements
pub all_parts : {X : Type 0} (f : X → Contribution) (xs : List X) (i : ℕ) (a b : StoredSums) → i ≤ length xs → length xs ≤ i → HaveMore (stiffness_of (map f (take i xs))) (16 * i) a b → HaveMore (stiffness_of (map f xs)) (16 * length xs) a b
all_parts f xs i a b within past h =
    more_as a b (stiffness_of (map f (take i xs))) (stiffness_of (map f xs)) (16 * i) (16 * length xs) h (ap (λ ys. stiffness_of (map f ys)) (take_all i xs past)) (omega arith)

-- ---- sixteen blocks of four nodes
module _ (f : (i j : ℕ) → M3) where
  pub found : (i j : ℕ) → i < 4 → j < 4 → blocks_in (sixteen f) i j ≡ f i j
  found i j h k =
      ap (λ row. block_at row j) (get_or-counted (λ i. four_rows (f i)) 4 i [] h)
      ∙ ap matrix_of (get_or-counted (λ j. rows_of (f i j)) 4 j [] k)

-- where the entries of each are small
pub part_small : (part : Contribution) (blocks : List (List (List (List ℤ)))) → blocks ≡ sixteen_of part → ((i j : ℕ) → AreBelow 86 (part.blocks i j)) → AreSixteenSmall blocks
part_small part blocks e small = record { each = λ i j h k. subst (AreBelow 86) (sym (ap (λ bs. blocks_in bs i j) e ∙ found part.blocks i j h k)) (small i j) }

map_agree : {A : Type 0} (f g : ℕ → A) (xs : List ℕ) → All (λ x. f x ≡ g x) xs → map f xs ≡ map g xs
map_agree f g [] h = refl
map_agree f g (x ∷ xs) h = λ i. All-head (λ y. f y ≡ g y) x xs h i ∷ map_agree f g xs (All-tail (λ y. f y ≡ g y) x xs h) i

-- blocks that agree between four nodes
pub between_agree : (nodes : List ℕ) (f g : (i j : ℕ) → M3) → ((i j : ℕ) → i < length nodes → j < length nodes → f i j ≡ g i j) → between nodes f ≡ between nodes g
between_agree nodes f g same = λ t. λ row column. each row column t
  where
    n : ℕ
    n = length nodes

    at : ((i j : ℕ) → M3) → (row column i j : ℕ) → M3
    at f row column i j = at_pair (slice_index nodes i) (slice_index nodes j) (f i j) row column

    of_row : ((i j : ℕ) → M3) → (row column i : ℕ) → List M3
    of_row f row column i = map (at f row column i) (range_with_len 0 n)

    each : (row column : ℕ) → block_total (flat_map (of_row f row column) (range_with_len 0 n)) ≡ block_total (flat_map (of_row g row column) (range_with_len 0 n))
    each row column =
        ap block_total (flat_map_agree (of_row f row column) (of_row g row column) (range_with_len 0 n) (All-counted (λ i. of_row f row column i ≡ of_row g row column i) n (λ i h.
        map_agree (at f row column i) (at g row column i) (range_with_len 0 n) (All-counted (λ j. at f row column i j ≡ at g row column i j) n (λ j k.
        ap (λ (m : M3). at_pair (slice_index nodes i) (slice_index nodes j) m row column) (same i j h k))))))

-- what was added are the blocks of a contribution
pub part_added : (part : Contribution) (a b : StoredSums) (nodes : List ℕ) (blocks : List (List (List (List ℤ)))) → length nodes ≡ 4 → nodes ≡ part.nodes → blocks ≡ sixteen_of part
    → HaveMore (between nodes (blocks_in blocks)) 16 a b → HaveMore (stiffness_of_one part) 16 a b
part_added part a b nodes blocks four e f h =
    more_as a b (between nodes (blocks_in blocks)) (stiffness_of_one part) 16 16 h
    (ap (λ bs. between nodes (blocks_in bs)) f
    ∙ between_agree nodes (blocks_in (sixteen part.blocks)) part.blocks (λ i j h k. found part.blocks i j (omega (arith, h)) (omega (arith, k)))
    ∙ ap (λ ns. between ns part.blocks) e) refl

-- ---- blocks without an entry
no_row : (f : ℕ → M3) (xs : List ℕ) → All (λ x. f x ≡ no_block) xs → block_total (map f xs) ≡ no_block
no_row f [] h = refl
no_row f (x ∷ xs) h = (λ t. sum_of_blocks (All-head (λ y. f y ≡ no_block) x xs h t) (no_row f xs (All-tail (λ y. f y ≡ no_block) x xs h) t)) ∙ none_left no_block

no_rows : (f : ℕ → List M3) (xs : List ℕ) → All (λ x. block_total (f x) ≡ no_block) xs → block_total (flat_map f xs) ≡ no_block
no_rows f [] h = refl
no_rows f (x ∷ xs) h =
    block_total-append (f x) (flat_map f xs)
    ∙ (λ t. sum_of_blocks (All-head (λ y. block_total (f y) ≡ no_block) x xs h t) (no_rows f xs (All-tail (λ y. block_total (f y) ≡ no_block) x xs h) t))
    ∙ none_left no_block

-- a contribution of which no block stands at a row and a column
nothing_there : (part : Contribution) (row column : ℕ)
    → ((i j : ℕ) → i < length part.nodes → j < length part.nodes → at_pair (slice_index part.nodes i) (slice_index part.nodes j) (part.blocks i j) row column ≡ no_block) → stiffness_at row column part ≡ no_block
nothing_there part row column h =
    no_rows (λ i. map (at i) (range_with_len 0 n)) (range_with_len 0 n) (All-counted (λ i. block_total (map (at i) (range_with_len 0 n)) ≡ no_block) n (λ i first.
    no_row (at i) (range_with_len 0 n) (All-counted (λ j. at i j ≡ no_block) n (λ j second. h i j first second))))
  where
    n : ℕ
    n = length part.nodes

    at : (i j : ℕ) → M3
    at i j = at_pair (slice_index part.nodes i) (slice_index part.nodes j) (part.blocks i j) row column

-- what is nothing at free nodes changes nothing there
nothing_added : (part : Contribution) (sums : StoredSums)
    → ((row column : ℕ) → (get_or sums.fixed row false || get_or sums.fixed column false) ≡ false → stiffness_at row column part ≡ no_block) → HaveMore (stiffness_of_one part) 16 sums sums
nothing_added part sums h = record {
  fixed = refl;
  nodes = refl;
  table = free_agree sums.fixed (table_of sums.rows) (sum_of_tables (table_of sums.rows) (stiffness_of_one part))
      (λ row column free. sym (ap (sum_of_blocks (table_of sums.rows row column)) (h row column free) ∙ none_right (table_of sums.rows row column)));
  count = omega arith;
}

-- such a contribution adds nothing
pub none_added : (part : Contribution) (sums : StoredSums) → HasNoBlocks part → HaveMore (stiffness_of_one part) 16 sums sums
none_added part sums h = nothing_added part sums (λ row column free. nothing_there part row column (λ i j first second.
    either ((slice_index part.nodes i == row) && (slice_index part.nodes j == column)) (part.blocks i j) (h.none i j)))
  where
    either : (b : Bool) (m : M3) → m ≡ no_block → (if b then m else no_block) ≡ no_block
    either true m e = e
    either false m e = refl

-- nor does one between fixed nodes, which is nothing at free ones
pub nothing_at_free : (part : Contribution) (fixed : List Bool) → are_held fixed part.nodes ≡ true → (row column : ℕ) → (get_or fixed row false || get_or fixed column false) ≡ false → stiffness_at row column part ≡ no_block
nothing_at_free part fixed h row column free = nothing_there part row column (λ i j first second.
    elsewhere i j (is_other (slice_index part.nodes i) row (λ same. other (sym (AllPass-from_list_all (λ node. get_or fixed node false) part.nodes h i 0 first) ∙ ap (λ node. get_or fixed node false) same ∙ left_free (get_or fixed row false) (get_or fixed column false) free))))
  where
    elsewhere : (i j : ℕ) → (slice_index part.nodes i == row) ≡ false → at_pair (slice_index part.nodes i) (slice_index part.nodes j) (part.blocks i j) row column ≡ no_block
    elsewhere i j e = rw e refl

    other : true ≡ false → ⊥
    other e = cc

    left_free : (a b : Bool) → (a || b) ≡ false → a ≡ false
    left_free true b e = e
    left_free false b e = refl

pub fixed_added : (part : Contribution) (sums : StoredSums) → are_held sums.fixed part.nodes ≡ true → HaveMore (stiffness_of_one part) 16 sums sums
fixed_added part sums h = nothing_added part sums (nothing_at_free part sums.fixed h)

-- ---- inertia
pub inertia_more : (masses : List ℤ) (k : ℕ) → sum_of_tables (inertia_table masses k) (at_pair k k (inertia_block (get_or masses k (pos 0)))) ≡ inertia_table masses (k + 1)
inertia_more masses k = λ t. λ row column. each row column t
  where
    at : (row column node : ℕ) → M3
    at row column node = at_pair node node (inertia_block (get_or masses node (pos 0))) row column

    each : (row column : ℕ) → sum_of_blocks (inertia_table masses k row column) (at row column k) ≡ inertia_table masses (k + 1) row column
    each row column = sym (ap block_total (map-range_with_len_more (at row column) 0 k k (omega arith)) ∙ block_total-push (map (at row column) (range_with_len 0 k)) (at row column k))

-- ---- all that is added
pub from_nothing : (a b : StoredSums) (t : Table) (m : ℕ) → table_of a.rows ≡ zeros → HaveMore t m a b → free_table a.fixed (table_of b.rows) ≡ free_table a.fixed t
from_nothing a b t m e h = h.table ∙ ap (λ (u : Table). free_table a.fixed (sum_of_tables u t)) e ∙ ap (free_table a.fixed) (λ i. λ row column. none_left (t row column) i)

pub four_kinds : (first : Table) (xs ys zs : List Contribution) → sum_of_tables (sum_of_tables (sum_of_tables first (stiffness_of xs)) (stiffness_of ys)) (stiffness_of zs) ≡ sum_of_tables first (stiffness_of (xs ++ ys ++ zs))
four_kinds first xs ys zs =
    ap (λ (t : Table). sum_of_tables t (stiffness_of zs)) (regrouped_tables first (stiffness_of xs) (stiffness_of ys) ∙ ap (sum_of_tables first) (sym (stiffness_of-append xs ys)))
    ∙ regrouped_tables first (stiffness_of (xs ++ ys)) (stiffness_of zs) ∙ ap (sum_of_tables first) (sym (stiffness_of-append (xs ++ ys) zs))
  where
    regrouped_tables : (a b c : Table) → sum_of_tables (sum_of_tables a b) c ≡ sum_of_tables a (sum_of_tables b c)
    regrouped_tables a b c = λ i. λ row column. regrouped (a row column) (b row column) (c row column) i

pub no_blocks_as : (part other : Contribution) → part ≡ other → HasNoBlocks part → HasNoBlocks other
no_blocks_as part other e h = subst HasNoBlocks e h

pub none_then : {X : Type 0} (o : Option X) (P Q : Type 0) → (P → Q) → IfNone o P → IfNone o Q
none_then None P Q f h = f h
none_then (Some x) P Q f h = h
