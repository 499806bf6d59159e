-- The solution that a direction is rounded from isn't 0: at 0 all of the right side would be left over.
use Rattle.std.proofs.Common.{◌≡◌, ◌∙◌, ℕ, ◌+◌, ◌*◌, ◌≤◌, ◌<◌, ◌^◌, ℤ, pos, ◌<ℤ◌, ◌+ℤ◌, ◌-ℤ◌, ◌*ℤ◌, unsigned_abs, List, [], ◌∷◌, ◌++◌, length, map, refl, sym, ap, subst, arith}
use Rattle.std.specs.Prelude.{All, sum, neg_ℤ}
use Rattle.std.specs.List.{flat_map, range_with_len, sum_by}
use Rattle.std.proofs.lemmas.Int.{ints}
use Rattle.std.proofs.lemmas.List.{length-map}
use Rattle.std.proofs.lemmas.List.FromFn.{length-range_with_len}
use Rattle.std.proofs.lemmas.List.Elements.{All-cons, All-head, All-map, All-nil, All-tail, All-weaker}
use Rattle.std.proofs.lemmas.List.Sums.{sum-map, sum_by-cons}
use Rattle.list_laws.specs.Chains.{Follow}
use Rattle.list_laws.proofs.Elements.{at_any}
use Rattle.num_q.specs.Rounding.{cut_of, floor_of}
use Rattle.num_q.proofs.Bounds.{cut_same}
use Rattle.space3.specs.declared.vectors.V3.{V3}
use Rattle.space3.specs.Vectors.{dot_product, origin, vector}
use Rattle.vec_q.specs.Matrices.{transposed}
use Rattle.block_rows.specs.Tables.{Table, product, product_at, row_times, three_at}
use Rattle.block_rows.proofs.Threes.{length-threes}
use Rattle.sparse_cg.specs.Directions.{IsEndOf}
use Rattle.sparse_cg.specs.Systems.{IsShift, System, apply, combined, over_diagonal, system_of}
use Rattle.sparse_cg.specs.Turns.{IsTurn, Numbers, dot, residual, start}
use Rattle.sparse_cg.proofs.Shifts.{target_short}
use Rattle.sparse_cg.proofs.Still.{dot_with_origin, nothing_over, nothing_times, total_of_zeros}

abbrev IsNone : ℤ → Type 0
IsNone number = number ≡ pos 0

abbrev IsShort : ℤ → Type 0
IsShort number = unsigned_abs number < 2 ^ 44

-- ---- the matrix times 0
module _ (nodes : ℕ) (table : Table) (x : List ℤ) (none : All IsNone x) where
  no_three : (node : ℕ) → three_at x node ≡ origin
  no_three node = λ i. vector (at_any IsNone x (3 * node) (pos 0) none refl i) (at_any IsNone x (3 * node + 1) (pos 0) none refl i) (at_any IsNone x (3 * node + 2) (pos 0) none refl i)

  no_row : (row : ℕ → V3) → row_times nodes row x ≡ pos 0
  no_row row = total_of_zeros (λ node. dot_product (row node) (three_at x node)) (range_with_len 0 nodes) (λ node. dot_with_origin (row node) (three_at x node) (no_three node))

  no_rows : (is : List ℕ) → All IsNone (flat_map (product_at nodes table x) is)
  no_rows [] = All-nil IsNone
  no_rows (i ∷ is) =
      let rest = flat_map (product_at nodes table x) is in
      let rows = λ (column : ℕ). transposed (table i column) in
      let first = row_times nodes (λ column. (rows column).first) x in
      let second = row_times nodes (λ column. (rows column).second) x in
      let third = row_times nodes (λ column. (rows column).third) x in
      All-cons IsNone first (second ∷ third ∷ rest) (no_row (λ column. (rows column).first))
      (All-cons IsNone second (third ∷ rest) (no_row (λ column. (rows column).second))
      (All-cons IsNone third rest (no_row (λ column. (rows column).third)) (no_rows is)))

  no_product : All IsNone (product nodes table x)
  no_product = no_rows (range_with_len 0 nodes)

  long_product : length (product nodes table x) ≡ 3 * nodes
  long_product = length-threes (product_at nodes table x) (range_with_len 0 nodes) (λ i. refl) ∙ ap (λ (n : ℕ). 3 * n) (length-range_with_len 0 nodes)

-- ---- what is left over
all_left : (bs ys : List ℤ) → length bs ≡ length ys → All IsShort bs → All IsNone ys → combined (λ b number. cut_of 44 (b -ℤ number)) bs ys ≡ bs
all_left [] ys e short none = refl
all_left (b ∷ bs) [] e short none = absurd (omega arith)
all_left (b ∷ bs) (y ∷ ys) e short none = λ i. one i ∷ all_left bs ys (omega arith) (All-tail IsShort b bs short) (All-tail IsNone y ys none) i
  where
    less_none : (b : ℤ) → b -ℤ pos 0 ≡ b
    less_none b = omega (arith, ints)

    one : cut_of 44 (b -ℤ y) ≡ b
    one = ap (λ (n : ℤ). cut_of 44 (b -ℤ n)) (All-head IsNone y ys none) ∙ ap (cut_of 44) (less_none b) ∙ cut_same 44 b (All-head IsShort b bs short)

no_size : (bs : List ℤ) → sum_by unsigned_abs bs ≡ 0 → All IsNone bs
no_size [] h = All-nil IsNone
no_size (b ∷ bs) h =
    let both : unsigned_abs b + sum_by unsigned_abs bs ≡ 0 = sym (sum_by-cons unsigned_abs b bs) ∙ h in
    All-cons IsNone b bs (none b (omega (arith, both))) (no_size bs (omega (arith, both)))
  where
    none : (b : ℤ) → unsigned_abs b ≡ 0 → b ≡ pos 0
    none b h = omega (arith, ints)

no_dot : (bs ys : List ℤ) → All IsNone bs → dot bs ys ≡ pos 0
no_dot [] ys none = refl
no_dot (b ∷ bs) [] none = refl
no_dot (b ∷ bs) (y ∷ ys) none = λ i. (ap (λ (n : ℤ). n *ℤ y) (All-head IsNone b bs none) ∙ nothing_times y) i +ℤ no_dot bs ys (All-tail IsNone b bs none) i

-- ---- turns
left_by_last : (system : System) (n : Numbers) (before : List Numbers) (last : Numbers) → Follow (λ _ turn. turn) (IsTurn system) n (before ++ last ∷ []) → last.r ≡ residual system last.x
left_by_last system n [] last h = subst (λ (m : Numbers). m.r ≡ residual system m.x) (sym h.0.is) refl
left_by_last system n (turn ∷ before) last h = left_by_last system turn before last h.1

remains_at_first : (system : System) (n : Numbers) (before : List Numbers) (last : Numbers) → Follow (λ _ turn. turn) (IsTurn system) n (before ++ last ∷ []) → pos 0 <ℤ n.rho
remains_at_first system n [] last h = h.0.remains
remains_at_first system n (turn ∷ before) last h = h.0.remains

module _ (nodes : ℕ) (table : Table) (slopes : List ℤ) (shift : ℕ) (each : length slopes ≡ 3 * nodes) (fit : IsShift slopes shift) where
  abbrev system : System
  system = system_of nodes table slopes shift

  short : All IsShort system.target
  short = All-map IsShort (λ slope. floor_of (neg_ℤ (cut_of 100 slope)) (pos (2 ^ shift))) slopes
      (All-weaker (λ slope. unsigned_abs (cut_of 100 slope) < 2 ^ (40 + shift)) (λ slope. IsShort (floor_of (neg_ℤ (cut_of 100 slope)) (pos (2 ^ shift)))) (λ slope h. target_short shift (cut_of 100 slope) _ h refl) slopes fit.fits)

  all_left_at_none : (x : List ℤ) → All IsNone x → residual system x ≡ system.target
  all_left_at_none x none =
      let numbers = product nodes table x in
      let scaled = λ (number : ℤ). floor_of number (pos (2 ^ (16 + shift))) in
      all_left system.target (apply system x)
      (length-map slopes (λ slope. floor_of (neg_ℤ (cut_of 100 slope)) (pos (2 ^ shift))) ∙ each ∙ sym (length-map numbers scaled ∙ long_product nodes table x none)) short
      (All-map IsNone scaled numbers (All-weaker IsNone (λ number. IsNone (scaled number)) (λ number e. ap scaled e ∙ nothing_over (pos (2 ^ (16 + shift)))) numbers (no_product nodes table x none)))

  pub solution_not_zero : (direction : List V3) (end : IsEndOf system direction) → ¬ All IsNone end.last.x
  solution_not_zero direction end none =
      let left : end.last.r ≡ system.target = left_by_last system (start system) end.before end.last end.turns ∙ all_left_at_none end.last.x none in
      let close : 4 * sum (map unsigned_abs system.target) ≤ sum (map unsigned_abs system.target) = subst (λ (r : List ℤ). 4 * sum (map unsigned_abs r) ≤ sum (map unsigned_abs system.target)) left end.close.quarter in
      contrary (dot system.target (over_diagonal system system.target))
      (no_dot system.target (over_diagonal system system.target) (no_size system.target (sym (sum-map unsigned_abs system.target) ∙ nothing (sum (map unsigned_abs system.target)) close)))
      (remains_at_first system (start system) end.before end.last end.turns)
    where
      nothing : (n : ℕ) → 4 * n ≤ n → n ≡ 0
      nothing n h = omega arith

      contrary : (rho : ℤ) → rho ≡ pos 0 → pos 0 <ℤ rho → ⊥
      contrary rho e h = omega (arith, ints)
