-- Rows to which a block is added in its column: what stays of them, and what stands in each column.
use Rattle.std.proofs.Common.{◌≡◌, ◌∙◌, ◌≢◌, ℕ, suc, ◌<◌, ◌≤◌, ℤ, pos, ◌+ℤ◌, true, false, List, [], ◌∷◌, inl, inr, refl, sym, ap, subst, arith}
use Rattle.std.specs.Prelude.{All}
use Rattle.std.proofs.lemmas.Int.{ints}
use Rattle.std.proofs.lemmas.Bool.Decides.{nat_tests, leb_tells, eqb_tells}
use Rattle.std.proofs.lemmas.List.Elements.{All-nil, All-cons, All-head, All-tail, All-same, All-weaker}
use Rattle.std.specs.Prelude.{nat_lt, ◌==◌, if◌then◌else◌}
use Rattle.space3.specs.declared.vectors.V3.{V3}
use Rattle.space3.specs.Vectors.{origin, sum_of, vector}
use Rattle.vec_q.specs.Matrices.{M3, columns}
use Rattle.block_rows.specs.Tables.{no_block, sum_of_blocks}
use Rattle.block_rows.specs.Calls.Entries.{IsAscending, with_entry}
use Rattle.block_rows.specs.Stored.{Entry, entry, block_in}

pub by_order : {P : Type 0} (a b : ℕ) → (a < b → P) → (a ≡ b → P) → (b < a → P) → P
by_order a b below same above =
    elim (leb_tells (suc a) b) [ inl t ↦ below t.1 | inr t ↦ elim (eqb_tells a b) [ inl u ↦ same u.1 | inr u ↦ above (omega arith) ] ]

is_lesser : (a b : ℕ) → a < b → nat_lt a b ≡ true
is_lesser a b h = grind (arith, nat_tests)

is_not_lesser : (a b : ℕ) → b ≤ a → nat_lt a b ≡ false
is_not_lesser a b h = grind (arith, nat_tests)

pub is_same : (a b : ℕ) → a ≡ b → (a == b) ≡ true
is_same a b h = grind (arith, nat_tests)

pub is_other : (a b : ℕ) → a ≢ b → (a == b) ≡ false
is_other a b h = grind (arith, nat_tests)

zero_left : (a : ℤ) → pos 0 +ℤ a ≡ a
zero_left a = omega (arith, ints)

zero_vector : (v : V3) → sum_of origin v ≡ v
zero_vector v = λ i. vector (zero_left v.x i) (zero_left v.y i) (zero_left v.z i)

zero_block : (m : M3) → sum_of_blocks no_block m ≡ m
zero_block m = λ i. columns (zero_vector m.first i) (zero_vector m.second i) (zero_vector m.third i)

-- ---- one entry in front
pub here : (e : Entry) (es : List Entry) (k : ℕ) → e.column ≡ k → block_in (e ∷ es) k ≡ e.block
here e es k h = rw (is_same e.column k h) refl

pub later : (e : Entry) (es : List Entry) (k : ℕ) → e.column ≢ k → block_in (e ∷ es) k ≡ block_in es k
later e es k h = rw (is_other e.column k h) refl

-- in a column before those of all entries stands nothing
pub absent : (k : ℕ) (es : List Entry) → All (λ e. k < e.column) es → block_in es k ≡ no_block
absent k [] h = refl
absent k (e ∷ es) h =
    let first : k < e.column = All-head (λ x. k < x.column) e es h in
    later e es k (λ same. omega arith) ∙ absent k es (All-tail (λ x. k < x.column) e es h)

module _ (column : ℕ) (block : M3) where
  pub with_below : (e : Entry) (es : List Entry) → e.column < column → with_entry column block (e ∷ es) ≡ e ∷ with_entry column block es
  with_below e es h = rw (is_lesser e.column column h) refl

  pub with_same : (e : Entry) (es : List Entry) → e.column ≡ column → with_entry column block (e ∷ es) ≡ entry column (sum_of_blocks e.block block) ∷ es
  with_same e es h = rw (is_not_lesser e.column column (omega arith), is_same e.column column h) refl

  pub with_above : (e : Entry) (es : List Entry) → column < e.column → with_entry column block (e ∷ es) ≡ entry column block ∷ e ∷ es
  with_above e es h = rw (is_not_lesser e.column column (omega arith), is_other e.column column (λ same. omega arith)) refl

  pub All-with_entry : (P Q : Entry → Type 0) → Q (entry column block) → ((e : Entry) → P e → Q e) → ((e : Entry) → e.column ≡ column → P e → Q (entry column (sum_of_blocks e.block block))) → (row : List Entry) → All P row → All Q (with_entry column block row)
  All-with_entry P Q new keep more [] h = All-cons Q (entry column block) [] new (All-nil Q)
  All-with_entry P Q new keep more (e ∷ es) h = by_order e.column column
      (λ below. All-same Q _ _ (with_below e es below) (All-cons Q e _ (keep e (All-head P e es h)) (All-with_entry P Q new keep more es (All-tail P e es h))))
      (λ same. All-same Q _ _ (with_same e es same) (All-cons Q _ es (more e same (All-head P e es h)) (All-weaker P Q keep es (All-tail P e es h))))
      (λ above. All-same Q _ _ (with_above e es above) (All-cons Q _ (e ∷ es) new (All-weaker P Q keep (e ∷ es) h)))

  pub ascending-with_entry : (row : List Entry) → IsAscending row → IsAscending (with_entry column block row)
  ascending-with_entry [] h = (All-nil (λ later. column < later.column), tt)
  ascending-with_entry (e ∷ es) h = by_order e.column column
      (λ below. subst IsAscending (sym (with_below e es below))
      (All-with_entry (λ (x : Entry). e.column < x.column) (λ (x : Entry). e.column < x.column) below (λ x less. less) (λ x same less. below) es h.0, ascending-with_entry es h.1))
      (λ same. subst IsAscending (sym (with_same e es same)) (subst (λ (k : ℕ). All (λ (x : Entry). k < x.column) es) same h.0, h.1))
      (λ above. subst IsAscending (sym (with_above e es above))
      (All-cons (λ (x : Entry). column < x.column) e es above (All-weaker (λ (x : Entry). e.column < x.column) (λ (x : Entry). column < x.column) (λ x less. omega arith) es h.0), h))

  -- the block is added in its column
  pub found_added : (row : List Entry) → IsAscending row → block_in (with_entry column block row) column ≡ sum_of_blocks (block_in row column) block
  found_added [] h = here (entry column block) [] column refl ∙ sym (zero_block block)
  found_added (e ∷ es) h = by_order e.column column
      (λ below. ap (λ (r : List Entry). block_in r column) (with_below e es below) ∙ later e (with_entry column block es) column (λ same. omega arith) ∙ found_added es h.1
      ∙ ap (λ (m : M3). sum_of_blocks m block) (sym (later e es column (λ same. omega arith))))
      (λ same. ap (λ (r : List Entry). block_in r column) (with_same e es same) ∙ here (entry column (sum_of_blocks e.block block)) es column refl
      ∙ ap (λ (m : M3). sum_of_blocks m block) (sym (here e es column same)))
      (λ above. ap (λ (r : List Entry). block_in r column) (with_above e es above) ∙ here (entry column block) (e ∷ es) column refl ∙ sym (zero_block block)
      ∙ ap (λ (m : M3). sum_of_blocks m block) (sym (absent column (e ∷ es) (All-cons (λ (x : Entry). column < x.column) e es above (All-weaker (λ (x : Entry). e.column < x.column) (λ (x : Entry). column < x.column) (λ x less. omega arith) es h.0)))))

  -- all other columns stay
  pub others_stay : (k : ℕ) → column ≢ k → (row : List Entry) → block_in (with_entry column block row) k ≡ block_in row k
  others_stay k other [] = later (entry column block) [] k other
  others_stay k other (e ∷ es) = by_order e.column column
      (λ below. ap (λ (r : List Entry). block_in r k) (with_below e es below) ∙ ap (λ (m : M3). if e.column == k then e.block else m) (others_stay k other es))
      (λ same. ap (λ (r : List Entry). block_in r k) (with_same e es same) ∙ later (entry column (sum_of_blocks e.block block)) es k other
      ∙ sym (later e es k (λ (t : e.column ≡ k). other (sym same ∙ t))))
      (λ above. ap (λ (r : List Entry). block_in r k) (with_above e es above) ∙ later (entry column block) (e ∷ es) k other)
