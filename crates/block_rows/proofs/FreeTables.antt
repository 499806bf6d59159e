-- Tables without what stands in rows or columns of fixed nodes.
use Rattle.std.proofs.Common.{◌≡◌, ◌∙◌, ℕ, Bool, true, false, List, inl, inr, get_or, refl, sym, ap}
use Rattle.std.specs.Prelude.{◌==◌, ◌&&◌, ◌||◌, not, if◌then◌else◌}
use Rattle.std.proofs.lemmas.Bool.{cases_Bool}
use Rattle.std.proofs.lemmas.Bool.Decides.{eqb_tells}
use Rattle.vec_q.specs.Matrices.{M3}
use Rattle.block_rows.specs.Tables.{Table, cut_table, free_table, no_block, sum_of_blocks, with_block}

-- two places of which one alone is held are different
other_place : (held : ℕ → ℕ → Bool) (row column i j : ℕ) (a : Bool) → held row column ≡ a → held i j ≡ not a → ((row == i) && (column == j)) ≡ false
other_place held row column i j a h k = elim (eqb_tells row i) [
  | inr u ↦ rw u.0 refl
  | inl u ↦ elim (eqb_tells column j) [
    | inr w ↦ rw (u.0, w.0) refl
    | inl w ↦ absurd (differ a (sym h ∙ (λ t. held (u.1 t) (w.1 t)) ∙ k))
  ]
]
  where
    differ : (a : Bool) → a ≡ not a → ⊥
    differ true e = cc
    differ false e = cc

module _ (fixed : List Bool) where
  abbrev is_held : (row column : ℕ) → Bool
  is_held row column = get_or fixed row false || get_or fixed column false

  -- tables that agree at free nodes
  pub free_agree : (a b : Table) → ((row column : ℕ) → is_held row column ≡ false → a row column ≡ b row column) → free_table fixed a ≡ free_table fixed b
  free_agree a b same = λ t. λ row column. each row column t
    where
      each : (row column : ℕ) → free_table fixed a row column ≡ free_table fixed b row column
      each row column = elim (cases_Bool (is_held row column)) [ inl held ↦ rw held refl | inr free ↦ rw free (same row column free) ]

  pub free_at : (table : Table) (row column : ℕ) → is_held row column ≡ false → free_table fixed table row column ≡ table row column
  free_at table row column free = rw free refl

  held_at : (table : Table) (row column : ℕ) → is_held row column ≡ true → free_table fixed table row column ≡ no_block
  held_at table row column held = rw held refl

  pub free_again : (table : Table) → free_table fixed (free_table fixed table) ≡ free_table fixed table
  free_again table = free_agree (free_table fixed table) table (free_at table)

  pub cut_of_free : (table : Table) → cut_table fixed (free_table fixed table) ≡ cut_table fixed table
  cut_of_free table = λ t. λ row column. each row column t
    where
      each : (row column : ℕ) → cut_table fixed (free_table fixed table) row column ≡ cut_table fixed table row column
      each row column = elim (cases_Bool (is_held row column)) [ inl held ↦ rw held refl | inr free ↦ rw free refl ]

  module _ (i j : ℕ) (block : M3) (table : Table) where
    pub free_of_added : free_table fixed (with_block i j block (free_table fixed table)) ≡ free_table fixed (with_block i j block table)
    free_of_added = free_agree (with_block i j block (free_table fixed table)) (with_block i j block table)
        (λ row column free. ap (λ (m : M3). if (row == i) && (column == j) then sum_of_blocks m block else m) (free_at table row column free))

    -- a block at a fixed node is left out
    pub left_out : free_table fixed table ≡ table → is_held i j ≡ true → table ≡ free_table fixed (with_block i j block table)
    left_out is held = sym is ∙ free_agree table (with_block i j block table) (λ row column free. sym (rw (other_place is_held row column i j false free held) refl))

    -- one at free nodes is kept
    pub taken_in : free_table fixed table ≡ table → is_held i j ≡ false → with_block i j block table ≡ free_table fixed (with_block i j block table)
    taken_in is free = λ t. λ row column. each row column t
      where
        each : (row column : ℕ) → with_block i j block table row column ≡ free_table fixed (with_block i j block table) row column
        each row column = elim (cases_Bool (is_held row column)) [
          | inr away ↦ sym (free_at (with_block i j block table) row column away)
          | inl held ↦ rw (other_place is_held row column i j true held free) ((λ t. (sym is) t row column) ∙ held_at table row column held)
              ∙ sym (held_at (with_block i j block table) row column held)
        ]
