-- The system of equations of a Newton direction, scaled so that its numbers are short.
use Rattle.std.specs.Prelude.{ℕ, ◌<◌, ◌+◌, ◌^◌, ℤ, pos, neg_ℤ, ◌*ℤ◌, List, map, flat_map, zip, All, unsigned_abs}
use Rattle.std.specs.List.{range_with_len}
use Rattle.std.specs.Int.{int_max}
use Rattle.num_q.specs.Rounding.{floor_of, cut_of}
use Rattle.vec_q.specs.Rows.{components}
use Rattle.block_rows.specs.Tables.{Table, diagonal_of, product}

-- for all slopes, cut to 100 bits, so many bits less than 40 are left over
abbrev pub FitAt : (slopes : List ℤ) → ℕ → Type 0
FitAt slopes shift = All (λ slope. unsigned_abs (cut_of 100 slope) < 2 ^ (40 + shift)) slopes

-- the least number of bits by which the slopes must be shortened
pub record IsShift (slopes : List ℤ) (shift : ℕ) : Type 0 where
  pub fits : FitAt slopes shift
  pub least : (lesser : ℕ) → lesser < shift → ¬ FitAt slopes lesser

-- a matrix, the right side, which is minus the gradient, and by how many bits both are shortened
pub record System : Type 0 where
  pub nodes : ℕ
  pub table : Table
  pub shift : ℕ
  pub target : List ℤ
  pub divisors : List ℤ

-- two lists, element by element
abbrev pub combined : (ℤ → ℤ → ℤ) → List ℤ → List ℤ → List ℤ
combined f xs ys = map (λ pair. f pair.0 pair.1) (zip xs ys)

-- the diagonal, where its entries are at least 1
abbrev pub divisors_of : (nodes : ℕ) → Table → List ℤ
divisors_of nodes table =
    flat_map (λ node. map (int_max (pos 1)) (components (diagonal_of (table node node)))) (range_with_len 0 nodes)

abbrev pub target_of : (slopes : List ℤ) → (shift : ℕ) → List ℤ
target_of slopes shift = map (λ slope. floor_of (neg_ℤ (cut_of 100 slope)) (pos (2 ^ shift))) slopes

abbrev pub system_of : (nodes : ℕ) → Table → (slopes : List ℤ) → (shift : ℕ) → System
system_of nodes table slopes shift = record {
  nodes = nodes;
  table = table;
  shift = shift;
  target = target_of slopes shift;
  divisors = divisors_of nodes table;
}

-- the matrix times a vector that has 16 fraction bits
abbrev pub apply : System → List ℤ → List ℤ
apply system p =
    map (λ number. floor_of number (pos (2 ^ (16 + system.shift)))) (product system.nodes system.table p)

-- a vector over the diagonal, with 16 fraction bits
abbrev pub quotient_of : (shift : ℕ) → ℤ → (divisor : ℤ) → ℤ
quotient_of shift number divisor = cut_of 44 (floor_of (number *ℤ pos (2 ^ (16 + shift))) divisor)

abbrev pub over_diagonal : System → List ℤ → List ℤ
over_diagonal system r = combined (quotient_of system.shift) r system.divisors
