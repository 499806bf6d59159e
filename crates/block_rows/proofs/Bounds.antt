-- Blocks and rows with small entries: greater bounds, and one contribution more.
use Rattle.std.proofs.Common.{ℕ, ◌+◌, ◌≤◌, ◌^◌, ℤ, ◌+ℤ◌, List, arith}
use Rattle.std.proofs.lemmas.List.Elements.{All-weaker}
use Rattle.whole_laws.proofs.Order.{size_sum}
use Rattle.space3.specs.declared.vectors.V3.{V3}
use Rattle.space3.specs.Vectors.{AtMost, Within, sum_of}
use Rattle.vec_q.specs.Matrices.{M3}
use Rattle.vec_q.specs.Widths.{AreBelow, AreWithin, IsBelow}
use Rattle.block_rows.specs.Tables.{sum_of_blocks}
use Rattle.block_rows.specs.Calls.Entries.{IsSmall}
use Rattle.block_rows.specs.Stored.{Entry}

pub larger_vector : (m n : ℕ) → m ≤ n → (v : V3) → Within m v → Within n v
larger_vector m n le v h = record { x = record { bound = omega (arith, h.x.bound) }; y = record { bound = omega (arith, h.y.bound) }; z = record { bound = omega (arith, h.z.bound) } }

-- a greater bound holds
pub larger : (m n : ℕ) → m ≤ n → (b : M3) → AreWithin m b → AreWithin n b
larger m n le b h = record { first = larger_vector m n le b.first h.first; second = larger_vector m n le b.second h.second; third = larger_vector m n le b.third h.third }

pub larger_row : (m n : ℕ) → m ≤ n → (row : List Entry) → IsSmall m row → IsSmall n row
larger_row m n le row h = record { small = All-weaker (λ (e : Entry). AreWithin m e.block) (λ (e : Entry). AreWithin n e.block) (λ e within. larger m n le e.block within) row h.small }

below_is_within : (k : ℕ) (v : V3) → IsBelow k v → Within (2 ^ k) v
below_is_within k v h = record { x = record { bound = omega (arith, h.x) }; y = record { bound = omega (arith, h.y) }; z = record { bound = omega (arith, h.z) } }

pub are_within : (k : ℕ) (b : M3) → AreBelow k b → AreWithin (2 ^ k) b
are_within k b h = record { first = below_is_within k b.first h.first; second = below_is_within k b.second h.second; third = below_is_within k b.third h.third }

sum_within : (m n : ℕ) (a b : ℤ) → AtMost m a → AtMost n b → AtMost (m + n) (a +ℤ b)
sum_within m n a b h k = record { bound = omega (arith, size_sum a b, h.bound, k.bound) }

pub sum_of_vectors : (m n : ℕ) (a b : V3) → Within m a → Within n b → Within (m + n) (sum_of a b)
sum_of_vectors m n a b h k = record { x = sum_within m n a.x b.x h.x k.x; y = sum_within m n a.y b.y h.y k.y; z = sum_within m n a.z b.z h.z k.z }

-- a sum of two blocks
pub sum_of_two : (m n : ℕ) (a b : M3) → AreWithin m a → AreWithin n b → AreWithin (m + n) (sum_of_blocks a b)
sum_of_two m n a b h k = record {
  first = sum_of_vectors m n a.first b.first h.first k.first;
  second = sum_of_vectors m n a.second b.second h.second k.second;
  third = sum_of_vectors m n a.third b.third h.third k.third;
}
