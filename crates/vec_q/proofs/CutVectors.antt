-- Numbers and vectors that were cut are small.
use Rattle.std.proofs.Common.{ℕ, ◌^◌, ℤ, arith}
use Rattle.num_q.specs.Rounding.{cut_of}
use Rattle.num_q.proofs.Bounds.{cut_below}
use Rattle.space3.specs.Vectors.{AtMost, Within, vector}

pub cut_at_most : (b : ℕ) (z : ℤ) → AtMost (2 ^ b) (cut_of b z)
cut_at_most b z = record { bound = omega (arith, cut_below b z) }

pub cuts_within : (b : ℕ) (x y z : ℤ) → Within (2 ^ b) (vector (cut_of b x) (cut_of b y) (cut_of b z))
cuts_within b x y z = record { x = cut_at_most b x; y = cut_at_most b y; z = cut_at_most b z }
