-- Products that fit 64 bits.
use Rattle.std.proofs.Common.{◌≡◌, ◌*◌, ◌^◌, ◌≤◌, ℤ, ◌*ℤ◌, unsigned_abs, lit<, w64, to_z, of_z}
use Rattle.whole_laws.proofs.Order.{clean, size_prod}

pub product-clean : (a b : ℤ) → unsigned_abs a ≤ 2 ^ 30 → unsigned_abs b ≤ 2 ^ 29 → to_z w64 (of_z w64 (to_z w64 (of_z w64 a) *ℤ to_z w64 (of_z w64 b))) ≡ a *ℤ b
product-clean a b h k =
    rw (clean w64 a (2 ^ 30) h (lit< tt), clean w64 b (2 ^ 29) k (lit< tt))
    (clean w64 (a *ℤ b) (2 ^ 30 * 2 ^ 29) (size_prod a b (2 ^ 30) (2 ^ 29) h k) (lit< tt))
