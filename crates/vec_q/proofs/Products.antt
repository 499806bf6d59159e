-- Sums of products of numbers below 2^m and below 2^n.
use Rattle.std.proofs.Common.{ℕ, ◌+◌, ◌^◌, ◌≤◌, ◌<◌, ℤ, ◌+ℤ◌, ◌-ℤ◌, ◌*ℤ◌, unsigned_abs, arith, le_refl}
use Rattle.num_q.proofs.Bounds.{prod_below, sum_below, diff_below}

abbrev Below : ℕ → ℤ → Type 0
Below m a = unsigned_abs a < 2 ^ m

product : (a b : ℤ) (m n : ℕ) → Below m a → Below n b → Below (m + n) (a *ℤ b)
product a b m n h k = prod_below a b m n (m + n) h k (le_refl (m + n))

pub two_products : (a b c d : ℤ) (m n k : ℕ) → Below m a → Below n b → Below m c → Below n d → m + n + 1 ≤ k → Below k (a *ℤ b +ℤ c *ℤ d)
two_products a b c d m n k ha hb hc hd l =
    sum_below (a *ℤ b) (c *ℤ d) (m + n) (m + n) k (product a b m n ha hb) (product c d m n hc hd) (omega arith) (omega arith)

pub three_products : (a b c d e f : ℤ) (m n k : ℕ) → Below m a → Below n b → Below m c → Below n d → Below m e → Below n f → m + n + 2 ≤ k →
    Below k (a *ℤ b +ℤ c *ℤ d +ℤ e *ℤ f)
three_products a b c d e f m n k ha hb hc hd he hf l =
    sum_below (a *ℤ b +ℤ c *ℤ d) (e *ℤ f) (m + n + 1) (m + n) k (two_products a b c d m n (m + n + 1) ha hb hc hd (le_refl (m + n + 1))) (product e f m n he hf) (omega arith) (omega arith)

pub difference_of_products : (a b c d : ℤ) (m n k : ℕ) → Below m a → Below n b → Below m c → Below n d → m + n + 1 ≤ k → Below k (a *ℤ b -ℤ c *ℤ d)
difference_of_products a b c d m n k ha hb hc hd l =
    diff_below (a *ℤ b) (c *ℤ d) (m + n) (m + n) k (product a b m n ha hb) (product c d m n hc hd) (omega arith) (omega arith)
