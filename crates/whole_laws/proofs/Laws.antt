-- The ring laws of whole numbers that std lacks.
use Rattle.std.proofs.Common.{◌≡◌, ℕ, ◌+◌, ◌*◌, ℤ, pos, ◌+ℤ◌, ◌*ℤ◌, neg_ℤ, sym, ◌∙◌, ap, arith}
use Rattle.std.proofs.lemmas.Int.{ints}
use borrow.Author.Differences.{up, down, product_is, sum_is_lem, same_in}
use Rattle.std.proofs.Math.IntN.{*ℤ_comm}

-- a product of three, bracketed to the right
pub mul_assoc_ℤ : (a b c : ℤ) → (a *ℤ b) *ℤ c ≡ a *ℤ (b *ℤ c)
mul_assoc_ℤ a b c =
    let ab = product_is a b in
    let bc = product_is b c in
    let by = λ (k : ℕ) (m n : ℕ) (e : m ≡ n). ap (λ x. x * k) e in
    let left = product_is (a *ℤ b) c in
    let right = product_is a (b *ℤ c) in
    let ups : up ((a *ℤ b) *ℤ c) ≡ up (a *ℤ (b *ℤ c)) =
    omega (arith, by (up c) _ _ ab.0, by (down c) _ _ ab.1, by (up a) _ _ bc.0, by (down a) _ _ bc.1) in
    let downs : down ((a *ℤ b) *ℤ c) ≡ down (a *ℤ (b *ℤ c)) =
    omega (arith, by (down c) _ _ ab.0, by (up c) _ _ ab.1, by (down a) _ _ bc.0, by (up a) _ _ bc.1) in
    same_in _ _ (λ i. ups i + sym downs i)

-- a product with a sum on the right
pub mul_add_ℤ : (a b c : ℤ) → a *ℤ (b +ℤ c) ≡ a *ℤ b +ℤ a *ℤ c
mul_add_ℤ a b c =
    let s = sum_is_lem b c in
    let p = product_is a (b +ℤ c) in
    let q = product_is a b in
    let r = product_is a c in
    let t = sum_is_lem (a *ℤ b) (a *ℤ c) in
    let by = λ (k : ℕ) (m n : ℕ) (e : m ≡ n). ap (λ x. k * x) e in
    same_in _ _ (omega (arith, by (up a) _ _ s, by (down a) _ _ s))

-- a product with a sum on the left
pub add_mul_ℤ : (a b c : ℤ) → (a +ℤ b) *ℤ c ≡ a *ℤ c +ℤ b *ℤ c
add_mul_ℤ a b c = *ℤ_comm (a +ℤ b) c ∙ mul_add_ℤ c a b ∙ (λ i. *ℤ_comm c a i +ℤ *ℤ_comm c b i)

-- 0 on the right
pub add_zero_ℤ : (a : ℤ) → a +ℤ pos 0 ≡ a
add_zero_ℤ a = omega (arith, ints)

-- 0 on the left
pub zero_add_ℤ : (a : ℤ) → pos 0 +ℤ a ≡ a
zero_add_ℤ a = omega (arith, ints)

-- 1 on the left
pub one_mul_ℤ : (a : ℤ) → pos 1 *ℤ a ≡ a
one_mul_ℤ a = omega (arith, ints)

-- the two middle ones of four exchanged
pub swap_add_ℤ : (a b c d : ℤ) → (a +ℤ b) +ℤ (c +ℤ d) ≡ (a +ℤ c) +ℤ (b +ℤ d)
swap_add_ℤ a b c d = omega (arith, ints)

-- a sum of three, bracketed to the right
pub add_assoc_ℤ : (a b c : ℤ) → (a +ℤ b) +ℤ c ≡ a +ℤ (b +ℤ c)
add_assoc_ℤ a b c = omega (arith, ints)

-- -1 times a number
pub neg_mul_ℤ : (a : ℤ) → neg_ℤ (pos 1) *ℤ a ≡ neg_ℤ a
neg_mul_ℤ a = omega (arith, ints)

-- two numbers whose difference is 0
pub zero_from_sub : (a b : ℤ) → a +ℤ neg_ℤ b ≡ pos 0 → a ≡ b
zero_from_sub a b e = omega (arith, ints)

-- the first two of three factors exchanged
pub mul_left_comm_ℤ : (x k s : ℤ) → x *ℤ (k *ℤ s) ≡ k *ℤ (x *ℤ s)
mul_left_comm_ℤ x k s = sym (mul_assoc_ℤ x k s) ∙ ap (λ z. z *ℤ s) (*ℤ_comm x k) ∙ mul_assoc_ℤ k x s
