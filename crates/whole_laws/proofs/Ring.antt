-- Equations between polynomials over ℤ, decided by computing: each side is written as an expression over
-- the variables `v 0`, `v 1`, .., and the difference of the two is brought to a normal form, whose
-- coefficients are all 0 exactly where the equation is an identity.
use Rattle.std.proofs.Common.{◌≡◌, ℕ, zero, suc, ℤ, pos, negsuc, ◌+ℤ◌, ◌*ℤ◌, neg_ℤ, List, [], ◌∷◌, Bool, true, false, ◌&&◌, T, refl, sym, ◌∙◌, ap, arith}
use Rattle.std.proofs.lemmas.Int.{ints}
use Rattle.std.proofs.Math.IntN.{*ℤ_comm, *ℤ-zero}
use Rattle.whole_laws.proofs.Laws.{mul_assoc_ℤ, mul_add_ℤ, add_mul_ℤ, add_zero_ℤ, zero_add_ℤ, one_mul_ℤ, swap_add_ℤ, add_assoc_ℤ, neg_mul_ℤ, zero_from_sub, mul_left_comm_ℤ}

-- a polynomial in Horner form: a number, or p + (first variable) · q, where p has the later variables only
pub data Poly : Type 0 where
  con : ℤ → Poly
  step : Poly → Poly → Poly

-- the first variable, or 0
abbrev pub first : List ℤ → ℤ
first [] = pos 0
first (x ∷ xs) = x

-- the later variables
abbrev pub rest : List ℤ → List ℤ
rest [] = []
rest (x ∷ xs) = xs

-- the value of `con c` is c, and of `step p q` that of p at the later variables, plus the first variable times q
abbrev pub value : Poly → List ℤ → ℤ
value (con c) xs = c
value (step p q) xs = value p (rest xs) +ℤ first xs *ℤ value q xs

-- a number added
abbrev pub plus_con : ℤ → Poly → Poly
plus_con c (con a) = con (c +ℤ a)
plus_con c (step p q) = step (plus_con c p) q

-- the sum
abbrev pub plus : Poly → Poly → Poly
plus (con a) r = plus_con a r
plus (step p q) (con b) = step (plus_con b p) q
plus (step p q) (step r s) = step (plus p r) (plus q s)

-- a number times a polynomial
abbrev pub scale : ℤ → Poly → Poly
scale c (con a) = con (c *ℤ a)
scale c (step p q) = step (scale c p) (scale c q)

-- f on the coefficients of each power of the first variable
abbrev pub each : (Poly → Poly) → Poly → Poly
each f (con c) = step (f (con c)) (con (pos 0))
each f (step a b) = step (f a) (each f b)

-- the product
abbrev pub times : Poly → Poly → Poly
times (con a) r = scale a r
times (step p q) r = plus (each (times p) r) (step (con (pos 0)) (times q r))

-- whether a number is 0
abbrev pub is_zero : ℤ → Bool
is_zero (pos zero) = true
is_zero (pos (suc n)) = false
is_zero (negsuc n) = false

-- whether all coefficients are 0
abbrev pub all_zero : Poly → Bool
all_zero (con c) = is_zero c
all_zero (step p q) = all_zero p && all_zero q

-- ---- each operation means what its name says
plus_con-is : (c : ℤ) (p : Poly) (xs : List ℤ) → value (plus_con c p) xs ≡ c +ℤ value p xs
plus_con-is c (con a) xs = refl
plus_con-is c (step p q) xs = ap (λ z. z +ℤ first xs *ℤ value q xs) (plus_con-is c p (rest xs)) ∙ add_assoc_ℤ c (value p (rest xs)) (first xs *ℤ value q xs)

move_con : (a b c : ℤ) → (b +ℤ a) +ℤ c ≡ (a +ℤ c) +ℤ b
move_con a b c = omega (arith, ints)

plus-is : (p q : Poly) (xs : List ℤ) → value (plus p q) xs ≡ value p xs +ℤ value q xs
plus-is (con a) r xs = plus_con-is a r xs
plus-is (step p q) (con b) xs = ap (λ z. z +ℤ first xs *ℤ value q xs) (plus_con-is b p (rest xs)) ∙ move_con (value p (rest xs)) b (first xs *ℤ value q xs)
plus-is (step p q) (step r s) xs =
    (λ i. plus-is p r (rest xs) i +ℤ first xs *ℤ plus-is q s xs i)
    ∙ ap (λ z. (value p (rest xs) +ℤ value r (rest xs)) +ℤ z) (mul_add_ℤ (first xs) (value q xs) (value s xs))
    ∙ swap_add_ℤ (value p (rest xs)) (value r (rest xs)) (first xs *ℤ value q xs) (first xs *ℤ value s xs)

scaled : (k a x b : ℤ) → k *ℤ a +ℤ x *ℤ (k *ℤ b) ≡ k *ℤ (a +ℤ x *ℤ b)
scaled k a x b = ap (λ z. k *ℤ a +ℤ z) (mul_left_comm_ℤ x k b) ∙ sym (mul_add_ℤ k a (x *ℤ b))

scale-is : (c : ℤ) (p : Poly) (xs : List ℤ) → value (scale c p) xs ≡ c *ℤ value p xs
scale-is c (con a) xs = refl
scale-is c (step p q) xs = (λ i. scale-is c p (rest xs) i +ℤ first xs *ℤ scale-is c q xs i) ∙ scaled c (value p (rest xs)) (first xs) (value q xs)

each-is : (f : Poly → Poly) (k : ℤ) (xs : List ℤ) → ((s : Poly) → value (f s) (rest xs) ≡ k *ℤ value s (rest xs)) → (r : Poly) → value (each f r) xs ≡ k *ℤ value r xs
each-is f k xs h (con c) = ap (λ z. z +ℤ first xs *ℤ pos 0) (h (con c)) ∙ ap (λ z. k *ℤ c +ℤ z) (*ℤ-zero (first xs)) ∙ add_zero_ℤ (k *ℤ c)
each-is f k xs h (step a b) = (λ i. h a i +ℤ first xs *ℤ each-is f k xs h b i) ∙ scaled k (value a (rest xs)) (first xs) (value b xs)

times-is : (p q : Poly) (xs : List ℤ) → value (times p q) xs ≡ value p xs *ℤ value q xs
times-is (con a) r xs = scale-is a r xs
times-is (step p q) r xs =
    plus-is (each (times p) r) (step (con (pos 0)) (times q r)) xs
    ∙ (λ i. each-is (times p) (value p (rest xs)) xs (λ s. times-is p s (rest xs)) r i +ℤ (zero_add_ℤ (first xs *ℤ value (times q r) xs) ∙ ap (λ z. first xs *ℤ z) (times-is q r xs) ∙ sym (mul_assoc_ℤ (first xs) (value q xs) (value r xs))) i)
    ∙ sym (add_mul_ℤ (value p (rest xs)) (first xs *ℤ value q xs) (value r xs))

zero-is : (c : ℤ) → T (is_zero c) → c ≡ pos 0
zero-is (pos zero) t = refl
zero-is (pos (suc n)) t = absurd t
zero-is (negsuc n) t = absurd t

both : (a b : Bool) → T (a && b) → T a × T b
both true b t = (tt, t)
both false b t = absurd t

all_zero-is : (p : Poly) (xs : List ℤ) → T (all_zero p) → value p xs ≡ pos 0
all_zero-is (con c) xs t = zero-is c t
all_zero-is (step p q) xs t =
    let h = both (all_zero p) (all_zero q) t in
    (λ i. all_zero-is p (rest xs) h.0 i +ℤ first xs *ℤ all_zero-is q xs h.1 i) ∙ zero_add_ℤ (first xs *ℤ pos 0) ∙ *ℤ-zero (first xs)

-- ---- expressions
-- a number, a variable, a sum, a difference, a product, a negated expression
infixl 6 ◌⊕◌ ◌⊖◌
infixl 7 ◌⊗◌
pub data Expr : Type 0 where
  num : ℤ → Expr
  v : ℕ → Expr
  ◌⊕◌ : Expr → Expr → Expr
  ◌⊖◌ : Expr → Expr → Expr
  ◌⊗◌ : Expr → Expr → Expr
  neg : Expr → Expr

-- the n-th variable, or 0
abbrev pub nth_of : List ℤ → ℕ → ℤ
nth_of [] n = pos 0
nth_of (x ∷ xs) zero = x
nth_of (x ∷ xs) (suc n) = nth_of xs n

-- the value of an expression
abbrev pub eval : List ℤ → Expr → ℤ
eval xs (num c) = c
eval xs (v n) = nth_of xs n
eval xs (a ⊕ b) = eval xs a +ℤ eval xs b
eval xs (a ⊖ b) = eval xs a +ℤ neg_ℤ (eval xs b)
eval xs (a ⊗ b) = eval xs a *ℤ eval xs b
eval xs (neg a) = neg_ℤ (eval xs a)

-- the n-th variable as a polynomial
abbrev pub var : ℕ → Poly
var zero = step (con (pos 0)) (con (pos 1))
var (suc n) = step (var n) (con (pos 0))

-- an expression as a polynomial
abbrev pub poly : Expr → Poly
poly (num c) = con c
poly (v n) = var n
poly (a ⊕ b) = plus (poly a) (poly b)
poly (a ⊖ b) = plus (poly a) (scale (negsuc 0) (poly b))
poly (a ⊗ b) = times (poly a) (poly b)
poly (neg a) = scale (negsuc 0) (poly a)

var-is : (xs : List ℤ) (n : ℕ) → value (var n) xs ≡ nth_of xs n
var-is [] zero = refl
var-is [] (suc n) = ap (λ z. z +ℤ pos 0) (var-is [] n)
var-is (x ∷ xs) zero = zero_add_ℤ (x *ℤ pos 1) ∙ *ℤ_comm x (pos 1) ∙ one_mul_ℤ x
var-is (x ∷ xs) (suc n) = ap (λ z. value (var n) xs +ℤ z) (*ℤ-zero x) ∙ add_zero_ℤ (value (var n) xs) ∙ var-is xs n

poly-is : (xs : List ℤ) (e : Expr) → value (poly e) xs ≡ eval xs e
poly-is xs (num c) = refl
poly-is xs (v n) = var-is xs n
poly-is xs (a ⊕ b) = plus-is (poly a) (poly b) xs ∙ (λ i. poly-is xs a i +ℤ poly-is xs b i)
poly-is xs (a ⊖ b) =
    plus-is (poly a) (scale (negsuc 0) (poly b)) xs
    ∙ (λ i. poly-is xs a i +ℤ (scale-is (negsuc 0) (poly b) xs ∙ neg_mul_ℤ (value (poly b) xs) ∙ ap neg_ℤ (poly-is xs b)) i)
poly-is xs (neg a) = scale-is (negsuc 0) (poly a) xs ∙ neg_mul_ℤ (value (poly a) xs) ∙ ap neg_ℤ (poly-is xs a)
poly-is xs (a ⊗ b) = times-is (poly a) (poly b) xs ∙ (λ i. poly-is xs a i *ℤ poly-is xs b i)

-- two expressions with the same value at all variables: the last argument is `tt`
pub ring : (xs : List ℤ) (a b : Expr) → T (all_zero (poly (a ⊖ b))) → eval xs a ≡ eval xs b
ring xs a b t = zero_from_sub (eval xs a) (eval xs b) (sym (poly-is xs (a ⊖ b)) ∙ all_zero-is (poly (a ⊖ b)) xs t)

-- the same where a - b is k times p - q, for a known equation of p and q
pub ring_by : (xs : List ℤ) (a b k p q : Expr) → eval xs p ≡ eval xs q → T (all_zero (poly ((a ⊖ b) ⊖ k ⊗ (p ⊖ q)))) → eval xs a ≡ eval xs b
ring_by xs a b k p q e t =
    let z : eval xs p +ℤ neg_ℤ (eval xs q) ≡ pos 0 = cancels (eval xs p) (eval xs q) e in
    let f : eval xs (a ⊖ b) ≡ eval xs (k ⊗ (p ⊖ q)) = ring xs (a ⊖ b) (k ⊗ (p ⊖ q)) t in
    zero_from_sub (eval xs a) (eval xs b) (f ∙ ap (λ x. eval xs k *ℤ x) z ∙ *ℤ-zero (eval xs k))
  where
    cancels : (a b : ℤ) → a ≡ b → a +ℤ neg_ℤ b ≡ pos 0
    cancels a b e = omega (arith, ints)
