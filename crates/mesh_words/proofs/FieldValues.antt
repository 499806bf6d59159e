-- What a field that is read as a number, a tag or a node gives.
use Rattle.std.proofs.Common.{◌≡◌, ◌==◌, ◌≤◌, ◌<◌, ℕ, ℤ, drop, Bool, true, false, cond, List, [], ◌∷◌, length, Option, Some, None, refl, subst, arith}
use Rattle.std.specs.Prelude.{unsigned_abs, option_map, leb, is_some, slice_index}
use Rattle.std.specs.Char.{is_ascii_digit}
use Rattle.std.specs.Str.{all_ascii_digits}
use Rattle.std.specs.Str.Parse.{digits_value}
use Rattle.std.proofs.lemmas.Bool.{and_parts, leb-true, ne_eqb}
use Rattle.std.proofs.lemmas.Int.{ints}
use Rattle.std.proofs.lemmas.Option.{same_Some, cond_some}
use Rattle.line_fields.specs.Lines.{is_unsigned, whole_of, is_whole, tag_of}
use Rattle.line_fields.proofs.Numerals.{digit-value}
use Rattle.space3.specs.Mesh.{IsNumber}
use Rattle.mesh_words.specs.Numbers.{◌>>=◌, number_of, tag_count_of, position_of, node_at}
use Rattle.mesh_words.proofs.Positions.{position_of-below}

-- what follows from the value of a step that did not fail
pub bind_some : {A B P : Type 0} (r : Option A) (f : A → Option B) (y : B) → (r >>= f) ≡ Some y → ((x : A) → r ≡ Some x → f x ≡ Some y → P) → P
bind_some (Some x) f y e then = then x refl e
bind_some None f y e then = absurd cc

pub whole_found : (field : List ℕ) (n : ℕ) → whole_of field ≡ Some n → n ≤ 2147483647
unfolding whole_of is_whole
whole_found field n e =
    let g = cond_some (is_whole field) (digits_value 10 field) n e in
    let p = and_parts (is_unsigned field) (leb (digits_value 10 field) 2147483647) g.0 in
    omega (arith, leb-true _ _ p.1, g.1)

pub number_found : (field : List ℕ) (n : ℕ) → number_of field ≡ Some n → IsNumber n
unfolding number_of
number_found field n e = bind_some (whole_of field) (λ m. cond (leb 1 m) (Some m) None) n e (λ m m-is h.
    let g = cond_some (leb 1 m) m n h in
    subst IsNumber g.1 (record { low = leb-true 1 m g.0; high = whole_found field m m-is }))

pub tag_count_found : (field : List ℕ) (n : ℕ) → tag_count_of field ≡ Some n → n ≤ 255
unfolding tag_count_of
tag_count_found field n e = bind_some (whole_of field) (λ m. cond (leb m 255) (Some m) None) n e (λ m m-is h.
    let g = cond_some (leb m 255) m n h in
    subst (λ k. k ≤ 255) g.1 (leb-true m 255 g.0))

mapped : {A B : Type 0} (f : A → B) (o : Option A) (y : B) → option_map f o ≡ Some y → (x : A) × (o ≡ Some x) × (f x ≡ y)
mapped f (Some x) y e = (x, refl, same_Some _ _ e)
mapped f None y e = absurd cc

either : {A : Type 0} (b : Bool) (x y z : A) → cond b x y ≡ z → (P : Type 0) → (x ≡ z → P) → (y ≡ z → P) → P
either true x y z e P f g = f e
either false x y z e P f g = g e

pub tag_found : (field : List ℕ) (t : ℤ) → tag_of field ≡ Some t → unsigned_abs t ≤ 2147483647
unfolding tag_of
tag_found field t e = either (slice_index field 0 == 45) _ _ _ e _
    (λ h. let m = mapped _ _ _ h in subst (λ (z : ℤ). unsigned_abs z ≤ 2147483647) m.2 (omega (arith, ints, whole_found (drop 1 field) m.0 m.1)))
    (λ h. let m = mapped _ _ _ h in subst (λ (z : ℤ). unsigned_abs z ≤ 2147483647) m.2 (whole_found field m.0 m.1))

pub node_found : (numbers : List ℕ) (field : List ℕ) (i : ℕ) → node_at numbers field ≡ Some i → i < length numbers
unfolding node_at
node_found numbers field i e = bind_some (number_of field) (λ n. position_of numbers n) i e (λ n n-is h. position_of-below numbers n i h)

whole_digits : (b : Bool) (n : ℕ) → is_some (cond b (Some n) None) ≡ true → b ≡ true
whole_digits true n e = refl
whole_digits false n e = absurd cc

-- a whole number doesn't begin with `$`
pub whole_no_dollar : (field : List ℕ) → is_some (whole_of field) ≡ true → (slice_index field 0 == 36) ≡ false
unfolding whole_of is_whole
whole_no_dollar [] h = absurd cc
whole_no_dollar (b ∷ bytes) h =
    let whole = whole_digits _ _ h in
    let digits : all_ascii_digits (b ∷ bytes) ≡ true = (and_parts _ _ (and_parts _ _ whole).0).1 in
    let low : 48 ≤ b = (digit-value b (and_parts (is_ascii_digit b) (all_ascii_digits bytes) digits).0).0 in
    ne_eqb b 36 (λ e. omega (arith, low, e))

some_is : {A : Type 0} (o : Option A) (x : A) → o ≡ Some x → is_some o ≡ true
some_is (Some y) x e = refl
some_is None x e = absurd cc

pub number_no_dollar : (field : List ℕ) (n : ℕ) → number_of field ≡ Some n → (slice_index field 0 == 36) ≡ false
unfolding number_of
number_no_dollar field n e = bind_some (whole_of field) (λ m. cond (leb 1 m) (Some m) None) n e (λ m m-is h. whole_no_dollar field (some_is (whole_of field) m m-is))
