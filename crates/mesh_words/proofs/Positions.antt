-- Where a number stands in a list.
use Rattle.std.proofs.Common.{◌≡◌, ◌==◌, ◌||◌, ℕ, suc, ◌<◌, Bool, true, false, cond, List, [], ◌∷◌, ◌++◌, length, Option, Some, None, refl, sym, ap, ◌∙◌, arith}
use Rattle.std.specs.Prelude.{is_some, option_map}
use Rattle.std.specs.List.{list_any}
use Rattle.mesh_words.specs.Numbers.{position_of}

-- the position in the front, or else the position of the last one
abbrev pub or_last : Option ℕ → ℕ → Bool → Option ℕ
or_last (Some i) len last = Some i
or_last None len last = cond last (Some len) None

or_last-suc : (o : Option ℕ) (len : ℕ) (last : Bool) → option_map suc (or_last o len last) ≡ or_last (option_map suc o) (suc len) last
or_last-suc (Some i) len last = refl
or_last-suc None len true = refl
or_last-suc None len false = refl

first_or : (b : Bool) (o p : Option ℕ) (len : ℕ) (last : Bool) → p ≡ or_last o len last → cond b (Some 0) (option_map suc p) ≡ or_last (cond b (Some 0) (option_map suc o)) (suc len) last
first_or true o p len last e = refl
first_or false o p len last e = ap (λ (x : Option ℕ). option_map suc x) e ∙ or_last-suc o len last

pub position_of-append : (ms : List ℕ) (n q : ℕ) → position_of (ms ++ n ∷ []) q ≡ or_last (position_of ms q) (length ms) (n == q)
unfolding position_of
position_of-append [] n q = refl
position_of-append (m ∷ ms) n q = first_or (m == q) (position_of ms q) (position_of (ms ++ n ∷ []) q) (length ms) (n == q) (position_of-append ms n q)

some_or : (b : Bool) (o : Option ℕ) → is_some (cond b (Some 0) (option_map suc o)) ≡ (b || is_some o)
some_or true o = refl
some_or false (Some i) = refl
some_or false None = refl

pub list_any-position : (ms : List ℕ) (n : ℕ) → list_any (λ m. m == n) ms ≡ is_some (position_of ms n)
unfolding position_of
list_any-position [] n = refl
list_any-position (m ∷ ms) n = ap (λ (x : Bool). (m == n) || x) (list_any-position ms n) ∙ sym (some_or (m == n) (position_of ms n))

found_below : (b : Bool) (o : Option ℕ) (i len : ℕ) → cond b (Some 0) (option_map suc o) ≡ Some i → ((j : ℕ) → o ≡ Some j → j < len) → i < suc len
found_below true o i len e h = let zero-is : 0 ≡ i = cc in omega arith
found_below false (Some j) i len e h = let more : suc j ≡ i = cc in omega (arith, h j refl)
found_below false None i len e h = absurd cc

pub position_of-below : (ms : List ℕ) (n i : ℕ) → position_of ms n ≡ Some i → i < length ms
unfolding position_of
position_of-below [] n i e = absurd cc
position_of-below (m ∷ ms) n i e = found_below (m == n) (position_of ms n) i (length ms) e (λ j h. position_of-below ms n j h)
