-- What the index keeps when a number comes.
use Rattle.std.proofs.Common.{◌≡◌, ◌==◌, ℕ, suc, ◌+◌, ◌<◌, ◌≤◌, nat_lt, Bool, true, false, cond, List, [], ◌∷◌, ◌++◌, length, Option, Some, None, refl, sym, ap, ◌∙◌, arith}
use Rattle.std.specs.Prelude.{slice_index}
use Rattle.std.specs.Ordering.{nat_cmp, is_eq}
use Rattle.std.proofs.lemmas.Bool.{eqb-true}
use Rattle.std.proofs.lemmas.Bool.Decides.{nat_tests}
use Rattle.std.proofs.lemmas.List.{length-append}
use Rattle.mesh_words.specs.Numbers.{position_of}
use Rattle.mesh_words.specs.Index.{IsIndex, entry_of, found_in}
use Rattle.mesh_words.proofs.Positions.{or_last, position_of-append}

pub empty_index : (far : ℕ → Option ℕ) → ((n : ℕ) → far n ≡ None) → IsIndex [] [] far
unfolding position_of
empty_index far h = record { few = omega arith; found = λ n. no_entry (nat_lt n 1048576) n (far n) (h n) }
  where
    no_entry : (b : Bool) (n : ℕ) (o : Option ℕ) → o ≡ None → cond b (entry_of (slice_index [] n)) o ≡ None
    no_entry true n o e = refl
    no_entry false n o e = e

-- where a number is found after another one has come
last_or : (o : Option ℕ) (len : ℕ) → or_last o len false ≡ o
last_or (Some i) len = refl
last_or None len = refl

same_place : (ns : List ℕ) (n q : ℕ) → (n == q) ≡ true → position_of ns n ≡ None → position_of (ns ++ n ∷ []) q ≡ Some (length ns)
same_place ns n q e none =
    let there : position_of ns q ≡ None = ap (position_of ns) (sym (eqb-true n q e)) ∙ none in
    position_of-append ns n q ∙ rw (there, e) refl

other_place : (ns : List ℕ) (n q : ℕ) → (n == q) ≡ false → position_of (ns ++ n ∷ []) q ≡ position_of ns q
other_place ns n q e = position_of-append ns n q ∙ rw e (last_or (position_of ns q) (length ns))

pub flipped : (n q : ℕ) (b : Bool) → (n == q) ≡ b → (q == n) ≡ b
flipped n q b e = grind (arith, nat_tests)

-- a number below the limit comes
near_found : (ns near near' : List ℕ) (far : ℕ → Option ℕ) (n : ℕ) → nat_lt n 1048576 ≡ true → position_of ns n ≡ None → ((k : ℕ) → slice_index near' k ≡ cond (k == n) (length ns + 1) (slice_index near k))
    → ((q : ℕ) → found_in near far q ≡ position_of ns q) → (q : ℕ) (b : Bool) → (n == q) ≡ b → found_in near' far q ≡ position_of (ns ++ n ∷ []) q
near_found ns near near' far n low none entries h q true e =
    let below : nat_lt q 1048576 ≡ true = ap (λ k. nat_lt k 1048576) (sym (eqb-true n q e)) ∙ low in
    let entry : slice_index near' q ≡ suc (length ns) = entries q ∙ ap (λ b. cond b (length ns + 1) (slice_index near q)) (flipped n q true e) ∙ omega arith in
    rw (below, entry) (sym (same_place ns n q e none))
near_found ns near near' far n low none entries h q false e =
    let entry : slice_index near' q ≡ slice_index near q = entries q ∙ ap (λ b. cond b (length ns + 1) (slice_index near q)) (flipped n q false e) in
    ap (λ k. cond (nat_lt q 1048576) (entry_of k) (far q)) entry ∙ h q ∙ sym (other_place ns n q e)

pub index_near : (ns more near near' : List ℕ) (far : ℕ → Option ℕ) (n : ℕ) → more ≡ ns ++ n ∷ [] → IsIndex ns near far → position_of ns n ≡ None → length ns < 16384 → n < 1048576
    → ((k : ℕ) → slice_index near' k ≡ cond (k == n) (length ns + 1) (slice_index near k)) → IsIndex more near' far
index_near ns more near near' far n e h none room low entries = rw e (record {
  few = omega (arith, length-append ns (n ∷ []));
  found = λ q. near_found ns near near' far n (grind (arith, nat_tests)) none entries h.found q (n == q) refl;
})

-- a greater one comes
same_test : (a b : ℕ) → is_eq (nat_cmp a b) ≡ (a == b)
same_test a b = grind (arith, nat_tests)

far_found : (ns near : List ℕ) (far far' : ℕ → Option ℕ) (n : ℕ) → nat_lt n 1048576 ≡ false → position_of ns n ≡ None → ((q : ℕ) → far' q ≡ cond (is_eq (nat_cmp n q)) (Some (length ns)) (far q))
    → ((q : ℕ) → found_in near far q ≡ position_of ns q) → (q : ℕ) (b : Bool) → (n == q) ≡ b → found_in near far' q ≡ position_of (ns ++ n ∷ []) q
far_found ns near far far' n high none entries h q true e =
    let above : nat_lt q 1048576 ≡ false = ap (λ k. nat_lt k 1048576) (sym (eqb-true n q e)) ∙ high in
    let entry : far' q ≡ Some (length ns) = entries q ∙ ap (λ b. cond b (Some (length ns)) (far q)) (same_test n q ∙ e) in
    rw (above, entry) (sym (same_place ns n q e none))
far_found ns near far far' n high none entries h q false e =
    let entry : far' q ≡ far q = entries q ∙ ap (λ b. cond b (Some (length ns)) (far q)) (same_test n q ∙ e) in
    ap (λ o. cond (nat_lt q 1048576) (entry_of (slice_index near q)) o) entry ∙ h q ∙ sym (other_place ns n q e)

pub index_far : (ns more near : List ℕ) (far far' : ℕ → Option ℕ) (n : ℕ) → more ≡ ns ++ n ∷ [] → IsIndex ns near far → position_of ns n ≡ None → length ns < 16384 → 1048576 ≤ n
    → ((q : ℕ) → far' q ≡ cond (is_eq (nat_cmp n q)) (Some (length ns)) (far q)) → IsIndex more near far'
index_far ns more near far far' n e h none room high entries = rw e (record {
  few = omega (arith, length-append ns (n ∷ []));
  found = λ q. far_found ns near far far' n (grind (arith, nat_tests)) none entries h.found q (n == q) refl;
})
