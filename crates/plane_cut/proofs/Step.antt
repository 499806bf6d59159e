-- One step of elimination. Each row is a strict inequality 0 < rest + coef·t in one unknown t. Where each
-- row with a coefficient above 0 agrees with each one below 0, some fraction t = y / s serves all rows.
use Rattle.std.proofs.Common.{◌≡◌, ℤ, pos, ◌+ℤ◌, ◌-ℤ◌, ◌*ℤ◌, neg_ℤ, ◌≤ℤ◌, ◌<ℤ◌, List, [], ◌∷◌, ◌⊎◌, inl, inr, refl, arith}
use Rattle.std.proofs.lemmas.Int.{ints, by_lt_z}
use Rattle.std.specs.List.{All, AllByRecursion as Every}
use Rattle.std.proofs.lemmas.List.Elements.{All-from_recursion, recursion_from_All}
use Rattle.space3.specs.declared.vectors.V3.{V3}
use Rattle.whole_laws.proofs.Ring.{ring, v, num, neg, ◌⊕◌, ◌⊖◌, ◌⊗◌}
use Rattle.whole_laws.proofs.Order.{mul_pos_ℤ, mul_nonneg_ℤ, nonneg_of_mul_ℤ, nonneg_from_le, le_from_nonneg, add_nonneg_ℤ, add_pos_ℤ, nonneg_of_pos}

-- the row holds at y / s
abbrev pub Holds : (V3 → ℤ) → (V3 → ℤ) → ℤ → ℤ → V3 → Type 0
Holds rest coef s y r = pos 0 <ℤ (s *ℤ rest r +ℤ y *ℤ coef r)

-- a row above 0 and one below 0 have a positive sum when t is eliminated
pub record Agree (rest coef : V3 → ℤ) (p q : V3) : Type 0 where
  pub agree : pos 0 <ℤ coef p → coef q <ℤ pos 0 → pos 0 <ℤ (neg_ℤ (coef q) *ℤ rest p +ℤ coef p *ℤ rest q)

-- a row without t holds by itself
pub record Flat (rest coef : V3 → ℤ) (r : V3) : Type 0 where
  pub flat : coef r ≡ pos 0 → pos 0 <ℤ rest r

-- p asks at least as much of t as r does; c is the coefficient, or its negative
record Above (rest c : V3 → ℤ) (p r : V3) : Type 0 where
  pub above : pos 0 <ℤ c r → (rest p *ℤ c r) ≤ℤ (rest r *ℤ c p)

record Silent (c : V3 → ℤ) (r : V3) : Type 0 where
  pub silent : c r ≤ℤ pos 0

cross_trans : (ar ac br bc cr cc : ℤ) → pos 0 <ℤ bc → pos 0 <ℤ cc → pos 0 <ℤ ac → (ar *ℤ bc) ≤ℤ (br *ℤ ac) → (br *ℤ cc) ≤ℤ (cr *ℤ bc) → (ar *ℤ cc) ≤ℤ (cr *ℤ ac)
cross_trans ar ac br bc cr cc hb hc ha ab bcd =
    let e : bc *ℤ (cr *ℤ ac -ℤ ar *ℤ cc) ≡ ac *ℤ (cr *ℤ bc -ℤ br *ℤ cc) +ℤ cc *ℤ (br *ℤ ac -ℤ ar *ℤ bc) =
    ring (ar ∷ ac ∷ br ∷ bc ∷ cr ∷ cc ∷ []) (v 3 ⊗ (v 4 ⊗ v 1 ⊖ v 0 ⊗ v 5)) (v 1 ⊗ (v 4 ⊗ v 3 ⊖ v 2 ⊗ v 5) ⊕ v 5 ⊗ (v 2 ⊗ v 1 ⊖ v 0 ⊗ v 3)) tt in
    let n : pos 0 ≤ℤ (bc *ℤ (cr *ℤ ac -ℤ ar *ℤ cc)) =
    rw e (add_nonneg_ℤ _ _ (mul_nonneg_ℤ _ _ (nonneg_of_pos ac ha) (nonneg_from_le _ _ bcd)) (mul_nonneg_ℤ _ _ (nonneg_of_pos cc hc) (nonneg_from_le _ _ ab))) in
    le_from_nonneg _ _ (nonneg_of_mul_ℤ bc _ hb n)

every_map : (P Q : V3 → Type 0) → ((r : V3) → P r → Q r) → (rs : List V3) → Every P rs → Every Q rs
every_map P Q f [] h = tt
every_map P Q f (r ∷ rs) h = (f r h.0, every_map P Q f rs h.1)

not_both : {X : Type 0} (z : ℤ) → z ≤ℤ pos 0 → pos 0 <ℤ z → X
not_both z h k = absurd (omega (arith, ints))

above_silent : (rest c : V3 → ℤ) (p r : V3) → Silent c r → Above rest c p r
above_silent rest c p r n = record { above = λ h. not_both (c r) n.silent h }

above_self : (rest c : V3 → ℤ) (p : V3) → Above rest c p p
above_self rest c p = record { above = λ h. self (rest p *ℤ c p) }
  where
    self : (a : ℤ) → a ≤ℤ a
    self a = omega (arith, ints)

above_trans : (rest c : V3 → ℤ) (q p r : V3) → pos 0 <ℤ c q → pos 0 <ℤ c p → (rest q *ℤ c p) ≤ℤ (rest p *ℤ c q) → Above rest c p r → Above rest c q r
above_trans rest c q p r hq hp qp a = record { above = λ h. cross_trans (rest q) (c q) (rest p) (c p) (rest r) (c r) hp h hq qp (a.above h) }

weaker : (a b : ℤ) → a <ℤ b → a ≤ℤ b
weaker a b h = omega (arith, ints)

-- the row that asks most
record Best (P : V3 → Type 0) (rest c : V3 → ℤ) (rs : List V3) : Type 0 where
  pub p : V3
  pub has : P p
  pub asks : pos 0 <ℤ c p
  pub best : Every (Above rest c p) rs

best_more : (P : V3 → Type 0) (rest c : V3 → ℤ) (r : V3) (rs : List V3) → P r → Best P rest c rs ⊎ Every (Silent c) rs → Best P rest c (r ∷ rs) ⊎ Every (Silent c) (r ∷ rs)
best_more P rest c r rs has (inl b) =
    by_lt_z (pos 0) (c r)
    (λ asks.
    by_lt_z (rest r *ℤ c b.p) (rest b.p *ℤ c r)
    (λ h. inl (record { p = r; has = has; asks = asks; best = (above_self rest c r, every_map (Above rest c b.p) (Above rest c r) (λ x a. above_trans rest c r b.p x asks b.asks (weaker _ _ h) a) rs b.best) }))
    (λ h. inl (record { p = b.p; has = b.has; asks = b.asks; best = (record { above = λ _. h }, b.best) })))
    (λ no. inl (record { p = b.p; has = b.has; asks = b.asks; best = (above_silent rest c b.p r (record { silent = no }), b.best) }))
best_more P rest c r rs has (inr n) =
    by_lt_z (pos 0) (c r)
    (λ asks. inl (record { p = r; has = has; asks = asks; best = (above_self rest c r, every_map (Silent c) (Above rest c r) (λ x a. above_silent rest c r x a) rs n) }))
    (λ no. inr (record { silent = no }, n))

best_of : (P : V3 → Type 0) (rest c : V3 → ℤ) (rs : List V3) → Every P rs → Best P rest c rs ⊎ Every (Silent c) rs
best_of P rest c [] h = inr tt
best_of P rest c (r ∷ rs) h = best_more P rest c r rs h.0 (best_of P rest c rs h.1)

-- ---- a row at the chosen fraction
both_hold : (pr pc qr qc rr rc : ℤ) → pos 0 <ℤ pc → pos 0 <ℤ qc → pos 0 <ℤ rc → (pr *ℤ rc) ≤ℤ (rr *ℤ pc) → pos 0 <ℤ (qc *ℤ pr +ℤ pc *ℤ qr) →
    pos 0 <ℤ (pos 2 *ℤ pc *ℤ qc *ℤ rr +ℤ (qr *ℤ pc -ℤ pr *ℤ qc) *ℤ rc)
both_hold pr pc qr qc rr rc hp hq hr ab ag =
    let e : pos 2 *ℤ pc *ℤ qc *ℤ rr +ℤ (qr *ℤ pc -ℤ pr *ℤ qc) *ℤ rc ≡ pos 2 *ℤ (qc *ℤ (rr *ℤ pc -ℤ pr *ℤ rc)) +ℤ rc *ℤ (qc *ℤ pr +ℤ pc *ℤ qr) =
    ring (pr ∷ pc ∷ qr ∷ qc ∷ rr ∷ rc ∷ []) (num (pos 2) ⊗ v 1 ⊗ v 3 ⊗ v 4 ⊕ (v 2 ⊗ v 1 ⊖ v 0 ⊗ v 3) ⊗ v 5)
    (num (pos 2) ⊗ (v 3 ⊗ (v 4 ⊗ v 1 ⊖ v 0 ⊗ v 5)) ⊕ v 5 ⊗ (v 3 ⊗ v 0 ⊕ v 1 ⊗ v 2)) tt in
    rw e (add_pos_ℤ _ _ (mul_nonneg_ℤ (pos 2) _ (two_nonneg refl) (mul_nonneg_ℤ _ _ (nonneg_of_pos qc hq) (nonneg_from_le _ _ ab))) (mul_pos_ℤ _ _ hr ag))
  where
    two_nonneg : pos 2 ≡ pos 2 → pos 0 ≤ℤ pos 2
    two_nonneg e = omega (arith, ints)

low_holds : (pr pc rr rc : ℤ) → pos 0 <ℤ pc → pos 0 <ℤ rc → (pr *ℤ rc) ≤ℤ (rr *ℤ pc) → pos 0 <ℤ (pc *ℤ rr +ℤ (pc -ℤ pr) *ℤ rc)
low_holds pr pc rr rc hp hr ab =
    let e : pc *ℤ rr +ℤ (pc -ℤ pr) *ℤ rc ≡ (rr *ℤ pc -ℤ pr *ℤ rc) +ℤ pc *ℤ rc =
    ring (pr ∷ pc ∷ rr ∷ rc ∷ []) (v 1 ⊗ v 2 ⊕ (v 1 ⊖ v 0) ⊗ v 3) ((v 2 ⊗ v 1 ⊖ v 0 ⊗ v 3) ⊕ v 1 ⊗ v 3) tt in
    rw e (add_pos_ℤ _ _ (nonneg_from_le _ _ ab) (mul_pos_ℤ _ _ hp hr))

flat_holds : (s y rr rc : ℤ) → pos 0 <ℤ s → rc ≡ pos 0 → pos 0 <ℤ rr → pos 0 <ℤ (s *ℤ rr +ℤ y *ℤ rc)
flat_holds s y rr rc hs e h =
    let z : s *ℤ rr +ℤ y *ℤ pos 0 ≡ s *ℤ rr = ring (s ∷ y ∷ rr ∷ []) (v 0 ⊗ v 2 ⊕ v 1 ⊗ num (pos 0)) (v 0 ⊗ v 2) tt in
    rw (e, z) (mul_pos_ℤ s rr hs h)

-- the sign of the coefficient decides
pub by_sign : {P : Type 0} (z : ℤ) → (pos 0 <ℤ z → P) → (z ≡ pos 0 → P) → (pos 0 <ℤ neg_ℤ z → P) → P
by_sign z f g h = by_lt_z (pos 0) z f (λ l. by_lt_z z (pos 0) (λ n. h (turned z n)) (λ k. g (between z l k)))
  where
    turned : (z : ℤ) → z <ℤ pos 0 → pos 0 <ℤ neg_ℤ z
    turned z n = omega (arith, ints)

    between : (z : ℤ) → z ≤ℤ pos 0 → pos 0 ≤ℤ z → z ≡ pos 0
    between z l k = omega (arith, ints)

abbrev turned : (V3 → ℤ) → V3 → ℤ
turned coef r = neg_ℤ (coef r)

pub record Served (rest coef : V3 → ℤ) (rs : List V3) : Type 0 where
  pub s : ℤ
  pub y : ℤ
  pub positive : pos 0 <ℤ s
  pub holds : All (Holds rest coef s y) rs

every_3 : (P Q R S : V3 → Type 0) → ((r : V3) → P r → Q r → R r → S r) → (rs : List V3) → Every P rs → Every Q rs → Every R rs → All S rs
every_3 P Q R S f rs a b c = All-from_recursion S rs (walk rs a b c)
  where
    walk : (rs : List V3) → Every P rs → Every Q rs → Every R rs → Every S rs
    walk [] a b c = tt
    walk (r ∷ rs) a b c = (f r a.0 b.0 c.0, walk rs a.1 b.1 c.1)

pub neg_back : (z : ℤ) → pos 0 <ℤ neg_ℤ z → z <ℤ pos 0
neg_back z h = omega (arith, ints)

pos_one : pos 1 ≡ pos 1 → pos 0 <ℤ pos 1
pos_one e = omega (arith, ints)

-- rows above 0 and below 0: the middle between the two best
serve_both : (rest coef : V3 → ℤ) (rs : List V3) → Every (Flat rest coef) rs → (p : V3) → pos 0 <ℤ coef p → Every (Above rest coef p) rs → (q : V3) → pos 0 <ℤ neg_ℤ (coef q) → Every (Above rest (turned coef) q) rs → Agree rest coef p q → Served rest coef rs
serve_both rest coef rs fl p ask_p best_p q ask_q best_q ag =
    let pr = rest p in let pc = coef p in let qr = rest q in let qc = neg_ℤ (coef q) in
    let s = pos 2 *ℤ pc *ℤ qc in
    let y = qr *ℤ pc -ℤ pr *ℤ qc in
    let a : pos 0 <ℤ (qc *ℤ pr +ℤ pc *ℤ qr) = ag.agree ask_p (neg_back (coef q) ask_q) in
    let hs : pos 0 <ℤ s = mul_pos_ℤ _ _ (mul_pos_ℤ (pos 2) pc (two refl) ask_p) ask_q in record {
      s = s;
      y = y;
      positive = hs;
      holds = every_3 (Flat rest coef) (Above rest coef p) (Above rest (turned coef) q) (Holds rest coef s y)
          (λ r f ab un. by_sign (coef r)
          (λ h. both_hold pr pc qr qc (rest r) (coef r) ask_p ask_q h (ab.above h) a)
          (λ e. flat_holds s y (rest r) (coef r) hs e (f.flat e))
          (λ h. both_turned pr pc qr qc (rest r) (coef r) (both_hold qr qc pr pc (rest r) (neg_ℤ (coef r)) ask_q ask_p h (un.above h) (swapped (qc *ℤ pr) (pc *ℤ qr) a))))
          rs fl best_p best_q;
    }
  where
    two : pos 2 ≡ pos 2 → pos 0 <ℤ pos 2
    two e = omega (arith, ints)

    swapped : (a b : ℤ) → pos 0 <ℤ (a +ℤ b) → pos 0 <ℤ (b +ℤ a)
    swapped a b h = omega (arith, ints)

    both_turned : (pr pc qr qc rr rc : ℤ) → pos 0 <ℤ (pos 2 *ℤ qc *ℤ pc *ℤ rr +ℤ (pr *ℤ qc -ℤ qr *ℤ pc) *ℤ neg_ℤ rc) → pos 0 <ℤ (pos 2 *ℤ pc *ℤ qc *ℤ rr +ℤ (qr *ℤ pc -ℤ pr *ℤ qc) *ℤ rc)
    both_turned pr pc qr qc rr rc h =
        let e : pos 2 *ℤ pc *ℤ qc *ℤ rr +ℤ (qr *ℤ pc -ℤ pr *ℤ qc) *ℤ rc ≡ pos 2 *ℤ qc *ℤ pc *ℤ rr +ℤ (pr *ℤ qc -ℤ qr *ℤ pc) *ℤ neg_ℤ rc =
        ring (pr ∷ pc ∷ qr ∷ qc ∷ rr ∷ rc ∷ []) (num (pos 2) ⊗ v 1 ⊗ v 3 ⊗ v 4 ⊕ (v 2 ⊗ v 1 ⊖ v 0 ⊗ v 3) ⊗ v 5)
        (num (pos 2) ⊗ v 3 ⊗ v 1 ⊗ v 4 ⊕ (v 0 ⊗ v 3 ⊖ v 2 ⊗ v 1) ⊗ neg (v 5)) tt in
        rw e h

-- rows above 0 alone
serve_above : (rest coef : V3 → ℤ) (rs : List V3) → Every (Flat rest coef) rs → (p : V3) → pos 0 <ℤ coef p → Every (Above rest coef p) rs → Every (Silent (turned coef)) rs → Served rest coef rs
serve_above rest coef rs fl p ask best none =
    let y = coef p -ℤ rest p in record {
      s = coef p;
      y = y;
      positive = ask;
      holds = every_3 (Flat rest coef) (Above rest coef p) (Silent (turned coef)) (Holds rest coef (coef p) y)
          (λ r f ab un. by_sign (coef r)
          (λ h. low_holds (rest p) (coef p) (rest r) (coef r) ask h (ab.above h))
          (λ e. flat_holds (coef p) y (rest r) (coef r) ask e (f.flat e))
          (λ h. not_both (neg_ℤ (coef r)) un.silent h))
          rs fl best none;
    }

-- rows below 0 alone
serve_below : (rest coef : V3 → ℤ) (rs : List V3) → Every (Flat rest coef) rs → (q : V3) → pos 0 <ℤ neg_ℤ (coef q) → Every (Above rest (turned coef) q) rs → Every (Silent coef) rs → Served rest coef rs
serve_below rest coef rs fl q ask best none =
    let s = neg_ℤ (coef q) in
    let y = neg_ℤ (s -ℤ rest q) in record {
      s = s;
      y = y;
      positive = ask;
      holds = every_3 (Flat rest coef) (Silent coef) (Above rest (turned coef) q) (Holds rest coef s y)
          (λ r f ab un. by_sign (coef r)
          (λ h. not_both (coef r) ab.silent h)
          (λ e. flat_holds s y (rest r) (coef r) ask e (f.flat e))
          (λ h. low_turned (rest q) s (rest r) (coef r) (low_holds (rest q) s (rest r) (neg_ℤ (coef r)) ask h (un.above h))))
          rs fl none best;
    }
  where
    low_turned : (pr pc rr rc : ℤ) → pos 0 <ℤ (pc *ℤ rr +ℤ (pc -ℤ pr) *ℤ neg_ℤ rc) → pos 0 <ℤ (pc *ℤ rr +ℤ neg_ℤ (pc -ℤ pr) *ℤ rc)
    low_turned pr pc rr rc h =
        let e : pc *ℤ rr +ℤ neg_ℤ (pc -ℤ pr) *ℤ rc ≡ pc *ℤ rr +ℤ (pc -ℤ pr) *ℤ neg_ℤ rc =
        ring (pr ∷ pc ∷ rr ∷ rc ∷ []) (v 1 ⊗ v 2 ⊕ neg (v 1 ⊖ v 0) ⊗ v 3) (v 1 ⊗ v 2 ⊕ (v 1 ⊖ v 0) ⊗ neg (v 3)) tt in
        rw e h

-- rows without t alone
serve_flat : (rest coef : V3 → ℤ) (rs : List V3) → Every (Flat rest coef) rs → Every (Silent coef) rs → Every (Silent (turned coef)) rs → Served rest coef rs
serve_flat rest coef rs fl n m = record {
  s = pos 1;
  y = pos 0;
  positive = pos_one refl;
  holds = every_3 (Flat rest coef) (Silent coef) (Silent (turned coef)) (Holds rest coef (pos 1) (pos 0))
      (λ r f ab un. by_sign (coef r)
      (λ h. not_both (coef r) ab.silent h)
      (λ e. flat_holds (pos 1) (pos 0) (rest r) (coef r) (pos_one refl) e (f.flat e))
      (λ h. not_both (neg_ℤ (coef r)) un.silent h))
      rs fl n m;
}

serve_below_or_flat : (rest coef : V3 → ℤ) (rs : List V3) → Every (Flat rest coef) rs → Every (Silent coef) rs → Best (Flat rest coef) rest (turned coef) rs ⊎ Every (Silent (turned coef)) rs → Served rest coef rs
serve_below_or_flat rest coef rs fl n (inl q) = serve_below rest coef rs fl q.p q.asks q.best n
serve_below_or_flat rest coef rs fl n (inr m) = serve_flat rest coef rs fl n m

serve_with : (rest coef : V3 → ℤ) (rs : List V3) → Every (Flat rest coef) rs → (p : V3) → pos 0 <ℤ coef p → Every (Above rest coef p) rs → Best (Agree rest coef p) rest (turned coef) rs ⊎ Every (Silent (turned coef)) rs → Served rest coef rs
serve_with rest coef rs fl p ask best (inl q) = serve_both rest coef rs fl p ask best q.p q.asks q.best q.has
serve_with rest coef rs fl p ask best (inr m) = serve_above rest coef rs fl p ask best m

serve_by : (rest coef : V3 → ℤ) (rs : List V3) → Every (Flat rest coef) rs → Best (λ p. All (Agree rest coef p) rs) rest coef rs ⊎ Every (Silent coef) rs → Served rest coef rs
serve_by rest coef rs fl (inl b) =
    serve_with rest coef rs fl b.p b.asks b.best (best_of (Agree rest coef b.p) rest (turned coef) rs (recursion_from_All (Agree rest coef b.p) rs b.has))
serve_by rest coef rs fl (inr n) = serve_below_or_flat rest coef rs fl n (best_of (Flat rest coef) rest (turned coef) rs fl)

pub serve : (rest coef : V3 → ℤ) (rs : List V3) → All (Flat rest coef) rs → All (λ p. All (Agree rest coef p) rs) rs → Served rest coef rs
serve rest coef rs fl ag =
    let f = recursion_from_All (Flat rest coef) rs fl in
    serve_by rest coef rs f (best_of (λ p. All (Agree rest coef p) rs) rest coef rs (recursion_from_All (λ p. All (Agree rest coef p) rs) rs ag))
