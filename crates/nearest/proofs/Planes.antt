-- Weights (S, y, z), whose difference of points is S·k0 + y·k1 + z·k2: where the foot isn't inside, some place on the
-- border is as near.
use Rattle.std.proofs.Common.{◌≡◌, ℤ, pos, ◌+ℤ◌, ◌*ℤ◌, neg_ℤ, ◌≤ℤ◌, ◌<ℤ◌, List, [], ◌∷◌, ◌⊎◌, inl, inr, sym, ◌∙◌, subst, arith}
use Rattle.std.proofs.lemmas.Int.{ints, by_lt_z}
use Rattle.space3.specs.declared.vectors.V3.{V3}
use Rattle.whole_laws.proofs.Ring.{ring, v, num, neg, ◌⊕◌, ◌⊗◌}
use Rattle.whole_laws.proofs.Order.{sq_nonneg_ℤ, mul_pos_ℤ, mul_nonneg_ℤ, nonneg_of_pos}
use Rattle.whole_laws.proofs.Blends.{pos_add_ℤ}
use Rattle.nearest.proofs.Border.{Every, Somewhere, Stops, first_stop}
use Rattle.nearest.proofs.FootLeads.{Leads, foot_leads}
use Rattle.space3.specs.Vectors.{cross_product, dot_product, multiple, origin, squared_length, sum_of}
use Rattle.space3.proofs.Combinations.{dot-mixed, mixed, same_vector, squared-nonneg}
use Rattle.space3.proofs.VectorForms.{at, components, cross, dot, ◌⊕₃◌, ◌⊗₃◌}

-- the difference of two points at weights w
abbrev pub flat : V3 → V3 → V3 → V3 → V3
flat k0 k1 k2 w = sum_of (multiple w.x k0) (sum_of (multiple w.y k1) (multiple w.z k2))

pub flat-mixed : (s t : ℤ) (k0 k1 k2 w h : V3) → mixed s t (flat k0 k1 k2 w) (flat k0 k1 k2 h) ≡ flat k0 k1 k2 (mixed s t w h)
flat-mixed s t k0 k1 k2 w h = same_vector _ _ (one k0.x k1.x k2.x w.x w.y w.z h.x h.y h.z) (one k0.y k1.y k2.y w.x w.y w.z h.x h.y h.z) (one k0.z k1.z k2.z w.x w.y w.z h.x h.y h.z)
  where
    one : (i j k a b c d e f : ℤ) → s *ℤ (a *ℤ i +ℤ (b *ℤ j +ℤ c *ℤ k)) +ℤ t *ℤ (d *ℤ i +ℤ (e *ℤ j +ℤ f *ℤ k))
        ≡ (s *ℤ a +ℤ t *ℤ d) *ℤ i +ℤ ((s *ℤ b +ℤ t *ℤ e) *ℤ j +ℤ (s *ℤ c +ℤ t *ℤ f) *ℤ k)
    one i j k a b c d e f =
        ring (s ∷ t ∷ i ∷ j ∷ k ∷ a ∷ b ∷ c ∷ d ∷ e ∷ f ∷ [])
        (v 0 ⊗ (v 5 ⊗ v 2 ⊕ (v 6 ⊗ v 3 ⊕ v 7 ⊗ v 4)) ⊕ v 1 ⊗ (v 8 ⊗ v 2 ⊕ (v 9 ⊗ v 3 ⊕ v 10 ⊗ v 4)))
        ((v 0 ⊗ v 5 ⊕ v 1 ⊗ v 8) ⊗ v 2 ⊕ ((v 0 ⊗ v 6 ⊕ v 1 ⊗ v 9) ⊗ v 3 ⊕ (v 0 ⊗ v 7 ⊕ v 1 ⊗ v 10) ⊗ v 4)) tt

-- weights on the border, no farther than w
pub record Reached (cs : List V3) (k0 k1 k2 w : V3) : Type 0 where
  pub to : V3
  pub some : pos 0 <ℤ to.x
  pub kept : Every (λ c. pos 0 ≤ℤ dot_product c to) cs
  pub zero : Somewhere (λ c. dot_product c to ≡ pos 0) cs
  pub nearer : (squared_length (flat k0 k1 k2 to) *ℤ (w.x *ℤ w.x)) ≤ℤ (squared_length (flat k0 k1 k2 w) *ℤ (to.x *ℤ to.x))

-- h is outside, or on the border
abbrev pub IsOutside : List V3 → V3 → Type 0
IsOutside cs h = Somewhere (λ c. dot_product c h <ℤ pos 0) cs ⊎ ((pos 0 <ℤ h.x) × Somewhere (λ c. dot_product c h ≤ℤ pos 0) cs)

led : (k0 k1 k2 w h : V3) (s t : ℤ) → pos 0 ≤ℤ s → pos 0 ≤ℤ t → Leads w.x h.x (flat k0 k1 k2 w) (flat k0 k1 k2 h) →
    (squared_length (flat k0 k1 k2 (mixed s t w h)) *ℤ (w.x *ℤ w.x)) ≤ℤ (squared_length (flat k0 k1 k2 w) *ℤ ((mixed s t w h).x *ℤ (mixed s t w h).x))
led k0 k1 k2 w h s t hs ht l =
    subst (λ (d : V3). (squared_length d *ℤ (w.x *ℤ w.x)) ≤ℤ (squared_length (flat k0 k1 k2 w) *ℤ ((s *ℤ w.x +ℤ t *ℤ h.x) *ℤ (s *ℤ w.x +ℤ t *ℤ h.x)))) (flat-mixed s t k0 k1 k2 w h) (l.nearer s t hs ht)

none_negative : (cs : List V3) (h : V3) → Every (λ c. pos 0 ≤ℤ dot_product c h) cs → Somewhere (λ c. dot_product c h <ℤ pos 0) cs → ⊥
none_negative [] h all k = k
none_negative (c ∷ cs) h all (inl low) = clash _ all.0 low
  where
    clash : (a : ℤ) → pos 0 ≤ℤ a → a <ℤ pos 0 → ⊥
    clash a h k = omega (arith, ints)
none_negative (c ∷ cs) h all (inr k) = none_negative cs h all.1 k

whole : (a b : ℤ) → pos 0 *ℤ a +ℤ pos 1 *ℤ b ≡ b
whole a b = omega (arith, ints)

all_the_way : (c w h : V3) → dot_product c (mixed (pos 0) (pos 1) w h) ≡ dot_product c h
all_the_way c w h = dot-mixed c w h (pos 0) (pos 1) ∙ whole (dot_product c w) (dot_product c h)

kept_there : (cs : List V3) (w h : V3) → Every (λ c. pos 0 ≤ℤ dot_product c h) cs → Every (λ c. pos 0 ≤ℤ dot_product c (mixed (pos 0) (pos 1) w h)) cs
kept_there [] w h all = tt
kept_there (c ∷ cs) w h all = (subst (λ (z : ℤ). pos 0 ≤ℤ z) (sym (all_the_way c w h)) all.0, kept_there cs w h all.1)

zero_there : (cs : List V3) (w h : V3) → Every (λ c. pos 0 ≤ℤ dot_product c h) cs → Somewhere (λ c. dot_product c h ≤ℤ pos 0) cs → Somewhere (λ c. dot_product c (mixed (pos 0) (pos 1) w h) ≡ pos 0) cs
zero_there [] w h all k = k
zero_there (c ∷ cs) w h all (inl low) = inl (all_the_way c w h ∙ both _ all.0 low)
  where
    both : (a : ℤ) → pos 0 ≤ℤ a → a ≤ℤ pos 0 → a ≡ pos 0
    both a h k = omega (arith, ints)
zero_there (c ∷ cs) w h all (inr k) = inr (zero_there cs w h all.1 k)

zero_nonneg : pos 0 ≤ℤ pos 0
zero_nonneg = omega (arith, ints)

one_nonneg : pos 0 ≤ℤ pos 1
one_nonneg = omega (arith, ints)

-- where nothing on the straight way to h is farther, and h isn't inside, the border has a place that is as near
pub border : (cs : List V3) (k0 k1 k2 w h : V3) → Every (λ c. pos 0 ≤ℤ dot_product c w) cs → pos 0 <ℤ w.x → pos 0 ≤ℤ h.x →
    Leads w.x h.x (flat k0 k1 k2 w) (flat k0 k1 k2 h) → IsOutside cs h → Reached cs k0 k1 k2 w
border cs k0 k1 k2 w h inside hw hh leads outside = found (first_stop cs w h inside)
  where
    at_end : Every (λ c. pos 0 ≤ℤ dot_product c h) cs → IsOutside cs h → Reached cs k0 k1 k2 w
    at_end all (inl k) = absurd (none_negative cs h all k)
    at_end all (inr k) = record {
      to = mixed (pos 0) (pos 1) w h;
      some = subst (λ (z : ℤ). pos 0 <ℤ z) (sym (whole w.x h.x)) k.0;
      kept = kept_there cs w h all;
      zero = zero_there cs w h all k.1;
      nearer = led k0 k1 k2 w h (pos 0) (pos 1) zero_nonneg one_nonneg leads;
    }

    found : Every (λ c. pos 0 ≤ℤ dot_product c h) cs ⊎ Stops cs w h → Reached cs k0 k1 k2 w
    found (inl all) = at_end all outside
    found (inr stop) = record {
      to = mixed stop.s stop.t w h;
      some = pos_add_ℤ _ _ (mul_pos_ℤ stop.s w.x stop.stays hw) (mul_nonneg_ℤ stop.t h.x stop.goes hh);
      kept = stop.kept;
      zero = stop.zero;
      nearer = led k0 k1 k2 w h stop.s stop.t (nonneg_of_pos stop.s stop.stays) stop.goes leads;
    }

-- ---- parallel vectors
zero_of_square : (a : ℤ) → (a *ℤ a) ≤ℤ pos 0 → a ≡ pos 0
zero_of_square a h = by_lt_z (pos 0) a (λ p. absurd (clash _ h (mul_pos_ℤ a a p p))) (λ l. by_lt_z a (pos 0) (λ n. absurd (clash _ h (rw (turned a) (mul_pos_ℤ (neg_ℤ a) (neg_ℤ a) (negated a n) (negated a n))))) (λ g. both a l g))
  where
    clash : (b : ℤ) → b ≤ℤ pos 0 → pos 0 <ℤ b → ⊥
    clash b h k = omega (arith, ints)

    both : (a : ℤ) → a ≤ℤ pos 0 → pos 0 ≤ℤ a → a ≡ pos 0
    both a h k = omega (arith, ints)

    negated : (a : ℤ) → a <ℤ pos 0 → pos 0 <ℤ neg_ℤ a
    negated a h = omega (arith, ints)

    turned : (a : ℤ) → a *ℤ a ≡ neg_ℤ a *ℤ neg_ℤ a
    turned a = ring (a ∷ []) (v 0 ⊗ v 0) (neg (v 0) ⊗ neg (v 0)) tt

-- a vector without length
pub zero_of_squared : (a : V3) → squared_length a ≤ℤ pos 0 → a ≡ origin
zero_of_squared a h =
    let f = sq_nonneg_ℤ a.x in
    let g = sq_nonneg_ℤ a.y in
    let k = sq_nonneg_ℤ a.z in
    same_vector a origin (zero_of_square a.x (first _ _ _ f g k h)) (zero_of_square a.y (second _ _ _ f g k h)) (zero_of_square a.z (third _ _ _ f g k h))
  where
    first : (i j k : ℤ) → pos 0 ≤ℤ i → pos 0 ≤ℤ j → pos 0 ≤ℤ k → (i +ℤ j +ℤ k) ≤ℤ pos 0 → i ≤ℤ pos 0
    first i j k f g l h = omega (arith, ints)

    second : (i j k : ℤ) → pos 0 ≤ℤ i → pos 0 ≤ℤ j → pos 0 ≤ℤ k → (i +ℤ j +ℤ k) ≤ℤ pos 0 → j ≤ℤ pos 0
    second i j k f g l h = omega (arith, ints)

    third : (i j k : ℤ) → pos 0 ≤ℤ i → pos 0 ≤ℤ j → pos 0 ≤ℤ k → (i +ℤ j +ℤ k) ≤ℤ pos 0 → k ≤ℤ pos 0
    third i j k f g l h = omega (arith, ints)

-- y·a + z·b = 0, where y isn't negative and one of the two is positive
pub record AreParallel (a b : V3) : Type 0 where
  pub y : ℤ
  pub z : ℤ
  pub first : pos 0 ≤ℤ y
  pub some : (pos 0 <ℤ y) ⊎ (pos 0 <ℤ z)
  pub balanced : mixed y z a b ≡ origin

pub parallel : (a b : V3) → squared_length (cross_product a b) ≤ℤ pos 0 → AreParallel a b
parallel a b h =
    by_lt_z (pos 0) (squared_length b)
    (λ p. record {
      y = squared_length b;
      z = neg_ℤ (dot_product a b);
      first = squared-nonneg b;
      some = inl p;
      balanced = zero_of_squared _ (rw length (below (squared_length b) _ (squared-nonneg b) h));
    })
    (λ l. record { y = pos 0; z = pos 1; first = zero_nonneg; some = inr one_positive; balanced = same_vector _ _ (whole a.x b.x) (whole a.y b.y) (whole a.z b.z) ∙ zero_of_squared b l })
  where
    one_positive : pos 0 <ℤ pos 1
    one_positive = omega (arith, ints)

    length : squared_length (mixed (squared_length b) (neg_ℤ (dot_product a b)) a b) ≡ squared_length b *ℤ squared_length (cross_product a b)
    length =
        let d = dot (at 3) (at 3) ⊗₃ at 0 ⊕₃ neg (dot (at 0) (at 3)) ⊗₃ at 3 in
        let n = cross (at 0) (at 3) in
        ring (components (a ∷ b ∷ [])) (dot d d) (dot (at 3) (at 3) ⊗ dot n n) tt

    below : (i j : ℤ) → pos 0 ≤ℤ i → j ≤ℤ pos 0 → (i *ℤ j) ≤ℤ pos 0
    below i j h k = negative i j (mul_nonneg_ℤ i (neg_ℤ j) h (turn j k))
      where
        turn : (j : ℤ) → j ≤ℤ pos 0 → pos 0 ≤ℤ neg_ℤ j
        turn j h = omega (arith, ints)

        negative : (i j : ℤ) → pos 0 ≤ℤ (i *ℤ neg_ℤ j) → (i *ℤ j) ≤ℤ pos 0
        negative i j h = shown (i *ℤ j) (subst (λ (z : ℤ). pos 0 ≤ℤ z) (ring (i ∷ j ∷ []) (v 0 ⊗ neg (v 1)) (neg (v 0 ⊗ v 1)) tt) h)
          where
            shown : (a : ℤ) → pos 0 ≤ℤ neg_ℤ a → a ≤ℤ pos 0
            shown a h = omega (arith, ints)

-- towards a direction in which nothing changes the distance never rises
pub still_leads : (S : ℤ) (d : V3) → pos 0 ≤ℤ S → Leads S (pos 0) d origin
still_leads S d hS = foot_leads S (pos 0) d origin hS (ring (S ∷ components (d ∷ [])) (v 1 ⊗ num (pos 0) ⊕ v 2 ⊗ num (pos 0) ⊕ v 3 ⊗ num (pos 0)) (v 0 ⊗ num (pos 0)) tt)
