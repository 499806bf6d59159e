-- From a place where some forms are not negative, straight towards another place, up to the first form that gets 0.
use Rattle.std.proofs.Common.{◌≡◌, ℤ, pos, ◌+ℤ◌, ◌*ℤ◌, neg_ℤ, ◌≤ℤ◌, ◌<ℤ◌, List, [], ◌∷◌, ◌⊎◌, inl, inr, ◌∙◌, arith}
use Rattle.std.proofs.lemmas.Int.{ints, by_lt_z}
use Rattle.space3.specs.declared.vectors.V3.{V3}
use Rattle.whole_laws.proofs.Ring.{ring, v, num, neg, ◌⊕◌, ◌⊗◌}
use Rattle.whole_laws.proofs.Order.{mul_nonneg_ℤ, add_nonneg_ℤ, nonneg_of_mul_ℤ, nonneg_of_pos}
use Rattle.space3.specs.Vectors.{dot_product}
use Rattle.space3.proofs.Combinations.{dot-mixed, mixed}

-- a fact of each form, and of some form: tuples and sums on a list that is written out
abbrev pub Every : (V3 → Type 0) → List V3 → Type 0
Every P [] = Unit {0}
Every P (c ∷ cs) = P c × Every P cs

abbrev pub Somewhere : (V3 → Type 0) → List V3 → Type 0
Somewhere P [] = ⊥
Somewhere P (c ∷ cs) = P c ⊎ Somewhere P cs

pub every-both : (P Q R : V3 → Type 0) → ((c : V3) → P c → Q c → R c) → (cs : List V3) → Every P cs → Every Q cs → Every R cs
every-both P Q R f [] h k = tt
every-both P Q R f (c ∷ cs) h k = (f c h.0 k.0, every-both P Q R f cs h.1 k.1)

-- The form gets 0 after shares s of the place w and t of the place h, and no form is negative there.
pub record Stops (cs : List V3) (w h : V3) : Type 0 where
  pub s : ℤ
  pub t : ℤ
  pub stays : pos 0 <ℤ s
  pub goes : pos 0 ≤ℤ t
  pub kept : Every (λ c. pos 0 ≤ℤ dot_product c (mixed s t w h)) cs
  pub zero : Somewhere (λ c. dot_product c (mixed s t w h) ≡ pos 0) cs

negated : (a : ℤ) → a <ℤ pos 0 → pos 0 <ℤ neg_ℤ a
negated a h = omega (arith, ints)

-- shares from one form f, g (its values at both places): another form a, b stays at least 0
share_of : (f g a b : ℤ) → pos 0 ≤ℤ f → g <ℤ pos 0 → pos 0 ≤ℤ a → pos 0 ≤ℤ b → pos 0 ≤ℤ (neg_ℤ g *ℤ a +ℤ f *ℤ b)
share_of f g a b hf hg ha hb = add_nonneg_ℤ _ _ (mul_nonneg_ℤ _ _ (nonneg_of_pos _ (negated g hg)) ha) (mul_nonneg_ℤ f b hf hb)

-- the same where f, g gets negative at shares s, t, and a, b doesn't
earlier : (s t f g a b : ℤ) → pos 0 <ℤ s → pos 0 ≤ℤ f → g <ℤ pos 0 → (s *ℤ f +ℤ t *ℤ g) <ℤ pos 0 → pos 0 ≤ℤ a → pos 0 ≤ℤ (s *ℤ a +ℤ t *ℤ b) → pos 0 ≤ℤ (neg_ℤ g *ℤ a +ℤ f *ℤ b)
earlier s t f g a b hs hf hg low ha high =
    by_lt_z b (pos 0)
    (λ hb. nonneg_of_mul_ℤ s _ hs (rw split (add_nonneg_ℤ _ _ (mul_nonneg_ℤ _ _ (nonneg_of_pos _ (negated g hg)) high) (mul_nonneg_ℤ _ _ (nonneg_of_pos _ (negated b hb)) (nonneg_of_pos _ (negated _ low))))))
    (λ hb. share_of f g a b hf hg ha hb)
  where
    split : s *ℤ (neg_ℤ g *ℤ a +ℤ f *ℤ b) ≡ neg_ℤ g *ℤ (s *ℤ a +ℤ t *ℤ b) +ℤ neg_ℤ b *ℤ neg_ℤ (s *ℤ f +ℤ t *ℤ g)
    split =
        ring (s ∷ t ∷ f ∷ g ∷ a ∷ b ∷ [])
        (v 0 ⊗ (neg (v 3) ⊗ v 4 ⊕ v 2 ⊗ v 5))
        (neg (v 3) ⊗ (v 0 ⊗ v 4 ⊕ v 1 ⊗ v 5) ⊕ neg (v 5) ⊗ neg (v 0 ⊗ v 2 ⊕ v 1 ⊗ v 3)) tt

gets_zero : (f g : ℤ) → neg_ℤ g *ℤ f +ℤ f *ℤ g ≡ pos 0
gets_zero f g = ring (f ∷ g ∷ []) (neg (v 1) ⊗ v 0 ⊕ v 0 ⊗ v 1) (num (pos 0)) tt

-- a sum of shares gets negative only by the second
second_negative : (s t f g : ℤ) → pos 0 <ℤ s → pos 0 ≤ℤ t → pos 0 ≤ℤ f → (s *ℤ f +ℤ t *ℤ g) <ℤ pos 0 → g <ℤ pos 0
second_negative s t f g hs ht hf low =
    by_lt_z g (pos 0) (λ h. h) (λ h. absurd (clash _ (add_nonneg_ℤ _ _ (mul_nonneg_ℤ s f (nonneg_of_pos s hs) hf) (mul_nonneg_ℤ t g ht h)) low))
  where
    clash : (a : ℤ) → pos 0 ≤ℤ a → a <ℤ pos 0 → ⊥
    clash a h k = omega (arith, ints)

stop_here : (c : V3) (cs : List V3) (w h : V3) → pos 0 ≤ℤ dot_product c w → dot_product c h <ℤ pos 0 →
    Every (λ d. pos 0 ≤ℤ (neg_ℤ (dot_product c h) *ℤ dot_product d w +ℤ dot_product c w *ℤ dot_product d h)) cs → Stops (c ∷ cs) w h
stop_here c cs w h here low others =
    let f = dot_product c w in
    let g = dot_product c h in
    let e : dot_product c (mixed (neg_ℤ g) f w h) ≡ pos 0 = dot-mixed c w h (neg_ℤ g) f ∙ gets_zero f g in record {
      s = neg_ℤ g;
      t = f;
      stays = negated g low;
      goes = here;
      kept = (
        rw e (zero_nonneg),
        every-both (λ d. pos 0 ≤ℤ (neg_ℤ g *ℤ dot_product d w +ℤ f *ℤ dot_product d h)) (λ d. Unit {0}) (λ d. pos 0 ≤ℤ dot_product d (mixed (neg_ℤ g) f w h))
            (λ d k u. rw (dot-mixed d w h (neg_ℤ g) f) k) cs others (units cs),
      );
      zero = inl e;
    }
  where
    zero_nonneg : pos 0 ≤ℤ pos 0
    zero_nonneg = omega (arith, ints)

    units : (cs : List V3) → Every (λ d. Unit {0}) cs
    units [] = tt
    units (d ∷ ds) = (tt, units ds)

-- towards a place where some form is negative there is a first stop
pub first_stop : (cs : List V3) (w h : V3) → Every (λ c. pos 0 ≤ℤ dot_product c w) cs → Every (λ c. pos 0 ≤ℤ dot_product c h) cs ⊎ Stops cs w h
first_stop [] w h here = inl tt
first_stop (c ∷ cs) w h here = joined (first_stop cs w h here.1)
  where
    joined : Every (λ d. pos 0 ≤ℤ dot_product d h) cs ⊎ Stops cs w h → Every (λ d. pos 0 ≤ℤ dot_product d h) (c ∷ cs) ⊎ Stops (c ∷ cs) w h
    joined (inl all) =
        by_lt_z (dot_product c h) (pos 0)
        (λ low. inr (stop_here c cs w h here.0 low (every-both (λ d. pos 0 ≤ℤ dot_product d w) (λ d. pos 0 ≤ℤ dot_product d h) (λ d. pos 0 ≤ℤ (neg_ℤ (dot_product c h) *ℤ dot_product d w +ℤ dot_product c w *ℤ dot_product d h))
        (λ d p q. share_of _ _ _ _ here.0 low p q) cs here.1 all)))
        (λ high. inl (high, all))
    joined (inr stop) =
        by_lt_z (dot_product c (mixed stop.s stop.t w h)) (pos 0)
        (λ under. let at_c = rw (dot-mixed c w h stop.s stop.t) at under in
        let low = second_negative stop.s stop.t (dot_product c w) (dot_product c h) stop.stays stop.goes here.0 at_c in
        inr (stop_here c cs w h here.0 low (every-both (λ d. pos 0 ≤ℤ dot_product d w) (λ d. pos 0 ≤ℤ dot_product d (mixed stop.s stop.t w h)) (λ d. pos 0 ≤ℤ (neg_ℤ (dot_product c h) *ℤ dot_product d w +ℤ dot_product c w *ℤ dot_product d h))
        (λ d p q. earlier stop.s stop.t _ _ _ _ stop.stays here.0 low at_c p (rw (dot-mixed d w h stop.s stop.t) at q)) cs here.1 stop.kept)))
        (λ high. inr (record { s = stop.s; t = stop.t; stays = stop.stays; goes = stop.goes; kept = (high, stop.kept); zero = inr stop.zero }))
