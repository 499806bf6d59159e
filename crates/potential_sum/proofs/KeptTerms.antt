-- What terms that stand for a setup give at a pose.
use Rattle.std.proofs.Common.{◌≡◌, ◌∙◌, ◌^◌, ◌≤◌, ℕ, ◌+◌, ◌<◌, ℤ, ◌+ℤ◌, List, sym, subst, arith, to_z, of_z, unsigned_abs, lit<, FitsSigned}
use Rattle.std.specs.Int.{w128}
use Rattle.std.specs.List.Sorted.{IsPermutation}
use Rattle.std.proofs.lemmas.Int.{fits_signed_from_abs}
use Rattle.whole_laws.proofs.Order.{clean, size_sum}
use Rattle.space3.specs.declared.vectors.V3.{V3}
use Rattle.space3.specs.Vectors.{AtMost}
use Rattle.surface_mesh.specs.declared.setup.Setup.{Setup}
use Rattle.surface_mesh.specs.Setup.{IsSetup}
use Rattle.surface_mesh.specs.Sturdy.{IsSturdy}
use Rattle.surface_mesh.proofs.SetupFacts.{mass_length}
use Rattle.potential_sum.specs.Bodies.{ElasticTet}
use Rattle.potential_sum.specs.Calls.Inertia.{AreMovers}
use Rattle.potential_sum.specs.Held.{loose_tets}
use Rattle.potential_sum.specs.Upright.{IsUpright}
use Rattle.potential_sum.specs.Terms.{KeptTerms, StandFor}

-- masses and targets belong to the places
pub movers : (s : Setup) (terms : KeptTerms) (x : List V3) (masses : List ℤ) (targets : List V3) → IsSetup s → IsSturdy s → StandFor s terms → IsUpright s x → masses ≡ s.mass → targets ≡ terms.frame.targets → AreMovers masses targets x
movers s terms x masses targets built sturdy stand pose e f =
    subst (λ (list : List ℤ). AreMovers list targets x) (sym e)
    (subst (λ (list : List V3). AreMovers s.mass list x) (sym f)
    (record {
      each_mass = mass_length s built ∙ sym pose.each;
      each_target = stand.each ∙ sym pose.each;
      light = sturdy.mass;
      near = stand.near;
    }))

-- what is kept of tetrahedra is of the setup's
pub elastic_kept : (s : Setup) (terms : KeptTerms) (tets : List ElasticTet) → tets ≡ terms.elastic → StandFor s terms → IsPermutation (loose_tets s) tets
elastic_kept s terms tets e stand = subst (IsPermutation (loose_tets s)) (sym e) stand.elastic

-- ---- sums of energies, as it is computed
abbrev kept : ℤ → ℤ
kept z = to_z w128 (of_z w128 z)

-- a number that is passed on as it is
record IsPassed (x sum : ℤ) (most : ℕ) : Type 0 where
  fits : FitsSigned w128 x
  same : kept x ≡ sum
  bound : unsigned_abs sum ≤ most

passed : (x sum : ℤ) (most : ℕ) → x ≡ sum → AtMost most x → most < 2 ^ 127 → IsPassed x sum most
passed x sum most e small few = record {
  fits = fits_signed_from_abs w128 x (omega (arith, small.bound, few));
  same = clean w128 x most small.bound few ∙ e;
  bound = subst (λ (z : ℤ). unsigned_abs z ≤ most) e small.bound;
}

-- and with one more
passed_with : (x sum y z : ℤ) (m n : ℕ) → IsPassed x sum m → y ≡ z → AtMost n y → n < 2 ^ 127 → m + n < 2 ^ 127 → IsPassed (kept x +ℤ kept y) (sum +ℤ z) (m + n)
passed_with x sum y z m n h e small few all =
    let other = passed y z n e small few in
    let both : kept x +ℤ kept y ≡ sum +ℤ z = λ i. h.same i +ℤ other.same i in
    let bound : unsigned_abs (sum +ℤ z) ≤ m + n = omega (arith, size_sum sum z, h.bound, other.bound) in
    passed (kept x +ℤ kept y) (sum +ℤ z) (m + n) both (record { bound = subst (λ (a : ℤ). unsigned_abs a ≤ m + n) (sym both) bound }) all

-- the elastic energy and that of barriers
pub record AreSummed (a b p q : ℤ) : Type 0 where
  pub sum : to_z w128 (of_z w128 (kept a +ℤ kept b)) ≡ p +ℤ q
  pub small : AtMost (2 ^ 124) (to_z w128 (of_z w128 (kept a +ℤ kept b)))

pub both_energies : (a b p q : ℤ) → a ≡ p → b ≡ q → AtMost (2 ^ 106) a → AtMost (2 ^ 123) b → AreSummed a b p q
both_energies a b p q e f k l =
    let two = passed_with a p b q (2 ^ 106) (2 ^ 123) (passed a p (2 ^ 106) e k (lit< tt)) f l (lit< tt) (lit< tt) in
    record {
      sum = two.same;
      small = record { bound = subst (λ (z : ℤ). unsigned_abs z ≤ 2 ^ 124) (sym two.same) (omega (arith, two.bound)) };
    }

-- five energies, the last two of which are added to what fits
pub record AreFive (a b c d g whole : ℤ) : Type 0 where
  pub fits_four : FitsSigned w128 (kept (kept (kept a +ℤ kept b) +ℤ kept c) +ℤ kept d)
  pub fits_five : FitsSigned w128 (kept (kept (kept (kept a +ℤ kept b) +ℤ kept c) +ℤ kept d) +ℤ kept g)
  pub sum : to_z w128 (of_z w128 (kept (kept (kept (kept a +ℤ kept b) +ℤ kept c) +ℤ kept d) +ℤ kept g)) ≡ whole

pub all_five : (a b c d g p q r t u : ℤ) → a ≡ p → b ≡ q → c ≡ r → d ≡ t → g ≡ u → AtMost (2 ^ 104) a → AtMost (2 ^ 106) b → AtMost (2 ^ 123) c → AtMost (2 ^ 123) d → AtMost (2 ^ 124) g →
    AreFive a b c d g ((((p +ℤ q) +ℤ r) +ℤ t) +ℤ u)
all_five a b c d g p q r t u e f h j v k l m n w =
    let two = passed_with a p b q (2 ^ 104) (2 ^ 106) (passed a p (2 ^ 104) e k (lit< tt)) f l (lit< tt) (lit< tt) in
    let three = passed_with (kept a +ℤ kept b) (p +ℤ q) c r (2 ^ 104 + 2 ^ 106) (2 ^ 123) two h m (lit< tt) (lit< tt) in
    let four = passed_with (kept (kept a +ℤ kept b) +ℤ kept c) ((p +ℤ q) +ℤ r) d t (2 ^ 104 + 2 ^ 106 + 2 ^ 123) (2 ^ 123) three j n (lit< tt) (lit< tt) in
    let five = passed_with (kept (kept (kept a +ℤ kept b) +ℤ kept c) +ℤ kept d) (((p +ℤ q) +ℤ r) +ℤ t) g u (2 ^ 104 + 2 ^ 106 + 2 ^ 123 + 2 ^ 123) (2 ^ 124) four v w (lit< tt) (lit< tt) in
    record { fits_four = four.fits; fits_five = five.fits; sum = five.same }
