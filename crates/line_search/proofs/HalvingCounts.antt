-- How far a count of plane decisions has risen, halving by halving.
use Rattle.std.proofs.Common.{◌≡◌, ◌∙◌, ℕ, ◌+◌, ◌^◌, ◌<◌, ◌≤◌, ◌==◌, cond, List, [], ◌∷◌, ◌++◌, inl, inr, ap, sym, subst, arith, lt-ltb}
use Rattle.std.specs.Prelude.{All}
use Rattle.std.specs.List.{Contains, sum_by}
use Rattle.std.specs.List.Sorted.{IsStrictlySortedBy}
use Rattle.std.specs.Ordering.{nat_cmp}
use Rattle.std.specs.declared.cmp.Ordering.TheVariants.{Less, Equal, Greater}
use Rattle.std.proofs.lemmas.List.Elements.{All-append, All-cons, All-contains, All-nil, All-weaker}
use Rattle.std.proofs.lemmas.List.Sums.{sum_by-append}
use Rattle.std.proofs.lemmas.Map.Keys.{IsStrictlyIncreasing-from_sorted}
use Rattle.list_laws.proofs.Membership.{Contains-cons_cases, Contains-nil}
use Rattle.list_laws.proofs.SortedJoins.{sorted-append}
use Rattle.list_laws.proofs.StrictlySorted.{sorted_cons, sorted_nil}
use Rattle.space3.specs.declared.ways.TheConstants.{HALVING_LIMIT}
use Rattle.space3.specs.declared.vectors.V3.{V3}
use Rattle.space3.specs.Moved.{moved_by}
use Rattle.pair_cert.specs.Tallies.{RisesAtMost}
use Rattle.pair_cert.proofs.Tallies.{rises_then, stays}
use Rattle.surface_mesh.specs.declared.setup.Setup.{Setup}
use Rattle.potential_sum.specs.Terms.{FrameTerms}
use Rattle.line_search.specs.Accepted.{IsAccepted}
use Rattle.line_search.specs.Decisions.{ReachesCertificates, RisesByHalvings, most_decisions}
use Rattle.line_search.specs.Calls.Halvings.{CountsHalving}

-- the most decisions of a halving
abbrev decisions : Setup → (x direction : List V3) → ℕ → ℕ
decisions setup x direction half = most_decisions setup x (moved_by x direction half)

-- a count rose by at most so many for some of the halvings below a halving
pub record RisesBelow (setup : Setup) (terms : FrameTerms) (x direction : List V3) (half old new : ℕ) : Type 0 where
  pub halvings : List ℕ
  pub sorted : IsStrictlySortedBy nat_cmp halvings
  pub below : All (λ h. h < half) halvings
  pub reach : All (ReachesCertificates setup terms x direction) halvings
  pub rises : RisesAtMost (sum_by (decisions setup x direction) halvings) old new

pub rises_none : (setup : Setup) (terms : FrameTerms) (x direction : List V3) (n : ℕ) → n < 2 ^ 64 → RisesBelow setup terms x direction 0 n n
rises_none setup terms x direction n l = record {
  halvings = [];
  sorted = sorted_nil nat_cmp;
  below = All-nil (λ h. h < 0);
  reach = All-nil (ReachesCertificates setup terms x direction);
  rises = stays 0 n l;
}

-- a halving more
pub rises_on : (setup : Setup) (terms : FrameTerms) (x direction : List V3) (half old mid new : ℕ) → half ≤ HALVING_LIMIT → ((lower : ℕ) → lower < half → ¬ IsAccepted setup terms x direction lower)
    → RisesBelow setup terms x direction half old mid → CountsHalving setup x direction half mid new → RisesBelow setup terms x direction (half + 1) old new
rises_on setup terms x direction half old mid new few none r counts = by counts
  where
    weaker : All (λ h. h < half + 1) r.halvings
    weaker = All-weaker (λ h. h < half) (λ h. h < half + 1) (λ h l. omega (arith, l)) r.halvings r.below

    less : (a b : ℕ) → a < b → nat_cmp a b ≡ Less
    less a b h = ap (λ t. cond t Less (cond (a == b) Equal Greater)) (lt-ltb a b h)

    before : (a b : ℕ) → Contains r.halvings a → Contains (half ∷ []) b → nat_cmp a b ≡ Less
    before a b c d = elim (Contains-cons_cases half [] b d) [
      | inl e ↦ less a b (subst (λ z. a < z) e (All-contains (λ h. h < half) r.halvings a r.below c))
      | inr z ↦ absurd (Contains-nil b z)
    ]

    same : new ≡ mid → RisesBelow setup terms x direction (half + 1) old new
    same e = record { halvings = r.halvings; sorted = r.sorted; below = weaker; reach = r.reach; rises = subst (λ z. RisesAtMost (sum_by (decisions setup x direction) r.halvings) old z) (sym e) r.rises }

    by : CountsHalving setup x direction half mid new → RisesBelow setup terms x direction (half + 1) old new
    by (inl e) = same e
    by (inr (moves, inl e)) = same e
    by (inr (moves, inr (in_reach, more))) = record {
      halvings = r.halvings ++ half ∷ [];
      sorted = sorted-append nat_cmp r.halvings (half ∷ []) r.sorted (sorted_cons nat_cmp half [] (All-nil (λ y. nat_cmp half y ≡ Less)) (sorted_nil nat_cmp)) before;
      below = All-append (λ h. h < half + 1) r.halvings (half ∷ []) weaker (All-cons (λ h. h < half + 1) half [] (omega arith) (All-nil (λ h. h < half + 1)));
      reach = All-append (ReachesCertificates setup terms x direction) r.halvings (half ∷ []) r.reach
          (All-cons (ReachesCertificates setup terms x direction) half [] (record { few = few; none_lower = none; moves = moves; in_reach = in_reach }) (All-nil (ReachesCertificates setup terms x direction)));
      rises = subst (λ n. RisesAtMost n old new) (sum_of_both ∙ sym (sum_by-append (decisions setup x direction) r.halvings (half ∷ [])))
          (rises_then (sum_by (decisions setup x direction) r.halvings) (decisions setup x direction half) old mid new r.rises more);
    }
      where
        sum_of_both : sum_by (decisions setup x direction) r.halvings + decisions setup x direction half ≡ sum_by (decisions setup x direction) r.halvings + (0 + decisions setup x direction half)
        sum_of_both = omega arith

pub rises_in_all : (setup : Setup) (terms : FrameTerms) (x direction : List V3) (half old new : ℕ) → RisesBelow setup terms x direction half old new → RisesByHalvings setup terms x direction old new
rises_in_all setup terms x direction half old new r = record { halvings = r.halvings; different = IsStrictlyIncreasing-from_sorted r.halvings r.sorted; reach = r.reach; rises = r.rises }
