-- Shares that are with_share to nodes.
use Rattle.std.proofs.Common.{◌≡◌, ℕ, suc, ◌+◌, ◌*◌, ◌^◌, ◌<◌, ◌≤◌, ℤ, ◌+ℤ◌, Bool, true, false, cond, ◌||◌, List, [], ◌∷◌, set, map, ◌++◌, length, get_or, take, drop, refl, ap, ◌∙◌, subst, sym, arith}
use Rattle.std.specs.Prelude.{All, ◌==◌, if◌then◌else◌}
use Rattle.std.specs.List.{IsDistinct, list_any, range_with_len}
use Rattle.std.proofs.lemmas.Bool.{eq-eqb, eqb-true, eqb-false, ne_eqb, true≢false}
use Rattle.std.proofs.lemmas.List.{length-take}
use Rattle.std.proofs.lemmas.List.Elements.{All-from_recursion, All-head, All-tail, All-set, All-weaker}
use Rattle.std.proofs.lemmas.Map.Keys.{IsDistinct-head, IsDistinct-tail}
use Rattle.std.proofs.lemmas.List.Folds.{list_any_none}
use Rattle.std.proofs.lemmas.List.FromFn.{get_or-map-range_with_len}
use Rattle.std.proofs.Math.Seq.{take-append_seam}
use Rattle.list_laws.proofs.CountedWrites.{set-counted}
use Rattle.list_laws.proofs.Elements.{at_any}
use Rattle.whole_laws.proofs.Order.{size_sum}
use Rattle.space3.specs.Vectors.{AtMost}
use Rattle.surface_mesh.specs.declared.shares.Share.{Share}
use Rattle.surface_mesh.specs.Calls.Shares.{with_share, share_sum, nothing}

-- each mass is at most so much in absolute value
abbrev pub AreLight : ℕ → List Share → Type 0
AreLight most shares = All (λ share. AtMost most share.mass) shares

sum_at_most : (m : ℕ) (a b : ℤ) → AtMost m a → AtMost (2 ^ 76) b → AtMost (m + 2 ^ 76) (a +ℤ b)
sum_at_most m a b h k = record { bound = omega (arith, size_sum a b, h.bound, k.bound) }

more : (m : ℕ) (a : ℤ) → AtMost m a → AtMost (m + 2 ^ 76) a
more m a h = record { bound = omega (arith, h.bound) }

-- giving adds a share's mass once for each node, at most
pub with_share_is_light : (most : ℕ) (share : Share) (shares : List Share) (nodes : List ℕ) → AtMost (2 ^ 76) share.mass → AreLight most shares → AreLight (most + length nodes * 2 ^ 76) (with_share share shares nodes)
with_share_is_light most share shares [] h k = All-weaker (λ s. AtMost most s.mass) (λ s. AtMost (most + 0 * 2 ^ 76) s.mass) (λ s l. record { bound = omega (arith, l.bound) }) shares k
with_share_is_light most share shares (n ∷ ns) h k =
    subst (λ (m : ℕ). AreLight m (with_share share shares (n ∷ ns))) (count most (length ns))
    (with_share_is_light (most + 2 ^ 76) share (set shares n (share_sum (get_or shares n nothing) share)) ns h
    (All-set (λ s. AtMost (most + 2 ^ 76) s.mass) shares n (share_sum (get_or shares n nothing) share)
    (sum_at_most most (get_or shares n nothing).mass share.mass (at_any (λ s. AtMost most s.mass) shares n nothing k (record { bound = omega arith })) h)
    (All-weaker (λ s. AtMost most s.mass) (λ s. AtMost (most + 2 ^ 76) s.mass) (λ s l. more most s.mass l) shares k)))
  where
    count : (m l : ℕ) → (m + 2 ^ 76) + l * 2 ^ 76 ≡ m + (suc l) * 2 ^ 76
    count m l = omega arith

-- while a share is with_share to at most four nodes, each sum stays small
pub light_at : (share : Share) (shares : List Share) (nodes : List ℕ) (now : List Share) (i node : ℕ) → length nodes ≤ 4 → AtMost (2 ^ 76) share.mass → AreLight (2 ^ 120) shares → now ≡ with_share share shares (take i nodes) → AtMost (2 ^ 125) (get_or now node nothing).mass
light_at share shares nodes now i node few h k e = record { bound = omega (arith, each.bound, length-take i nodes) }
  where
    each : AtMost (2 ^ 120 + length (take i nodes) * 2 ^ 76) (get_or now node nothing).mass
    each =
        at_any (λ s. AtMost (2 ^ 120 + length (take i nodes) * 2 ^ 76) s.mass) now node nothing
        (subst (λ (shares : List Share). AreLight (2 ^ 120 + length (take i nodes) * 2 ^ 76) shares) (sym e) (with_share_is_light (2 ^ 120) share shares (take i nodes) h k))
        (record { bound = omega arith })

-- a node's share, after a share was with_share to these nodes
abbrev pub after : Share → (ℕ → Share) → List ℕ → ℕ → Share
after share f nodes k = if list_any (λ node. node == k) nodes then share_sum (f k) share else f k

-- different nodes get the share once each
pub with_share_at_different : (share : Share) (f : ℕ → Share) (count : ℕ) (nodes : List ℕ) → IsDistinct (λ i j. i == j) nodes → All (λ node. node < count) nodes → with_share share (map f (range_with_len 0 count)) nodes ≡ map (after share f nodes) (range_with_len 0 count)
with_share_at_different share f count [] different there = refl
with_share_at_different share f count (n ∷ ns) different there =
    ap (λ (shares : List Share). with_share share shares ns) first
    ∙ with_share_at_different share (after share f (n ∷ [])) count ns (IsDistinct-tail (λ i j. i == j) n ns different) (All-tail (λ node. node < count) n ns there)
    ∙ (λ i. map (λ k. both (n == k) (list_any (λ node. node == k) ns) (f k) (apart k) i) (range_with_len 0 count))
  where
    here : n < count
    here = All-head (λ node. node < count) n ns there

    chosen : (b : Bool) (x y : Share) → b ≡ true → x ≡ cond (b || false) x y
    chosen true x y e = refl
    chosen false x y e = cc

    passed : (b : Bool) (x y : Share) → b ≡ false → y ≡ cond (b || false) x y
    passed true x y e = cc
    passed false x y e = refl

    first : set (map f (range_with_len 0 count)) n (share_sum (get_or (map f (range_with_len 0 count)) n nothing) share) ≡ map (after share f (n ∷ [])) (range_with_len 0 count)
    first =
        set-counted f (after share f (n ∷ [])) count n (share_sum (get_or (map f (range_with_len 0 count)) n nothing) share) here
        (ap (λ (s : Share). share_sum s share) (get_or-map-range_with_len f 0 count n n nothing here (omega arith)) ∙ chosen (n == n) (share_sum (f n) share) (f n) (eq-eqb n n refl))
        (λ k h. passed (n == k) (share_sum (f k) share) (f k) (ne_eqb n k h))

    both : (a b : Bool) (x : Share) → (a ≡ true → b ≡ false) → cond b (share_sum (cond (a || false) (share_sum x share) x) share) (cond (a || false) (share_sum x share) x) ≡ cond (a || b) (share_sum x share) x
    both true true x h = absurd (true≢false (h refl))
    both true false x h = refl
    both false true x h = refl
    both false false x h = refl

    apart : (k : ℕ) → (n == k) ≡ true → list_any (λ node. node == k) ns ≡ false
    apart k e =
        list_any_none (λ node. node == k) ns
        (All-weaker (λ m. (n == m) ≡ false) (λ m. (m == k) ≡ false) (λ m h. ne_eqb m k (λ p. eqb-false n m h (eqb-true n k e ∙ sym p))) ns
        (All-from_recursion (λ m. (n == m) ≡ false) ns (IsDistinct-head (λ i j. i == j) n ns different)))

-- a whole list that is written back
pub written_back : (now old : List Share) (count : ℕ) → length now ≡ count → take count (now ++ drop (length now) old) ≡ now
written_back now old count e = subst (λ (n : ℕ). take n (now ++ drop (length now) old) ≡ now) e (take-append_seam now (drop (length now) old))
