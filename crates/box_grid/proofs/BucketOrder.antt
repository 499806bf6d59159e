-- The buckets of keys, and the parts that they are of sorted entries.
use Rattle.std.proofs.Common.{◌≡◌, ◌∙◌, refl, ℕ, ◌+◌, ◌-◌, ◌*◌, ◌<◌, ◌≤◌, List, ◌∷◌, [], ◌++◌, length, get_or, take, drop, ap, sym, subst, arith, inl, inr}
use Rattle.std.specs.List.{All, Contains}
use Rattle.std.specs.List.Sorted.{IsNonDecreasingBy}
use Rattle.std.proofs.Math.Nat.{mul-le-mul_right}
use Rattle.std.proofs.lemmas.Bool.{cases_lt}
use Rattle.std.proofs.lemmas.List.{get_or-drop, get_or-take, get_or_append_left, get_or_push, length-drop, length-take}
use Rattle.std.proofs.lemmas.List.Elements.{All-contains, All-contains_itself, All-drop, All-take}
use Rattle.box_grid.specs.declared.entries.Entry.{Entry}
use Rattle.box_grid.specs.declared.limits.TheConstants.{MOST_BUCKETS}
use Rattle.box_grid.specs.Calls.Buckets.{IsPart, IsPartedAt, IsParted, bucket_of}
use Rattle.box_grid.specs.Calls.Cells.{entry_key}
use Rattle.box_grid.proofs.Divisions.{div_keeps_order}

pub bucket_keeps_order : (count a b : ℕ) → a ≤ b → bucket_of count a ≤ bucket_of count b
unfolding bucket_of
bucket_keeps_order count a b l = div_keeps_order (a * count) (b * count) 4294967296 (omega arith) (mul-le-mul_right count l)

-- the first entry of a bucket or of a later one, before which are those of earlier buckets
pub parted_at : (entries : List Entry) (count bucket start : ℕ) → IsNonDecreasingBy entry_key entries → start ≤ length entries → ((k : ℕ) (d : Entry) → k < start → bucket_of count (entry_key (get_or entries k d)) < bucket) → ((d : Entry) → start < length entries → bucket ≤ bucket_of count (entry_key (get_or entries start d))) → IsPartedAt entries count bucket start
parted_at entries count bucket start sorted within before here = record {
  within = within;
  before = before;
  after = λ k d from l.
      omega (arith, here d (omega arith), bucket_keeps_order count (entry_key (get_or entries start d)) (entry_key (get_or entries k d)) (at_least k d from l));
}
  where
    at_least : (k : ℕ) (d : Entry) → start ≤ k → k < length entries → (entry_key (get_or entries start d)) ≤ (entry_key (get_or entries k d))
    at_least k d from l = sorted start k d from l

-- one place more
pub starts_more : (entries : List Entry) (count bucket place : ℕ) (starts more : List ℕ) → length starts ≡ bucket → more ≡ starts ++ place ∷ [] → ((b d : ℕ) → b < bucket → IsPartedAt entries count b (get_or starts b d)) → IsPartedAt entries count bucket place → (b d : ℕ) → b < bucket + 1 → IsPartedAt entries count b (get_or more b d)
starts_more entries count bucket place starts more many is each here b d l =
    elim (cases_lt b bucket) [
      | inl low ↦ subst (IsPartedAt entries count b) (sym (ap (λ xs. get_or xs b d) is ∙ get_or_append_left starts (place ∷ []) d b (omega arith))) (each b d low)
      | inr high ↦
          let same : bucket ≡ b = omega arith in
          subst (λ c. IsPartedAt entries count c (get_or more c d)) same
          (subst (IsPartedAt entries count bucket) (sym (ap (λ xs. get_or xs bucket d) is ∙ get_or_push starts place d bucket many)) here)
    ]

-- the places of all buckets
pub all_parted : (entries : List Entry) (count : ℕ) (starts : List ℕ) → 0 < count → count ≤ MOST_BUCKETS → length starts ≡ count + 1 → ((b d : ℕ) → b < count + 1 → IsPartedAt entries count b (get_or starts b d)) → IsParted entries starts
all_parted entries count starts some few many each =
    let back : count ≡ length starts - 1 = omega arith in
    record {
      some = omega arith;
      few = omega arith;
      each = λ b d l. subst (λ c. IsPartedAt entries c b (get_or starts b d)) back (each b d (omega arith));
    }

-- the places of a bucket and of the next one are in order
pub places_rise : (entries : List Entry) (count bucket start end : ℕ) → IsPartedAt entries count bucket start → IsPartedAt entries count (bucket + 1) end → start ≤ end
places_rise entries count bucket start end a b =
    elim (cases_lt end start) [
      | inl l ↦ absurd (no l)
      | inr h ↦ h
    ]
  where
    no : end < start → ⊥
    no l = some entries refl l
      where
        some : (es : List Entry) → es ≡ entries → end < start → ⊥
        some [] e l = omega (arith, a.within, ap length e, l)
        some (x ∷ xs) e l = omega (arith, a.before end x l, b.after end x (omega arith) (omega (arith, a.within, l)))

-- what stands at a bucket's place
pub place_at : (entries : List Entry) (starts : List ℕ) (count bucket place : ℕ) → IsParted entries starts → count + 1 ≡ length starts → bucket < count + 1 → place ≡ get_or starts bucket place → IsPartedAt entries count bucket place
place_at entries starts count bucket place parted more below at =
    let same : length starts - 1 ≡ count = omega arith in
    subst (λ c. IsPartedAt entries c bucket place) same
    (subst (IsPartedAt entries (length starts - 1) bucket) (sym at) (parted.each bucket place (omega arith)))

-- between the places of a bucket and of the next one are all entries of the bucket
pub part_of : (entries rest part : List Entry) (count key bucket start end : ℕ) → bucket ≡ bucket_of count key → IsPartedAt entries count bucket start → IsPartedAt entries count (bucket + 1) end → start ≤ end → rest ≡ drop start entries → part ≡ take (end - start) rest → IsPart entries key part
part_of entries rest part count key bucket start end value a b rise back is =
    let many = end - start in
    record {
      has = λ e there same. subst (λ (xs : List Entry). Contains xs e) (sym (is ∙ ap (take many) back)) (inside e there same);
      only = λ e.
          All-contains (Contains entries) part e
          (subst (All (Contains entries)) (sym (is ∙ ap (take many) back))
          (All-take (Contains entries) many (drop start entries) (All-drop (Contains entries) start entries (All-contains_itself entries))));
    }
  where
    inside : (e : Entry) → Contains entries e → entry_key e ≡ key → Contains (take (end - start) (drop start entries)) e
    inside e (k, l, at) same =
        let key_at : (entry_key (get_or entries k e)) ≡ key = ap entry_key at ∙ same in
        let bucket_at : bucket_of count (entry_key (get_or entries k e)) ≡ bucket = ap (bucket_of count) key_at ∙ sym value in
        let from : start ≤ k = elim (cases_lt k start) [ inl x ↦ absurd (omega (arith, a.before k e x, bucket_at)) | inr h ↦ h ] in
        let below : k < end = elim (cases_lt k end) [ inl x ↦ x | inr h ↦ absurd (omega (arith, b.after k e h l, bucket_at)) ] in
        let on : start + (k - start) ≡ k = omega arith in
        let there : get_or (drop start entries) (k - start) e ≡ e = get_or-drop start entries (k - start) e ∙ ap (λ m. get_or entries m e) on ∙ at in
        (k - start, omega (arith, length-take (end - start) (drop start entries), length-drop start entries), get_or-take (end - start) (drop start entries) (k - start) e (omega arith) ∙ there)
