-- What is found among the entries with some keys, key by key.
use Rattle.std.proofs.Common.{◌≡◌, ℕ, ◌+◌, ◌<◌, zero, suc, List, [], ◌∷◌, ◌++◌, length, get_or, map, take, sym, subst, arith, inl, inr}
use Rattle.std.specs.Prelude.{IsTrue, filter}
use Rattle.std.specs.List.{Contains}
use Rattle.std.proofs.lemmas.List.{take_more}
use Rattle.std.proofs.lemmas.List.Elements.{Contains-append_cases, Contains-append_left, Contains-append_right}
use Rattle.list_laws.proofs.Membership.{Contains-filter, Contains-from_filter, Contains-from_map, Contains-map, Contains-nil}
use Rattle.box_grid.specs.declared.entries.Entry.{Entry}
use Rattle.box_grid.specs.declared.search.Query.{Query}
use Rattle.box_grid.specs.Calls.Buckets.{HasKeys, IsPart, IsSought}
use Rattle.box_grid.specs.Calls.Cells.{bound_of, entry_item, entry_key, is_below}
use Rattle.box_grid.proofs.EntriesOfBoxes.{below_is_sought}

-- no key
pub HasKeys_none : (query : Query) (entries : List Entry) (old : List ℕ) → HasKeys query entries [] old old
HasKeys_none query entries old = record {
  kept = λ x h. h;
  has = λ e there key t. absurd (Contains-nil (entry_key e) key);
  only = λ x h. inl h;
}

-- no entry
pub HasKeys_empty : (query : Query) (entries : List Entry) (keys old : List ℕ) → length entries ≡ 0 → HasKeys query entries keys old old
HasKeys_empty query entries keys old none = record {
  kept = λ x h. h;
  has = λ e there key t. absurd (omega (arith, there.1, none));
  only = λ x h. inl h;
}

-- the positions of a part below a bound
abbrev pub items_below : Entry → List Entry → List ℕ
items_below bound part = map entry_item (filter (is_below bound) part)

-- one key more
pub HasKeys_more : (query : Query) (entries part : List Entry) (keys : List ℕ) (i d : ℕ) (old found new : List ℕ) → i < length keys → HasKeys query entries (take i keys) old found → IsPart entries (get_or keys i d) part → new ≡ found ++ items_below (bound_of query (get_or keys i d)) part → HasKeys query entries (take (i + 1) keys) old new
HasKeys_more query entries part keys i d old found new l h of_key is = record {
  kept = λ x m. more x (h.kept x m);
  has = λ e there with t.
      elim (Contains-append_cases (take i keys) (key ∷ []) (entry_key e) (subst (λ (xs : List ℕ). Contains xs (entry_key e)) (take_more keys i d l) with)) [
        | inl before ↦ more (entry_item e) (h.has e there before t)
        | inr last ↦
            let same = one_of (entry_key e) key last in
            subst (λ (xs : List ℕ). Contains xs (entry_item e)) (sym is)
            (Contains-append_right found (items_below bound part) (entry_item e)
            (Contains-map entry_item (filter (is_below bound) part) e
            (Contains-filter (is_below bound) part e (subst (λ k. IsTrue (is_below (bound_of query k) e)) same t) (of_key.has e there same))))
      ];
  only = λ x m.
      elim (Contains-append_cases found (items_below bound part) x (subst (λ (xs : List ℕ). Contains xs x) is m)) [
        | inl before ↦ h.only x before
        | inr last ↦ inr (sought x (Contains-from_map entry_item (filter (is_below bound) part) x last))
      ];
}
  where
    key : ℕ
    key = get_or keys i d

    bound : Entry
    bound = bound_of query key

    more : (x : ℕ) → Contains found x → Contains new x
    more x m = subst (λ (xs : List ℕ). Contains xs x) (sym is) (Contains-append_left found (items_below bound part) x m)

    sought : (x : ℕ) → (e : Entry) × Contains (filter (is_below bound) part) e × (entry_item e ≡ x) → IsSought query entries x
    sought x (e, there, same) =
        let r = Contains-from_filter (is_below bound) part e there in
        record { of = e; there = of_key.only e r.0; sought = below_is_sought query key e r.1; item = same }

    one_of : (x y : ℕ) → Contains (y ∷ []) x → x ≡ y
    one_of x y (zero, m, e) = sym e
    one_of x y (suc k, m, e) = absurd (omega arith)
