-- What stands after a pair in the pair order.
use Rattle.std.proofs.Common.{◌≡◌, ◌∙◌, ℕ, zero, suc, ◌+◌, ◌-◌, ◌<◌, Bool, true, cond, List, [], ◌∷◌, ◌++◌, map, length, Some, ap, sym, refl, arith, subst, append_assoc}
use Rattle.std.specs.Prelude.{slice_get, drop}
use Rattle.std.specs.List.{range_with_len, filter, flat_map}
use Rattle.std.proofs.lemmas.List.{map-append}
use Rattle.std.proofs.lemmas.List.Concat.{flat_map-append}
use Rattle.std.proofs.lemmas.List.Elements.{filter-append}
use Rattle.list_laws.proofs.Filters.{filter-map, filter-flat_map}
use Rattle.boundary.specs.declared.pairs.Pair.{Pair}
use Rattle.boundary.specs.declared.pairs.PairKind.{PairKind}
use Rattle.boundary.specs.declared.pairs.PairKind.TheVariants.{VE, VT, EE, ET}
use Rattle.boundary.specs.Calls.PairWalk.{pairs_after, row_from, rows_from}
use Rattle.boundary.specs.Pairs.{IsPair, counts, first_parts, kinds, pair_of, pairs_of, pairs_of_kind, rank, second_parts}
use Rattle.boundary.specs.Surface.{SurfaceLists}

-- all is some list, then x, then the rest
pub record Splits {A : Type 0} (all : List A) (x : A) (rest : List A) : Type 0 where
  pub before : List A
  pub is : all ≡ before ++ x ∷ rest

prefixed : {A : Type 0} (front all : List A) (x : A) (rest : List A) → Splits all x rest → Splits (front ++ all) x rest
prefixed front all x rest s = record {
  before = front ++ s.before;
  is = ap (λ l. front ++ l) s.is ∙ sym (append_assoc front s.before (x ∷ rest));
}

followed : {A : Type 0} (all : List A) (x : A) (rest more : List A) → Splits all x rest → Splits (all ++ more) x (rest ++ more)
followed all x rest more s = record {
  before = s.before;
  is = ap (λ l. l ++ more) s.is ∙ append_assoc s.before (x ∷ rest) more;
}

-- lists joined split where one of them does
joined : {X A : Type 0} (f : X → List A) (front : List X) (i : X) (back : List X) (x : A) (rest : List A) → Splits (f i) x rest → Splits (flat_map f (front ++ i ∷ back)) x (rest ++ flat_map f back)
joined f front i back x rest s =
    subst (λ l. Splits l x (rest ++ flat_map f back)) (sym (flat_map-append f front (i ∷ back)))
    (prefixed (flat_map f front) (f i ++ flat_map f back) x (rest ++ flat_map f back) (followed (f i) x rest (flat_map f back) s))

-- the numbers below n are those below k, k, and those above it
range_split : (a n k : ℕ) → k < n → range_with_len a n ≡ range_with_len a k ++ (a + k) ∷ range_with_len (a + k + 1) (n - (k + 1))
range_split a zero k h = absurd (omega arith)
range_split a (suc n) zero h =
    let e : a ≡ a + 0 = omega arith in
    let f : n ≡ suc n - (0 + 1) = omega arith in
    λ i. e i ∷ range_with_len (e i + 1) (f i)
range_split a (suc n) (suc k) h =
    let e : a + 1 + k ≡ a + suc k = omega arith in
    let f : n - (k + 1) ≡ suc n - (suc k + 1) = omega arith in
    ap (λ l. a ∷ l) (range_split (a + 1) n k (omega arith) ∙ (λ i. range_with_len (a + 1) k ++ e i ∷ range_with_len (e i + 1) (f i)))

-- the numbers below n split at each
below_split : (n k : ℕ) → k < n → range_with_len 0 (n - 0) ≡ range_with_len 0 k ++ k ∷ range_with_len (k + 1) (n - (k + 1))
below_split n k h =
    let e : n - 0 ≡ n = omega arith in
    let f : 0 + k ≡ k = omega arith in
    ap (range_with_len 0) e ∙ range_split 0 n k h ∙ (λ i. range_with_len 0 k ++ f i ∷ range_with_len (f i + 1) (n - (k + 1)))

-- a row splits at each of its pairs
row_splits : (s : SurfaceLists) (kind : PairKind) (a b : ℕ) → b < length (second_parts s kind) → counts s (pair_of kind a b) ≡ true → Splits (row_from s kind a 0) (pair_of kind a b) (row_from s kind a (b + 1))
row_splits s kind a b l c =
    let n = length (second_parts s kind) in
    let test : ℕ → Bool = λ k. counts s (pair_of kind a k) in
    let rest = range_with_len (b + 1) (n - (b + 1)) in
    record {
      before = map (pair_of kind a) (filter test (range_with_len 0 b));
      is =
          ap (λ r. map (pair_of kind a) (filter test r)) (below_split n b l)
          ∙ ap (map (pair_of kind a)) (filter-append test (range_with_len 0 b) (b ∷ rest))
          ∙ map-append (pair_of kind a) (filter test (range_with_len 0 b)) (filter test (b ∷ rest))
          ∙ ap (λ t. map (pair_of kind a) (filter test (range_with_len 0 b)) ++ map (pair_of kind a) (cond t (b ∷ filter test rest) (filter test rest))) c;
    }

-- the rows of a kind are its pairs
pub rows_of_kind : (s : SurfaceLists) (kind : PairKind) → pairs_of_kind s kind ≡ rows_from s kind 0
rows_of_kind s kind =
    let m = length (first_parts s kind) in
    let n = length (second_parts s kind) in
    let em : m ≡ m - 0 = omega arith in
    let en : n ≡ n - 0 = omega arith in
    filter-flat_map (counts s) (λ a. map (pair_of kind a) (range_with_len 0 n)) (range_with_len 0 m)
    ∙ (λ i. flat_map (λ a. filter-map (counts s) (pair_of kind a) (range_with_len 0 n) i) (range_with_len 0 m))
    ∙ (λ i. flat_map (λ a. map (pair_of kind a) (filter (λ b. counts s (pair_of kind a b)) (range_with_len 0 (en i)))) (range_with_len 0 (em i)))

-- the pairs of a kind split at each
kind_splits : (s : SurfaceLists) (p : Pair) → IsPair s p → Splits (pairs_of_kind s p.kind) p (row_from s p.kind p.a (p.b + 1) ++ rows_from s p.kind (p.a + 1))
kind_splits s p h =
    let m = length (first_parts s p.kind) in
    let row : ℕ → List Pair = λ a. row_from s p.kind a 0 in
    let rest = row_from s p.kind p.a (p.b + 1) in
    subst (λ l. Splits l p (rest ++ rows_from s p.kind (p.a + 1)))
    (sym (rows_of_kind s p.kind ∙ ap (flat_map row) (below_split m p.a h.first)))
    (joined row (range_with_len 0 p.a) p.a (range_with_len (p.a + 1) (m - (p.a + 1))) p rest (row_splits s p.kind p.a p.b h.second h.counts_there))

-- the kinds split at each
at_kind : (f : PairKind → List Pair) (kind : PairKind) (p : Pair) (rest : List Pair) → Splits (f kind) p rest → Splits (flat_map f kinds) p (rest ++ flat_map f (drop (rank kind + 1) kinds))
at_kind f VE p rest s = joined f [] VE (VT ∷ EE ∷ ET ∷ []) p rest s
at_kind f VT p rest s = joined f (VE ∷ []) VT (EE ∷ ET ∷ []) p rest s
at_kind f EE p rest s = joined f (VE ∷ VT ∷ []) EE (ET ∷ []) p rest s
at_kind f ET p rest s = joined f (VE ∷ VT ∷ EE ∷ []) ET [] p rest s

-- the pair order splits at each pair
pub stands : (s : SurfaceLists) (p : Pair) → IsPair s p → Splits (pairs_of s) p (pairs_after s p)
stands s p h =
    let rest = row_from s p.kind p.a (p.b + 1) in
    let rows = rows_from s p.kind (p.a + 1) in
    let later = flat_map (pairs_of_kind s) (drop (rank p.kind + 1) kinds) in
    subst (Splits (pairs_of s) p) (append_assoc rest rows later)
    (at_kind (pairs_of_kind s) p.kind p (rest ++ rows) (kind_splits s p h))

-- where a list splits at x, x stands, and then the rest
pub place_of_split : {A : Type 0} (before : List A) (x : A) (rest : List A) → slice_get (before ++ x ∷ rest) (length before) ≡ Some x
place_of_split [] x rest = refl
place_of_split (y ∷ ys) x rest = place_of_split ys x rest

pub next_of_split : {A : Type 0} (before : List A) (x : A) (rest : List A) → slice_get (before ++ x ∷ rest) (length before + 1) ≡ slice_get rest 0
next_of_split [] x rest = refl
next_of_split (y ∷ ys) x rest =
    let e : suc (length ys) + 1 ≡ suc (length ys + 1) = omega arith in
    ap (slice_get (y ∷ ys ++ x ∷ rest)) e ∙ next_of_split ys x rest
