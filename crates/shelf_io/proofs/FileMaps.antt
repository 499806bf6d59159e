-- Files by their names, as a finite map.
use Rattle.std.proofs.Common.{◌≡◌, List, ℕ, refl, ap, sym, ◌∙◌, Option, Some, Bool, true, false, cond}
use Rattle.std.specs.Ordering.{nat_cmp, eq_by_cmp, is_eq}
use Rattle.std.specs.declared.cmp.Ordering.TheVariants.{Less, Equal, Greater}
use Rattle.std.specs.Cmp.{eq_by_cmp_equiv}
use Rattle.std.specs.Cmp.Lexicographic.{slice_cmp, nat_list_cmp_total}
use Rattle.std.specs.FinMap.{IsAntisymmetric, get, insert, get-insert, same_map, slice_cmp-IsAntisymmetric, nat_cmp-IsAntisymmetric}
use Rattle.shelf_io.specs.Shelf.{Files}

-- names that compare as equal are equal
pub exact_names : IsAntisymmetric (slice_cmp nat_cmp)
exact_names = slice_cmp-IsAntisymmetric nat_cmp-IsAntisymmetric

pub same_name : (k : List ℕ) → eq_by_cmp (slice_cmp nat_cmp) k k ≡ true
same_name k = (eq_by_cmp_equiv nat_list_cmp_total).refl k

-- the file that was set
pub get_new : (fs : Files) (k v : List ℕ) → get (insert fs k v) k ≡ Some v
get_new fs k v = get-insert nat_list_cmp_total fs k v k ∙ ap (λ b. cond b (Some v) (get fs k)) (same_name k)

-- a name that ties is the same
pub tied : (a b : List ℕ) → eq_by_cmp (slice_cmp nat_cmp) a b ≡ true → a ≡ b
tied a b e = elim (slice_cmp nat_cmp a b) as (λ r. slice_cmp nat_cmp a b ≡ r → is_eq r ≡ true → a ≡ b) [
  | Less ↦ λ _ h. cc
  | Equal ↦ λ p _. exact_names a b p
  | Greater ↦ λ _ h. cc
] refl e

twice : (b : Bool) (v w : List ℕ) (o : Option (List ℕ)) → cond b (Some w) (cond b (Some v) o) ≡ cond b (Some w) o
twice true v w o = refl
twice false v w o = refl

-- the later of two writes to one file counts
pub insert_twice : (fs : Files) (k v w : List ℕ) → insert (insert fs k v) k w ≡ insert fs k w
insert_twice fs k v w = same_map nat_list_cmp_total exact_names _ _ (λ q.
    get-insert nat_list_cmp_total (insert fs k v) k w q
    ∙ ap (cond (eq_by_cmp (slice_cmp nat_cmp) q k) (Some w)) (get-insert nat_list_cmp_total fs k v q)
    ∙ twice (eq_by_cmp (slice_cmp nat_cmp) q k) v w (get fs q)
    ∙ sym (get-insert nat_list_cmp_total fs k w q))

cond_same : (b : Bool) (o p : Option (List ℕ)) → (b ≡ true → o ≡ p) → cond b o p ≡ p
cond_same true o p same = same refl
cond_same false o p same = refl

-- a file set to what it holds
pub insert_same : (fs : Files) (k v : List ℕ) → get fs k ≡ Some v → insert fs k v ≡ fs
insert_same fs k v is = same_map nat_list_cmp_total exact_names _ _ (λ q.
    get-insert nat_list_cmp_total fs k v q
    ∙ cond_same (eq_by_cmp (slice_cmp nat_cmp) q k) (Some v) (get fs q) (λ tie. sym is ∙ ap (get fs) (sym (tied q k tie))))

-- a name that differs doesn't tie
other_name : (a b : List ℕ) → (a ≡ b → ⊥) → eq_by_cmp (slice_cmp nat_cmp) a b ≡ false
other_name a b ne =
    elim (slice_cmp nat_cmp a b) as (λ r. slice_cmp nat_cmp a b ≡ r → is_eq r ≡ false) [
      | Less ↦ λ _. refl
      | Equal ↦ λ e. absurd (ne (exact_names a b e))
      | Greater ↦ λ _. refl
    ] refl

pub get_other : (fs : Files) (k v q : List ℕ) → (q ≡ k → ⊥) → get (insert fs k v) q ≡ get fs q
get_other fs k v q ne = get-insert nat_list_cmp_total fs k v q ∙ ap (λ b. cond b (Some v) (get fs q)) (other_name q k ne)

crossed : (a b : Bool) (v w : List ℕ) (o : Option (List ℕ)) → (a ≡ true → b ≡ true → ⊥) → cond a (Some v) (cond b (Some w) o) ≡ cond b (Some w) (cond a (Some v) o)
crossed true true v w o apart = absurd (apart refl refl)
crossed true false v w o apart = refl
crossed false b v w o apart = refl

-- two changes at different names, in either order
pub insert_crossed : (fs : Files) (k v l w : List ℕ) → (k ≡ l → ⊥) → insert (insert fs k v) l w ≡ insert (insert fs l w) k v
insert_crossed fs k v l w ne = same_map nat_list_cmp_total exact_names _ _ (λ q.
    get-insert nat_list_cmp_total (insert fs k v) l w q
    ∙ ap (cond (eq_by_cmp (slice_cmp nat_cmp) q l) (Some w)) (get-insert nat_list_cmp_total fs k v q)
    ∙ crossed (eq_by_cmp (slice_cmp nat_cmp) q l) (eq_by_cmp (slice_cmp nat_cmp) q k) w v (get fs q) (λ a b. ne (sym (tied q k b) ∙ tied q l a))
    ∙ sym (get-insert nat_list_cmp_total (insert fs l w) k v q ∙ ap (cond (eq_by_cmp (slice_cmp nat_cmp) q k) (Some v)) (get-insert nat_list_cmp_total fs l w q)))
