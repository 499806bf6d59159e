-- What files hold after a write.
use Rattle.std.proofs.Common.{◌≡◌, ◌+◌, ◌-◌, ℕ, List, [], ◌++◌, length, take, drop, refl, ap, subst, ◌∙◌, Option, Some, None, IsSome, IfSome, append-nil}
use Rattle.std.specs.Option.{option_map_or}
use Rattle.shelf_io.specs.Shelf.{Files, with_file, lengthened, with_added, IsIfTold}
use Rattle.std.specs.FinMap.{get, insert}
use Rattle.shelf_io.proofs.FileMaps.{get_new, insert_twice, insert_same}
use Rattle.shelf_io.proofs.Pieces.{front_more}

-- bytes added at the end of a file that is there
pub added_there : (fs : Files) (k v w : List ℕ) → get fs k ≡ Some v → lengthened k w fs ≡ insert fs k (v ++ w)
added_there fs k v w is = ap (λ o. option_map_or (λ had. insert fs k (had ++ w)) o fs) is

-- bytes added at the end of a file that was just set
added_to_new : (fs : Files) (k v w : List ℕ) → lengthened k w (insert fs k v) ≡ insert fs k (v ++ w)
added_to_new fs k v w = added_there (insert fs k v) k v w (get_new fs k v) ∙ insert_twice fs k v (v ++ w)

none_added : (making : Option (List ℕ)) (w : List ℕ) → with_added making w None ≡ None
none_added None w = refl
none_added (Some k) w = refl

-- the file being made has the first i bytes, and then k more
pub made_more : (old mid : Option Files) (name bytes : List ℕ) (making : Option (List ℕ)) (i k : ℕ)
    → (IsSome old → making ≡ Some name) → mid ≡ with_file name (take i bytes) old
    → with_added making (take k (take (length bytes - i) (drop i bytes))) mid ≡ with_file name (take (i + k) bytes) old
made_more None mid name bytes making i k told is = ap (with_added making _) is ∙ none_added making _
made_more (Some fs) mid name bytes making i k told is =
    ap (λ m. with_added m (take k (take (length bytes - i) (drop i bytes))) mid) (told refl)
    ∙ ap (with_added (Some name) (take k (take (length bytes - i) (drop i bytes)))) is
    ∙ ap Some (added_to_new fs name (take i bytes) (take k (take (length bytes - i) (drop i bytes))) ∙ ap (insert fs name) (front_more i k bytes))

-- a name that is told is the one that was told before
pub told_name : (failed told : Option (List ℕ)) (name : List ℕ) → IfSome failed (λ n. told ≡ Some n) → IsIfTold told name → IsIfTold failed name
told_name None told name p q = tt
told_name (Some n) told name p q = subst (λ (o : Option (List ℕ)). IsIfTold o name) p q

-- nothing added
nothing_there : (fs : Files) (k : List ℕ) (o : Option (List ℕ)) → get fs k ≡ o → option_map_or (λ had. insert fs k (had ++ [])) o fs ≡ fs
nothing_there fs k None is = refl
nothing_there fs k (Some v) is = ap (insert fs k) (append-nil v) ∙ insert_same fs k v is

pub nothing_added : (making : Option (List ℕ)) (fs : Files) → with_added making [] (Some fs) ≡ Some fs
nothing_added None fs = refl
nothing_added (Some k) fs = ap Some (nothing_there fs k (get fs k) refl)
