-- Files that a plan is for: the told ones, or those with the one file that was taken.
use Rattle.std.proofs.Common.{◌≡◌, ◌<◌, ℕ, zero, suc, refl, subst, List, [], ◌∷◌, length, Option, Some, None, IfSome, arith, lit<}
use Rattle.std.specs.Ordering.{nat_cmp}
use Rattle.std.specs.Cmp.Lexicographic.{slice_cmp}
use Rattle.std.specs.FinMap.{get, insert, empty, get-empty}
use Rattle.shelf_io.specs.Shelf.{Files, IsIfTold}
use Rattle.shelf_io.proofs.FileMaps.{get_new}
use Rattle.ipc_top.specs.Acts.{Take, told_after, World, Did}

-- the told files, or those with this file alone, if it is there
pub files_with : (told : Option Files) (name : List ℕ) → Option (List ℕ) → Files
files_with (Some files) name file = files
files_with None name None = empty
files_with None name (Some bytes) = insert empty name bytes

pub files_with-told : (told : Option Files) (name : List ℕ) (file : Option (List ℕ)) → IsIfTold told (files_with told name file)
unfolding files_with
files_with-told (Some files) name file = refl
files_with-told None name None = tt
files_with-told None name (Some bytes) = tt

-- the file is there, or isn't
pub file_with : (told : Option Files) (name : List ℕ) (file : Option (List ℕ)) → IfSome told (λ files. get files name ≡ file) → get (files_with told name file) name ≡ file
unfolding files_with
file_with (Some files) name file h = h
file_with None name None h = get-empty (slice_cmp nat_cmp) name
file_with None name (Some bytes) h = get_new empty name bytes

-- a file as it is told, or this one
pub file_or : Option Files → (name : List ℕ) → Option (List ℕ) → Option (List ℕ)
file_or (Some files) name other = get files name
file_or None name other = other

pub file_or-told : (told : Option Files) (name : List ℕ) (other : Option (List ℕ)) → IfSome told (λ files. get files name ≡ file_or told name other)
unfolding file_or
file_or-told (Some files) name other = refl
file_or-told None name other = tt

-- a text that is longer than a number
pub longer_than : (n : ℕ) → (bytes : List ℕ) × (n < length bytes)
longer_than zero = (0 ∷ [], lit< tt)
longer_than (suc n) = let rest = longer_than n in (0 ∷ rest.0, omega (arith, rest.1))

-- the taking of a file leaves the files as they are
same_before : (old mid : Option Files) (name : List ℕ) (files : Files) → mid ≡ told_after (Take name ∷ []) old → IsIfTold mid files → IsIfTold old files
same_before None mid name files e h = tt
same_before (Some fs) mid name files e h = subst (λ (o : Option Files). IsIfTold o files) e h

pub told_before : {old mid : World} (name : List ℕ) (files : Files) → Did (Take name ∷ []) old mid → IsIfTold mid.shelf.files files → IsIfTold old.shelf.files files
told_before {old} {mid} name files did h = same_before old.shelf.files mid.shelf.files name files did.files h
