-- The front of a file, as far as it was read.
use Rattle.std.proofs.Common.{◌≡◌, ℕ, List, ◌++◌, length, Option, Some, None, IfSome, true, false}
use Rattle.std.specs.FinMap.{get}
use Rattle.shelf_io.specs.Shelf.{ShelfState, Files, IsIfTold}

-- what was read of a file and what is unread are the file
pub record IsCut (name bytes : List ℕ) (told : Option (List ℕ)) (fs : Files) : Type 0 where
  pub rest : List ℕ
  pub unread : told ≡ Some rest
  pub whole : get fs name ≡ Some (bytes ++ rest)

-- these bytes of a file were read, and nothing failed
pub record FrontRead (name bytes : List ℕ) (old now : ShelfState) : Type 0 where
  pub reading : now.reading ≡ true
  pub files : now.files ≡ old.files
  pub taken : now.taken ≡ length bytes
  pub writing : now.writing ≡ false
  pub making : now.making ≡ None
  pub opened : IsIfTold now.opened name
  pub cut : IfSome old.files (λ fs. IsCut name bytes now.unread fs)
  pub failed : now.failed ≡ old.failed
  pub read_faults : now.read_faults ≡ old.read_faults
  pub write_faults : now.write_faults ≡ old.write_faults
