-- What a file is taken for.
use Rattle.shelf_io.specs.Shelf.{Files}

-- a file is a scene, or a mesh
pub data Role : Type 0 where
  Scene : Role
  Mesh : Role

-- the files that were seen, by what they were taken for
abbrev pub Seen : Type 0
Seen = Role → Files

-- the same files, whatever they are taken for
abbrev pub everywhere : Files → Seen
everywhere files = λ role. files
