-- A gradient of two nodes.
use Rattle.std.specs.Prelude.{ℤ, pos, neg_ℤ, List, [], ◌∷◌}
use Rattle.block_rows.specs.Example.{two_nodes}
use Rattle.sparse_cg.specs.Systems.{System, system_of}

abbrev pub slopes_of_two : List ℤ
slopes_of_two = pos 100000 ∷ neg_ℤ (pos 200000) ∷ pos 300000 ∷ neg_ℤ (pos 50000) ∷ pos 700000 ∷ pos 12345 ∷ []

abbrev pub system_of_two : System
system_of_two = system_of 2 two_nodes slopes_of_two 0
