-- Sums of pulls, one for each node.
use Rattle.std.specs.Prelude.{ℕ, ℤ, ◌+ℤ◌, Bool, List, map, zip, slice_set, slice_index_or, All, if◌then◌else◌}
use Rattle.std.specs.List.{fold, range_with_len}
use Rattle.space3.specs.declared.vectors.V3.{V3}
use Rattle.space3.specs.declared.vectors.W3.{W3}
use Rattle.space3.specs.Vectors.{Within, origin}
use Rattle.space3.specs.Wide.{unbounded}
use Rattle.vec_q.specs.Rows.{components}
use Rattle.potential_sum.specs.declared.pulls.Pull.{Pull}
use Rattle.potential_sum.specs.Contributions.{Contribution, pull_at, vector_total}

-- a vector as one of long components
abbrev pub wide : V3 → W3
wide v = record { x = v.x; y = v.y; z = v.z }

abbrev pub nothing : W3
nothing = wide origin

abbrev pub wide_sum : W3 → W3 → W3
wide_sum a b = record { x = a.x +ℤ b.x; y = a.y +ℤ b.y; z = a.z +ℤ b.z }

-- the sums, after each of these pulls was added at its node
abbrev pub with_pulls : List W3 → List Pull → List W3
with_pulls sums pulls =
    fold (λ now pull. slice_set now pull.node (wide_sum (slice_index_or now pull.node nothing) pull.force)) sums pulls

-- the pulls of a contribution, each with its node
abbrev pub as_pull : ℕ × V3 → Pull
as_pull pull = record { node = pull.0; force = wide pull.1 }

abbrev pub pulls_of : Contribution → List Pull
pulls_of part = map as_pull (zip part.nodes part.pulls)

-- the sums, after all pulls of these contributions were added
abbrev pub with_parts : List W3 → List Contribution → List W3
with_parts sums parts = fold (λ now part. with_pulls now (pulls_of part)) sums parts

-- what these contributions add up to at each of so many nodes
abbrev pub node_sums : (nodes : ℕ) → List Contribution → List W3
node_sums nodes parts =
    map (λ node. wide (vector_total (map (pull_at node) parts))) (range_with_len 0 nodes)

-- the three numbers of a node from its sum, 0 where it is fixed
abbrev pub numbers_of : Bool → W3 → List ℤ
numbers_of fixed sum = components (if fixed then origin else unbounded sum)

-- each component of each sum is at most so much in absolute value
abbrev pub AreLight : ℕ → List W3 → Type 0
AreLight most sums = All (λ sum. Within most (unbounded sum)) sums
