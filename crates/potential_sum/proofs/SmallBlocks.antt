-- Entries of the blocks of contributions: each is below 2^86 in absolute value.
use Rattle.std.proofs.Common.{ℕ, ◌^◌, ◌<◌, ℤ, pos, ◌+ℤ◌, ◌*ℤ◌, List, unsigned_abs, lit<}
use Rattle.std.specs.Prelude.{slice_index_or}
use Rattle.num_q.specs.Rounding.{cut_of, floor_of}
use Rattle.num_q.proofs.Bounds.{cut_below}
use Rattle.space3.specs.declared.vectors.V3.{V3}
use Rattle.vec_q.specs.Matrices.{unit_times}
use Rattle.vec_q.specs.Widths.{AreBelow, IsBelow}
use Rattle.nearest.specs.SignedWeights.{signed_sum, signed_weights}
use Rattle.near_pair.specs.declared.near.Near.{Near}
use Rattle.inertia_term.specs.Inertia.{inertia_block}
use Rattle.neo_hooke.specs.Block.{block_at, block_of, column_of, elastic_block, log_slopes, stretch_entry, volume_entry}
use Rattle.neo_hooke.specs.Rest.{RestShape, edge_matrix}
use Rattle.barrier_term.specs.Barrier.{if_active}
use Rattle.barrier_term.specs.Blocks.{barrier_block, entries, lever, stiffness_at}
use Rattle.friction_lag.specs.Contacts.{LaggedContact}
use Rattle.friction_lag.specs.Friction.{drag_of, friction_block, slide_of}

-- a multiple of the unit matrix
unit-small : (k : ℤ) → AreBelow 86 (unit_times (cut_of 86 k))
unit-small k =
    let none : unsigned_abs (pos 0) < 2 ^ 86 = lit< tt in
    let one = cut_below 86 k in
    record {
      first = record { x = one; y = none; z = none };
      second = record { x = none; y = one; z = none };
      third = record { x = none; y = none; z = one };
    }

pub inertia-blocks-small : (mass : ℤ) → AreBelow 86 (inertia_block mass)
inertia-blocks-small mass = unit-small (pos 2 *ℤ mass)

column-small : (stiffness : ℤ) (h : V3) (l : ℤ) (stretch : V3) → IsBelow 86 (column_of stiffness h l stretch)
column-small stiffness h l stretch = record {
  x = cut_below 86 (stretch.x +ℤ volume_entry stiffness h.x l);
  y = cut_below 86 (stretch.y +ℤ volume_entry stiffness h.y l);
  z = cut_below 86 (stretch.z +ℤ volume_entry stiffness h.z l);
}

block-small : (stretch stiffness : ℤ) (h l : V3) → AreBelow 86 (block_of stretch stiffness h l)
block-small stretch stiffness h l =
    let diagonal = unit_times stretch in
    record {
      first = column-small stiffness h l.x diagonal.first;
      second = column-small stiffness h l.y diagonal.second;
      third = column-small stiffness h l.z diagonal.third;
    }

pub elastic-blocks-small : (rest : RestShape) (mu lambda : ℤ) (x : List V3) (i j : ℕ) → AreBelow 86 (elastic_block rest mu lambda x i j)
unfolding block_at
elastic-blocks-small rest mu lambda x i j =
    let edges = edge_matrix x in
    block-small (stretch_entry rest mu i j) (rest.r *ℤ (mu +ℤ lambda)) (log_slopes edges i) (log_slopes edges j)

entries-small : (stiffness : ℤ) (a b : V3) → AreBelow 86 (entries stiffness a b)
entries-small stiffness a b = record { first = of b.x; second = of b.y; third = of b.z }
  where
    of : (c : ℤ) → IsBelow 86 (record { x = cut_of 86 (floor_of (stiffness *ℤ a.x *ℤ c) (pos (2 ^ 22))); y = cut_of 86 (floor_of (stiffness *ℤ a.y *ℤ c) (pos (2 ^ 22))); z = cut_of 86 (floor_of (stiffness *ℤ a.z *ℤ c) (pos (2 ^ 22))) })
    of c = record {
      x = cut_below 86 (floor_of (stiffness *ℤ a.x *ℤ c) (pos (2 ^ 22)));
      y = cut_below 86 (floor_of (stiffness *ℤ a.y *ℤ c) (pos (2 ^ 22)));
      z = cut_below 86 (floor_of (stiffness *ℤ a.z *ℤ c) (pos (2 ^ 22)));
    }

pub barrier-blocks-small : (kappa dhat : ℤ) (near : Near) (split : ℕ) (points : List V3) (i j : ℕ) → AreBelow 86 (barrier_block kappa dhat near split points i j)
barrier-blocks-small kappa dhat near split points i j =
    let signed = signed_weights split near.weights in
    let lever_of = λ (k : ℕ). lever (signed_sum signed points) (slice_index_or signed k (pos 0)) in
    entries-small (if_active dhat near (stiffness_at kappa)) (lever_of i) (lever_of j)

pub friction-blocks-small : (c : LaggedContact) (friction slip : ℤ) (places : List V3) (i j : ℕ) → AreBelow 86 (friction_block c friction slip places i j)
friction-blocks-small c friction slip places i j =
    let weight = λ (k : ℕ). slice_index_or c.signed k (pos 0) in
    unit-small (floor_of (drag_of c friction slip (slide_of c places) *ℤ weight i *ℤ weight j) (pos (2 ^ 48)))
