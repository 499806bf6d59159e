-- There is one Newton direction at most: that of the search.
use Rattle.std.proofs.Common.{◌≡◌, ℕ, ℤ, List, sym, subst}
use Rattle.space3.specs.declared.vectors.V3.{V3}
use Rattle.block_rows.specs.Tables.{Table}
use Rattle.block_rows.proofs.AddedEntries.{by_order}
use Rattle.sparse_cg.specs.declared.state.State.{State}
use Rattle.sparse_cg.specs.Directions.{IsEndOf, IsNewton}
use Rattle.sparse_cg.specs.Systems.{IsShift, System, system_of}
use Rattle.sparse_cg.specs.Turns.{start}
use Rattle.sparse_cg.specs.Calls.Ends.{Ends}
use Rattle.sparse_cg.specs.Calls.States.{HasRoom, IsState}
use Rattle.sparse_cg.proofs.Endings.{end_from_search, one_end, search_from_end}

one_shift : (slopes : List ℤ) (a b : ℕ) → IsShift slopes a → IsShift slopes b → a ≡ b
one_shift slopes a b h k = by_order a b (λ less. absurd (k.least a less h.fits)) (λ same. same) (λ more. absurd (h.least b more k.fits))

module _ (nodes : ℕ) (table : Table) (slopes : List ℤ) (shift : ℕ) (is_shift : IsShift slopes shift) (system : System) (is : system ≡ system_of nodes table slopes shift) where
  pub newton_from_search : (direction : List V3) → Ends system 200 (start system) direction → IsNewton nodes table slopes direction
  newton_from_search direction h = record { shift = shift; is_shift = is_shift; is_end = subst (λ (s : System). IsEndOf s direction) is (end_from_search system direction h) }

  pub search_from_newton : (direction : List V3) → IsNewton nodes table slopes direction → Ends system 200 (start system) direction
  search_from_newton direction h =
      let same = one_shift slopes h.shift shift h.is_shift is_shift in
      search_from_end system direction (subst (λ (s : System). IsEndOf s direction) (sym is) (subst (λ (k : ℕ). IsEndOf (system_of nodes table slopes k) direction) same h.is_end))

  pub same_as_found : (direction found : List V3) → IsNewton nodes table slopes direction → Ends system 200 (start system) found → direction ≡ found
  same_as_found direction found h k = one_end system 200 (start system) direction found (search_from_newton direction h) k

pub room_of : (nodes : ℕ) (state : State) → IsState nodes state → HasRoom nodes state
room_of nodes state h = record { x = h.x.three; r = h.r.three; p = h.p.three; scratch = h.scratch; product = h.product }
