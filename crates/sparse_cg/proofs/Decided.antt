-- Whether a matrix and a gradient have a Newton direction is decided.
use Rattle.std.proofs.Common.{◌≡◌, ℕ, zero, suc, ◌+◌, ◌*◌, ◌<◌, ◌^◌, ℤ, pos, ◌<ℤ◌, unsigned_abs, List, get_or, map, sum, ◌⊎◌, inl, inr, refl, le_refl}
use Rattle.std.proofs.Math.Decide.{dec_le, dec_lt}
use Rattle.list_laws.proofs.Decisions.{dec_All, dec_along, dec_lt_ℤ, least_or_none}
use Rattle.num_q.specs.Rounding.{cut_of}
use Rattle.num_q.proofs.Bounds.{cut_below}
use Rattle.space3.specs.declared.vectors.V3.{V3}
use Rattle.block_rows.specs.Tables.{Table}
use Rattle.sparse_cg.specs.Directions.{IsNewton, direction_of}
use Rattle.sparse_cg.specs.Systems.{FitAt, IsShift, System, system_of}
use Rattle.sparse_cg.specs.Turns.{IsClose, Numbers, curvature, start, turned}
use Rattle.sparse_cg.specs.Calls.Ends.{Ends}
use Rattle.sparse_cg.proofs.Endings.{bends_where, ends_here, ends_later, further_where, none_left, remains_where}
use Rattle.sparse_cg.proofs.OneDirection.{newton_from_search, same_as_found, search_from_newton}

-- ---- the shift
dec_FitAt : (slopes : List ℤ) (shift : ℕ) → Dec (FitAt slopes shift)
dec_FitAt slopes shift =
    dec_All (λ slope. unsigned_abs (cut_of 100 slope) < 2 ^ (40 + shift)) (λ slope. dec_lt (unsigned_abs (cut_of 100 slope)) (2 ^ (40 + shift))) slopes

-- slopes of 100 bits fit with 60 bits less
sixty_fit : (slopes : List ℤ) → FitAt slopes 60
sixty_fit slopes k d l = cut_below 100 (get_or slopes k d)

-- there is a shift
pub some_shift : (slopes : List ℤ) → (shift : ℕ) × IsShift slopes shift
some_shift slopes =
    elim (least_or_none (FitAt slopes) (dec_FitAt slopes) 60) [
      | inl found ↦ (found.0, record { fits = found.2.holds; least = found.2.least })
      | inr none ↦ absurd (none 60 (le_refl 60) (sixty_fit slopes))
    ]

-- ---- the search
dec_IsClose : (system : System) (n : Numbers) → Dec (IsClose system n)
dec_IsClose system n =
    dec_along (dec_le (4 * sum (map unsigned_abs n.r)) (sum (map unsigned_abs system.target))) (λ h. record { quarter = h }) (λ h. h.quarter)

-- some direction at which the turns from these numbers on end, or none
abbrev EndsOrNot : System → ℕ → Numbers → Type 0
EndsOrNot system turns n = ((direction : List V3) × Ends system turns n direction) ⊎ ((direction : List V3) → ¬ Ends system turns n direction)

-- where there is a turn more
after_turn : (system : System) (turns : ℕ) (n : Numbers) → pos 0 <ℤ curvature system n → pos 0 <ℤ n.rho → EndsOrNot system turns (turned system n) → EndsOrNot system (suc turns) n
after_turn system turns n bends remains rest =
    elim (dec_IsClose system (turned system n)) [
      | yes close ↦ let direction = direction_of system.nodes (turned system n).x in inl (direction, ends_here system direction turns n bends remains close refl)
      | no far ↦ elim rest [
        | inl found ↦ inl (found.0, ends_later system found.0 turns n bends remains far found.1)
        | inr none ↦ inr (λ direction h. none direction (further_where system direction turns n far h))
      ]
    ]

search_or_none : (system : System) (turns : ℕ) (n : Numbers) → EndsOrNot system turns n
search_or_none system zero n = inr (λ direction. none_left system direction n)
search_or_none system (suc turns) n =
    elim (dec_lt_ℤ (pos 0) (curvature system n)) [
      | no straight ↦ inr (λ direction h. straight (bends_where system direction turns n h))
      | yes bends ↦ elim (dec_lt_ℤ (pos 0) n.rho) [
        | no nothing ↦ inr (λ direction h. nothing (remains_where system direction turns n h))
        | yes remains ↦ after_turn system turns n bends remains (search_or_none system turns (turned system n))
      ]
    ]

-- ---- the direction
-- there is a Newton direction, or there is none
pub newton_or_none : (nodes : ℕ) (table : Table) (slopes : List ℤ) → ((direction : List V3) × IsNewton nodes table slopes direction) ⊎ ((direction : List V3) → ¬ IsNewton nodes table slopes direction)
newton_or_none nodes table slopes =
    let shift = some_shift slopes in
    let system = system_of nodes table slopes shift.0 in
    elim (search_or_none system 200 (start system)) [
      | inl found ↦ inl (found.0, newton_from_search nodes table slopes shift.0 shift.1 system refl found.0 found.1)
      | inr none ↦ inr (λ direction h. none direction (search_from_newton nodes table slopes shift.0 shift.1 system refl direction h))
    ]

-- and two are the same
pub one_newton_direction : (nodes : ℕ) (table : Table) (slopes : List ℤ) (a b : List V3) → IsNewton nodes table slopes a → IsNewton nodes table slopes b → a ≡ b
one_newton_direction nodes table slopes a b h k =
    let system = system_of nodes table slopes k.shift in
    same_as_found nodes table slopes k.shift k.is_shift system refl a b h (search_from_newton nodes table slopes k.shift k.is_shift system refl b k)
