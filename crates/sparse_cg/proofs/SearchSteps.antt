-- What a turn of the search tells of all directions.
use Rattle.std.proofs.Common.{◌≡◌, true, false, ℕ, suc, ℤ, pos, ◌<ℤ◌, List, sym, ap, subst}
use Rattle.space3.specs.declared.vectors.V3.{V3}
use Rattle.sparse_cg.specs.Directions.{direction_of}
use Rattle.sparse_cg.specs.Systems.{System}
use Rattle.sparse_cg.specs.Turns.{IsClose, Numbers, curvature, turned}
use Rattle.sparse_cg.specs.Calls.Ends.{Ends}
use Rattle.sparse_cg.proofs.Endings.{bends_where, ends_here, ends_later, further_where, remains_where}

pub differ : false ≡ true → ⊥
differ e = cc

pub above_along : (x y : ℤ) → x ≡ y → pos 0 <ℤ x → pos 0 <ℤ y
above_along x y e h = subst (λ z. pos 0 <ℤ z) e h

module _ (system : System) (left rest : ℕ) (n : Numbers) (more : left ≡ suc rest) where
  pub straight : (bend : ℤ) → bend ≡ curvature system n → ¬ (pos 0 <ℤ bend) → (direction : List V3) → ¬ Ends system left n direction
  straight bend is low direction h = low (above_along (curvature system n) bend (sym is) (bends_where system direction rest n (subst (λ k. Ends system k n direction) more h)))

  pub nothing_left : (rho : ℤ) → rho ≡ n.rho → ¬ (pos 0 <ℤ rho) → (direction : List V3) → ¬ Ends system left n direction
  nothing_left rho is low direction h = low (above_along n.rho rho (sym is) (remains_where system direction rest n (subst (λ k. Ends system k n direction) more h)))

  module _ (bends : pos 0 <ℤ curvature system n) (remains : pos 0 <ℤ n.rho) (after : Numbers) (is : after ≡ turned system n) where
    pub at_end : IsClose system after → Ends system left n (direction_of system.nodes after.x)
    at_end close =
        subst (λ k. Ends system k n (direction_of system.nodes after.x)) (sym more)
        (ends_here system (direction_of system.nodes after.x) rest n bends remains (subst (IsClose system) is close) (ap (λ (m : Numbers). direction_of system.nodes m.x) is))

    module _ (far : ¬ IsClose system after) where
      far_on : ¬ IsClose system (turned system n)
      far_on close = far (subst (IsClose system) (sym is) close)

      pub on_from : (direction : List V3) → Ends system rest after direction → Ends system left n direction
      on_from direction h = subst (λ k. Ends system k n direction) (sym more) (ends_later system direction rest n bends remains far_on (subst (λ (m : Numbers). Ends system rest m direction) is h))

      pub on_to : (direction : List V3) → Ends system left n direction → Ends system rest after direction
      on_to direction h = subst (λ (m : Numbers). Ends system rest m direction) (sym is) (further_where system direction rest n far_on (subst (λ k. Ends system k n direction) more h))
