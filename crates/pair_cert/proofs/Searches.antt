-- What the answers of a search say of served intervals and of boxes.
use Rattle.std.proofs.Common.{◌≡◌, ◌∙◌, ℕ, Bool, true, false, List, sym, subst}
use Rattle.std.specs.Prelude.{IsTrue, ◌↔◌}
use Rattle.safe_motion.specs.declared.motion.Move.{Move}
use Rattle.safe_motion.specs.Certificates.{IsServed, PairCertificate}
use Rattle.safe_motion.specs.SweptBoxes.{SweptBoxesTouch}
use Rattle.safe_motion.proofs.HalfIntervals.{served_inherited}
use Rattle.safe_motion.proofs.Halving.{each_from_halves, whole}
use Rattle.plane_cut.specs.Planes.{HasPlane}
use Rattle.pair_cert.specs.Calls.Moves.{all_ends, moves_within}
use Rattle.pair_cert.proofs.Separations.{served_plane}

differ : false ≡ true → ⊥
differ e = cc

pub served : (xs ys : List Move) (j n : ℕ) (moves : List Move) → moves ≡ moves_within xs ys j n → HasPlane (all_ends moves) → IsServed xs ys j n
served xs ys j n moves e p = (served_plane xs ys j n).1 (subst (λ ms. HasPlane (all_ends ms)) e p)

-- an interval of whose ends there is no plane
pub not_served : (xs ys : List Move) (j n : ℕ) (moves : List Move) (r : Bool) → IsTrue r ↔ HasPlane (all_ends moves) → r ≡ false → moves ≡ moves_within xs ys j n → IsServed xs ys j n → ⊥
not_served xs ys j n moves r test failed e s = differ (sym failed ∙ test.1 (subst (λ ms. HasPlane (all_ends ms)) (sym e) ((served_plane xs ys j n).0 s)))

-- a vector that serves the whole step
pub served_throughout : (xs ys : List Move) (depth : ℕ) → IsServed xs ys 0 1 → PairCertificate depth xs ys
served_throughout xs ys depth s = each_from_halves (IsServed xs ys) (served_inherited xs ys) depth (whole (IsServed xs ys) depth 0 1 s)

-- a plane of the ends of the whole step
pub whole_served : (xs ys : List Move) (depth : ℕ) (moves : List Move) → moves ≡ moves_within xs ys 0 1 → HasPlane (all_ends moves) → PairCertificate depth xs ys
whole_served xs ys depth moves e p = served_throughout xs ys depth (served xs ys 0 1 moves e p)

-- ---- swept boxes that don't touch
pub untouched : (xs ys : List Move) (r : Bool) → IsTrue r ↔ SweptBoxesTouch xs ys → r ≡ false → ¬ SweptBoxesTouch xs ys
untouched xs ys r test failed h = differ (sym failed ∙ test.1 h)
