-- Fixed nodes stay: their gradient is 0 and their rows are those of the unit matrix, so each direction leaves them.
use Rattle.std.proofs.Common.{◌≡◌, ◌∙◌, ℕ, zero, suc, ◌+◌, ◌*◌, ◌<◌, ◌^◌, ◌||◌, ℤ, pos, ◌+ℤ◌, Bool, true, false, List, [], ◌∷◌, length, map, get_or, refl, sym, ap, arith, add-zero}
use Rattle.std.specs.Prelude.{IsTrue, int_div, if◌then◌else◌}
use Rattle.std.proofs.Math.Nat.{zero-div}
use Rattle.std.proofs.lemmas.Int.{ints}
use Rattle.std.proofs.lemmas.List.FromFn.{length-map-range_with_len}
use Rattle.list_laws.proofs.Chains.{Follow-weaker}
use Rattle.space3.specs.declared.vectors.V3.{V3}
use Rattle.space3.specs.Mesh.{place_of}
use Rattle.space3.specs.Moved.{halved, moved_by}
use Rattle.space3.specs.Vectors.{origin, sum_of, vector}
use Rattle.vec_q.specs.Rows.{components}
use Rattle.block_rows.specs.Tables.{three_at}
use Rattle.block_rows.proofs.Threes.{get_or-threes}
use Rattle.surface_mesh.specs.declared.setup.Setup.{Setup}
use Rattle.potential_sum.specs.Matrix.{matrix}
use Rattle.potential_sum.specs.Potential.{gradient, gradient_at}
use Rattle.potential_sum.specs.Terms.{FrameTerms, terms_of}
use Rattle.sparse_cg.specs.Directions.{rounded}
use Rattle.sparse_cg.specs.Jacobi.{jacobi_at as jacobi_of}
use Rattle.sparse_cg.proofs.Still.{AreZeros, HasUnitRow, jacobi_is_still, newton_is_still}
use Rattle.line_search.specs.declared.step.DirKind.{DirKind}
use Rattle.line_search.specs.declared.step.DirKind.TheVariants.{Jacobi, Newton}
use Rattle.line_search.specs.declared.step.Step.{Step}
use Rattle.line_search.specs.Steps.{IsFirstStep}
use Rattle.frame_driver.specs.Directions.{IsNewtonAt, jacobi_at}
use Rattle.frame_driver.specs.Frames.{Frame, GoesOn, IsFrame, IsStepAt, OfJacobi, OfNewton, last_after, places_after}
use Rattle.frame_driver.specs.Paths.{FixedNodesStay, FrameHolds, FramesFrom, FramesHold}

-- ---- flags
flag_inside : (flags : List Bool) (node : ℕ) → IsTrue (get_or flags node false) → node < length flags
flag_inside [] node h = cc
flag_inside (flag ∷ flags) zero h = omega arith
flag_inside (flag ∷ flags) (suc node) h = let more = flag_inside flags node h in omega (arith, more)

where_true : {X : Type 0} (b : Bool) (x y : X) → IsTrue b → (if b then x else y) ≡ x
where_true true x y h = refl
where_true false x y h = cc

either_true : (a b : Bool) → IsTrue a → IsTrue (a || b)
either_true true b h = refl
either_true false b h = cc

-- ---- places
nothing_halved : (half : ℕ) → int_div (pos 0) (pos (2 ^ half)) ≡ pos 0
nothing_halved half = ap pos (zero-div (2 ^ half))

-- a place whose direction is the origin stays
still_sum : (x d : V3) (half : ℕ) → d ≡ origin → sum_of x (halved half d) ≡ x
still_sum x d half e =
    ap (λ (v : V3). sum_of x (halved half v)) e ∙ (λ i. sum_of x (vector (nothing_halved half i) (nothing_halved half i) (nothing_halved half i)))
    ∙ (λ i. vector (same x.x i) (same x.y i) (same x.z i))
  where
    same : (a : ℤ) → a +ℤ pos 0 ≡ a
    same a = omega (arith, ints)

place_stays : (xs ds : List V3) (half node : ℕ) → node < length ds → place_of ds node ≡ origin → place_of (moved_by xs ds half) node ≡ place_of xs node
place_stays [] ds half node there still = refl
place_stays (x ∷ xs) [] half node there still = absurd (omega arith)
place_stays (x ∷ xs) (d ∷ ds) half zero there still = still_sum x d half still
place_stays (x ∷ xs) (d ∷ ds) half (suc node) there still = place_stays xs ds half node (omega arith) still

-- ---- one node
-- each direction has a vector for each node
newton_length : (setup : Setup) (terms : FrameTerms) (x direction : List V3) → IsNewtonAt setup terms x direction → length direction ≡ length setup.mesh.numbers
newton_length setup terms x direction h =
    ap (λ (d : List V3). length d) h.is_end.is ∙ length-map-range_with_len (three_at (map rounded h.is_end.last.x)) 0 (length setup.mesh.numbers)

module _ (setup : Setup) (terms : FrameTerms) (x : List V3) (node : ℕ) (there : node < length setup.mesh.numbers) (fixed : IsTrue (get_or setup.fixed node false)) where
  gradient_there : (k : ℕ) → k < 3 → get_or (gradient setup terms x) (3 * node + k) (pos 0) ≡ get_or (components origin) k (pos 0)
  gradient_there k few =
      get_or-threes (λ n. components (gradient_at setup terms x n)) (length setup.mesh.numbers) node k (pos 0) (λ n. refl) there few
      ∙ ap (λ (v : V3). get_or (components v) k (pos 0)) (where_true (get_or setup.fixed node false) origin _ fixed)

  -- nothing pulls at it
  nothing_pulls : AreZeros node (gradient setup terms x)
  nothing_pulls = record {
    x = ap (λ (i : ℕ). get_or (gradient setup terms x) i (pos 0)) (sym (add-zero (3 * node))) ∙ gradient_there 0 (omega arith);
    y = gradient_there 1 (omega arith);
    z = gradient_there 2 (omega arith);
  }

  -- its row is that of the unit matrix
  row_is_unit : HasUnitRow (matrix setup terms x) node
  row_is_unit column = where_true (get_or setup.fixed node false || get_or setup.fixed column false) _ _ (either_true (get_or setup.fixed node false) (get_or setup.fixed column false) fixed)

  -- no first step of a direction that leaves it moves it
  first_step_holds : (kind : DirKind) (direction : List V3) (step : Step) → length direction ≡ length setup.mesh.numbers → place_of direction node ≡ origin → IsFirstStep setup terms x kind direction step
      → place_of step.places node ≡ place_of x node
  first_step_holds kind direction step each still first =
      ap (λ (places : List V3). place_of places node) first.places ∙ place_stays x direction step.half node (omega (arith, each, there)) still

  step_holds : (step : Step) → IsStepAt setup terms x step → place_of step.places node ≡ place_of x node
  step_holds step (OfNewton direction is_newton first) =
      first_step_holds Newton direction step (newton_length setup terms x direction is_newton)
      (newton_is_still (length setup.mesh.numbers) (matrix setup terms x) (gradient setup terms x) node direction there row_is_unit nothing_pulls is_newton) first
  step_holds step (OfJacobi before first) =
      first_step_holds Jacobi (jacobi_at setup terms x) step (length-map-range_with_len (jacobi_of (matrix setup terms x) (gradient setup terms x)) 0 (length setup.mesh.numbers))
      (jacobi_is_still (length setup.mesh.numbers) (matrix setup terms x) (gradient setup terms x) node there nothing_pulls) first

-- ---- frames
-- no frame moves a fixed node
pub frame_holds : (setup : Setup) (tol : ℤ) (budget : ℕ) (now before : List V3) (frame : Frame) → length setup.fixed ≡ length setup.mesh.numbers → IsFrame setup tol budget now before frame → FrameHolds setup now frame
frame_holds setup tol budget now before frame each h =
    let terms : FrameTerms = terms_of setup now before in
    Follow-weaker places_after (GoesOn setup tol terms) (λ x step. FixedNodesStay setup x step.places)
    (λ x step s node fixed. step_holds setup terms x node (inside node fixed) fixed step s.step_at) now frame.steps h.steps
  where
    inside : (node : ℕ) → IsTrue (get_or setup.fixed node false) → node < length setup.mesh.numbers
    inside node fixed = omega (arith, flag_inside setup.fixed node fixed, each)

-- and so does no frame of a path
pub path_holds : (setup : Setup) (tol : ℤ) (budget : ℕ) (now before : List V3) (frames : List Frame) → length setup.fixed ≡ length setup.mesh.numbers → FramesFrom setup tol budget now before frames → FramesHold setup now frames
path_holds setup tol budget now before [] each h = tt
path_holds setup tol budget now before (frame ∷ frames) each h =
    (frame_holds setup tol budget now before frame each h.0, path_holds setup tol budget (last_after now frame.steps) now frames each h.1)
