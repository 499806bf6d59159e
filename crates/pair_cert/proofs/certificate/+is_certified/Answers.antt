use Rattle.std.proofs.Common.{◌≡◌, ◌∙◌, ℕ, ◌+◌, ◌*◌, ◌-◌, suc, map, sym, subst, ap, arith, rules}
use Rattle.std.specs.Prelude.{All}
use Rattle.safe_motion.specs.Certificates.{IsServed}
use Rattle.safe_motion.proofs.SearchByHalves.{ends_early, ends_without, first_decides, second_decides}
use Rattle.pair_cert.specs.declared.moves.Half.TheVariants.{First, Second}
use Rattle.pair_cert.specs.Calls.Moves.{HasRoom}
use Rattle.pair_cert.specs.Calls.Halves.{half_of}
use Rattle.pair_cert.specs.Calls.RelativeMoves.{moves_in}
use Rattle.pair_cert.specs.Tallies.{RisesAtMost, intervals_within}
use Rattle.pair_cert.proofs.Halvings.{moves-first_half, moves-second_half}
use Rattle.pair_cert.proofs.Rooms.{halves_room, room_for_one, short_now}
use Rattle.pair_cert.proofs.Searches.{not_served, served}
use Rattle.pair_cert.proofs.Tallies.{one_interval, rises_more, rises_then, whole_and_halves}
use Rattle.pair_cert.proofs.certificate.+is_certified.Goals as goal

less : (depth : ℕ) → (depth ≡ 0 → ⊥) → depth ≡ suc (depth - 1)
less depth h = omega arith

pub has_plane_throughout-requires : goal.has_plane_throughout-requires
has_plane_throughout-requires t c = short_now c.args.depth (moves_in c.args.moves.now) c.requires

pub returns-then-has_plane_throughout-clause-certificate : goal.returns-then-has_plane_throughout-clause-certificate
returns-then-has_plane_throughout-clause-certificate t c = λ xs ys j n e.
    ends_early (IsServed xs ys) c.args.depth j n (served xs ys j n (moves_in c.args.moves.now) e (c.has_plane_throughout.ensures.plane.0 c.if-has_plane_throughout.true))

pub returns-then-has_plane_throughout-clause-tally : goal.returns-then-has_plane_throughout-clause-tally
returns-then-has_plane_throughout-clause-tally t c = rises_more 1 (intervals_within c.args.depth) _ _ (one_interval c.args.depth) c.has_plane_throughout.ensures.tally

pub returns-then-depth-eq0-clause-certificate : goal.returns-then-depth-eq0-clause-certificate
returns-then-depth-eq0-clause-certificate t c = λ xs ys j n e.
    ends_without (IsServed xs ys) c.args.depth j n c.if-depth-eq0.true
    (not_served xs ys j n (moves_in c.args.moves.now) c.has_plane_throughout.result c.has_plane_throughout.ensures.plane c.if-has_plane_throughout.false e)

pub half_moves-requires : goal.half_moves-requires
half_moves-requires t c = room_for_one c.args.depth (moves_in c.args.moves.now) c.if-depth-eq0.false c.requires

pub is_certified-requires : goal.is_certified-requires
is_certified-requires t c = (
  search rules,
  subst (All (HasRoom (c.args.depth - 1))) (sym c.half_moves.ensures) (halves_room c.args.depth First (moves_in c.args.moves.now) c.if-depth-eq0.false c.requires),
)

pub half_moves-requires-then-is_certified : goal.half_moves-requires-then-is_certified
half_moves-requires-then-is_certified t c = room_for_one c.args.depth (moves_in c.args.moves.now) c.if-depth-eq0.false c.requires

pub is_certified-requires-then-is_certified : goal.is_certified-requires-then-is_certified
is_certified-requires-then-is_certified t c = (
  search rules,
  subst (All (HasRoom (c.args.depth - 1))) (sym c.half_moves-then-is_certified.ensures) (halves_room c.args.depth Second (moves_in c.args.moves.now) c.if-depth-eq0.false c.requires),
)

pub returns-then-is_certified-clause-certificate : goal.returns-then-is_certified-clause-certificate
returns-then-is_certified-clause-certificate t c = λ xs ys j n e.
    second_decides (IsServed xs ys) c.args.depth (c.args.depth - 1) j n c.is_certified.result c.is_certified-then-is_certified.result (less c.args.depth c.if-depth-eq0.false)
    (not_served xs ys j n (moves_in c.args.moves.now) c.has_plane_throughout.result c.has_plane_throughout.ensures.plane c.if-has_plane_throughout.false e)
    c.if-is_certified.true
    (c.is_certified.ensures.certificate xs ys (2 * j) (2 * n) (c.half_moves.ensures ∙ ap (map (half_of First)) e ∙ moves-first_half xs ys j n))
    (c.is_certified-then-is_certified.ensures.certificate xs ys (2 * j + 1) (2 * n) (c.half_moves-then-is_certified.ensures ∙ ap (map (half_of Second)) e ∙ moves-second_half xs ys j n))

pub returns-then-is_certified-clause-tally : goal.returns-then-is_certified-clause-tally
returns-then-is_certified-clause-tally t c =
    let i = intervals_within (c.args.depth - 1) in
    subst (λ m. RisesAtMost m c.args.tally.now.n c.is_certified-then-is_certified.new.tally.n) (whole_and_halves c.args.depth c.if-depth-eq0.false)
    (rises_then (1 + i) i _ c.is_certified.new.tally.n _ (rises_then 1 i _ c.has_plane_throughout.new.tally.n _ c.has_plane_throughout.ensures.tally c.is_certified.ensures.tally) c.is_certified-then-is_certified.ensures.tally)

pub returns-else-is_certified-clause-certificate : goal.returns-else-is_certified-clause-certificate
returns-else-is_certified-clause-certificate t c = λ xs ys j n e.
    first_decides (IsServed xs ys) c.args.depth (c.args.depth - 1) j n c.is_certified.result (less c.args.depth c.if-depth-eq0.false)
    (not_served xs ys j n (moves_in c.args.moves.now) c.has_plane_throughout.result c.has_plane_throughout.ensures.plane c.if-has_plane_throughout.false e)
    c.if-is_certified.false
    (c.is_certified.ensures.certificate xs ys (2 * j) (2 * n) (c.half_moves.ensures ∙ ap (map (half_of First)) e ∙ moves-first_half xs ys j n))

pub returns-else-is_certified-clause-tally : goal.returns-else-is_certified-clause-tally
returns-else-is_certified-clause-tally t c =
    let i = intervals_within (c.args.depth - 1) in
    subst (λ m. RisesAtMost m c.args.tally.now.n c.is_certified.new.tally.n) (whole_and_halves c.args.depth c.if-depth-eq0.false)
    (rises_more (1 + i) ((1 + i) + i) _ _ (omega arith) (rises_then 1 i _ c.has_plane_throughout.new.tally.n _ c.has_plane_throughout.ensures.tally c.is_certified.ensures.tally))
