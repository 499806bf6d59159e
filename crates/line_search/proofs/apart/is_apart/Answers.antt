use Rattle.std.proofs.Common.{◌≡◌, Bool, List}
use Rattle.std.specs.Prelude.{IsTrue, ◌↔◌}
use Rattle.safe_motion.specs.declared.depth.TheConstants.{DEPTH}
use Rattle.safe_motion.specs.declared.motion.Move.{Move}
use Rattle.safe_motion.specs.Certificates.{PairCertificate}
use Rattle.safe_motion.specs.Safety.{node_moves}
use Rattle.boundary.specs.Pairs.{part_pair}
use Rattle.pair_cert.specs.Parts.{moves_of}
use Rattle.line_search.proofs.PairMoves.{moves-are}
use Rattle.line_search.proofs.apart.is_apart.Goals as goal

along : (b : Bool) (xs ys zs us : List Move) → xs ≡ zs → ys ≡ us → (IsTrue b ↔ PairCertificate DEPTH xs ys) → IsTrue b ↔ PairCertificate DEPTH zs us
along b xs ys zs us p q h = rw (← p, ← q) h

pub returns-clause-apart : goal.returns-clause-apart
returns-clause-apart c =
    let x = c.args.x.now in
    let y = c.args.y.now in
    let nodes = part_pair c.args.surface.now c.args.pair in
    let parts = c.parts-parts.result in
    let at = c.parts-parts.ensures.places in
    let told = along c.certify_pair.result (moves_of parts.a) (moves_of parts.b) (node_moves x y nodes.left) (node_moves x y nodes.right)
    (moves-are x y parts.a nodes.left at.first_start at.first_end) (moves-are x y parts.b nodes.right at.second_start at.second_end)
    c.certify_pair.ensures.certificate in
    (λ t. record { certificate = told.0 t }, λ h. told.1 h.certificate)
