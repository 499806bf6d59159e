use Rattle.std.proofs.Common.{◌≡◌, ℕ, Bool, List, sym, subst}
use Rattle.std.specs.Prelude.{IsTrue, ◌↔◌}
use Rattle.space3.specs.declared.vectors.V3.{V3}
use Rattle.safe_motion.specs.declared.depth.TheConstants.{DEPTH}
use Rattle.safe_motion.specs.Certificates.{VolumeCertificate}
use Rattle.surface_mesh.proofs.ShortEdges.{first_edge_is_within, second_edge_is_within, third_edge_is_within}
use Rattle.volume_cert.specs.Tetrahedra.{AreShortEdges, corners_between, edges_from_first}
use Rattle.volume_cert.specs.declared.edges.TheConstants.{LONGEST_EDGE}
use Rattle.line_search.specs.Calls.Corners.{corners_at}
use Rattle.potential_sum.specs.Upright.{HasShortEdges}
use Rattle.line_search.proofs.allowed.is_certified.Goals as goal

short : (places : List V3) (nodes : List ℕ) → HasShortEdges places nodes → AreShortEdges (edges_from_first (corners_at places nodes))
short places nodes h = record {
  u = first_edge_is_within LONGEST_EDGE places nodes h;
  v = second_edge_is_within LONGEST_EDGE places nodes h;
  w = third_edge_is_within LONGEST_EDGE places nodes h;
}

pub certify_volume-requires-clause-start : goal.certify_volume-requires-clause-start
certify_volume-requires-clause-start c =
    subst (λ (t : List V3). AreShortEdges (edges_from_first t)) (sym c.corners_at.ensures) (short c.args.x.now c.args.tet.now.nodes c.requires.start)

pub certify_volume-requires-clause-end : goal.certify_volume-requires-clause-end
certify_volume-requires-clause-end c =
    subst (λ (t : List V3). AreShortEdges (edges_from_first t)) (sym c.corners_at-2.ensures) (short c.args.y.now c.args.tet.now.nodes c.requires.end)

along : (b : Bool) (start end start' end' : List V3) → start ≡ start' → end ≡ end' → (IsTrue b ↔ VolumeCertificate DEPTH (corners_between start end)) → IsTrue b ↔ VolumeCertificate DEPTH (corners_between start' end')
along b start end start' end' p q h = rw (← p, ← q) h

pub returns : goal.returns
returns c =
    let certificate = along c.certify_volume.result c.corners_at.result c.corners_at-2.result (corners_at c.args.x.now c.args.tet.now.nodes) (corners_at c.args.y.now c.args.tet.now.nodes) c.corners_at.ensures c.corners_at-2.ensures c.certify_volume.ensures.certificate in
    (λ t. record { certificate = certificate.0 t }, λ h. certificate.1 h.certificate)
