-- Certificates of a step, as the code looks at them and as they are defined.
use Rattle.std.proofs.Common.{ℕ, List}
use Rattle.std.specs.Prelude.{All}
use Rattle.std.proofs.lemmas.List.Elements.{All-map, All-weaker}
use Rattle.list_laws.proofs.Elements.{All-map_back}
use Rattle.space3.specs.declared.lists.Tet.{Tet}
use Rattle.space3.specs.declared.vectors.V3.{V3}
use Rattle.safe_motion.specs.declared.depth.TheConstants.{DEPTH}
use Rattle.safe_motion.specs.Certificates.{PairCertificate, VolumeCertificate}
use Rattle.safe_motion.specs.Safety.{PartPair, corners, node_moves}
use Rattle.surface_mesh.specs.declared.setup.Setup.{Setup}
use Rattle.surface_mesh.specs.Safety.{IsCertifiedStep, part_pairs}
use Rattle.line_search.specs.Calls.Corners.{HasCertificate}
use Rattle.line_search.specs.Calls.PairCertificates.{IsApart}

abbrev IsUpright : (x y : List V3) → List ℕ → Type 0
IsUpright x y nodes = VolumeCertificate DEPTH (corners x y nodes)

pub certified_step : (s : Setup) (x y : List V3) → All (HasCertificate x y) s.mesh.tets → All (IsApart x y) (part_pairs s) → IsCertifiedStep s x y
certified_step s x y tets pairs = record {
  pairs_apart = All-weaker (IsApart x y) (λ (pair : PartPair). PairCertificate DEPTH (node_moves x y pair.left) (node_moves x y pair.right)) (λ pair h. h.certificate) (part_pairs s) pairs;
  tets_upright = All-map (IsUpright x y) (λ (tet : Tet). tet.nodes) s.mesh.tets (All-weaker (HasCertificate x y) (λ (tet : Tet). IsUpright x y tet.nodes) (λ tet h. h.certificate) s.mesh.tets tets);
}

pub step_tets : (s : Setup) (x y : List V3) → IsCertifiedStep s x y → All (HasCertificate x y) s.mesh.tets
step_tets s x y c =
    All-weaker (λ (tet : Tet). IsUpright x y tet.nodes) (HasCertificate x y) (λ tet h. record { certificate = h }) s.mesh.tets
    (All-map_back (IsUpright x y) (λ (tet : Tet). tet.nodes) s.mesh.tets c.tets_upright)

pub step_pairs : (s : Setup) (x y : List V3) → IsCertifiedStep s x y → All (IsApart x y) (part_pairs s)
step_pairs s x y c = All-weaker (λ (pair : PartPair). PairCertificate DEPTH (node_moves x y pair.left) (node_moves x y pair.right)) (IsApart x y) (λ pair h. record { certificate = h }) (part_pairs s) c.pairs_apart
