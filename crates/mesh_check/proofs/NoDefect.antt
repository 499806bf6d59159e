-- What no defect gives.
use Rattle.std.proofs.Common.{◌≡◌, ℤ, pos, ◌≤ℤ◌, true, false, refl, arith}
use Rattle.std.proofs.lemmas.Int.{ints}
use Rattle.std.specs.Prelude.{All, None, int_lt, not, option_map}
use Rattle.std.proofs.lemmas.Bool.{not-false}
use Rattle.std.proofs.lemmas.List.Elements.{All-weaker}
use Rattle.list_laws.proofs.Searches.{none_found}
use Rattle.surface_mesh.specs.declared.setup.Setup.{Setup}
use Rattle.surface_mesh.specs.declared.sturdy.TheConstants.{LEAST_REST, LONGEST_REST, MOST_MASS}
use Rattle.surface_mesh.specs.Edges.{has_edges_within}
use Rattle.surface_mesh.specs.Setup.{IsSetup}
use Rattle.surface_mesh.specs.Sturdy.{IsSturdy}
use Rattle.surface_mesh.proofs.SetupFacts.{masses_are_not_negative}
use Rattle.mesh_check.specs.declared.defects.Defect.TheVariants as defects
use Rattle.mesh_check.specs.Defects.{first_not_positive, first_thin, first_long, first_heavy, first_flaw}

-- bodies without a defect are sturdy
pub sturdy : (s : Setup) → IsSetup s → first_thin s ≡ None → first_long s ≡ None → first_heavy s ≡ None → IsSturdy s
sturdy s h thin long heavy = record {
  rest = rests;
  edges = All-weaker (λ tet. not (has_edges_within LONGEST_REST s.mesh.places tet.nodes) ≡ false) (λ tet. has_edges_within LONGEST_REST s.mesh.places tet.nodes ≡ true) (λ tet. not-false _) s.mesh.tets (none_found _ s.mesh.tets long);
  mass = λ k d l. record { low = masses_are_not_negative s h (All-weaker (λ rest. LEAST_REST ≤ℤ rest) (λ rest. pos 0 ≤ℤ rest) above s.rest rests) k d l; high = at_most _ MOST_MASS (none_found (λ mass. int_lt MOST_MASS mass) s.mass heavy k d l) };
}
  where
    at_most : (a b : ℤ) → int_lt b a ≡ false → a ≤ℤ b
    at_most a b e = grind (arith, ints)

    above : (rest : ℤ) → LEAST_REST ≤ℤ rest → pos 0 ≤ℤ rest
    above rest l = omega (arith, ints)

    rests : All (λ rest. LEAST_REST ≤ℤ rest) s.rest
    rests = All-weaker (λ rest. int_lt rest LEAST_REST ≡ false) (λ rest. LEAST_REST ≤ℤ rest) (λ rest. at_most LEAST_REST rest) s.rest (none_found (λ rest. int_lt rest LEAST_REST) s.rest thin)

-- where no tetrahedron has a defect, the first flaw is that of the first heavy node
pub last_flaw : (s : Setup) → first_not_positive s ≡ None → first_thin s ≡ None → first_long s ≡ None → first_flaw s ≡ option_map (λ node. defects.TooHeavy node) (first_heavy s)
last_flaw s positive thick short = rw (positive, thick, short) refl
