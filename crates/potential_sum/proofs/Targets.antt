-- How many targets there are.
use Rattle.std.proofs.Common.{◌≡◌, ◌∙◌, List, length, arith}
use Rattle.std.specs.List.{zip}
use Rattle.std.proofs.lemmas.List.{length-map}
use Rattle.std.proofs.lemmas.Slice.Zip.{length-zip}
use Rattle.space3.specs.declared.vectors.V3.{V3}
use Rattle.inertia_term.specs.Inertia.{target_of}
use Rattle.potential_sum.specs.Terms.{targets_of}

-- one for each place
pub length-targets_of : (g : V3) (ns bs : List V3) → length bs ≡ length ns → length (targets_of g ns bs) ≡ length ns
length-targets_of g ns bs e = length-map (zip ns bs) (λ node. target_of g node.0 node.1) ∙ omega (arith, length-zip ns bs, e)
