-- Corners that are written one after another.
use Rattle.std.proofs.Common.{◌≡◌, ◌∙◌, ℕ, ◌+◌, ◌<◌, List, [], ◌∷◌, ◌++◌, map, take, length, get_or, Some, ap, sym}
use Rattle.std.specs.Prelude.{slice_get, slice_set}
use Rattle.std.proofs.lemmas.List.{map_more, take_more_set}
use Rattle.std.proofs.lemmas.Option.{get_or_from_slice_get}
use Rattle.space3.specs.declared.vectors.V3.{V3}
use Rattle.space3.specs.Mesh.{place_of}
use Rattle.space3.specs.Vectors.{origin}

-- the corner of one node more
pub corner_more : (places at : List V3) (nodes : List ℕ) (k : ℕ) (corner : V3) → k < length at → k < length nodes → slice_get places (get_or nodes k 0) ≡ Some corner → take k at ≡ map (place_of places) (take k nodes) → take (k + 1) (slice_set at k corner) ≡ map (place_of places) (take (k + 1) nodes)
corner_more places at nodes k corner l m is so_far =
    take_more_set at k corner l
    ∙ ap (λ l. l ++ corner ∷ []) so_far
    ∙ ap (λ x. map (place_of places) (take k nodes) ++ x ∷ []) (sym (get_or_from_slice_get places (get_or nodes k 0) corner origin is))
    ∙ sym (map_more (place_of places) nodes k 0 m)
