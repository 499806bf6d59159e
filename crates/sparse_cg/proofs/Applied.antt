-- Lists of a product's numbers with fewer bits, as the definitions have them.
use Rattle.std.proofs.Common.{◌≡◌, ℕ, ◌+◌, ◌^◌, ℤ, pos, ◌-ℤ◌, List, [], ◌∷◌, map, refl, ap}
use Rattle.num_q.specs.Rounding.{cut_of, floor_of}
use Rattle.block_rows.specs.Tables.{product}
use Rattle.sparse_cg.specs.Systems.{System, apply, combined}
use Rattle.sparse_cg.specs.Turns.{dot, residual}
use Rattle.sparse_cg.specs.Calls.Lists.{left_over, shortened}

abbrev scaled : ℕ → ℤ → ℤ
scaled shift number = floor_of number (pos (2 ^ (16 + shift)))

shortened_is : (shift : ℕ) (xs : List ℤ) → map (shortened shift) xs ≡ map (cut_of 44) (map (scaled shift) xs)
shortened_is shift [] = refl
shortened_is shift (x ∷ xs) = ap (λ (l : List ℤ). shortened shift x ∷ l) (shortened_is shift xs)

left_over_is : (shift : ℕ) (xs ys : List ℤ) → combined (left_over shift) xs ys ≡ combined (λ b number. cut_of 44 (b -ℤ number)) xs (map (scaled shift) ys)
left_over_is shift [] ys = refl
left_over_is shift (x ∷ xs) [] = refl
left_over_is shift (x ∷ xs) (y ∷ ys) = ap (λ (l : List ℤ). left_over shift x y ∷ l) (left_over_is shift xs ys)

pub curvature_is : (system : System) (p : List ℤ) → dot p (map (shortened system.shift) (product system.nodes system.table p)) ≡ dot p (map (cut_of 44) (apply system p))
curvature_is system p = ap (dot p) (shortened_is system.shift (product system.nodes system.table p))

pub residual_is : (system : System) (x : List ℤ) → combined (left_over system.shift) system.target (product system.nodes system.table x) ≡ residual system x
residual_is system x = left_over_is system.shift system.target (product system.nodes system.table x)
