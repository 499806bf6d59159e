-- The corners of a part, by their positions.
use Rattle.std.proofs.Common.{◌≡◌, ◌∙◌, ℕ, ◌<◌, ◌≤◌, ◌^◌, length, take, get_or, min, sym, arith}
use Rattle.std.specs.List.{zip}
use Rattle.std.proofs.lemmas.List.{get_or-map, get_or-take, length-take, length-map}
use Rattle.std.proofs.lemmas.Slice.Zip.{get_or-zip, length-zip}
use Rattle.space3.specs.declared.spots.Part.{Part}
use Rattle.space3.specs.Spots.{StaysInTheBox, points}
use Rattle.space3.specs.Vectors.{origin, Within}
use Rattle.list_laws.proofs.Elements.{All-take_at}
use Rattle.pair_cert.specs.Calls.Moves.{IsNear}
use Rattle.pair_cert.specs.Parts.{move_between, moves_of, still}

-- as many moves as corners
pub length-moves_of : (part : Part) → length (moves_of part) ≡ min (length (points part.start)) (length (points part.end))
length-moves_of part = length-map (zip (points part.start) (points part.end)) move_between ∙ length-zip (points part.start) (points part.end)

-- each goes from its place at the start to its place at the end
pub corner-is : (part : Part) (i : ℕ) → length part.start.at ≡ 4 → length part.end.at ≡ 4 → part.start.count ≤ 4 → part.start.count ≡ part.end.count → i < part.start.count →
    move_between (get_or part.start.at i origin, get_or part.end.at i origin) ≡ get_or (moves_of part) i still
corner-is part i ls le few as_many l =
    let m = part.start.count in
    let n = part.end.count in
    let xs = part.start.at in
    let ys = part.end.at in
    let lx : i < length (take m xs) = omega (arith, length-take m xs) in
    let ly : i < length (take n ys) = omega (arith, length-take n ys) in
    sym (get_or-map move_between (zip (take m xs) (take n ys)) i (origin, origin) still (omega (arith, length-zip (take m xs) (take n ys)))
    ∙ (λ t. move_between (get_or-zip (take m xs) (take n ys) i (origin, origin) lx ly t))
    ∙ (λ t. move_between (get_or-take m xs i origin l t, get_or-take n ys i origin (omega arith) t)))

-- and is in the box at both
pub corner_near : (part : Part) (i : ℕ) → length part.start.at ≡ 4 → length part.end.at ≡ 4 → part.start.count ≤ 4 → part.start.count ≡ part.end.count → i < part.start.count →
    StaysInTheBox part → IsNear (move_between (get_or part.start.at i origin, get_or part.end.at i origin))
corner_near part i ls le few as_many l h = record {
  start = All-take_at (Within (2 ^ 20)) part.start.at i part.start.count origin l (omega arith) h.start;
  end = All-take_at (Within (2 ^ 20)) part.end.at i part.end.count origin (omega arith) (omega arith) h.end;
}
