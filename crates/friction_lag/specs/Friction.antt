-- Friction of a contact, by how far its parts slid on one another since the frame began. Lengths have 16 fraction bits.
use Rattle.std.specs.Prelude.{ℕ, ◌*◌, ◌^◌, ℤ, pos, ◌+ℤ◌, ◌-ℤ◌, ◌*ℤ◌, unsigned_abs, List, [], ◌∷◌, map, zip, nat_lt, if◌then◌else◌, slice_index_or}
use Rattle.num_q.specs.Rounding.{floor_of, cut_of}
use Rattle.space3.specs.declared.vectors.V3.{V3}
use Rattle.space3.specs.Vectors.{vector, difference, dot_product}
use Rattle.vec_q.specs.Matrices.{M3, unit_times}
use Rattle.vec_q.specs.Rows.{rows_of, vector_of}
use Rattle.nearest.specs.declared.limits.TheConstants.{ONE}
use Rattle.nearest.specs.SignedWeights.{signed_sum}
use Rattle.friction_lag.specs.Contacts.{LaggedContact, length_of}

-- how far the first part moved past the second, at the contact's weights
abbrev pub motion_of : LaggedContact → List V3 → V3
motion_of c places = signed_sum c.signed (map (λ pair. difference pair.0 pair.1) (zip places c.from))

-- a motion without its part along the normal
abbrev pub across : V3 → V3 → V3
across normal motion =
    let along = dot_product motion normal in
    let rest = λ (m n : ℤ). m -ℤ floor_of (along *ℤ n) (pos (2 ^ 32)) in
    vector (rest motion.x normal.x) (rest motion.y normal.y) (rest motion.z normal.z)

-- the slide in the contact's plane
abbrev pub slide_of : LaggedContact → List V3 → V3
slide_of c places = across (vector_of c.normal) (motion_of c places)

-- the slide from which on friction is that of sliding
abbrev pub slip_of : ℤ → ℕ
slip_of slip = ONE * unsigned_abs slip

-- the length y that friction works along: smooth below the slip e
abbrev pub smooth_length : ℕ → ℕ → ℤ
smooth_length y e =
    let Y = pos y in
    let E = pos e in
    if nat_lt y e then floor_of (pos 3 *ℤ (E *ℤ (Y *ℤ Y)) -ℤ Y *ℤ (Y *ℤ Y) +ℤ E *ℤ (E *ℤ E)) (pos 3 *ℤ (E *ℤ E)) else Y

-- its derivative over y, with 24 fraction bits more than 1 over a length has
abbrev pub smooth_rate : ℕ → ℕ → ℤ
smooth_rate y e =
    let Y = pos y in
    let E = pos e in
    if nat_lt y e then floor_of ((pos 2 *ℤ E -ℤ Y) *ℤ pos (2 ^ 40)) (E *ℤ E) else floor_of (pos (2 ^ 40)) Y

-- the force of friction over the slide
abbrev pub drag_of : LaggedContact → (friction slip : ℤ) → V3 → ℤ
drag_of c friction slip slide = floor_of (friction *ℤ c.force *ℤ smooth_rate (length_of slide) (slip_of slip)) (pos (2 ^ 16))

abbrev pub friction_energy : LaggedContact → (friction slip : ℤ) → List V3 → ℤ
friction_energy c friction slip places =
    let slide = slide_of c places in
    cut_of 90 (floor_of (friction *ℤ c.force *ℤ smooth_length (length_of slide) (slip_of slip)) (pos (2 ^ 24)))

-- at a point with this signed weight
abbrev pub pull : ℤ → ℤ → ℤ → ℤ
pull drag slide weight = cut_of 90 (floor_of (floor_of (drag *ℤ slide) (pos (2 ^ 32)) *ℤ weight) (pos (2 ^ 16)))

abbrev pub pull_at : ℤ → V3 → ℤ → V3
pull_at drag slide weight = vector (pull drag slide.x weight) (pull drag slide.y weight) (pull drag slide.z weight)

-- at each of the four points
abbrev pub friction_gradient : LaggedContact → (friction slip : ℤ) → List V3 → List V3
friction_gradient c friction slip places =
    let slide = slide_of c places in map (pull_at (drag_of c friction slip slide) slide) c.signed

-- the block of the points i and j: the whole identity, and not the plane alone
abbrev pub friction_block : LaggedContact → (friction slip : ℤ) → List V3 → (i j : ℕ) → M3
friction_block c friction slip places i j =
    let weight = λ (k : ℕ). slice_index_or c.signed k (pos 0) in
    unit_times (cut_of 86 (floor_of (drag_of c friction slip (slide_of c places) *ℤ weight i *ℤ weight j) (pos (2 ^ 48))))

-- the block of two points by the signed weights, and the blocks of a point with each, by their rows
abbrev pub block_of : (drag : ℤ) (signed : List ℤ) (i j : ℕ) → M3
block_of drag signed i j =
    let weight = λ (k : ℕ). slice_index_or signed k (pos 0) in
    unit_times (cut_of 86 (floor_of (drag *ℤ weight i *ℤ weight j) (pos (2 ^ 48))))

abbrev pub blocks_of : (drag : ℤ) (signed : List ℤ) (i : ℕ) → List (List (List ℤ))
blocks_of drag signed i = map (λ j. rows_of (block_of drag signed i j)) (0 ∷ 1 ∷ 2 ∷ 3 ∷ [])

-- the blocks of each two points, by their rows
abbrev pub friction_blocks : LaggedContact → (friction slip : ℤ) → List V3 → List (List (List (List ℤ)))
friction_blocks c friction slip places =
    map (λ i. map (λ j. rows_of (friction_block c friction slip places i j)) (0 ∷ 1 ∷ 2 ∷ 3 ∷ [])) (0 ∷ 1 ∷ 2 ∷ 3 ∷ [])
