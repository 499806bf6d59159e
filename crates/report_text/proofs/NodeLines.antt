-- The lines of one node more.
use Rattle.std.proofs.Common.{◌≡◌, ◌∙◌, ℕ, zero, suc, ◌+◌, ◌<◌, Bool, true, false, List, [], ◌∷◌, ◌++◌, length, take, get_or, min, refl, ap, sym, arith, add-one, append-nil, append_assoc}
use Rattle.std.specs.Prelude.{not}
use Rattle.std.specs.List.{filter, flat_map, zip}
use Rattle.std.proofs.Math.Seq.{take-nil}
use Rattle.std.proofs.lemmas.List.Elements.{filter-append}
use Rattle.std.proofs.lemmas.Grind.{flat_map-append}
use Rattle.space3.specs.declared.vectors.V3.{V3}
use Rattle.space3.specs.Vectors.{origin}
use Rattle.report_text.specs.Traces.{is_zero, node_line, node_lines}

abbrev moves : ℕ × V3 → Bool
moves node = not (is_zero node.1)

-- the lines of these nodes
abbrev lines_of : List (ℕ × V3) → List ℕ
lines_of nodes = flat_map node_line (filter moves nodes)

-- the nodes and their directions as far as one more
zip_more : (numbers : List ℕ) (direction : List V3) (i : ℕ) → i < length numbers → i < length direction
    → zip (take (suc i) numbers) (take (suc i) direction) ≡ zip (take i numbers) (take i direction) ++ (get_or numbers i 0, get_or direction i origin) ∷ []
zip_more [] direction i h k = absurd (omega arith)
zip_more (n ∷ numbers) [] i h k = absurd (omega arith)
zip_more (n ∷ numbers) (d ∷ direction) zero h k = refl
zip_more (n ∷ numbers) (d ∷ direction) (suc i) h k = ap (λ (nodes : List (ℕ × V3)). (n, d) ∷ nodes) (zip_more numbers direction i (omega arith) (omega arith))

-- one node more of which the number and the direction are these
pub record OneMore (numbers : List ℕ) (direction : List V3) (i number : ℕ) (d : V3) : Type 0 where
  pub in_numbers : i < length numbers
  pub in_direction : i < length direction
  pub number_is : number ≡ get_or numbers i 0
  pub direction_is : d ≡ get_or direction i origin

lines_more : (numbers : List ℕ) (direction : List V3) (i number : ℕ) (d : V3) → OneMore numbers direction i number d
    → node_lines (take (i + 1) numbers) (take (i + 1) direction) ≡ node_lines (take i numbers) (take i direction) ++ lines_of ((number, d) ∷ [])
lines_more numbers direction i number d h =
    let before = zip (take i numbers) (take i direction) in
    let nodes : zip (take (i + 1) numbers) (take (i + 1) direction) ≡ before ++ (number, d) ∷ [] =
    rw (add-one i) (zip_more numbers direction i h.in_numbers h.in_direction ∙ (λ t. before ++ (sym h.number_is t, sym h.direction_is t) ∷ [])) in
    ap lines_of nodes ∙ ap (flat_map node_line) (filter-append moves before ((number, d) ∷ [])) ∙ flat_map-append node_line (filter moves before) (filter moves ((number, d) ∷ []))

-- a node with a direction has a line
pub moving_more : (numbers : List ℕ) (direction : List V3) (i j number : ℕ) (d : V3) (old text new : List ℕ) → OneMore numbers direction i number d → j ≡ i + 1 → is_zero d ≡ false
    → text ≡ old ++ node_lines (take i numbers) (take i direction) → new ≡ text ++ node_line (number, d) → new ≡ old ++ node_lines (take j numbers) (take j direction)
moving_more numbers direction i j number d old text new h next moving so_far added =
    let line : lines_of ((number, d) ∷ []) ≡ node_line (number, d) = rw moving (append-nil (node_line (number, d))) in
    let lines : node_lines (take j numbers) (take j direction) ≡ node_lines (take i numbers) (take i direction) ++ node_line (number, d) =
    rw next (lines_more numbers direction i number d h ∙ ap (λ l. node_lines (take i numbers) (take i direction) ++ l) line) in
    rw (added, so_far, lines) (append_assoc old (node_lines (take i numbers) (take i direction)) (node_line (number, d)))

-- one without has none
pub still_more : (numbers : List ℕ) (direction : List V3) (i j number : ℕ) (d : V3) (old text : List ℕ) → OneMore numbers direction i number d → j ≡ i + 1 → is_zero d ≡ true
    → text ≡ old ++ node_lines (take i numbers) (take i direction) → text ≡ old ++ node_lines (take j numbers) (take j direction)
still_more numbers direction i j number d old text h next still so_far =
    let none : lines_of ((number, d) ∷ []) ≡ [] = rw still refl in
    let lines : node_lines (take j numbers) (take j direction) ≡ node_lines (take i numbers) (take i direction) =
    rw next (lines_more numbers direction i number d h ∙ ap (λ l. node_lines (take i numbers) (take i direction) ++ l) none ∙ append-nil (node_lines (take i numbers) (take i direction))) in
    so_far ∙ ap (λ l. old ++ l) (sym lines)

-- as far as the shorter of the two lists goes, all pairs are taken
zip_none : (xs : List ℕ) (ys : List V3) → xs ≡ [] → zip xs ys ≡ []
zip_none xs ys e = rw e refl

zip_all : (numbers : List ℕ) (direction : List V3) (i : ℕ) → i ≡ min (length numbers) (length direction) → zip (take i numbers) (take i direction) ≡ zip numbers direction
zip_all [] direction i e = zip_none (take i []) (take i direction) (take-nil i)
zip_all (n ∷ numbers) [] i e = let none : i ≡ 0 = omega arith in rw none refl
zip_all (n ∷ numbers) (d ∷ direction) zero e = absurd (omega arith)
zip_all (n ∷ numbers) (d ∷ direction) (suc i) e = ap (λ (nodes : List (ℕ × V3)). (n, d) ∷ nodes) (zip_all numbers direction i (omega arith))

pub all_lines : (numbers : List ℕ) (direction : List V3) (i : ℕ) (old text : List ℕ) → i ≡ min (length numbers) (length direction)
    → text ≡ old ++ node_lines (take i numbers) (take i direction) → text ≡ old ++ node_lines numbers direction
all_lines numbers direction i old text end so_far = so_far ∙ ap (λ nodes. old ++ lines_of nodes) (zip_all numbers direction i end)
