-- Texts that share their first lines.
use Rattle.std.proofs.Common.{◌≡◌, ◌∙◌, ℕ, ◌+◌, ◌<◌, ◌≤◌, Bool, true, false, cond, List, [], ◌∷◌, ◌++◌, length, map, filter, sym, ap, subst, arith}
use Rattle.std.specs.List.{enumerate_from, AllByRecursion}
use Rattle.std.proofs.lemmas.List.{map-append}
use Rattle.std.proofs.lemmas.List.Elements.{filter-append}
use Rattle.line_fields.specs.Lines.{lines, fields, is_filled, numbered, numbered_from, with_fields}
use Rattle.msh_text.specs.declared.refusal.MshErr.{MshErr}
use Rattle.msh_text.specs.FirstFault.{Line, start, FaultOnRow, IsFirstFaultFrom}
use Rattle.dec_text.specs.declared.Snap.{Snap}
use Rattle.msh_text.specs.Texts.{IsTextFault}
use Rattle.msh_text.proofs.FaultsRead.{kept}

has_fields : ℕ × List ℕ → Bool
has_fields line = is_filled (fields line.1)

rows_at : ℕ → List (List ℕ) → List Line
rows_at first ls = map with_fields (filter (λ line. is_filled (fields line.1)) (enumerate_from first ls))

numbered-rows : (text : List ℕ) (ls : List (List ℕ)) → lines text ≡ ls → numbered text ≡ rows_at 1 ls
unfolding numbered_from rows_at
numbered-rows text ls e = ap (λ (all : List (List ℕ)). map with_fields (filter (λ line. is_filled (fields line.1)) (enumerate_from 1 all))) e

enumerate-append : (n : ℕ) (a b : List (List ℕ)) → enumerate_from n (a ++ b) ≡ enumerate_from n a ++ enumerate_from (n + length a) b
enumerate-append n [] b = ap (λ (k : ℕ). enumerate_from k b) (omega arith)
enumerate-append n (x ∷ a) b =
    let k : (n + 1) + length a ≡ n + length (x ∷ a) = omega arith in
    ap (λ (ls : List (ℕ × List ℕ)). (n, x) ∷ ls) (enumerate-append (n + 1) a b ∙ ap (λ (m : ℕ). enumerate_from (n + 1) a ++ enumerate_from m b) k)

rows-append : (n : ℕ) (a b : List (List ℕ)) → rows_at n (a ++ b) ≡ rows_at n a ++ rows_at (n + length a) b
unfolding rows_at
rows-append n a b =
    ap (λ (ls : List (ℕ × List ℕ)). map with_fields (filter (λ line. is_filled (fields line.1)) ls)) (enumerate-append n a b)
    ∙ ap (map with_fields) (filter-append (λ line. is_filled (fields line.1)) (enumerate_from n a) (enumerate_from (n + length a) b))
    ∙ map-append with_fields (filter (λ line. is_filled (fields line.1)) (enumerate_from n a)) (filter (λ line. is_filled (fields line.1)) (enumerate_from (n + length a) b))

-- no line of these comes before the one of that number
abbrev FromLine : ℕ → List Line → Type 0
FromLine n ls = AllByRecursion (λ (l : Line). n ≤ l.0) ls

low_head : (n : ℕ) (t : Bool) (l : ℕ × List ℕ) (ls : List (ℕ × List ℕ)) → n ≤ l.0 → FromLine n (map with_fields ls) → FromLine n (map with_fields (cond t (l ∷ ls) ls))
low_head n true l ls h more = (h, more)
low_head n false l ls h more = more

low : (n first : ℕ) (ls : List (List ℕ)) → n ≤ first → FromLine n (rows_at first ls)
unfolding rows_at
low n first [] h = tt
low n first (x ∷ ls) h = low_head n (is_filled (fields x)) (first, x) (filter (λ line. is_filled (fields line.1)) (enumerate_from (first + 1) ls)) h (low n (first + 1) ls (omega arith))

found_in : (n : ℕ) (before : List Line) (line : Line) (after : List Line) → FromLine n (before ++ line ∷ after) → n ≤ line.0
found_in n [] line after h = h.0
found_in n (b ∷ before) line after h = found_in n before line after h.1

split : (n : ℕ) (xs ys before : List Line) (line : Line) (after : List Line) → xs ++ ys ≡ before ++ line ∷ after → FromLine n ys → line.0 < n → (rest : List Line) × (xs ≡ before ++ line ∷ rest)
split n [] ys before line after e h lt = let le = found_in n before line after (subst (FromLine n) e h) in absurd (omega (arith, le, lt))
split n (x ∷ xs) ys [] line after e h lt = let same : x ≡ line = cc in (xs, ap (λ (l : Line). l ∷ xs) same)
split n (x ∷ xs) ys (b ∷ before) line after e h lt =
    let first : x ≡ b = cc in
    let others : xs ++ ys ≡ before ++ line ∷ after = cc in
    let found = split n xs ys before line after others h lt in
    (found.0, (ap (λ (l : Line). l ∷ xs) first) ∙ ap (λ (ls : List Line). b ∷ ls) found.1)

-- two texts with the same first lines have the same fault in these
pub same_fault_in : (digits : ℕ) (snap : Snap) (text other : List ℕ) (shared a b : List (List ℕ)) (f : MshErr) → lines text ≡ shared ++ a → lines other ≡ shared ++ b → f.line ≤ length shared → FaultOnRow (start digits snap) (numbered text) f → IsTextFault other digits snap f
same_fault_in digits snap text other shared a b f ea eb le h =
    let rows : rows_at 1 shared ++ rows_at (1 + length shared) a ≡ h.before ++ h.line ∷ h.after = sym (rows-append 1 shared a) ∙ sym (numbered-rows text (shared ++ a) ea) ∙ h.whole in
    let lt : h.line.0 < 1 + length shared = omega (arith, h.number, le) in
    let found = split (1 + length shared) (rows_at 1 shared) (rows_at (1 + length shared) a) h.before h.line h.after rows (low (1 + length shared) (1 + length shared) a (omega arith)) lt in
    let there : FaultOnRow (start digits snap) (rows_at 1 shared) f = record { before = h.before; line = h.line; after = found.0; there = h.there; whole = found.1; passes = h.passes; kind = h.kind; number = h.number } in
    subst (λ (ls : List Line). IsFirstFaultFrom (start digits snap) ls (length (lines other)) f) (sym (numbered-rows other (shared ++ b) eb ∙ rows-append 1 shared b)) (kept (start digits snap) (rows_at 1 shared) (rows_at (1 + length shared) b) (length (lines other)) f there)
