-- A text that grows by one piece after the other.
use Rattle.std.proofs.Common.{◌≡◌, ◌∙◌, ℕ, List, [], ◌++◌, length, take, Result, Ok, Err, OnOk, OnErr, sym, ap, append_assoc}
use Rattle.std.proofs.Math.Seq.{take-append_seam}
use Rattle.std.proofs.lemmas.List.{append-nil}
use Rattle.dec_text.specs.AddsText.{AddsText}
use Rattle.msh_text.specs.Calls.Growth.{Begins}

-- what is so in any case is so after an error
pub on_err : {A E : Type 0} (r : Result A E) {P : Type 0} → P → OnErr r P
on_err (Ok x) p = tt
on_err (Err e) p = p

pub begins_itself : (text same : List ℕ) → same ≡ text → Begins text same
begins_itself text same e = record { rest = []; whole = e ∙ sym (append-nil text) }

-- before its last pieces a text has the same beginning
pub begins_before : (a b c t : List ℕ) → b ≡ a ++ t → Begins b c → Begins a c
begins_before a b c t e h = record { rest = t ++ h.rest; whole = h.whole ∙ ap (λ x. x ++ h.rest) e ∙ append_assoc a t h.rest }

-- after a piece nothing more was added
pub begins_still : (a b c t : List ℕ) → b ≡ a ++ t → c ≡ b → Begins a c
begins_still a b c t e same = record { rest = t; whole = same ∙ e }

pub begins_still-err : {A E : Type 0} (r : Result A E) (a b c t : List ℕ) → b ≡ a ++ t → OnErr r (c ≡ b) → OnErr r (Begins a c)
begins_still-err (Ok x) a b c t e h = tt
begins_still-err (Err fault) a b c t e h = begins_still a b c t e h

-- a text that has grown is cut back
pub cut_back : (front text : List ℕ) → Begins front text → take (length front) text ≡ front
cut_back front text h = rw h.whole (take-append_seam front h.rest)

-- a text was added after a piece, or its front
pub begins_adds : {E : Type 0} (r : Result (Unit {0}) E) (a b c t text : List ℕ) → b ≡ a ++ t → AddsText text b r c → OnErr r (Begins a c)
begins_adds (Ok u) a b c t text e h = tt
begins_adds (Err x) a b c t text e h = begins_before a b c t e (record { rest = take h.err.0 text; whole = h.err.1 })

pub added_adds : {E : Type 0} (r : Result (Unit {0}) E) (a b c t text : List ℕ) → b ≡ a ++ t → AddsText text b r c → OnOk r (c ≡ a ++ (t ++ text))
added_adds (Ok u) a b c t text e h = h.ok ∙ ap (λ x. x ++ text) e ∙ append_assoc a t text
added_adds (Err x) a b c t text e h = tt
