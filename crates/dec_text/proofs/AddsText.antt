-- Calls that add a text, one after another.
use Rattle.std.proofs.Common.{◌≡◌, ℕ, ◌+◌, min, List, [], ◌∷◌, ◌++◌, refl, length, take, Result, Ok, Err, sym, ◌∙◌, ap, arith, append_assoc, append-nil}
use Rattle.std.proofs.Math.Seq.{take-append-add, take-append_seam}
use Rattle.std.proofs.lemmas.List.{take-append-le, take_min}
use Rattle.dec_text.specs.AddsText.{AddsText}

-- what the second adds follows what the first added
pub AddsText-append : {E : Type 0} (first second old middle new : List ℕ) (result : Result (Unit {0}) E) → middle ≡ old ++ first → AddsText second middle result new → AddsText (first ++ second) old result new
AddsText-append first second old middle new (Ok u) e h = record { ok = h.ok ∙ ap (λ x. x ++ second) e ∙ append_assoc old first second; err = tt }
AddsText-append first second old middle new (Err x) e h = record {
  ok = tt;
  err = (length first + h.err.0, h.err.1 ∙ ap (λ y. y ++ take h.err.0 second) e ∙ append_assoc old first (take h.err.0 second) ∙ ap (λ y. old ++ y) (sym (take-append-add first second h.err.0)));
}

-- the first call stops, and the second isn't made
pub AddsText-stops : {E F : Type 0} (first second old new : List ℕ) (x : E) (y : F) → AddsText first old (Err x) new → AddsText (first ++ second) old (Err y) new
AddsText-stops first second old new x y h = record {
  ok = tt;
  err = (min h.err.0 (length first), h.err.1 ∙ ap (λ z. old ++ z) (sym (take-append-le (min h.err.0 (length first)) first second (omega arith) ∙ take_min h.err.0 first)));
}

-- the list is as it was
pub AddsText-nothing : {E : Type 0} (text old new : List ℕ) (x : E) → new ≡ old → AddsText text old (Err x) new
AddsText-nothing text old new x e = record { ok = tt; err = (0, e ∙ sym (append-nil old)) }

-- new is old and then the front of a text, of which the end is left
pub record FrontAdded (old new text end : List ℕ) : Type 0 where
  pub front : List ℕ
  pub split : text ≡ front ++ end
  pub added : new ≡ old ++ front

pub FrontAdded-nothing : (old text : List ℕ) → FrontAdded old old text text
FrontAdded-nothing old text = record { front = []; split = refl; added = sym (append-nil old) }

pub FrontAdded-more : (old new newer text end : List ℕ) (b : ℕ) → FrontAdded old new text (b ∷ end) → newer ≡ new ++ b ∷ [] → FrontAdded old newer text end
FrontAdded-more old new newer text end b h e = record {
  front = h.front ++ b ∷ [];
  split = h.split ∙ sym (append_assoc h.front (b ∷ []) end);
  added = e ∙ ap (λ x. x ++ b ∷ []) h.added ∙ append_assoc old h.front (b ∷ []);
}

pub AddsText-all : {E : Type 0} (old new text : List ℕ) (u : Unit {0}) → FrontAdded old new text [] → AddsText {E = E} text old (Ok u) new
AddsText-all old new text u h = record { ok = h.added ∙ ap (λ x. old ++ x) (sym (h.split ∙ append-nil h.front)); err = tt }

pub AddsText-front : {E : Type 0} (old new text end : List ℕ) (x : E) → FrontAdded old new text end → AddsText text old (Err x) new
AddsText-front old new text end x h = record {
  ok = tt;
  err = (length h.front, h.added ∙ ap (λ y. old ++ y) (sym (ap (take (length h.front)) h.split ∙ take-append_seam h.front end)));
}
