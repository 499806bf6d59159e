-- What is found of a list with one more candidate at its head.
use Rattle.std.proofs.Common.{◌≡◌, ℤ, pos, ◌*ℤ◌, ◌≤ℤ◌, ◌<ℤ◌, List, [], ◌∷◌, sym, subst}
use Rattle.std.proofs.lemmas.Int.{by_lt_z}
use Rattle.std.specs.Prelude.{Some, None, Bool, false, IsTrue}
use Rattle.std.proofs.lemmas.List.Elements.{recursion_from_All}
use Rattle.nearest.specs.Candidates.{Candidate, IsPositiveIfListed, IsValid}
use Rattle.nearest.specs.Feet.{Foot}
use Rattle.nearest.proofs.FirstLeast.{head_taken, head_passed, one_alone}
use Rattle.near_pair.specs.declared.found.Found.{Found}
use Rattle.near_pair.specs.declared.found.Side.{Side}
use Rattle.near_pair.specs.declared.found.Side.TheVariants.{Ab, Ac, Bc, FromA0, FromA1, FromB0, FromB1}
use Rattle.near_pair.specs.Calls.Choices.{FoundTells, IsFound, placed}

pub found_alone : (found : Found) (k : Candidate) → IsValid k → FoundTells found k → IsFound found (k ∷ [])
found_alone found k valid t = record { candidate = k; taken = one_alone k valid; tells = t }

pub found_head : (found rest : Found) (k : Candidate) (cs : List Candidate) → IsValid k → FoundTells found k → IsFound rest cs → (found.num.raw *ℤ rest.den.raw) ≤ℤ (rest.num.raw *ℤ found.den.raw) → IsFound found (k ∷ cs)
found_head found rest k cs valid t f h = record {
  candidate = k;
  taken = head_taken k f.candidate cs valid f.taken (rw (sym t.num, sym t.den, sym f.tells.num, sym f.tells.den) h);
  tells = t;
}

found_passed : (rest : Found) (k : Candidate) (cs : List Candidate) → IsFound rest cs → (IsValid k → (rest.num.raw *ℤ k.den) <ℤ (k.num *ℤ rest.den.raw)) → IsFound rest (k ∷ cs)
found_passed rest k cs f h = record {
  candidate = f.candidate;
  taken = head_passed k f.candidate cs f.taken (λ valid. rw (sym f.tells.num, sym f.tells.den) (h valid));
  tells = f.tells;
}

-- the new one is farther
pub found_farther : (found rest : Found) (k : Candidate) (cs : List Candidate) → FoundTells found k → IsFound rest cs → ((found.num.raw *ℤ rest.den.raw) ≤ℤ (rest.num.raw *ℤ found.den.raw) → ⊥) → IsFound rest (k ∷ cs)
found_farther found rest k cs t f h = found_passed rest k cs f (λ _. rw (sym t.num, sym t.den) (above _ _ h))
  where
    above : (a b : ℤ) → (a ≤ℤ b → ⊥) → b <ℤ a
    above a b h = by_lt_z b a (λ k. k) (λ k. absurd (h k))

pub not_true : (b : Bool) → b ≡ false → IsTrue b → ⊥
not_true b e t = cc

-- both weights of a valid candidate of an edge are positive
valid_edge : (side : Side) (f : Foot) → IsValid (placed side f) → (pos 0 <ℤ f.start) × (pos 0 <ℤ f.end)
valid_edge Ab f k =
    let h = recursion_from_All IsPositiveIfListed (Some f.den ∷ Some f.start ∷ Some f.end ∷ None ∷ []) k.weights in (h.1.0, h.1.1.0)
valid_edge Ac f k =
    let h = recursion_from_All IsPositiveIfListed (Some f.den ∷ Some f.start ∷ None ∷ Some f.end ∷ []) k.weights in (h.1.0, h.1.1.1.0)
valid_edge Bc f k =
    let h = recursion_from_All IsPositiveIfListed (Some f.den ∷ None ∷ Some f.start ∷ Some f.end ∷ []) k.weights in (h.1.1.0, h.1.1.1.0)
valid_edge FromA0 f k =
    let h = recursion_from_All IsPositiveIfListed (Some f.den ∷ None ∷ Some f.start ∷ Some f.end ∷ []) k.weights in (h.1.1.0, h.1.1.1.0)
valid_edge FromA1 f k =
    let h = recursion_from_All IsPositiveIfListed (None ∷ Some f.den ∷ Some f.start ∷ Some f.end ∷ []) k.weights in (h.1.1.0, h.1.1.1.0)
valid_edge FromB0 f k =
    let h = recursion_from_All IsPositiveIfListed (Some f.start ∷ Some f.end ∷ Some f.den ∷ None ∷ []) k.weights in (h.0, h.1.0)
valid_edge FromB1 f k =
    let h = recursion_from_All IsPositiveIfListed (Some f.start ∷ Some f.end ∷ None ∷ Some f.den ∷ []) k.weights in (h.0, h.1.0)

-- an edge without the foot is passed over
pub edge_passed : (side : Side) (f : Foot) (rest : Found) (cs : List Candidate) → ((pos 0 <ℤ f.start) × (pos 0 <ℤ f.end) → ⊥) → IsFound rest cs → IsFound rest (placed side f ∷ cs)
edge_passed side f rest cs h found = found_passed rest (placed side f) cs found (λ valid. absurd (h (valid_edge side f valid)))

-- the same found for a foot that is the same
pub found_side : (side : Side) (f g : Foot) (found : Found) (cs : List Candidate) → f ≡ g → IsFound found (placed side f ∷ cs) → IsFound found (placed side g ∷ cs)
found_side side f g found cs e h = subst (λ (t : Foot). IsFound found (placed side t ∷ cs)) e h
