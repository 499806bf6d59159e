-- A setup has a first defect, or none, and only one.
use Rattle.std.proofs.Common.{◌≡◌, ◌∙◌, List, ◌∷◌, ◌⊎◌, inl, inr, map, refl, sym, ap, subst}
use Rattle.std.specs.Prelude.{All, Option, Some, None}
use Rattle.std.proofs.lemmas.List.Elements.{All-head}
use Rattle.list_laws.specs.Firsts.{IsFirstOf}
use Rattle.list_laws.proofs.Elements.{All-append_right}
use Rattle.list_laws.proofs.Firsts.{first_or_none, one_first}
use Rattle.space3.specs.Mesh.{place_of}
use Rattle.safe_motion.proofs.Separation.{meeting_excludes_separation}
use Rattle.plane_cut.proofs.Alternative.{separated_or}
use Rattle.boundary.specs.declared.pairs.Pair.{Pair}
use Rattle.boundary.specs.Pairs.{pairs_of, part_pair}
use Rattle.surface_mesh.specs.declared.setup.Setup.{Setup}
use Rattle.mesh_check.specs.declared.defects.Defect.{Defect}
use Rattle.mesh_check.specs.declared.defects.Defect.TheVariants as defects
use Rattle.mesh_check.specs.Defects.{IsFirstDefect, Flawed, Meeting, Sound, PartsMeet, first_flaw}

both_ways : (f : Option Defect) (defect : Defect) → f ≡ Some defect → f ≡ None → ⊥
both_ways f defect e none = cc

-- where no pair meets, none is the first that does
excluded : (s : Setup) (pair : Pair) → IsFirstOf (PartsMeet s) (pairs_of s.surface) pair → All (λ pair. ¬ PartsMeet s pair) (pairs_of s.surface) → ⊥
excluded s pair f none =
    let Apart : Pair → Type 0 = λ p. ¬ PartsMeet s p in
    All-head Apart pair f.after (All-append_right Apart f.before (pair ∷ f.after) (subst (All Apart) f.cut none)) f.holds

pub one_defect : (s : Setup) (a b : Option Defect) → IsFirstDefect s a → IsFirstDefect s b → a ≡ b
one_defect s a b (Flawed d e is) (Flawed d' e' is') = is ∙ sym e ∙ e' ∙ sym is'
one_defect s a b (Flawed d e is) (Meeting pair none f is') = absurd (both_ways (first_flaw s) d e none)
one_defect s a b (Flawed d e is) (Sound none apart is') = absurd (both_ways (first_flaw s) d e none)
one_defect s a b (Meeting pair none f is) (Flawed d e is') = absurd (both_ways (first_flaw s) d e none)
one_defect s a b (Meeting pair none f is) (Meeting pair' none' f' is') = is ∙ ap (λ p. Some (defects.Meets p)) (one_first (PartsMeet s) (pairs_of s.surface) pair pair' f f') ∙ sym is'
one_defect s a b (Meeting pair none f is) (Sound none' apart is') = absurd (excluded s pair f apart)
one_defect s a b (Sound none apart is) (Flawed d e is') = absurd (both_ways (first_flaw s) d e none)
one_defect s a b (Sound none apart is) (Meeting pair none' f is') = absurd (excluded s pair f apart)
one_defect s a b (Sound none apart is) (Sound none' apart' is') = is ∙ sym is'

-- where there is none, no tetrahedron and no node has a defect, and no pair meets
pub none_means : (s : Setup) → IsFirstDefect s None → (first_flaw s ≡ None) × All (λ pair. ¬ PartsMeet s pair) (pairs_of s.surface)
none_means s (Flawed d e is) = absurd cc
none_means s (Meeting pair none f is) = absurd cc
none_means s (Sound none apart is) = (none, apart)

-- whether the parts of a pair meet is decided
meet_or_not : (s : Setup) (pair : Pair) → PartsMeet s pair ⊎ ¬ PartsMeet s pair
meet_or_not s pair =
    let xs = map (place_of s.mesh.places) (part_pair s.surface pair).left in
    let ys = map (place_of s.mesh.places) (part_pair s.surface pair).right in
    elim (separated_or xs ys) [
      | inl apart ↦ inr (λ m. meeting_excludes_separation apart.0 m.common.0 m.common.1 xs ys m.common.2 apart.1)
      | inr common ↦ inl (record { common = common })
    ]

pub some_defect : (s : Setup) → (found : Option Defect) × IsFirstDefect s found
some_defect s = by (first_flaw s) refl (first_or_none (PartsMeet s) (meet_or_not s) (pairs_of s.surface))
  where
    by : (flaw : Option Defect) → first_flaw s ≡ flaw → ((pair : Pair) × IsFirstOf (PartsMeet s) (pairs_of s.surface) pair) ⊎ All (λ pair. ¬ PartsMeet s pair) (pairs_of s.surface) → (found : Option Defect) × IsFirstDefect s found
    by (Some defect) e pairs = (Some defect, Flawed defect e refl)
    by None e (inl first) = (Some (defects.Meets first.0), Meeting first.0 e first.1 refl)
    by None e (inr apart) = (None, Sound e apart refl)
