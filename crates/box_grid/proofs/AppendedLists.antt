-- Lists that a loop appends to one that was there.
use Rattle.std.proofs.Common.{◌≡◌, ◌∙◌, if◌then◌else◌, ℕ, Bool, ◌+◌, List, [], ◌∷◌, ◌++◌, map, ap, sym, arith, append_assoc, zero-add}
use Rattle.std.specs.List.{filter, range_with_len, flat_map}
use Rattle.std.proofs.lemmas.List.Elements.{filter-append}
use Rattle.std.proofs.lemmas.List.FromFn.{map-range_with_len_more}
use Rattle.list_laws.proofs.Pushes.{flat_map_counted_more, range_more}

-- a turn that appends the list of i
pub append_list : {A : Type 0} (f : ℕ → List A) (i : ℕ) (old now new added : List A) → now ≡ old ++ flat_map f (range_with_len 0 i) → new ≡ now ++ added → added ≡ f i → new ≡ old ++ flat_map f (range_with_len 0 (i + 1))
append_list f i old now new added e g h =
    g ∙ ap (λ l. l ++ added) e ∙ ap (λ l. (old ++ flat_map f (range_with_len 0 i)) ++ l) h
    ∙ append_assoc old (flat_map f (range_with_len 0 i)) (f i)
    ∙ ap (λ l. old ++ l) (sym (flat_map_counted_more f i))

-- a turn that appends the image of i
pub append_image : {A : Type 0} (f : ℕ → A) (i : ℕ) (old now new : List A) (x : A) → now ≡ old ++ map f (range_with_len 0 i) → new ≡ now ++ x ∷ [] → x ≡ f i → new ≡ old ++ map f (range_with_len 0 (i + 1))
append_image f i old now new x e g h =
    g ∙ ap (λ l. l ++ x ∷ []) e ∙ ap (λ y. (old ++ map f (range_with_len 0 i)) ++ y ∷ []) h
    ∙ append_assoc old (map f (range_with_len 0 i)) (f i ∷ [])
    ∙ ap (λ l. old ++ l) (sym (map-range_with_len_more f 0 i i (omega arith)))

-- a turn that appends i where it passes
pub append_filtered : (p : ℕ → Bool) (i : ℕ) (old now new : List ℕ) (wanted : Bool) → now ≡ old ++ filter p (range_with_len 0 i) → new ≡ now ++ (if wanted then i ∷ [] else []) → wanted ≡ p i → new ≡ old ++ filter p (range_with_len 0 (i + 1))
append_filtered p i old now new wanted e g h =
    g
    ∙ (λ t. e t ++ (if h t then i ∷ [] else []))
    ∙ append_assoc old (filter p (range_with_len 0 i)) (filter p (i ∷ []))
    ∙ ap (λ l. old ++ l) (sym (filter-append p (range_with_len 0 i) (i ∷ [])) ∙ ap (filter p) (sym (range_more 0 i i (zero-add i))))
