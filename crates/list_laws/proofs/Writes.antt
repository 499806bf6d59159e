-- Lists of a fixed length that are written element by element.
use Rattle.std.proofs.Common.{◌≡◌, ◌∙◌, ℕ, ◌+◌, ◌<◌, List, [], ◌∷◌, ◌++◌, length, map, take, set, get_or, sym, ap, append_assoc}
use Rattle.std.proofs.lemmas.List.{take_more_set, map_more}

-- one more image behind some elements
pub put_image : {X Y : Type 0} (f : X → Y) (xs : List X) (ys front : List Y) (m j : ℕ) (d : X) (y : Y) → m < length ys → j < length xs → y ≡ f (get_or xs j d) →
    take m ys ≡ front ++ map f (take j xs) → take (m + 1) (set ys m y) ≡ front ++ map f (take (j + 1) xs)
put_image f xs ys front m j d y lm lj e h =
    take_more_set ys m y lm ∙ (λ t. h t ++ e t ∷ []) ∙ append_assoc front (map f (take j xs)) (f (get_or xs j d) ∷ []) ∙ ap (λ zs. front ++ zs) (sym (map_more f xs j d lj))
