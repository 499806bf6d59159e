-- Lists joined for each element of a list with its position.
use Rattle.std.proofs.Common.{◌≡◌, ◌∙◌, ℕ, ◌+◌, ◌<◌, List, [], ◌∷◌, ◌++◌, ap, sym, length, get_or, take, arith, append-nil, zero-add}
use Rattle.std.specs.List.{flat_map, enumerate_from}
use Rattle.std.proofs.lemmas.List.{take_more}
use Rattle.std.proofs.lemmas.List.Concat.{flat_map-append}
use Rattle.std.proofs.lemmas.List.FromFn.{get_or-enumerate_from, length-enumerate_from}

-- one element more: `new` are the lists joined so far, with that of x at the end
pub joined_more : {A B : Type 0} (f : ℕ × A → List B) (xs : List A) (old : List B) (k : ℕ) (x : A) (more : List B) → k < length xs → x ≡ get_or xs k x → old ≡ flat_map f (take k (enumerate_from 0 xs)) → more ≡ f (k, x) → old ++ more ≡ flat_map f (take (k + 1) (enumerate_from 0 xs))
joined_more f xs old k x more l is o m =
    let e = enumerate_from 0 xs in
    let at : get_or e k (k, x) ≡ (k, x) = get_or-enumerate_from 0 xs k (k, x) l ∙ (λ i. (zero-add k i, sym is i)) in
    (λ i. o i ++ m i)
    ∙ ap (λ l. flat_map f (take k e) ++ l) (sym (append-nil (f (k, x))))
    ∙ sym (flat_map-append f (take k e) ((k, x) ∷ []))
    ∙ ap (λ y. flat_map f (take k e ++ y ∷ [])) (sym at)
    ∙ ap (flat_map f) (sym (take_more e k (k, x) (omega (arith, length-enumerate_from 0 xs))))
