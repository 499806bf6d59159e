-- What is written or read in pieces.
use Rattle.std.proofs.Common.{◌≡◌, ◌+◌, ◌-◌, ℕ, List, ◌++◌, length, take, drop, ap, sym, subst, ◌∙◌, append_assoc, length-drop, Option, Some, None}
use Rattle.std.proofs.Math.Seq.{take-add, take-length}
use Rattle.std.specs.Io.KnownBytes.{append_known}

-- what is left of the bytes, as a slice `xs[i..]` is seen
pub rest_is : (i : ℕ) (xs : List ℕ) → take (length xs - i) (drop i xs) ≡ drop i xs
rest_is i xs = subst (λ (n : ℕ). take n (drop i xs) ≡ drop i xs) (length-drop i xs) (take-length (drop i xs))

-- the first i bytes, and k of those behind them
pub front_more : (i k : ℕ) (xs : List ℕ) → take i xs ++ take k (take (length xs - i) (drop i xs)) ≡ take (i + k) xs
front_more i k xs = ap (λ ys. take i xs ++ take k ys) (rest_is i xs) ∙ sym (take-add i k xs)

-- the told bytes grew by the first i, and then by k more
pub grown_more : (old now : Option (List ℕ)) (xs : List ℕ) (i k : ℕ) → now ≡ append_known old (take i xs)
    → append_known now (take k (take (length xs - i) (drop i xs))) ≡ append_known old (take (i + k) xs)
grown_more None now xs i k grown = ap (λ o. append_known o (take k (take (length xs - i) (drop i xs)))) grown
grown_more (Some x) now xs i k grown =
    ap (λ o. append_known o (take k (take (length xs - i) (drop i xs)))) grown
    ∙ ap Some (append_assoc x (take i xs) (take k (take (length xs - i) (drop i xs))) ∙ ap (λ ys. x ++ ys) (front_more i k xs))
