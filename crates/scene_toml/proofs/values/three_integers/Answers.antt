use Rattle.std.proofs.Common.{◌≡◌, ◌≢◌, None, List, [], ◌∷◌, length, refl, arith}
use Rattle.toml.specs.View.{items_view}
use Rattle.toml.specs.declared.value.Value.{Value}
use Rattle.scene_toml.specs.Values.{three_integers}
use Rattle.scene_toml.proofs.values.three_integers.Goals as goal

not_three : (vs : List Value) → length vs ≢ 3 → None ≡ three_integers (items_view vs)
not_three [] h = refl
not_three (a ∷ []) h = refl
not_three (a ∷ b ∷ []) h = refl
not_three (a ∷ b ∷ c ∷ []) h = absurd (h refl)
not_three (a ∷ b ∷ c ∷ d ∷ vs) h = refl

pub returns-in_default : goal.returns-in_default
returns-in_default c = not_three c.args.items.now (omega (arith, c.in_default.len_below))

pub returns-in_default-2 : goal.returns-in_default-2
returns-in_default-2 c = not_three c.args.items.now (omega (arith, c.in_default.len_at_least))
