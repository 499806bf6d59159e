use Rattle.std.proofs.Common.{subst, sym}
use Rattle.toml.specs.View.{view}
use Rattle.scene_toml.specs.Gives.{Gives}
use Rattle.scene_toml.specs.Parts.{part_of}
use Rattle.scene_toml.proofs.Items.{is_table}
use Rattle.scene_toml.proofs.parts.part_of.Goals as goal

pub returns-in-Some : goal.returns-in-Some
returns-in-Some c =
    subst (λ d. Gives c.part_in.result (part_of c.args.earlier.now d)) (sym (is_table (view c.args.item.now) _ c.in-Some.ensures)) c.part_in.ensures
