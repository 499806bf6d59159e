-- How acts end, as a call answers.
use Rattle.std.specs.Prelude.{List, Result, Ok, Err}
use Rattle.ipc_top.specs.declared.acts.Stop.{Stop}
use Rattle.ipc_top.specs.Acts.{Act, World, Did, Stops}

-- the acts were done, or were stopped
abbrev pub Does : {T : Type 0} → List Act → Result T Stop → World → World → Type 0
Does acts (Ok x) old new = Did acts old new
Does acts (Err stop) old new = Stops stop acts old new
