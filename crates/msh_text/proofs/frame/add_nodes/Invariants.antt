use Rattle.std.proofs.Common.{◌≡◌, ◌++◌, take}
use Rattle.std.specs.Prelude.{map}
use Rattle.std.specs.List.{zip, flat_map}
use Rattle.msh_text.specs.Frame.{line_of, node_row}
use Rattle.msh_text.proofs.frame.add_nodes.Given as goal

abbrev pub invariant-loop-i : goal.invariant-loop-i
invariant-loop-i l = l.out.items ≡ l.fn.out.items ++ flat_map line_of (map (node_row l.digits) (take l.i (zip l.numbers l.places)))
