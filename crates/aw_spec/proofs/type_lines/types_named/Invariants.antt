use Rattle.std.proofs.Common.{◌≡◌, ◌++◌, List, ℕ, drop, option_map}
use Rattle.aw_spec.specs.TypeLines.{type_names, types_named}
use Rattle.aw_spec.proofs.type_lines.types_named.Given as goal

abbrev pub invariant-loop-name : goal.invariant-loop-name
invariant-loop-name l = option_map (λ (more : List ℕ). l.numbers ++ more) (types_named (type_names l.types) (drop l.name-index l.name-items)) ≡ types_named (type_names l.types) l.names
