-- The sorts of a program's grammar, all at one role.
use Rattle.std.specs.Prelude.{List, map}
use Rattle.aw_grammar.specs.declared.rule.Sort.{Sort}

-- the sort at role 0
abbrev pub seated : Sort → Sort
seated s = record { name = s.name; role = 0; takes = s.takes; gives = s.gives; start = s.start }

-- each sort at role 0
abbrev pub all_seated : List Sort → List Sort
all_seated sorts = map seated sorts
