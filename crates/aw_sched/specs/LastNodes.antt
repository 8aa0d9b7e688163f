-- The name of a node that was read last.
use Rattle.std.specs.Prelude.{Option, IfSome}
use Rattle.aw_grammar.specs.declared.grammar.Grammar.{Grammar}
use Rattle.aw_sched.specs.KnownChoices.{Names}
use Rattle.aw_sched.specs.declared.choice_line.LastNode.{LastNode}

-- where a name is kept, it is that of the node
abbrev pub IsLast : Grammar → Option LastNode → Type 0
IsLast g last = IfSome last (λ l. Names g l.text.now l.node)
