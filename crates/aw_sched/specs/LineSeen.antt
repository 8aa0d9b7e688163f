-- A line of the program as the definitions speak of it.
use Rattle.std.specs.Prelude.{◌≡◌, true, map}
use Rattle.aw_grammar.specs.Terms.{all_have_contents}
use Rattle.aw_grammar.specs.Written.{written_of}
use Rattle.aw_sched.specs.Lines as P
use Rattle.aw_sched.specs.declared.line.SchedLine.{SchedLine}
use Rattle.aw_sched.specs.declared.line.SchedLine.TheVariants.{Start, Choose, Deliver, Settle, List}

-- a line of the program, with its arguments as they are written
abbrev pub line_seen : SchedLine → P.Line
line_seen (Start sort case) = P.StartLine sort.now case
line_seen (Choose node rule args) = P.ChooseLine node.now rule.now (map written_of args)
line_seen (Deliver message) = P.DeliverLine message
line_seen Settle = P.SettleLine
line_seen (List role) = P.ListLine role.now

-- the texts in the arguments are contents
abbrev pub HasContents : P.Line → Type 0
HasContents (P.ChooseLine node rule args) = all_have_contents args ≡ true
HasContents (P.StartLine sort case) = Unit {0}
HasContents (P.DeliverLine message) = Unit {0}
HasContents P.SettleLine = Unit {0}
HasContents (P.ListLine role) = Unit {0}
