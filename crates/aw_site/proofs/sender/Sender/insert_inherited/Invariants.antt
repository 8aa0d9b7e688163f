use Rattle.std.proofs.Common.{◌-◌, drop, length, map}
use Rattle.aw_grammar.specs.GrammarOf.{grammar_of}
use Rattle.aw_law_sites.specs.Asking.{all_inherited}
use Rattle.aw_law_sites.specs.Telling.{calls_in}
use Rattle.aw_site.specs.Views.{child_call}
use Rattle.aw_site.specs.Wanting.{PutsWanted}
use Rattle.aw_site.proofs.sender.Sender.insert_inherited.Given as goal

abbrev pub invariant-loop-i : goal.invariant-loop-i
invariant-loop-i g l =
    PutsWanted g.F.Facts l.self l.subs
    (all_inherited (calls_in (grammar_of l.self.grammar.now) l.self.role (map (child_call (grammar_of l.self.grammar.now)) (drop (length l.children - l.i) l.children))))
    l.fn.wanted.items l.wanted.items
