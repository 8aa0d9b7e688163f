use Rattle.std.proofs.Common.{◌≡◌, map, take}
use Rattle.aw_grammar.specs.GrammarOf.{grammar_of}
use Rattle.aw_choice.specs.ChoiceView.{item_of}
use Rattle.aw_node_list.specs.HeldView.{all_of}
use Rattle.aw_law_sites.specs.Worklists.{site_worklist}
use Rattle.aw_space.proofs.space.Space.list.Given as goal

abbrev pub invariant-loop-at : goal.invariant-loop-at
invariant-loop-at g l =
    map item_of l.items.items ≡ site_worklist (grammar_of l.self.accepted.now.grammar) (g.F.Facts.map l.self.facts) (all_of (grammar_of l.self.accepted.now.grammar) (take l.at l.self.held.items))
