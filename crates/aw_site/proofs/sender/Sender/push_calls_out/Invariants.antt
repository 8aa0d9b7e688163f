use Rattle.std.proofs.Common.{◌≡◌, ◌++◌, map, drop}
use Rattle.aw_grammar.specs.GrammarOf.{grammar_of}
use Rattle.aw_msg.specs.MessageView.{message_of}
use Rattle.aw_law_sites.specs.Sites.{Site}
use Rattle.aw_law_sites.specs.Telling.{calls_out}
use Rattle.aw_site.specs.Senders.{SendsAs}
use Rattle.aw_site.specs.Views.{child_call}
use Rattle.aw_site.proofs.sender.Sender.push_calls_out.Given as goal

abbrev pub invariant-loop-child : goal.invariant-loop-child
invariant-loop-child g l = (s : Site) → SendsAs g.F.Facts l.self s →
    map (message_of (grammar_of l.self.grammar.now)) l.sent.items ++ calls_out (grammar_of l.self.grammar.now) s (map (child_call (grammar_of l.self.grammar.now)) (drop l.child-index l.children))
    ≡ map (message_of (grammar_of l.self.grammar.now)) l.fn.sent.items ++ calls_out (grammar_of l.self.grammar.now) s (map (child_call (grammar_of l.self.grammar.now)) l.children)
