use Rattle.std.proofs.Common.{◌≡◌, ◌++◌, map, drop}
use Rattle.aw_grammar.specs.GrammarOf.{grammar_of}
use Rattle.aw_msg.specs.MessageView.{message_of}
use Rattle.aw_law_sites.specs.Sites.{Site}
use Rattle.aw_site.specs.Plans.{asks_for}
use Rattle.aw_site.specs.Senders.{SendsAs}
use Rattle.aw_site.proofs.sender.Sender.push_asks.Given as goal

abbrev pub invariant-loop-r : goal.invariant-loop-r
invariant-loop-r g l = (s : Site) → SendsAs g.F.Facts l.self s →
    map (message_of (grammar_of l.self.grammar.now)) l.sent.items ++ asks_for (grammar_of l.self.grammar.now) s (drop l.r-index l.wanted)
    ≡ map (message_of (grammar_of l.self.grammar.now)) l.fn.sent.items ++ asks_for (grammar_of l.self.grammar.now) s l.wanted
