use Rattle.std.proofs.Common.{◌≡◌, ◌++◌, map, drop}
use Rattle.aw_grammar.specs.GrammarOf.{grammar_of}
use Rattle.aw_store.specs.EquationView.{equation_of}
use Rattle.aw_msg.specs.MessageView.{message_of}
use Rattle.aw_law_sites.specs.Sites.{Site}
use Rattle.aw_law_sites.specs.Telling.{tells}
use Rattle.aw_site_repeat.specs.Holders.{ShowsWatchers}
use Rattle.aw_site.specs.Senders.{SendsAs}
use Rattle.aw_site.proofs.sender.Sender.push_tells.Given as goal

abbrev pub invariant-loop-e : goal.invariant-loop-e
invariant-loop-e g l = (s : Site) → SendsAs g.F.Facts l.self s → ShowsWatchers l.subs s.watches →
    map (message_of (grammar_of l.self.grammar.now)) l.sent.items ++ tells (grammar_of l.self.grammar.now) s (map equation_of (drop l.e-index l.es))
    ≡ map (message_of (grammar_of l.self.grammar.now)) l.fn.sent.items ++ tells (grammar_of l.self.grammar.now) s (map equation_of l.es)
