use Rattle.std.proofs.Common.{◌≡◌, ◌++◌, map}
use Rattle.aw_grammar.specs.GrammarOf.{grammar_of}
use Rattle.aw_store.specs.EquationView.{equation_of}
use Rattle.aw_msg.specs.MessageView.{message_of}
use Rattle.aw_law_sites.specs.Sites.{Site}
use Rattle.aw_law_sites.specs.Telling.{tell}
use Rattle.aw_site.specs.Senders.{SendsAs}
use Rattle.aw_site.proofs.SentLists.{roles_of}
use Rattle.aw_site.proofs.sender.Sender.push_told.Given as goal

abbrev pub invariant-telling : goal.invariant-telling
invariant-telling g l = (s : Site) → SendsAs g.F.Facts l.self s →
    map (message_of (grammar_of l.self.grammar.now)) l.sent.items ++ map (tell (grammar_of l.self.grammar.now) s (equation_of l.e)) (roles_of l.rest)
    ≡ map (message_of (grammar_of l.self.grammar.now)) l.fn.sent.items ++ map (tell (grammar_of l.self.grammar.now) s (equation_of l.e)) (roles_of l.watchers)

abbrev pub decreases-telling : goal.decreases-telling
decreases-telling g l = l.rest
