use Rattle.std.proofs.Common.{ap, map}
use Rattle.aw_grammar.specs.GrammarOf.{grammar_of}
use Rattle.aw_msg.specs.MessageView.{message_of}
use Rattle.aw_law_sites.specs.Sites.{empty_site}
use Rattle.aw_site.specs.Sendable.{all_sendable, all_short}
use Rattle.aw_site.proofs.Beginning.{new_shown}
use Rattle.aw_site.proofs.NotedValid.{nothing_asked, nobody_watches}
use Rattle.aw_site.proofs.SeenParts.{seen_shown}
use Rattle.aw_site.proofs.site.Site.new.Goals as goal

pub invariant_of-result : goal.invariant_of-result
invariant_of-result g c = record {
  sendable = ap (λ ms. all_sendable (grammar_of c.new.result.accepted.now.grammar) (map (message_of (grammar_of c.new.result.accepted.now.grammar)) ms)) c.new-3.ensures.items;
  short = ap all_short c.new-3.ensures.items;
  asked = nothing_asked (grammar_of c.new.result.accepted.now.grammar) c.new-2.result c.new-2.ensures.asked;
  watched = nobody_watches (grammar_of c.new.result.accepted.now.grammar) c.new-2.result c.new-2.ensures.watchers;
}

pub returns-clause-site : goal.returns-clause-site
returns-clause-site g c =
    seen_shown g.F.Facts c.new.result c.new-2.result c.new-3.result.items c.args.loads (empty_site c.args.loads c.args.role)
    (new_shown g.F.Facts c.new.result c.new-2.result c.new-3.result.items c.args.loads c.args.role c.new.ensures.role c.new.ensures.nodes c.new.ensures.choices c.new.ensures.map
    c.new-2.ensures.asked c.new-2.ensures.watchers c.new-3.ensures.items)
