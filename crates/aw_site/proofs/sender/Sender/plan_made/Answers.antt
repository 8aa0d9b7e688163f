use Rattle.std.proofs.Common.{◌∙◌, ◌++◌, ap}
use Rattle.std.proofs.lemmas.Result.{IfOk-weaker}
use Rattle.aw_grammar.specs.GrammarOf.{grammar_of}
use Rattle.aw_site.specs.Plans.{asks_for}
use Rattle.aw_site.proofs.sender.Sender.plan_made.Goals as goal

pub asking-requires : goal.asking-requires
asking-requires g c = c.in-Ok.ensures.names

pub returns-in-Ok-clause-wanted : goal.returns-in-Ok-clause-wanted
returns-in-Ok-clause-wanted g c = IfOk-weaker c.asking.result _ _ (λ p h s sends shows. h ∙ c.in-Ok.ensures.wanted s sends shows) c.asking.ensures.wanted

pub returns-in-Ok-clause-sent : goal.returns-in-Ok-clause-sent
returns-in-Ok-clause-sent g c =
    let gr = grammar_of c.args.self.now.grammar.now in
    IfOk-weaker c.asking.result _ _ (λ p h s sends watch. h s sends ∙ ap (λ ms. ms ++ asks_for gr s p.wanted.items) (c.in-Ok.ensures.sent s sends watch)) c.asking.ensures.sent
