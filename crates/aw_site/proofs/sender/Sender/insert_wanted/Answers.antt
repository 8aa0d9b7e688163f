use Rattle.std.proofs.Common.{◌∙◌, sym}
use Rattle.aw_grammar.specs.GrammarOf.{grammar_of}
use Rattle.aw_site.proofs.Wanting.{puts_not, wanted_own}
use Rattle.aw_site.proofs.sender.Sender.insert_wanted.Goals as goal

pub returns-then-is_own : goal.returns-then-is_own
returns-then-is_own g c =
    let sender = c.args.self.now in
    let r = c.args.r.now in
    puts_not g.F.Facts sender c.args.subs.now r c.args.wanted.now.items c.requires.ordered
    (λ s sends shows. wanted_own (grammar_of sender.grammar.now) s r sender.role sends.role (sym c.is_own.ensures ∙ c.if-is_own.true))

pub insert_other-requires-clause-other : goal.insert_other-requires-clause-other
insert_other-requires-clause-other g c = sym c.is_own.ensures ∙ c.if-is_own.false
