use Rattle.std.proofs.Common.{◌≡◌, ◌∙◌, true, sym, rules}
use Rattle.aw_grammar.specs.GrammarOf.{grammar_of}
use Rattle.aw_law_sites.specs.InOrder.{insert_ref}
use Rattle.aw_site.proofs.Wanting.{puts_one, wanted_other}
use Rattle.aw_site.proofs.sender.Sender.insert_other.Goals as goal

pub returns-in_ok-insert : goal.returns-in_ok-insert
returns-in_ok-insert g c =
    let sender = c.args.self.now in
    let r = c.args.r.now in
    let put : c.insert.new.self.items ≡ insert_ref r c.args.wanted.now.items = search rules in
    puts_one g.F.Facts sender c.args.subs.now r c.args.wanted.now.items c.insert.new.self.items c.requires.ordered put c.requires.valid
    (λ s sends shows. wanted_other (grammar_of sender.grammar.now) s r sender.role true sends.role c.requires.other (sym c.if-is_unknown.true ∙ c.is_unknown.ensures s sends shows))
