use Rattle.std.proofs.Common.{◌∙◌, sym}
use Rattle.std.proofs.lemmas.Result.{IfOk-weaker}
use Rattle.std.proofs.Common.{◌++◌, map}
use Rattle.aw_grammar.specs.GrammarOf.{grammar_of}
use Rattle.aw_store.specs.EquationView.{equation_of}
use Rattle.aw_site.proofs.Named.{found_valid}
use Rattle.aw_site.proofs.Walking.{given_yes, given_no}
use Rattle.aw_site.proofs.sender.Sender.given.Goals as goal

pub returns-then-may_give-clause-valid : goal.returns-then-may_give-clause-valid
returns-then-may_give-clause-valid g c =
    let sender = c.args.self.now in
    IfOk-weaker c.body_in_both.result _ _
    (λ body e. found_valid (grammar_of sender.grammar.now) (g.F.Facts.map sender.facts.now ++ map equation_of sender.more.now) c.args.r.now body sender.valid e)
    c.body_in_both.ensures

pub returns-then-may_give-clause-gives : goal.returns-then-may_give-clause-gives
returns-then-may_give-clause-gives g c =
    IfOk-weaker c.body_in_both.result _ _
    (λ body e s sends rs later. given_yes _ c.args.r.now _ _ rs later (sym (c.may_give.ensures s sends) ∙ c.if-may_give.true) (sends.equations c.args.r.now ∙ sym e))
    c.body_in_both.ensures

pub returns-else-may_give-clause-gives : goal.returns-else-may_give-clause-gives
returns-else-may_give-clause-gives g c = λ s sends rs later. given_no _ c.args.r.now _ rs later (sym (c.may_give.ensures s sends) ∙ c.if-may_give.false)
