use Rattle.std.proofs.Common.{◌∙◌, ap, reverse, option_map, true}
use Rattle.aw_store.specs.EquationView.{body_of}
use Rattle.aw_law_sites.specs.Loads.{given_on}
use Rattle.std.proofs.Common.{◌≡◌, Option, subst}
use Rattle.std.specs.Prelude.{IfSome}
use Rattle.aw_grammar.specs.GrammarOf.{grammar_of}
use Rattle.aw_store.specs.declared.equation.Body.{Body}
use Rattle.aw_law_sites.specs.ValidNames.{body_ok}
use Rattle.aw_site.proofs.Named.{gave_valid}
use Rattle.aw_site.proofs.Walking.{gave}
use Rattle.aw_site.proofs.sender.Sender.give.Goals as goal

pub returns-in_ok-push_mentions-in-Some-clause-valid : goal.returns-in_ok-push_mentions-in-Some-clause-valid
returns-in_ok-push_mentions-in-Some-clause-valid g c = λ ok.
    let gr = grammar_of c.args.self.now.grammar.now in
    let body = subst (λ (o : Option Body). IfSome o (λ b. body_ok gr (body_of b) ≡ true)) c.in-Some.is c.in_ok-body.ensures.valid in
    gave_valid gr (body_of c.in-Some.body) (reverse c.args.stack.now.items) _ c.in_ok-push_mentions-in-Some.ensures body ok

pub returns-in_ok-push_mentions-in-Some-clause-gives : goal.returns-in_ok-push_mentions-in-Some-clause-gives
returns-in_ok-push_mentions-in-Some-clause-gives g c = λ s sends later.
    gave _ later c.args.r c.in_ok-body.field-0 c.in-Some.body (reverse c.args.stack.now.items) _
    (c.in_ok-body.ensures.gives s sends (reverse c.args.stack.now.items) later) c.in-Some.is c.in_ok-push_mentions-in-Some.ensures

pub returns-in-None-clause-gives : goal.returns-in-None-clause-gives
returns-in-None-clause-gives g c = λ s sends later.
    c.in_ok-body.ensures.gives s sends (reverse c.args.stack.now.items) later
    ∙ ap (λ o. given_on true c.args.r (option_map body_of o) (reverse c.args.stack.now.items) later) c.in-None.is
