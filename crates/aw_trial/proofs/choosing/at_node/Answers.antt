use Rattle.std.proofs.Common.{◌≡◌, ap, sym, ◌∙◌, subst, refl, true}
use Rattle.std.specs.Prelude.{is_some}
use Rattle.std.proofs.lemmas.Result.{on_ok_weaker}
use Rattle.aw_accept.specs.declared.accepted.Accepted.{Accepted}
use Rattle.aw_grammar.specs.GrammarOf.{grammar_of}
use Rattle.aw_standing.specs.Records.{rules_of}
use Rattle.aw_term.specs.Rules.{sort_of}
use Rattle.aw_world.specs.WorldView.{plain_of}
use Rattle.aw_trial.specs.Comes.{Comes}
use Rattle.aw_trial.proofs.Steps.{nothing, no_sort, of_sort, same_thing, rules_declared}
use Rattle.aw_trial.proofs.choosing.at_node.Goals as goal

pub returns-in_default-clause-does : goal.returns-in_default-clause-does
returns-in_default-clause-does g c v es S =
    let same = ap (λ (a : Accepted). grammar_of a.grammar) c.accepted.ensures in
    let sort = ap (λ p. sort_of p c.args.node) (sym (ap grammar_of c.grammar.ensures.value ∙ same)) ∙ sym c.sort_of.ensures ∙ c.in_default.is in
    subst (Comes g.W.Workspace c.args.world.now c.args.tally.now) (no_sort (plain_of c.args.world.now) c.args.node _ sort) (nothing g.W.Workspace c.args.world.now c.args.tally.now v es S)

pub among_rules-requires-clause-node : goal.among_rules-requires-clause-node
among_rules-requires-clause-node g c =
    let same = ap grammar_of c.grammar.ensures.value ∙ ap (λ (a : Accepted). grammar_of a.grammar) c.accepted.ensures in
    let sort = ap (λ p. sort_of p c.args.node) (sym same) ∙ sym c.sort_of.ensures ∙ c.in-Some.is in
    subst (λ o. is_some o ≡ true) (sym sort) refl

pub among_rules-requires-clause-rules : goal.among_rules-requires-clause-rules
among_rules-requires-clause-rules g c i r got =
    let same = ap grammar_of c.grammar-2.ensures.value ∙ ap (λ (a : Accepted). grammar_of a.grammar) c.accepted-2.ensures in
    rules_declared c.in-Some.sort (plain_of c.args.world.now).rules c.as_slice.result.now
    (c.as_slice.ensures.value ∙ c.in_ok-rules.ensures ∙ ap (λ p. rules_of c.in-Some.sort 0 p.rules) same) i r got

pub returns-clause-does : goal.returns-clause-does
returns-clause-does g c =
    let same = ap grammar_of c.grammar.ensures.value ∙ ap (λ (a : Accepted). grammar_of a.grammar) c.accepted.ensures in
    let same-2 = ap grammar_of c.grammar-2.ensures.value ∙ ap (λ (a : Accepted). grammar_of a.grammar) c.accepted-2.ensures in
    let sort = ap (λ p. sort_of p c.args.node) (sym same) ∙ sym c.sort_of.ensures ∙ c.in-Some.is in
    let rules = c.as_slice.ensures.value ∙ c.in_ok-rules.ensures ∙ ap (λ p. rules_of c.in-Some.sort 0 p.rules) same-2 in
    on_ok_weaker c.among_rules.result
    (λ does. same_thing g.W.Workspace c.args.world.now c.among_rules.new.world c.args.tally.now c.among_rules.new.tally _ _
    (of_sort (plain_of c.args.world.now) c.args.node c.in-Some.sort c.as_slice.result.now sort rules) does)
    c.among_rules.ensures.does
