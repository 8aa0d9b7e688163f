use Rattle.std.proofs.Common.{◌≡◌, ◌∙◌, sym, ap, subst, true}
use Rattle.std.specs.Prelude.{IfOk}
use Rattle.aw_grammar.specs.GrammarOf.{grammar_of}
use Rattle.aw_base.specs.ChoiceFits.{choice_ok}
use Rattle.aw_choice.specs.ChoiceView.{choice_of}
use Rattle.aw_node_list.specs.InOrder.{place_in}
use Rattle.aw_space.specs.InSpace.{IsForeseen}
use Rattle.aw_space.proofs.Foretelling.{known_foretold, starts_foretold}
use Rattle.aw_space.proofs.space.Space.foresee_choice.Goals as goal
use Rattle.aw_space.proofs.space.Space.foresee_choice.Goals.{in-Some, in-None}

pub foresee_rule-requires : goal.foresee_rule-requires
foresee_rule-requires g c = subst (λ ch. choice_ok (grammar_of c.args.self.now.accepted.now.grammar) (choice_of ch) ≡ true) c.in-Develop.is c.requires

pub returns-after-find_held-clause-outcome : goal.returns-after-find_held-clause-outcome
returns-after-find_held-clause-outcome g c =
    let old = c.args.self.now in
    let gr = grammar_of old.accepted.now.grammar in
    let hs = old.held.items in
    subst (λ ch. IsForeseen g.F.Facts old (choice_of ch) c.plainly.result) (sym c.in-Start.is) (elim c.match-find_held.branch [
      | in-Some w ↦ known_foretold gr c.plainly.result c.in-Start.sort c.in-Start.case hs w.in-Some.field-0
          (sym (w.in-Some.ensures.place ∙ ap (λ n. place_in n hs) c.root.ensures)) (c.plainly.ensures.answer ∙ w.answer-is)
          c.plainly.ensures.equations c.plainly.ensures.children
      | in-None w ↦ starts_foretold gr c.plainly.result c.in-Start.sort c.in-Start.case hs (sym (w.in-None.ensures.place ∙ ap (λ n. place_in n hs) c.root.ensures))
          (c.plainly.ensures.answer ∙ w.answer-is)
          c.plainly.ensures.equations c.plainly.ensures.children
    ])

pub returns-in-Develop-clause-outcome : goal.returns-in-Develop-clause-outcome
returns-in-Develop-clause-outcome g c =
    subst (λ ch. IfOk c.foresee_rule.result (IsForeseen g.F.Facts c.args.self.now (choice_of ch))) (sym c.in-Develop.is) c.foresee_rule.ensures.outcome
