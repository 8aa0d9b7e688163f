use Rattle.std.proofs.Common.{◌∙◌, sym, ap, subst}
use Rattle.aw_choice.specs.ChoiceView.{choice_of}
use Rattle.aw_term.specs.Choices.{answer_of}
use Rattle.aw_grammar.specs.declared.grammar.Grammar as program
use Rattle.aw_grammar.specs.GrammarOf.{grammar_of}
use Rattle.aw_store.specs.Equations.{Map, find}
use Rattle.aw_law_sites.specs.Choosing.{outcome}
use Rattle.aw_space.specs.Outcomes.{IsMade}
use Rattle.aw_space.specs.Spaces as S
use Rattle.aw_space.specs.SpaceView.{space_of}
use Rattle.aw_site.specs.Chosen.{worked}
use Rattle.aw_site.proofs.ChosenSites.{answered, equations_behind, plan_prepared}
use Rattle.aw_site.proofs.Coming.{sends_as}
use Rattle.aw_site.proofs.Holding.{seen_by}
use Rattle.aw_site.proofs.ValidPlans.{holds_valid, made_valid, AreValid}
use Rattle.aw_site.proofs.choosing.prepare.Goals as goal

pub invariant_of-sender : goal.invariant_of-sender
invariant_of-sender g c =
    let space = c.args.space.now in
    let made = c.args.foreseen.made in
    let valid = made_valid g.F.Facts space c.args.g.now.grammar (choice_of c.args.choice.now) made c.requires.grammar c.requires.ok c.requires.here c.requires.foreseen.made in
    record { valid = holds_valid g.F.Facts space c.args.g.now.grammar _ _ made.equations _ c.requires.grammar c.grammar.ensures.value c.facts.ensures c.as_slice.ensures valid.0 }

pub plan_made-requires-clause-equations : goal.plan_made-requires-clause-equations
plan_made-requires-clause-equations g c =
    let made = c.args.foreseen.made in
    (subst (λ (x : program.Grammar). AreValid (grammar_of x) made) (sym c.grammar.ensures.value)
    (made_valid g.F.Facts c.args.space.now c.args.g.now.grammar (choice_of c.args.choice.now) made c.requires.grammar c.requires.ok c.requires.here c.requires.foreseen.made)).0

pub plan_made-requires-clause-children : goal.plan_made-requires-clause-children
plan_made-requires-clause-children g c =
    let made = c.args.foreseen.made in
    (subst (λ (x : program.Grammar). AreValid (grammar_of x) made) (sym c.grammar.ensures.value)
    (made_valid g.F.Facts c.args.space.now c.args.g.now.grammar (choice_of c.args.choice.now) made c.requires.grammar c.requires.ok c.requires.here c.requires.foreseen.made)).1

pub returns-clause-prepares : goal.returns-clause-prepares
returns-clause-prepares g c = λ s h.
    let gr = grammar_of c.args.g.now.grammar in
    let space = c.args.space.now in
    let ch = choice_of c.args.choice.now in
    let k = g.F.Facts.map space.facts in
    let made = c.args.foreseen.made in
    let holds = seen_by g.F.Facts space c.args.subs.now c.args.loads s c.args.g.now.grammar c.requires.grammar h in
    let foretold = subst (λ (x : program.Grammar). IsMade made ch (S.outcome gr (space_of (grammar_of x) space.held.items space.choices.items k) ch))
    (sym c.requires.grammar) c.requires.foreseen.made in
    let t = worked gr s ch (outcome gr s ch) in
    let behind = equations_behind gr s ch space.held.items space.choices.items k made holds c.requires.ok foretold in
    let sends = sends_as g.F.Facts _ t k made.equations (h.role ∙ sym c.role.ensures) h.flag (λ r. ap (λ (m : Map). find m r) behind) (ap g.F.Facts.map c.facts.ensures) c.as_slice.ensures in
    record {
      answer = c.requires.foreseen.answer ∙ ap (λ (sp : S.Space). answer_of (S.outcome gr sp ch)) (sym h.holds) ∙ sym (answered gr s ch);
      plan = plan_prepared gr s ch space.held.items space.choices.items k made holds c.requires.ok foretold (grammar_of c.grammar.result.now) c.in_ok-plan.plan (ap grammar_of c.grammar.ensures.value)
          (c.in_ok-plan.ensures.wanted t sends h.asked) (c.in_ok-plan.ensures.sent t sends h.watchers);
    }
