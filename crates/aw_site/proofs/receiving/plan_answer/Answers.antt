use Rattle.std.proofs.Common.{◌∙◌, [], sym, ap, refl}
use Rattle.aw_grammar.specs.GrammarOf.{grammar_of}
use Rattle.aw_site.proofs.Coming.{sends_as, none_behind, planned_answer}
use Rattle.aw_site.proofs.ValidPlans.{holds_valid}
use Rattle.aw_site.proofs.receiving.plan_answer.Goals as goal

pub invariant_of-sender : goal.invariant_of-sender
invariant_of-sender g c = record { valid = holds_valid g.F.Facts c.args.space.now c.args.g.now.grammar _ _ [] _ c.requires c.grammar.ensures.value c.facts.ensures refl refl }

pub returns-clause-plan : goal.returns-clause-plan
returns-clause-plan g c = λ s role loads equations.
    let k = g.F.Facts.map c.args.space.now.facts in
    planned_answer (grammar_of c.args.g.now.grammar) (grammar_of c.grammar.result.now) s c.args.r.now c.args.from
    (record { sent = c.in_ok-listed.field-0; wanted = c.new.result }) c.in_ok-tell_back.field-0
    (ap grammar_of c.grammar.ensures.value) c.new.ensures.items c.in_ok-listed.ensures
    (c.in_ok-tell_back.ensures s (sends_as g.F.Facts _ s k [] (role ∙ sym c.role.ensures) loads (λ x. none_behind s k [] x equations refl) (ap g.F.Facts.map c.facts.ensures) refl))
