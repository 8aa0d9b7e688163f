use Rattle.std.proofs.Common.{◌∙◌, ◌++◌, sym, ap, map, option_map}
use Rattle.std.specs.Option.{option_copied}
use Rattle.aw_grammar.specs.GrammarOf.{grammar_of}
use Rattle.aw_store.specs.EquationView.{equation_of}
use Rattle.aw_law_sites.specs.Asking.{all_mentions}
use Rattle.aw_space.specs.Placings.{placed_call}
use Rattle.aw_site.specs.Came.{holding}
use Rattle.aw_site.proofs.Coming.{both_ok, sends_as, came_behind, planned_came}
use Rattle.aw_site.proofs.Holding.{equations_by}
use Rattle.aw_law_sites.specs.ValidNames.{refs_ok, equations_ok}
use Rattle.aw_space.specs.Placings.{called_by}
use Rattle.aw_site.proofs.ValidPlans.{holds_valid, inherited_valid}
use Rattle.aw_site.proofs.receiving.plan_came.Goals as goal

pub invariant_of-sender : goal.invariant_of-sender
invariant_of-sender g c =
    record {
      valid = holds_valid g.F.Facts c.args.space.now c.args.g.now.grammar _ _ c.args.es.now _ c.requires.grammar c.grammar.ensures.value c.facts.ensures c.as_slice.ensures c.requires.ok.ok;
    }

pub plan_came-requires-clause-inherited : goal.plan_came-requires-clause-inherited
plan_came-requires-clause-inherited g c =
    let gr = grammar_of c.args.g.now.grammar in
    (λ i. refs_ok (grammar_of (c.grammar.ensures.value i)) ((c.as_slice-2.ensures ∙ c.in_ok-inherited.ensures gr) i))
    ∙ inherited_valid gr c.args.space.now.role (called_by gr (option_copied c.args.call)) c.requires.call

pub plan_came-requires-clause-equations : goal.plan_came-requires-clause-equations
plan_came-requires-clause-equations g c = (λ i. equations_ok (grammar_of (c.grammar.ensures.value i)) (map equation_of (c.as_slice-3.ensures i))) ∙ c.requires.ok.ok

pub returns : goal.returns
returns g c =
    let gr = grammar_of c.args.g.now.grammar in
    let k = g.F.Facts.map c.args.space.now.facts in
    let call = option_map (placed_call gr) (option_copied c.args.call) in
    let es = map equation_of c.args.es.now in
    both_ok c.plan_came.result _ _ _
    (λ p wanted sent s h.
    let t = holding s call es in
    let equations = equations_by g.F.Facts c.args.space.now c.args.subs.now c.args.loads s c.args.g.now.grammar c.requires.grammar h in
    let sends = sends_as g.F.Facts _ t k c.args.es.now (h.role ∙ sym c.role.ensures) h.flag (λ x. came_behind s k call c.args.es.now x equations)
    (ap g.F.Facts.map c.facts.ensures) c.as_slice.ensures in
    planned_came gr (grammar_of c.grammar.result.now) s call es _ p (ap grammar_of c.grammar.ensures.value)
    (λ i. (c.as_slice-2.ensures ∙ c.in_ok-inherited.ensures gr) i ++ all_mentions (map equation_of (c.as_slice-3.ensures i)))
    (wanted t sends h.asked) (sent t sends))
    c.plan_came.ensures.wanted c.plan_came.ensures.sent
