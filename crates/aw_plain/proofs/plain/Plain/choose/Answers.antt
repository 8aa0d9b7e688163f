use Rattle.std.proofs.Common.{◌∙◌}
use Rattle.std.proofs.Math.Logic.{∥∥₁_map, ∥∥₁_map₂}
use Rattle.aw_choice.specs.ChoiceView.{choice_of}
use Rattle.aw_grammar.specs.GrammarOf.{grammar_of, words_of}
use Rattle.aw_accept.specs.Sorts.{HaveTheirSorts}
use Rattle.aw_plain_rows.specs.RowView.{config_of}
use Rattle.aw_plain.specs.Filled.{AreFilled}
use Rattle.aw_plain.specs.Ordered.{IsOrdered}
use Rattle.aw_plain.specs.Cases.{AreApart}
use Rattle.aw_plain.specs.Reached.{IsReached}
use Rattle.aw_plain.proofs.CaseLemmas.{apart_after}
use Rattle.aw_plain.proofs.OrderedLemmas.{ordered_after}
use Rattle.aw_plain.proofs.TakenLemmas.{filled_after, reached_after, tree_reached, acyclic_reached, sorts_after, answer_on, rows_on, waits_missing, never_circle, kept}
use Rattle.aw_plain.proofs.plain.Plain.choose.Goals as goal

-- the grammar that is passed is that of the configuration
pub returns-clause-answer : goal.returns-clause-answer
returns-clause-answer c = answer_on c.choose.result c.grammar.result.now _ c.args.self.now.rows.items (choice_of c.args.choice.now)
    (c.grammar.ensures.value ∙ c.requires.grammar) c.choose.ensures.answer

pub returns-clause-rows : goal.returns-clause-rows
returns-clause-rows c = rows_on c.choose.result c.grammar.result.now _ c.args.self.now.rows.items c.choose.new.rows.items
    (choice_of c.args.choice.now) (c.grammar.ensures.value ∙ c.requires.grammar) c.choose.ensures.rows

pub returns-clause-waits : goal.returns-clause-waits
returns-clause-waits c =
    let old = c.args.self.now in
    waits_missing c.choose.result (grammar_of old.grammar.now) (config_of old.rows.items) (choice_of c.args.choice.now) old.tree old.acyclic (returns-clause-answer c)

pub returns-clause-no_circle : goal.returns-clause-no_circle
returns-clause-no_circle c =
    let old = c.args.self.now in never_circle c.choose.result (grammar_of old.grammar.now) (config_of old.rows.items) (choice_of c.args.choice.now) (returns-clause-answer c)

pub invariant_of-self : goal.invariant_of-self
invariant_of-self c =
    let old = c.args.self.now in
    let declared = old.grammar.now in
    let g = grammar_of declared in
    let x = choice_of c.args.choice.now in
    let stays = rows_on c.choose.result c.grammar.result.now declared old.rows.items c.choose.new.rows.items x (c.grammar.ensures.value ∙ c.requires.grammar) c.choose.ensures.rows in
    let reached = kept (λ d. ∥ IsReached g d ∥₁) c.choose.result old.rows.items c.choose.new.rows.items _ stays c.choose.ensures.err old.reached
    (∥∥₁_map old.reached (reached_after g (config_of old.rows.items) x)) in
    record {
      accepted = old.accepted;
      filled = kept (λ d. ∥ AreFilled g d ∥₁) c.choose.result old.rows.items c.choose.new.rows.items _ stays c.choose.ensures.err old.filled
          (∥∥₁_map₂ declared.well_formed old.filled (λ w f. filled_after (words_of declared) g w (config_of old.rows.items) f x c.requires.fits));
      ordered = kept (λ d. IsOrdered d) c.choose.result old.rows.items c.choose.new.rows.items _ stays c.choose.ensures.err old.ordered (ordered_after g (config_of old.rows.items) x old.ordered);
      apart = kept (λ d. AreApart d) c.choose.result old.rows.items c.choose.new.rows.items _ stays c.choose.ensures.err old.apart (apart_after g (config_of old.rows.items) x old.apart);
      reached = reached;
      tree = tree_reached (words_of declared) g (config_of c.choose.new.rows.items) declared.well_formed old.accepted reached;
      acyclic = acyclic_reached (words_of declared) g (config_of c.choose.new.rows.items) declared.well_formed old.accepted reached;
      sorts = kept (λ d. HaveTheirSorts g d) c.choose.result old.rows.items c.choose.new.rows.items _ stays c.choose.ensures.err old.sorts
          (sorts_after g (config_of old.rows.items) x old.sorts c.requires.fits);
    }
