use Rattle.std.proofs.Common.{sym}
use Rattle.aw_grammar.specs.Declarations.{Entry}
use Rattle.aw_grammar.specs.GrammarOf.{words_of}
use Rattle.aw_spec_writer.specs.Writable.{SmallNumbers}
use Rattle.aw_spec_writer.proofs.PushingRules.{rules_go_on, rules_end, each_rule, each_past}
use Rattle.aw_spec_writer.proofs.rules.push_rules.Goals as goal

pub loop-rule-preserved : goal.loop-rule-preserved
loop-rule-preserved c =
    let g = c.args.g.now in
    let w = words_of g in
    record {
      text = rules_go_on w.cons w.sorts g.sorts g.rules c.loop-rule.number c.in-Some.rule.now _ _ _ (sym c.in-Some.ensures.value) c.in_ok-push_rule.ensures.text c.loop-rule.invariant.text;
      numbers = λ rest. c.loop-rule.invariant.numbers (each_rule (λ (e : Entry). SmallNumbers e.rule) g.sorts g.rules c.loop-rule.number
          c.in-Some.rule.now (sym c.in-Some.ensures.value) c.in_ok-push_rule.ensures.numbers rest);
    }

pub returns-clause-text : goal.returns-clause-text
returns-clause-text c =
    let g = c.args.g.now in
    let w = words_of g in
    rules_end w.cons w.sorts g.sorts g.rules c.loop-rule.number _ _ c.in_default.ensures.value c.loop-rule.invariant.text

pub returns-clause-numbers : goal.returns-clause-numbers
returns-clause-numbers c =
    let g = c.args.g.now in
    c.loop-rule.invariant.numbers (each_past (λ (e : Entry). SmallNumbers e.rule) g.sorts g.rules c.loop-rule.number c.in_default.ensures.value)
