use Rattle.std.proofs.Common.{◌+◌, refl}
use Rattle.aw_list.proofs.Members.{got_here, got_map}
use Rattle.aw_term.specs.Views.{pattern_of}
use Rattle.aw_grammar.specs.GrammarView.{rule_of}
use Rattle.aw_grammar.specs.GrammarOf.{grammar_of}
use Rattle.aw_wait.proofs.Seeds.{adds_none, rule_more, rule_none, ByFirst}
use Rattle.aw_wait.proofs.seed.add_rule.Goals as goal

pub loop-at-init : goal.loop-at-init
loop-at-init c =
    let g = grammar_of c.args.g.now in
    let r = rule_of c.args.g.now.sorts c.args.rule.now in
    record { sorts = c.requires.sort; added = adds_none c.args.seed.now (ByFirst g r 0) (rule_none g r) }

pub loop-at-preserved : goal.loop-at-preserved
loop-at-preserved c =
    let g = grammar_of c.args.g.now in
    let r = rule_of c.args.g.now.sorts c.args.rule.now in
    let got = got_here c.as_slice-pattern-items.result.now c.args.rule.now.patterns c.loop-at.at c.pattern-item.result c.as_slice-pattern-items.ensures c.loop-at-test.true c.pattern-item.is in
    record {
      sorts = c.add_pattern.ensures.sorts c.args.rule.now.sort c.loop-at.invariant.sorts;
      added =
          rule_more g r c.loop-at.at c.few_results-count.result (c.loop-at.at + 1) (pattern_of c.pattern-item.result) c.args.seed.now c.loop-at.seed c.add_pattern.new.seed
          (got_map pattern_of c.args.rule.now.patterns c.loop-at.at c.pattern-item.result got) c.few_results-count.ensures.value refl c.loop-at.invariant.added c.add_pattern.ensures;
    }
