use Rattle.aw_grammar.specs.GrammarView.{rule_of}
use Rattle.aw_iograph.specs.Arcs.{IsStep}
use Rattle.aw_iograph.specs.Pairs.{Has}
use Rattle.aw_iograph.proofs.Joining.{none_led}
use Rattle.aw_iograph.proofs.RuleGraphs.{steps_from, graph_within}
use Rattle.aw_iograph.proofs.StepJoins.{rows_there, rows_only}
use Rattle.aw_iograph.proofs.joins.rule_rows.Goals as goal

pub join_all-requires-clause-placed : goal.join_all-requires-clause-placed
join_all-requires-clause-placed c =
    graph_within (rule_of c.args.g.now.sorts c.args.rule.now) (Has c.args.io.now) (IsStep c.in_ok-entered.entered c.args.io.now c.args.rule.now.children c.args.rule.now.results)
    (steps_from c.args.g.now.sorts c.args.rule.now c.args.io.now c.in_ok-entered.entered c.requires.few c.in_ok-entered.ensures)

pub returns-clause-there : goal.returns-clause-there
returns-clause-there c =
    rows_there c.args.g.now.sorts c.args.rule.now c.args.io.now (IsStep c.in_ok-entered.entered c.args.io.now c.args.rule.now.children c.args.rule.now.results) c.join_all.new.rows.items
    (steps_from c.args.g.now.sorts c.args.rule.now c.args.io.now c.in_ok-entered.entered c.requires.few c.in_ok-entered.ensures)
    c.in_ok-join_all.ensures.joined

pub returns-clause-only : goal.returns-clause-only
returns-clause-only c =
    rows_only c.args.g.now.sorts c.args.rule.now c.args.io.now (IsStep c.in_ok-entered.entered c.args.io.now c.args.rule.now.children c.args.rule.now.results) c.join_all.new.rows.items
    (steps_from c.args.g.now.sorts c.args.rule.now c.args.io.now c.in_ok-entered.entered c.requires.few c.in_ok-entered.ensures)
    (c.in_ok-join_all.ensures.led (none_led (IsStep c.in_ok-entered.entered c.args.io.now c.args.rule.now.children c.args.rule.now.results) _ (c.in_ok-rows.ensures.items_if_clones_equal (λ y e. e))))
