use Rattle.std.proofs.Common.{List, ap, sym, ◌∙◌, subst}
use Rattle.aw_list.specs.Members.{Member}
use Rattle.aw_grammar.specs.GrammarView.{rule_of}
use Rattle.aw_iograph.specs.declared.occ.Flow.{Flow}
use Rattle.aw_iograph.specs.Occurrences.{text_flows}
use Rattle.aw_iograph.proofs.CircleLemmas.{rule_here}
use Rattle.aw_iograph.proofs.TextFlows.{flows_all, flows_only}
use Rattle.aw_iograph.proofs.graph.rule_graph.Goals as goal

pub returns-clause-list : goal.returns-clause-list
returns-clause-list c r e =
    c.in_ok-graph.ensures ∙ ap text_flows (rule_here (rule_of c.args.g.now.sorts) c.args.g.now.rules c.from.result c.args.rule c.small_rule.result.now r c.small_rule.ensures.value c.from.ensures e)

pub returns-clause-edges : goal.returns-clause-edges
returns-clause-edges c r e o u =
    let same = c.in_ok-graph.ensures ∙ ap text_flows (rule_here (rule_of c.args.g.now.sorts) c.args.g.now.rules c.from.result c.args.rule
    c.small_rule.result.now r c.small_rule.ensures.value c.from.ensures e) in (
      λ m. flows_only r (record { from = o; to = u }) (subst (λ (fs : List Flow). Member (record { from = o; to = u }) fs) same m),
      λ (v, t, enters, stands, uses). subst (λ (fs : List Flow). Member (record { from = o; to = u }) fs) (sym same) (flows_all r o u v t enters stands uses),
    )
