use Rattle.std.proofs.Common.{◌≡◌, Bool, List, subst, sym, ◌∙◌}
use Rattle.std.proofs.lemmas.Option.{same_Some}
use Rattle.aw_grammar.specs.declared.rule.Rule.{Rule}
use Rattle.aw_grammar.specs.GrammarView.{rule_of}
use Rattle.aw_iograph.specs.Graphs.{Plus}
use Rattle.aw_iograph.specs.Dependence.{Edge}
use Rattle.aw_iograph.specs.Occurrences.{inherited, given}
use Rattle.aw_iograph.specs.Pairs.{HasMark}
use Rattle.aw_iograph.specs.Visiting.{IsCalm}
use Rattle.aw_iograph.proofs.Visiting.{visited_next}
use Rattle.aw_iograph.proofs.settle.revisit.Goals as goal

pub returns-then-is_calm-clause-kept : goal.returns-then-is_calm-clause-kept
returns-then-is_calm-clause-kept c off r got =
    let same : c.small_rule-found.result.now ≡ r = same_Some c.small_rule-found.result.now r (sym c.small_rule-found.ensures.value ∙ got) in
    c.requires.visited.kept c.args.rule r got (subst (λ (x : Rule). IsCalm c.args.visits.now c.args.rule x.children) same (c.is_calm.ensures c.if-is_calm.true))

pub returns-clause-kept : goal.returns-clause-kept
returns-clause-kept c off r got i j w =
    c.in_ok-added.ensures.kept r got i j
    (subst (λ (ms : List Bool). Plus (Edge (rule_of c.args.g.now.sorts r) (HasMark ms)) (inherited 0 i) (given 0 j)) (c.in_ok-added.ensures.grown.same off) w)

pub returns-clause-visited : goal.returns-clause-visited
returns-clause-visited c =
    visited_next c.args.g.now c.args.io.now c.visit.new.io c.args.visits.now c.note.new.self c.args.rule c.small_rule-found.result.now
    c.requires.visited c.small_rule-found.ensures.value c.small_rule-found.ensures.declared c.note.ensures.rules c.note.ensures.count
    c.in_ok-added.added c.in_ok-added.ensures.grown
    (c.in_ok-added.ensures.kept c.small_rule-found.result.now c.small_rule-found.ensures.value)
    (c.in_ok-added.ensures.others c.small_rule-found.result.now c.small_rule-found.ensures.value)
    c.note.ensures.grown c.note.ensures.same
