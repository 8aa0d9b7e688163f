use Rattle.std.proofs.Common.{◌≤◌, length, subst, sym, arith}
use Rattle.std.proofs.lemmas.List.{length-map}
use Rattle.aw_list.proofs.Members.{got_map}
use Rattle.aw_grammar.specs.GrammarView.{rule_of}
use Rattle.aw_grammar.specs.GrammarOf.{grammar_of}
use Rattle.aw_wait.specs.Seeding.{IsHeldUpBefore}
use Rattle.aw_wait.proofs.Seeds.{adds_none, rules_more, rules_all, rules_none}
use Rattle.aw_wait.proofs.seed.held_up.Goals as goal

pub loop-rule-init : goal.loop-rule-init
loop-rule-init c =
    let g = grammar_of c.args.g.now in
    record { made = c.in_ok-seed.ensures.made; added = adds_none c.in_ok-seed.seed (IsHeldUpBefore g 0) (rules_none g) }

pub loop-rule-preserved : goal.loop-rule-preserved
loop-rule-preserved c =
    let h = c.args.g.now in
    let r = c.kept_rule.result.now in
    record {
      made = c.add_rule.ensures.made h c.loop-rule.invariant.made;
      added = rules_more (grammar_of h) c.loop-rule.rule (rule_of h.sorts r) c.in_ok-seed.seed c.loop-rule.seed c.add_rule.new.seed
          (got_map (rule_of h.sorts) h.rules c.loop-rule.rule r c.kept_rule.ensures.value) c.loop-rule.invariant.added c.add_rule.ensures;
    }

pub returns-clause-exact : goal.returns-clause-exact
returns-clause-exact c =
    let h = c.args.g.now in
    let all : length h.rules ≤ c.loop-rule.rule = omega arith in
    rules_all (grammar_of h) c.loop-rule.rule c.in_ok-seed.seed c.loop-rule.seed c.in_ok-seed.ensures.empty
    (subst (λ n. n ≤ c.loop-rule.rule) (sym (length-map h.rules (rule_of h.sorts))) all) c.loop-rule.invariant.added
