use Rattle.std.proofs.Common.{rules, ◌≡◌, ◌∙◌, ◌+◌, ◌++◌, nat_eq, false, eq-eqb, ap, drop}
use Rattle.aw_grammar.specs.GrammarView.{rule_of}
use Rattle.aw_grammar.specs.GrammarOf.{grammar_of}
use Rattle.aw_standing.specs.Records.{rules_of}
use Rattle.aw_standing.proofs.MarkLemmas.{found_rule, no_rule, plain_here, plain_past, rule_kept, rule_passed, rule_past}
use Rattle.aw_trial.proofs.rules.push_rule.Goals as goal

pub returns-in_default : goal.returns-in_default
returns-in_default c =
    let g = c.args.g.now in
    record {
      rules =
          rule_past c.args.sort c.args.number (grammar_of g).rules _ (plain_past g c.args.number (no_rule g.rules c.args.number c.rule.result c.rule.ensures.value c.in_default.is));
    }

pub returns-in_ok-push : goal.returns-in_ok-push
returns-in_ok-push c =
    let g = c.args.g.now in
    let s = c.args.sort in
    let n = c.args.number in
    let rest = rules_of s (n + 1) (drop (n + 1) (grammar_of g).rules) in
    let here = plain_here g n c.in-Some.rule.now (found_rule g.rules n c.rule.result c.in-Some.rule c.rule.ensures.value c.in-Some.is) in
    record {
      rules =
          ap (λ ns. ns ++ rest) c.in_ok-push.ensures.items
          ∙ rule_kept s n (grammar_of g).rules (rule_of g.sorts c.in-Some.rule.now) c.args.rules.now.items here (eq-eqb _ _ c.if-rule-sort.true);
    }

pub returns-else-rule-sort : goal.returns-else-rule-sort
returns-else-rule-sort c =
    let g = c.args.g.now in
    let n = c.args.number in
    let here = plain_here g n c.in-Some.rule.now (found_rule g.rules n c.rule.result c.in-Some.rule c.rule.ensures.value c.in-Some.is) in
    let other : nat_eq c.in-Some.rule.now.sort c.args.sort ≡ false = search rules in
    record {
      rules =
          rule_passed c.args.sort n (grammar_of g).rules (rule_of g.sorts c.in-Some.rule.now) _ here other;
    }
