use Rattle.std.proofs.Common.{rules, ◌≡◌, ◌∙◌, ◌+◌, ◌++◌, ◌∷◌, [], nat_eq, false, eq-eqb, ap, map, drop}
use Rattle.std.proofs.lemmas.List.{map-append}
use Rattle.aw_grammar.specs.GrammarView.{rule_of}
use Rattle.aw_grammar.specs.GrammarOf.{grammar_of}
use Rattle.aw_standing.specs.Records.{mark_rule, rules_of}
use Rattle.aw_standing.proofs.MarkLemmas.{found_rule, no_rule, plain_here, plain_past, rule_kept, rule_passed, rule_past}
use Rattle.aw_standing.proofs.preparing.push_mark.Goals as goal

pub returns-in_default-clause-rules : goal.returns-in_default-clause-rules
returns-in_default-clause-rules c =
    let g = c.args.grammar.now in
    rule_past c.args.sort c.args.number (grammar_of g).rules _ (plain_past g c.args.number (no_rule g.rules c.args.number c.rule.result c.rule.ensures.value c.in_default.is))

pub returns-in_ok-push-clause-rules : goal.returns-in_ok-push-clause-rules
returns-in_ok-push-clause-rules c =
    let g = c.args.grammar.now in
    let s = c.args.sort in
    let n = c.args.number in
    let rest = rules_of s (n + 1) (drop (n + 1) (grammar_of g).rules) in
    let here = plain_here g n c.in-Some.rule.now (found_rule g.rules n c.rule.result c.in-Some.rule c.rule.ensures.value c.in-Some.is) in
    ap (λ ms. map mark_rule ms ++ rest) c.in_ok-push.ensures.items
    ∙ ap (λ ns. ns ++ rest) (map-append mark_rule c.args.marks.now.items (_ ∷ []))
    ∙ rule_kept s n (grammar_of g).rules (rule_of g.sorts c.in-Some.rule.now) (map mark_rule c.args.marks.now.items) here (eq-eqb _ _ c.if-rule-sort.true)

pub returns-else-rule-sort-clause-rules : goal.returns-else-rule-sort-clause-rules
returns-else-rule-sort-clause-rules c =
    let g = c.args.grammar.now in
    let n = c.args.number in
    let here = plain_here g n c.in-Some.rule.now (found_rule g.rules n c.rule.result c.in-Some.rule c.rule.ensures.value c.in-Some.is) in
    let other : nat_eq c.in-Some.rule.now.sort c.args.sort ≡ false = search rules in
    rule_passed c.args.sort n (grammar_of g).rules (rule_of g.sorts c.in-Some.rule.now) _ here other
