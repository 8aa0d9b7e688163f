use Rattle.std.proofs.Common.{◌<◌, ◌≤◌, length, Option, sym, subst, arith}
use Rattle.std.proofs.lemmas.List.{length-map}
use Rattle.aw_grammar.specs.GrammarView.{rule_of}
use Rattle.aw_grammar.specs.GrammarOf.{grammar_of}
use Rattle.aw_iograph.specs.declared.occ.Occ.{Occ}
use Rattle.aw_iograph.specs.Dependence.{LeastOnCircle}
use Rattle.aw_iograph.specs.Pairs.{Has}
use Rattle.aw_accept.proofs.Faults.{none_more, none_all, rule_at}
use Rattle.aw_accept.proofs.check.least_fault.Goals as goal

pub returns-in-Some : goal.returns-in-Some
returns-in-Some c =
    let g = c.args.g.now in
    let within : c.loop-rule.rule < length g.rules = omega arith in
    let (r, got) = rule_at (grammar_of g).rules c.loop-rule.rule (subst (λ n. c.loop-rule.rule < n) (sym (length-map g.rules (rule_of g.sorts))) within) in
    let least = subst (λ (found : Option Occ). LeastOnCircle (Has c.args.io.now) r found) c.in-Some.is (c.in_ok-occ.ensures r got) in
    ((r, got, least), c.loop-rule.invariant)

pub loop-rule-preserved : goal.loop-rule-preserved
loop-rule-preserved c =
    let io = Has c.args.io.now in
    none_more (grammar_of c.args.g.now) io c.loop-rule.rule c.loop-rule.invariant
    (λ r got. subst (λ (found : Option Occ). LeastOnCircle io r found) c.in-None.is (c.in_ok-occ.ensures r got))

pub returns : goal.returns
returns c =
    let g = c.args.g.now in
    let all : length g.rules ≤ c.loop-rule.rule = omega arith in
    none_all (grammar_of g) (Has c.args.io.now) c.loop-rule.rule (subst (λ n. n ≤ c.loop-rule.rule) (sym (length-map g.rules (rule_of g.sorts))) all) c.loop-rule.invariant
