-- Declarations and their names are equally many.
use Rattle.std.proofs.Common.{◌≡◌, List, length, map, sym, ◌∙◌}
use Rattle.std.proofs.lemmas.List.{length-map}
use Rattle.aw_grammar.specs.declared.rule.Con.{Con}
use Rattle.aw_grammar.specs.declared.rule.Sort.{Sort}
use Rattle.aw_grammar.specs.declared.rule.Rule.{Rule}
use Rattle.aw_grammar.specs.GrammarView.{sort_of, sorts_of, rule_of}

pub cons_counted : (cons : List Con) → length (map (λ (c : Con). c.arity) cons) ≡ length (map (λ (c : Con). c.name) cons)
cons_counted cons = length-map cons (λ (c : Con). c.arity) ∙ sym (length-map cons (λ (c : Con). c.name))

pub sorts_counted : (sorts : List Sort) → length (sorts_of sorts) ≡ length (map (λ (s : Sort). s.name) sorts)
sorts_counted sorts = length-map sorts sort_of ∙ sym (length-map sorts (λ (s : Sort). s.name))

pub rules_counted : (sorts : List Sort) (rules : List Rule) → length (map (rule_of sorts) rules) ≡ length (map (λ (r : Rule). r.name) rules)
rules_counted sorts rules = length-map rules (rule_of sorts) ∙ sym (length-map rules (λ (r : Rule). r.name))
