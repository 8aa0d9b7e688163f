-- The rules of the program, made again of what they declare.
use Rattle.std.proofs.Common.{◌≡◌, List, [], ◌∷◌, map, refl, sym, ap, ◌∙◌}
use Rattle.aw_term.specs.Rules as P
use Rattle.aw_term.specs.Views.{pattern_of, term_of}
use Rattle.aw_grammar.specs.declared.rule.Sort.{Sort}
use Rattle.aw_grammar.specs.declared.rule.Child.{Child}
use Rattle.aw_grammar.specs.declared.rule.Rule.{Rule}
use Rattle.aw_grammar.specs.declared.grammar.Grammar.{Grammar}
use Rattle.aw_grammar.specs.GrammarView.{child_of}
use Rattle.aw_grammar.specs.Declarations.{Entry, Declarations}
use Rattle.aw_grammar.specs.GrammarOf.{entry, declarations_of}
use Rattle.aw_spec_writer.proofs.BackTerms.{back_pattern, back_term, pattern_again, term_again}

-- what is made again of each item of a list are these items
all_again : {A B : Type 0} (back : B → A) (seen : A → B) → ((x : A) → back (seen x) ≡ x) → (xs : List A) → map back (map seen xs) ≡ xs
all_again back seen again [] = refl
all_again back seen again (x ∷ xs) = λ i. again x i ∷ all_again back seen again xs i

-- the child of a plain one
abbrev back_child : P.Child → Child
back_child c = record { sort = c.sort; args = map back_term c.args }

child_again : (sorts : List Sort) (c : Child) → back_child (child_of sorts c) ≡ c
child_again sorts c = λ i. record { sort = c.sort; args = all_again back_term term_of term_again c.args i }

-- the rule of an entry
abbrev back_rule : Entry → Rule
back_rule e = record {
  name = e.name;
  sort = e.rule.sort;
  params = e.rule.params;
  vars = e.vars;
  patterns = map back_pattern e.rule.patterns;
  results = map back_term e.rule.results;
  children = map back_child e.rule.children;
}

rule_again : (sorts : List Sort) (r : Rule) → back_rule (entry sorts r) ≡ r
rule_again sorts r = λ i. record {
  name = r.name;
  sort = r.sort;
  params = r.params;
  vars = r.vars;
  patterns = all_again back_pattern pattern_of pattern_again r.patterns i;
  results = all_again back_term term_of term_again r.results i;
  children = all_again back_child (child_of sorts) (child_again sorts) r.children i;
}

pub same_rule : (ss ts : List Sort) (r s : Rule) → entry ss r ≡ entry ts s → r ≡ s
same_rule ss ts r s e = sym (rule_again ss r) ∙ ap back_rule e ∙ rule_again ts s

rules_again : (g : Grammar) → map back_rule (declarations_of g).rules ≡ g.rules
rules_again g = all_again back_rule (entry g.sorts) (rule_again g.sorts) g.rules

pub same_rules : (g h : Grammar) → declarations_of g ≡ declarations_of h → g.rules ≡ h.rules
same_rules g h e = sym (rules_again g) ∙ ap (λ (d : Declarations). map back_rule d.rules) e ∙ rules_again h
