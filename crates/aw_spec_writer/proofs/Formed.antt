-- What a well-formed grammar says of its declarations, and that this is a mere fact.
use Rattle.std.proofs.Common.{◌≡◌, ◌≤◌, false, List, [], ◌∷◌, length, map, subst}
use Rattle.std.proofs.lemmas.List.{length-map}
use Rattle.aw_lex.specs.Lines.{lines_of}
use Rattle.aw_term.specs.WellFormed.{Each, RuleFits, SortFits, IsWellFormed}
use Rattle.aw_grammar.specs.declared.rule.Con as decl
use Rattle.aw_grammar.specs.declared.rule.Sort.{Sort}
use Rattle.aw_grammar.specs.GrammarView.{sort_of}
use Rattle.aw_grammar.specs.Declarations.{Entry, Declarations, con_names, sort_names, rule_names, grammar_in, words_in}
use Rattle.aw_grammar.proofs.Growth.{four_from}
use Rattle.aw_spec.specs.Reading.{Spec, Good, specification}
use Rattle.aw_spec_writer.specs.SpecLines.{spec_lines, written}
use Rattle.aw_spec_writer.specs.Writable.{SmallNumbers, VariablesNamed, IsWritable}
use Rattle.aw_spec_writer.proofs.SaysTerms.{IsName}
use Rattle.aw_spec_writer.proofs.Declaring.{Fine}
use Rattle.aw_spec_writer.proofs.SpelledSpecs.{Spelled}
use Rattle.aw_spec_writer.proofs.WrittenAgain.{written_again}

each_of_map : {A B : Type 0} (f : A → B) (P : B → Type 0) (xs : List A) → Each P (map f xs) → Each (λ x. P (f x)) xs
each_of_map f P [] each = tt
each_of_map f P (x ∷ xs) each = (each.0, each_of_map f P xs each.1)

pub fine_if_formed : (d : Declarations) → IsWellFormed (words_in d) (grammar_in d) → VariablesNamed d → Fine d
fine_if_formed d w variables = record {
  few_roles = w.few_roles;
  few_cons = subst (λ n. n ≤ 1024) (length-map d.cons (λ (c : decl.Con). c.name)) w.few_cons;
  few_sorts = subst (λ n. n ≤ 256) (length-map d.sorts (λ (s : Sort). s.name)) w.few_sorts;
  few_rules = subst (λ n. n ≤ 1024) (length-map d.rules (λ (e : Entry). e.name)) w.few_rules;
  roles_differ = w.roles_differ;
  cons_differ = w.cons_differ;
  sorts_differ = w.sorts_differ;
  rules_differ = w.rules_differ;
  arities = each_of_map (λ (c : decl.Con). c.arity) (λ n. n ≤ 8) d.cons w.arities;
  sorts = each_of_map sort_of (SortFits (length d.roles)) d.sorts w.sorts;
  rules = each_of_map (λ (e : Entry). e.rule) (RuleFits (grammar_in d)) d.rules w.rules;
  variables = variables;
}

pub spelled_if_formed : (d : Declarations) → IsWellFormed (words_in d) (grammar_in d) → Each (λ (e : Entry). SmallNumbers e.rule) d.rules → Spelled d
spelled_if_formed d w numbers =
    let names = four_from IsName d.roles (con_names d) (sort_names d) (rule_names d) w.names in
    record { roles = names.roles_fit; cons = names.cons_fit; sorts = names.sorts_fit; rules = names.rules_fit; numbers = numbers }

pub law : (s : Spec) → IsWritable s → specification (lines_of (written s)) ≡ Good s (length (spec_lines s)) false
law s w = written_again s (fine_if_formed s.declared w.formed w.variables) (spelled_if_formed s.declared w.formed w.numbers) w.faces w.types
