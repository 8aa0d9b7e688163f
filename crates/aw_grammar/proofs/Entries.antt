-- What a grammar declares has its own rules and names.
use Rattle.std.proofs.Common.{◌≡◌, ℕ, refl, ap, List, [], ◌∷◌, map, length}
use Rattle.aw_term.specs.Rules as P
use Rattle.aw_term.specs.Artifacts.{Words}
use Rattle.aw_grammar.specs.declared.grammar.Grammar.{Grammar}
use Rattle.aw_grammar.specs.declared.rule.Con.{Con}
use Rattle.aw_grammar.specs.declared.rule.Sort.{Sort}
use Rattle.aw_grammar.specs.declared.rule.Rule.{Rule}
use Rattle.aw_grammar.specs.Declarations.{Entry, grammar_in, words_in}
use Rattle.aw_grammar.specs.GrammarView.{sorts_of, rule_of}
use Rattle.aw_grammar.specs.GrammarOf.{grammar_of, words_of, entry, declarations_of}

pub rules_of_entries : (sorts : List Sort) (rules : List Rule) → map (rule_of sorts) rules ≡ map (λ (e : Entry). e.rule) (map (entry sorts) rules)
rules_of_entries sorts [] = refl
rules_of_entries sorts (r ∷ rules) = ap (λ us. rule_of sorts r ∷ us) (rules_of_entries sorts rules)

pub names_of_entries : (sorts : List Sort) (rules : List Rule) → map (λ (r : Rule). r.name) rules ≡ map (λ (e : Entry). e.name) (map (entry sorts) rules)
names_of_entries sorts [] = refl
names_of_entries sorts (r ∷ rules) = ap (λ ns. r.name ∷ ns) (names_of_entries sorts rules)

pub declared_grammar : (g : Grammar) → grammar_of g ≡ grammar_in (declarations_of g)
declared_grammar g =
    let with_rules : List P.Rule → P.Grammar = λ rules. record { roles = length g.roles; arities = map (λ (c : Con). c.arity) g.cons; sorts = sorts_of g.sorts; rules = rules } in
    ap with_rules (rules_of_entries g.sorts g.rules)

pub declared_words : (g : Grammar) → words_of g ≡ words_in (declarations_of g)
declared_words g =
    let with_names : List (List ℕ) → Words = λ names. record { roles = g.roles; cons = map (λ (c : Con). c.name) g.cons; sorts = map (λ (s : Sort). s.name) g.sorts; rules = names } in
    ap with_names (names_of_entries g.sorts g.rules)
