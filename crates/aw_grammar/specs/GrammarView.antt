-- Declarations as the plain definitions speak of them.
use Rattle.std.specs.Prelude.{ℕ, List, map, length, slice_get}
use Rattle.aw_term.specs.Rules as P
use Rattle.aw_term.specs.Choices as Q
use Rattle.aw_term.specs.Artifacts.{Words}
use Rattle.aw_term.specs.Views.{pattern_of, term_of}
use Rattle.aw_grammar.specs.declared.rule.Con.{Con}
use Rattle.aw_grammar.specs.declared.rule.Sort.{Sort}
use Rattle.aw_grammar.specs.declared.rule.Child.{Child}
use Rattle.aw_grammar.specs.declared.rule.Rule.{Rule}

-- a sort without its name
abbrev pub sort_of : Sort → P.Sort
sort_of s = record { role = s.role; takes = s.takes; gives = s.gives; start = s.start }

-- sorts without their names
abbrev pub sorts_of : List Sort → List P.Sort
sorts_of sorts = map sort_of sorts

-- a child has as many results as its sort gives
abbrev pub child_of : List Sort → Child → P.Child
child_of sorts c = record { sort = c.sort; args = map term_of c.args; outs = Q.gives_of (slice_get (sorts_of sorts) c.sort) }

-- a rule without its names, where these are the sorts
abbrev pub rule_of : List Sort → Rule → P.Rule
rule_of sorts r = record {
  sort = r.sort;
  patterns = map pattern_of r.patterns;
  params = r.params;
  results = map term_of r.results;
  children = map (child_of sorts) r.children;
}

-- the grammar of these declarations
abbrev pub plain_grammar : List (List ℕ) → List Con → List Sort → List Rule → P.Grammar
plain_grammar roles cons sorts rules = record {
  roles = length roles;
  arities = map (λ (c : Con). c.arity) cons;
  sorts = sorts_of sorts;
  rules = map (rule_of sorts) rules;
}

-- the names of these declarations
abbrev pub plain_words : List (List ℕ) → List Con → List Sort → List Rule → Words
plain_words roles cons sorts rules = record {
  roles = roles;
  cons = map (λ (c : Con). c.name) cons;
  sorts = map (λ (s : Sort). s.name) sorts;
  rules = map (λ (r : Rule). r.name) rules;
}
