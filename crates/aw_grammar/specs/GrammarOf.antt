-- A grammar of the program as the plain definitions speak of it.
use Rattle.std.specs.Prelude.{List, map}
use Rattle.aw_term.specs.Rules as P
use Rattle.aw_term.specs.Artifacts.{Words}
use Rattle.aw_grammar.specs.GrammarView.{plain_grammar, plain_words, rule_of}
use Rattle.aw_grammar.specs.Declarations.{Entry, Declarations}
use Rattle.aw_grammar.specs.declared.rule.Sort.{Sort}
use Rattle.aw_grammar.specs.declared.rule.Rule.{Rule}
use Rattle.aw_grammar.specs.declared.grammar.Grammar.{Grammar}

-- a grammar of the program without its names
abbrev pub grammar_of : Grammar → P.Grammar
grammar_of g = plain_grammar g.roles g.cons g.sorts g.rules

-- the names that a grammar of the program declares
abbrev pub words_of : Grammar → Words
words_of g = plain_words g.roles g.cons g.sorts g.rules

-- a rule with its names, where these are the sorts
abbrev pub entry : List Sort → Rule → Entry
entry sorts r = record { name = r.name; vars = r.vars; rule = rule_of sorts r }

-- what a grammar declares
abbrev pub declarations_of : Grammar → Declarations
declarations_of g = record { roles = g.roles; cons = g.cons; sorts = g.sorts; rules = map (entry g.sorts) g.rules }
