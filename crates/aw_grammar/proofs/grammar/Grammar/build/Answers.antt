use Rattle.std.proofs.Common.{ap, subst, refl}
use Rattle.aw_grammar.specs.Declarations.{Declarations, no_declarations}
use Rattle.aw_grammar.specs.Build.{BuiltOn, all_placed}
use Rattle.aw_grammar.proofs.InTurn.{no_rules_in, grammar_if_built, words_if_built, well_formed_if_built}
use Rattle.aw_grammar.proofs.grammar.Grammar.build.Goals as goal

pub add_all-requires-clause-no_sorts : goal.add_all-requires-clause-no_sorts
add_all-requires-clause-no_sorts c = ap (λ (d : Declarations). d.sorts) c.new.ensures

pub add_all-requires-clause-no_rules : goal.add_all-requires-clause-no_rules
add_all-requires-clause-no_rules c = no_rules_in c.new.result no_declarations c.new.ensures refl

pub returns-clause-built : goal.returns-clause-built
returns-clause-built c = subst (λ d. BuiltOn d (all_placed c.args.parts) c.add_all.result) c.new.ensures c.add_all.ensures

pub returns-clause-grammar : goal.returns-clause-grammar
returns-clause-grammar c =
    grammar_if_built (all_placed c.args.parts) no_declarations c.add_all.result (subst (λ d. BuiltOn d (all_placed c.args.parts) c.add_all.result) c.new.ensures c.add_all.ensures)

pub returns-clause-words : goal.returns-clause-words
returns-clause-words c =
    words_if_built (all_placed c.args.parts) no_declarations c.add_all.result (subst (λ d. BuiltOn d (all_placed c.args.parts) c.add_all.result) c.new.ensures c.add_all.ensures)

pub returns-clause-law : goal.returns-clause-law
returns-clause-law c = well_formed_if_built c.add_all.result
