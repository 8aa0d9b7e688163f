use Rattle.std.proofs.Common.{◌≡◌, true, ap, sym, subst}
use Rattle.aw_grammar.specs.GrammarOf.{grammar_of}
use Rattle.aw_term.specs.SameGrammar.{same_grammar}
use Rattle.aw_term.proofs.GrammarTests.{grammar_is_itself}
use Rattle.aw_world.proofs.sites.SiteCellFactsMade.make.Goals as goal

pub returns-clause-grammar : goal.returns-clause-grammar
returns-clause-grammar c =
    let given = grammar_of c.args.accepted.now.grammar in
    subst (λ g. same_grammar g given ≡ true) (sym (ap grammar_of c.new-2.ensures.grammar)) (grammar_is_itself given)
