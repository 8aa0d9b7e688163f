use Rattle.std.proofs.Common.{◌≡◌, ◌∙◌, ◌||◌, Some, false, ap}
use Rattle.std.proofs.lemmas.Bool.{or_from}
use Rattle.aw_name_index.specs.Places.{place_of, stands}
use Rattle.aw_term.specs.Views.{term_of}
use Rattle.aw_grammar.specs.Written.{Word}
use Rattle.aw_grammar.specs.Resolved.{numbered}
use Rattle.aw_grammar.specs.Kinds.{con_called}
use Rattle.aw_grammar.specs.Faultless.{is_declared}
use Rattle.aw_grammar.specs.GrammarOf.{words_of}
use Rattle.aw_grammar.proofs.MadeLemmas.{word_term}
use Rattle.aw_grammar.proofs.FaultlessTerms.{variable_made, variable_stands, variable_absent, not_made}
use Rattle.aw_grammar.proofs.resolve.word_term.Goals as goal

pub returns-in-Some : goal.returns-in-Some
returns-in-Some c =
    let g = c.args.grammar.now in let names = c.args.variables.now.names in let x = c.args.name.now in
    let e : Some c.in-Some.variable ≡ place_of x names = c.in-Some.ensures ∙ ap (λ n. place_of n names) c.as_slice.ensures in
    (ap (λ b. b || is_declared 0 (con_called x g.cons)) (variable_stands names x c.in-Some.variable e), variable_made (words_of g).cons names x c.in-Some.variable c.requires e)

pub returns-in_err-number : goal.returns-in_err-number
returns-in_err-number c =
    let g = c.args.grammar.now in let names = c.args.variables.now.names in let x = c.args.name.now in
    let absent : stands x names ≡ false = variable_absent names x (c.in_default.ensures ∙ ap (λ n. place_of n names) c.as_slice.ensures) in
    not_made (stands x names || is_declared 0 (con_called x g.cons)) (λ made. term_of made ≡ numbered (words_of g).cons names (Word x)) c.from_residual.result c.from_residual.ensures
    (or_from (stands x names) (is_declared 0 (con_called x g.cons)) absent c.in_err-number.ensures)

pub returns : goal.returns
returns c =
    let g = c.args.grammar.now in let names = c.args.variables.now.names in let x = c.args.name.now in
    let absent : stands x names ≡ false = variable_absent names x (c.in_default.ensures ∙ ap (λ n. place_of n names) c.as_slice.ensures) in (
      ap (λ b. b || is_declared 0 (con_called x g.cons)) absent ∙ c.in_ok-number.ensures.0,
      word_term (words_of g).cons names x c.in_ok-number.number c.new.result c.new.ensures c.in_ok-number.ensures.1,
    )
