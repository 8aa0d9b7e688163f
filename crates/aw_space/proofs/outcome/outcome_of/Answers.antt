use Rattle.std.proofs.Common.{◌∙◌, sym, subst, map, length}
use Rattle.aw_term.specs.Views.{ground_of}
use Rattle.aw_grammar.specs.GrammarOf.{grammar_of}
use Rattle.aw_apply.specs.Telling.{HasRoom}
use Rattle.aw_space.proofs.Weighed.{refused_other}
use Rattle.aw_space.proofs.Foretelling.{refused_foretold, taken_foretold}
use Rattle.aw_space.proofs.outcome.outcome_of.Goals as goal

pub made-requires-clause-room : goal.made-requires-clause-room
made-requires-clause-room c = λ r here. subst (λ w. HasRoom (length r.children) c.args.node.now w) c.in-Takes.is (c.requires.room r here)

pub returns-in-Refused-clause-outcome : goal.returns-in-Refused-clause-outcome
returns-in-Refused-clause-outcome c =
    λ x weighs. refused_foretold (grammar_of c.args.grammar.now) c.plainly.result c.args.node.now c.args.rule
    (map ground_of c.args.args.now) c.args.weighed c.in-Refused.answer x c.requires.ok weighs c.in-Refused.is
    c.plainly.ensures.answer c.plainly.ensures.equations c.plainly.ensures.children

pub returns-in_ok-made-in-Takes-clause-outcome : goal.returns-in_ok-made-in-Takes-clause-outcome
returns-in_ok-made-in-Takes-clause-outcome c =
    λ x weighs. taken_foretold (grammar_of c.args.grammar.now) c.in_ok-made-in-Takes.field-0 c.args.place c.args.node.now c.args.rule
    (map ground_of c.args.args.now) c.args.weighed c.in-Takes.bound x c.requires.ok weighs c.in-Takes.is
    c.in_ok-made-in-Takes.ensures.equations c.in_ok-made-in-Takes.ensures.children

pub returns-in-Refused-clause-untested : goal.returns-in-Refused-clause-untested
returns-in-Refused-clause-untested c = λ other bound e. refused_other c.in-Refused.answer bound (sym c.in-Refused.is ∙ e)
