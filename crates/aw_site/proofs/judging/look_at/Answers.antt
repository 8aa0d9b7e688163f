use Rattle.std.proofs.Common.{sym}
use Rattle.aw_grammar.specs.GrammarOf.{grammar_of}
use Rattle.aw_msg.specs.MessageView.{message_of}
use Rattle.aw_site.proofs.Coming.{sees_answered, sees_fresh}
use Rattle.aw_site.proofs.judging.look_at.Goals as goal

pub returns-in-Some-clause-sees : goal.returns-in-Some-clause-sees
returns-in-Some-clause-sees g c = λ loads s h.
    let gr = grammar_of c.args.g.now.grammar in
    sees_answered gr s (message_of gr c.args.m.now) c.in-Ok.judged c.in-Some.answer (c.in-Ok.ensures loads s h) (sym c.in-Some.ensures)

pub returns-in-None-clause-sees : goal.returns-in-None-clause-sees
returns-in-None-clause-sees g c = λ loads s h.
    let gr = grammar_of c.args.g.now.grammar in
    sees_fresh gr s (message_of gr c.args.m.now) c.in-Ok.judged (c.in-Ok.ensures loads s h) (sym c.in-None.ensures)
