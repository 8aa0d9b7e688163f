use Rattle.std.proofs.Common.{◌∙◌, refl}
use Rattle.aw_spec.specs.Views.{spec_seen}
use Rattle.aw_run.specs.Output.{TellsSpecification}
use Rattle.aw_run.proofs.Checking.{positions, declared_too}
use Rattle.aw_front.proofs.Verdicts.{accepts-grammar, refuses-grammar, reply-map}
use Rattle.aw_run.proofs.check.check.Goals as goal

pub tell_asked-reply-requires-clause-relation : goal.tell_asked-reply-requires-clause-relation
tell_asked-reply-requires-clause-relation c = rw c.in-Ok.ensures.accepted c.in-Ok.ensures.relation

pub tell_asked-reply-requires-clause-faces : goal.tell_asked-reply-requires-clause-faces
tell_asked-reply-requires-clause-faces c = rw (c.in-Ok.ensures.accepted ∙ c.grammar_and_asked-grammar.ensures.grammar) (rw c.grammar_and_asked-grammar.ensures.asked c.requires.faces)

pub tell_asked-reply-requires-clause-range : goal.tell_asked-reply-requires-clause-range
tell_asked-reply-requires-clause-range c =
    rw (c.in-Ok.ensures.accepted ∙ c.grammar_and_asked-grammar.ensures.grammar) (rw c.grammar_and_asked-grammar.ensures.asked
    (positions c.args.spec.grammar.sorts c.args.spec.depends c.requires.fits.depends))

pub returns-in-Ok : goal.returns-in-Ok
returns-in-Ok c =
    let s = spec_seen c.args.spec in
    accepts-grammar _ s c.args.spec.grammar _ refl (rw c.grammar_and_asked-grammar.ensures.grammar at c.in-Ok.ensures.sound)
    (reply-map _ _ (TellsSpecification s) (λ output. declared_too c.args.spec.grammar s.depends s.offers s.free output)
    (rw c.grammar_and_asked-grammar.ensures.asked at (rw (c.in-Ok.ensures.accepted ∙ c.grammar_and_asked-grammar.ensures.grammar) at c.tell_asked-reply.ensures)))

pub returns-in-Err : goal.returns-in-Err
returns-in-Err c = refuses-grammar _ c.in-Err.refused (spec_seen c.args.spec) c.args.spec.grammar _ refl
    (rw c.grammar_and_asked-grammar.ensures.grammar at c.in-Err.ensures.circular) c.not_accepted.ensures
