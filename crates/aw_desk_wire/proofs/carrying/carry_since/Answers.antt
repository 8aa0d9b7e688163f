use Rattle.std.proofs.Common.{Some, sym, ap, ◌∙◌}
use Rattle.std.proofs.Math.Logic.{∥∥₁_map}
use Rattle.aw_grammar.specs.GrammarOf.{grammar_of, words_of}
use Rattle.aw_desk_wire.specs.Calls.{content_of}
use Rattle.aw_desk_wire.specs.Shown.{OfficeAnswers}
use Rattle.aw_desk_wire.proofs.SameLemmas.{broken-as, carries-as, means-as}
use Rattle.aw_desk_wire.proofs.SinceLemmas.{since-at, since-none}
use Rattle.aw_desk_wire.proofs.carrying.carry_since.Goals as goal

pub new-traced-requires : goal.new-traced-requires
new-traced-requires g c =
    ∣ since-at _ OfficeAnswers g.K.Moment.offices g.K.Moment.passed _ _ _ _ _ _ (c.close.ensures.desks ∙ c.requires.offices) c.close.ensures.reader c.close.ensures.calls
    (since-none _ OfficeAnswers g.K.Moment.offices g.K.Moment.passed c.args.wire.reader c.args.wire.calls c.requires.passed) ∣₁

pub returns-clause-ok : goal.returns-clause-ok
returns-clause-ok g c =
    carries-as _ _ _ _ c.new-traced.result c.carry-answer.new.wire c.args.wire c.into_wire.result
    (ap (λ w. Some (content_of w.calls)) c.new-traced.ensures ∙ ap (λ cs. Some (content_of cs)) c.close.ensures.calls) (ap (λ w. Some (content_of w.calls)) (sym c.into_wire.ensures.wire))
    (ap (λ w. w.starved) c.new-traced.ensures ∙ c.close.ensures.starved) (ap (λ w. w.starved) (sym c.into_wire.ensures.wire)) (grammar_of c.args.g.now.grammar)
    _ _ (ap (λ w. w.unopened) c.new-traced.ensures ∙ c.close.ensures.unopened) (ap (λ w. w.unopened) (sym c.into_wire.ensures.wire)) c.args.rounds c.carry-answer.result c.carry-answer.ensures.ok

pub returns-clause-err : goal.returns-clause-err
returns-clause-err g c =
    broken-as _ _ _ _ c.new-traced.result c.carry-answer.new.wire c.args.wire c.into_wire.result
    (ap (λ w. Some (content_of w.calls)) c.new-traced.ensures ∙ ap (λ cs. Some (content_of cs)) c.close.ensures.calls) (ap (λ w. Some (content_of w.calls)) (sym c.into_wire.ensures.wire))
    (ap (λ w. w.starved) c.new-traced.ensures ∙ c.close.ensures.starved) (ap (λ w. w.starved) (sym c.into_wire.ensures.wire))
    (grammar_of c.args.g.now.grammar) c.args.rounds c.carry-answer.result c.carry-answer.ensures.err

pub returns-clause-world : goal.returns-clause-world
returns-clause-world g c =
    ∥∥₁_map c.carry-answer.ensures.world (λ h. means-as _ _ _ _ c.new-traced.result c.carry-answer.new.wire c.args.wire c.into_wire.result
    (ap (λ w. Some (content_of w.calls)) c.new-traced.ensures ∙ ap (λ cs. Some (content_of cs)) c.close.ensures.calls) (ap (λ w. Some (content_of w.calls)) (sym c.into_wire.ensures.wire))
    (ap (λ w. w.starved) c.new-traced.ensures ∙ c.close.ensures.starved) (ap (λ w. w.starved) (sym c.into_wire.ensures.wire)) (grammar_of c.args.g.now.grammar)
    _ _ (ap (λ w. w.unopened) c.new-traced.ensures ∙ c.close.ensures.unopened) (ap (λ w. w.unopened) (sym c.into_wire.ensures.wire))
    (words_of c.args.g.now.grammar) c.args.rounds c.carry-answer.result h)
