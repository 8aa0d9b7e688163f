use Rattle.std.proofs.Common.{rules, ◌≡◌, ◌∙◌, refl, sym, subst, map, Err}
use Rattle.aw_grammar.specs.declared.grammar.Grammar.{Grammar}
use Rattle.aw_grammar.specs.GrammarOf.{grammar_of}
use Rattle.aw_term.specs.WellFormed.{Each}
use Rattle.aw_typed.specs.Typing.{types_of}
use Rattle.aw_typed.specs.declared.data.Typed.{Typed}
use Rattle.aw_sched.specs.Answers.{Answers, HasTypes, MayCome, event_seen}
use Rattle.aw_sched.specs.Readers.{AreRead, left}
use Rattle.aw_sched.proofs.ReadEvents.{end_read, fault_answers, next_read, none_read, with_none}
use Rattle.aw_sched.proofs.reader.read_schedule.Goals as goal

pub loop-events-init : goal.loop-events-init
loop-events-init c = record {
  reading = c.new-reader.ensures.reading;
  grammar = refl;
  typed = refl;
  read = subst (λ es. AreRead c.new-reader.result es (left c.new-reader.result)) (sym c.new-events.ensures) (none_read c.new-reader.result);
}

pub returns-in_err-event-clause-answer : goal.returns-in_err-event-clause-answer
returns-in_err-event-clause-answer c =
    let i = c.loop-events.invariant in
    let same : c.from_residual.result ≡ Err c.in_err-event.field-0.0 = search rules in
    subst (λ r. Answers r c.from_residual.result) c.new-reader.ensures.left
    (subst (Answers (left c.new-reader.result)) (sym same) (fault_answers c.new-reader.result c.loop-events.reader c.loop-events.events
    c.in_err-event.field-0.0 (left c.next.new.self) i.read c.in_err-event.ensures.next))

pub loop-events-preserved : goal.loop-events-preserved
loop-events-preserved c =
    let i = c.loop-events.invariant in
    let n = c.in_ok-event.ensures in
    record {
      reading = n.reading;
      grammar = n.grammar ∙ i.grammar;
      typed = n.typed ∙ i.typed;
      read = subst (λ es. AreRead c.new-reader.result es (left c.next.new.self)) (sym c.in_ok-push.ensures.ok)
          (next_read c.new-reader.result c.loop-events.reader c.loop-events.events (left c.next.new.self) i.grammar i.typed i.read c.next.new.self
          refl c.in_ok-event.field-0 c.in-Some.event c.in-Some.is n.next n.fits n.types);
    }

pub returns-clause-answer : goal.returns-clause-answer
returns-clause-answer c =
    let i = c.loop-events.invariant in
    let all = end_read c.new-reader.result c.loop-events.reader c.loop-events.events c.in_ok-event.field-0 (left c.next.new.self) (search rules) i.read c.in_ok-event.ensures.next in
    sym c.new-reader.ensures.left ∙ all.read ∙ with_none (map event_seen c.loop-events.events)

pub returns-clause-fits : goal.returns-clause-fits
returns-clause-fits c = subst (λ (g : Grammar). Each (MayCome (grammar_of g)) c.loop-events.events) c.new-reader.ensures.grammar c.loop-events.invariant.read.come

pub returns-clause-types : goal.returns-clause-types
returns-clause-types c =
    subst (λ (g : Grammar). Each (HasTypes (types_of c.args.t.now.types) (grammar_of g)) c.loop-events.events) c.new-reader.ensures.grammar
    (subst (λ (t : Typed). Each (HasTypes (types_of t.types) (grammar_of c.new-reader.result.grammar.now)) c.loop-events.events) c.new-reader.ensures.typed c.loop-events.invariant.read.typed)
