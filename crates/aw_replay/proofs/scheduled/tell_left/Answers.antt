use Rattle.std.proofs.Common.{rules, ◌≡◌, ◌∙◌, refl, sym, subst, ap, Err}
use Rattle.std.specs.Prelude.{IfSome}
use Rattle.aw_list.proofs.Fronts.{on_err_held as on_err}
use Rattle.aw_accept.specs.declared.accepted.Accepted.{Accepted}
use Rattle.aw_grammar.specs.declared.grammar.Grammar.{Grammar}
use Rattle.aw_grammar.specs.GrammarOf.{grammar_of}
use Rattle.aw_sched.specs.Answers.{MayCome}
use Rattle.aw_sched.specs.Readers.{left}
use Rattle.aw_replay.specs.Faults.{of_printing, of_schedule}
use Rattle.aw_replay.specs.Replays.{TellsLeft}
use Rattle.aw_replay.proofs.WhileRead.{all_told, none_told, one_some, one_told, print_fault, read_fault, some_told}
use Rattle.aw_replay.proofs.scheduled.tell_left.Goals as goal

pub loop-event-init : goal.loop-event-init
loop-event-init g c = record {
  reading = c.requires.reading;
  grammar = refl;
  typed = refl;
  named = c.requires.named;
  accepted = refl;
  loads = refl;
  told = none_told g.W.Workspace c.args.kept c.args.reader.now (c.args.world.now, c.args.replay.now);
}

pub tell_kept-told-requires-clause-may : goal.tell_kept-told-requires-clause-may
tell_kept-told-requires-clause-may g c stays =
    let i = c.loop-event.invariant in
    let e = c.in-Some.event in
    let come = subst (λ o. IfSome o (MayCome (grammar_of c.loop-event.reader.grammar.now))) c.in-Some.is c.in_ok-event.ensures.fits in
    subst (λ (a : Accepted). MayCome (grammar_of a.grammar) e) (sym i.accepted) (c.requires.may e (subst (λ (d : Grammar). MayCome (grammar_of d) e) i.grammar come) stays)

pub loop-event-preserved : goal.loop-event-preserved
loop-event-preserved g c =
    let i = c.loop-event.invariant in
    let n = c.in_ok-event.ensures in
    record {
      reading = n.reading;
      grammar = n.grammar ∙ i.grammar;
      typed = n.typed ∙ i.typed;
      named = c.tell_kept-told.ensures.named;
      accepted = c.tell_kept-told.ensures.accepted ∙ i.accepted;
      loads = c.tell_kept-told.ensures.loads ∙ i.loads;
      told = one_told g.W.Workspace c.args.kept c.args.reader.now c.loop-event.reader c.next.new.self (c.args.world.now, c.args.replay.now)
          (c.loop-event.world, c.loop-event.replay) i.told i.grammar i.typed
          c.in_ok-event.field-0 c.in-Some.event c.in-Some.is n.next n.fits n.types (c.tell_kept-told.new.world, c.tell_kept-told.new.replay) c.in_ok-told.ensures.tells;
    }

pub returns-in_err-told-clause-tells : goal.returns-in_err-told-clause-tells
returns-in_err-told-clause-tells g c =
    let i = c.loop-event.invariant in
    let n = c.in_ok-event.ensures in
    let same : c.from_residual-in_err-told.result ≡ Err (of_printing c.in_err-told.field-0.0) = search rules in
    subst (TellsLeft g.W.Workspace c.args.kept c.args.reader.now (c.args.world.now, c.args.replay.now) c.next.new.self (c.tell_kept-told.new.world, c.tell_kept-told.new.replay)) (sym same)
    (print_fault g.W.Workspace c.args.kept c.args.reader.now c.loop-event.reader c.next.new.self (c.args.world.now, c.args.replay.now)
    (c.loop-event.world, c.loop-event.replay) i.told i.grammar i.typed
    c.in_ok-event.field-0 c.in-Some.event c.in-Some.is n.next n.fits n.types (c.tell_kept-told.new.world, c.tell_kept-told.new.replay) c.in_err-told.field-0.0
    (λ large. c.tell_kept-told.ensures.too_large (c.in_err-told.was ∙ ap Err large)))

pub returns-in_err-told-clause-some : goal.returns-in_err-told-clause-some
returns-in_err-told-clause-some g c =
    let i = c.loop-event.invariant in
    let n = c.in_ok-event.ensures in
    on_err _
    (one_some g.W.Workspace c.args.kept c.args.reader.now c.loop-event.reader c.next.new.self (c.args.world.now, c.args.replay.now) (c.loop-event.world, c.loop-event.replay) i.told i.grammar i.typed
    c.in_ok-event.field-0 c.in-Some.event c.in-Some.is n.next n.fits n.types (c.tell_kept-told.new.world, c.tell_kept-told.new.replay) c.in_err-told.ensures.some)

pub returns-in_err-event-clause-tells : goal.returns-in_err-event-clause-tells
returns-in_err-event-clause-tells g c =
    let i = c.loop-event.invariant in
    let same : c.from_residual.result ≡ Err (of_schedule c.in_err-event.field-0.0) = search rules in
    subst (TellsLeft g.W.Workspace c.args.kept c.args.reader.now (c.args.world.now, c.args.replay.now) c.next.new.self (c.loop-event.world, c.loop-event.replay)) (sym same)
    (read_fault g.W.Workspace c.args.kept c.args.reader.now c.loop-event.reader c.next.new.self (c.args.world.now, c.args.replay.now) (c.loop-event.world, c.loop-event.replay) i.told i.grammar i.typed
    (c.loop-event.world, c.loop-event.replay) c.in_err-event.field-0.0 (left c.next.new.self) c.in_err-event.ensures.next)

pub returns-in_err-event-clause-some : goal.returns-in_err-event-clause-some
returns-in_err-event-clause-some g c =
    on_err _ (some_told g.W.Workspace c.args.kept c.args.reader.now c.loop-event.reader (c.args.world.now, c.args.replay.now) (c.loop-event.world, c.loop-event.replay) c.loop-event.invariant.told)

pub returns-clause-tells : goal.returns-clause-tells
returns-clause-tells g c =
    let i = c.loop-event.invariant in
    all_told g.W.Workspace c.args.kept c.args.reader.now c.loop-event.reader c.next.new.self (c.args.world.now, c.args.replay.now) (c.loop-event.world, c.loop-event.replay) i.told i.grammar i.typed
    c.in_ok-event.field-0 (left c.next.new.self) (search rules) c.in_ok-event.ensures.next
