use Rattle.std.proofs.Common.{rules, ℕ, ◌+◌, List, map, take, drop, ap, sym, ◌∙◌, refl, subst, Ok}
use Rattle.std.proofs.lemmas.List.{drop_all, take_all}
use Rattle.aw_list.proofs.Fronts.{on_err_held as on_err}
use Rattle.aw_accept.specs.declared.accepted.Accepted.{Accepted}
use Rattle.aw_grammar.specs.GrammarOf.{grammar_of, words_of}
use Rattle.aw_out.specs.Report.{Prints}
use Rattle.aw_out.proofs.Printing.{Prints-second, Prints-nothing}
use Rattle.aw_law_sites.specs.Worlds as V
use Rattle.aw_sched.specs.Answers.{event_seen, MayCome}
use Rattle.aw_sched.specs.declared.event.Event.{Event}
use Rattle.aw_world.specs.Shown.{Shows}
use Rattle.aw_law_sites.specs.Outputs.{after_event, after_events, event_lines, all_lines, moves_of, all_moves}
use Rattle.aw_replay.proofs.Events.{each_here, events_more, lines_drop, some_before}
use Rattle.aw_world.proofs.Lines.{stops}
use Rattle.aw_replay.proofs.replaying.tell_events.Goals as goal

pub tell_event-requires-clause-named : goal.tell_event-requires-clause-named
tell_event-requires-clause-named g c = c.loop-event.invariant.named ∙ sym (ap (λ (a : Accepted). a.grammar) c.loop-event.invariant.accepted)

pub tell_event-requires-clause-may_come : goal.tell_event-requires-clause-may_come
tell_event-requires-clause-may_come g c =
    let e = c.event-item.result in
    subst (λ (a : Accepted). MayCome (grammar_of a.grammar) e) (sym c.loop-event.invariant.accepted)
    (each_here (MayCome (grammar_of c.args.world.now.accepted.now.grammar)) c.args.events.now c.loop-event.event-index e c.loop-event-test.true c.event-item.is c.requires)

pub loop-event-preserved : goal.loop-event-preserved
loop-event-preserved g c =
    let i = c.loop-event.invariant in
    let d = c.args.world.now.accepted.now.grammar in
    let p = grammar_of d in
    let n = c.loop-event.event-index in
    let es = c.args.events.now in
    let e = c.event-item.result in
    let x = c.tell_event.new.world in
    record {
      accepted = c.tell_event.ensures.accepted ∙ i.accepted;
      loads = c.tell_event.ensures.loads ∙ i.loads;
      named = c.tell_event.ensures.names ∙ i.named;
      after = λ v s. subst (Shows g.W.Workspace x)
          (ap (λ (a : Accepted). after_event (grammar_of a.grammar) (after_events p v (map event_seen (take n es))) (event_seen e)) i.accepted
          ∙ events_more p v es n (n + 1) e refl c.loop-event-test.true c.event-item.is)
          (c.in_ok-tell_event.ensures.does (after_events p v (map event_seen (take n es))) (i.after v s));
      whole = λ v s new r next.
          let u = after_events p v (map event_seen (take n es)) in
          let one : Prints (event_lines (words_of d) p u (event_seen e)) c.loop-event.report c.tell_event.new.report (Ok tt) =
          subst (λ (a : Accepted). Prints (event_lines (words_of a.grammar) (grammar_of a.grammar) u (event_seen e)) c.loop-event.report
          c.tell_event.new.report (Ok tt)) i.accepted (c.in_ok-tell_event.ensures.prints u (i.after v s)) in
          let rest : Prints (all_lines (words_of d) p (after_event p u (event_seen e)) (map event_seen (drop (n + 1) es))) c.tell_event.new.report new r =
          subst (λ z. Prints (all_lines (words_of d) p z (map event_seen (drop (n + 1) es))) c.tell_event.new.report new r)
          (sym (events_more p v es n (n + 1) e refl c.loop-event-test.true c.event-item.is)) next in
          i.whole v s new r (subst (λ t. Prints t c.loop-event.report new r) (sym (lines_drop (words_of d) p u es n (n + 1) e refl c.loop-event-test.true c.event-item.is))
          (Prints-second _ _ c.loop-event.report c.tell_event.new.report new r one rest));
    }

pub returns-in_err-tell_event-clause-prints : goal.returns-in_err-tell_event-clause-prints
returns-in_err-tell_event-clause-prints g c = λ v s.
    let i = c.loop-event.invariant in
    let d = c.args.world.now.accepted.now.grammar in
    let p = grammar_of d in
    let n = c.loop-event.event-index in
    let es = c.args.events.now in
    let e = c.event-item.result in
    let u = after_events p v (map event_seen (take n es)) in
    let new = c.tell_event.new.report in
    let one = subst (λ (a : Accepted). Prints (event_lines (words_of a.grammar) (grammar_of a.grammar) u (event_seen e)) c.loop-event.report new
    c.tell_event.result) i.accepted (c.tell_event.ensures.prints u (i.after v s)) in
    i.whole v s new c.from_residual.result (stops _ _ _ c.loop-event.report new c.tell_event.result c.from_residual.result _
    (lines_drop (words_of d) p u es n (n + 1) e refl c.loop-event-test.true c.event-item.is) c.in_err-tell_event.was (search rules) one)

pub returns-clause-does : goal.returns-clause-does
returns-clause-does g c = λ v s.
    let p = grammar_of c.args.world.now.accepted.now.grammar in
    subst (λ (xs : List Event). Shows g.W.Workspace c.loop-event.world (after_events p v (map event_seen xs)))
    (take_all c.loop-event.event-index c.args.events.now c.loop-event-test.false) (c.loop-event.invariant.after v s)

pub returns-clause-prints : goal.returns-clause-prints
returns-clause-prints g c = λ v s.
    let i = c.loop-event.invariant in
    let d = c.args.world.now.accepted.now.grammar in
    let p = grammar_of d in
    let n = c.loop-event.event-index in
    let es = c.args.events.now in
    let u = after_events p v (map event_seen (take n es)) in
    i.whole v s _ _ (subst (λ xs. Prints (all_lines (words_of d) p u (map event_seen xs)) c.loop-event.report c.loop-event.report (Ok tt))
    (sym (drop_all n es c.loop-event-test.false)) (Prints-nothing c.loop-event.report))

pub returns-in_err-tell_event-clause-some : goal.returns-in_err-tell_event-clause-some
returns-in_err-tell_event-clause-some g c =
    let i = c.loop-event.invariant in
    let p = grammar_of c.args.world.now.accepted.now.grammar in
    let n = c.loop-event.event-index in
    let es = c.args.events.now in
    let e = c.event-item.result in
    let x = c.tell_event.new.world in
    let kept : (v : V.World) → Shows g.W.Workspace c.args.world.now v → (k : ℕ) × Shows g.W.Workspace x (V.run p v (take k (all_moves p v (map event_seen es)))) = λ v s.
    let u = after_events p v (map event_seen (take n es)) in
    let h = c.in_err-tell_event.ensures.some u (i.after v s) in
    let b = some_before p v es n e c.loop-event-test.true c.event-item.is h.0 in (
      b.0,
      subst (Shows g.W.Workspace x) (sym b.1)
          (subst (λ (a : Accepted). Shows g.W.Workspace x
          (V.run (grammar_of a.grammar) u (take h.0 (moves_of (grammar_of a.grammar) u (event_seen e))))) i.accepted h.1),
    ) in
    on_err _ kept
