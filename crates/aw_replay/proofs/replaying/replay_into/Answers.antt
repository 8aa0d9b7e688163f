use Rattle.std.proofs.Common.{rules, map, ap, sym, ◌∙◌, refl, subst}
use Rattle.aw_list.proofs.Fronts.{on_err_held as on_err}
use Rattle.aw_accept.specs.declared.accepted.Accepted.{Accepted}
use Rattle.aw_grammar.specs.GrammarOf.{grammar_of, words_of}
use Rattle.aw_out.specs.Report.{Prints}
use Rattle.aw_out.proofs.Printing.{Prints-second}
use Rattle.aw_law_sites.specs.Worlds as V
use Rattle.aw_sched.specs.Answers.{event_seen}
use Rattle.aw_law_sites.specs.Outputs.{after_events, all_moves, ending}
use Rattle.aw_law_worlds.proofs.Headlining.{events_run}
use Rattle.aw_world.specs.Shown.{Shows}
use Rattle.aw_world.proofs.Lines.{stops}
use Rattle.aw_replay.specs.Telling.{DoesFirst}
use Rattle.aw_replay.proofs.Events.{all_taken}
use Rattle.aw_replay.proofs.replaying.replay_into.Goals as goal

pub returns-in_err-tell_events-clause-prints : goal.returns-in_err-tell_events-clause-prints
returns-in_err-tell_events-clause-prints g c =
    let w = c.args.world.now in
    let p = grammar_of w.accepted.now.grammar in
    stops _ _ _ c.args.report.now c.tell_events.new.report c.tell_events.result c.from_residual.result _ refl c.in_err-tell_events.was (search rules)
    (c.tell_events.ensures.prints (V.empty_world p w.loads) c.requires.new)

pub returns-clause-prints : goal.returns-clause-prints
returns-clause-prints g c =
    let w = c.args.world.now in
    let d = w.accepted.now.grammar in
    let p = grammar_of d in
    let start = V.empty_world p w.loads in
    let end_ = after_events p start (map event_seen c.args.events.now) in
    Prints-second _ _ c.args.report.now c.tell_events.new.report c.print_ending.new.report c.print_ending.result (c.in_ok-tell_events.ensures.prints start c.requires.new)
    (subst (λ (a : Accepted). Prints (ending (words_of a.grammar) (grammar_of a.grammar) end_) c.tell_events.new.report c.print_ending.new.report c.print_ending.result) c.tell_events.ensures.accepted
    (c.print_ending.ensures end_ (c.in_ok-tell_events.ensures.does start c.requires.new)))

pub returns-clause-some : goal.returns-clause-some
returns-clause-some g c =
    let w = c.args.world.now in
    let p = grammar_of w.accepted.now.grammar in
    let es = map event_seen c.args.events.now in
    let kept : DoesFirst g.W.Workspace w c.tell_events.new.world es = λ v s.
    let b = all_taken (all_moves p v es) in
    (b.0, subst (Shows g.W.Workspace c.tell_events.new.world) (sym (ap (V.run p v) b.1 ∙ events_run p v es)) (c.in_ok-tell_events.ensures.does v s)) in
    on_err _ kept
