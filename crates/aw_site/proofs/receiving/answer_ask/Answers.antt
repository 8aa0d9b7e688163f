use Rattle.std.proofs.Common.{◌∙◌, refl, sym, map}
use Rattle.aw_grammar.specs.GrammarOf.{grammar_of}
use Rattle.aw_apply.specs.Messages.{Asks}
use Rattle.aw_msg.specs.MessageView.{message_of}
use Rattle.aw_law_sites.specs.Reacting.{react}
use Rattle.aw_site.specs.Came.{watching}
use Rattle.aw_site.proofs.Holding.{equations_by, shown_planned}
use Rattle.aw_site.proofs.Noting.{asked_same, watched_one}
use Rattle.aw_site.proofs.InRange.{short_more}
use Rattle.aw_site.proofs.Unchanged.{if_err, watched_same, as_it_was, still_shown}
use Rattle.aw_site.proofs.receiving.answer_ask.Goals as goal

pub returns-in-Ok-clause-site : goal.returns-in-Ok-clause-site
returns-in-Ok-clause-site g c = λ s shows.
    let gr = grammar_of c.args.g.now.grammar in
    let h = shows.holds in
    let r = c.args.r.now in
    let from = c.args.from in
    shown_planned g.F.Facts c.args.space.now c.carry_out.new.subs c.args.loads c.args.g.now.grammar (watching s r from) (react gr s (Asks r from)) c.in_ok-plan.plan
    c.args.outbox.now.items c.make_room.new.outbox.items c.carry_out.new.outbox.items
    c.requires.grammar h.role h.flag h.holds
    (c.carry_out.ensures.asked s.asked (asked_same c.make_room.new.subs c.watch.new.self s.asked c.watch.ensures.asked (c.make_room.ensures.asked s.asked h.asked)))
    (c.carry_out.ensures.watchers _ (watched_one c.make_room.new.subs c.watch.new.self r from s.watches c.in-Ok.ensures.watchers (c.make_room.ensures.watchers s.watches h.watchers)))
    (shows.sent ∙ (λ i. map (message_of (grammar_of (sym c.requires.grammar i))) c.args.outbox.now.items))
    c.make_room.ensures.outbox c.carry_out.ensures.outbox
    (c.in_ok-plan.ensures.plan s h.role h.flag (equations_by g.F.Facts c.args.space.now c.args.subs.now c.args.loads s c.args.g.now.grammar c.requires.grammar h))

pub returns-in-Ok-clause-short : goal.returns-in-Ok-clause-short
returns-in-Ok-clause-short g c =
    short_more c.args.outbox.now.items c.make_room.new.outbox.items c.in_ok-plan.plan.sent.items c.carry_out.new.outbox.items
    c.make_room.ensures.outbox c.carry_out.ensures.outbox c.in_ok-make_room.ensures.short

pub returns-in_err-make_room-clause-err : goal.returns-in_err-make_room-clause-err
returns-in_err-make_room-clause-err g c = if_err c.from_residual-in_err-make_room.result
    (still_shown g.F.Facts c.args.space.now c.args.space.now c.args.subs.now c.make_room.new.subs c.args.outbox.now.items c.make_room.new.outbox.items c.args.loads
    refl refl (as_it_was g.F.Facts c.args.space.now) c.make_room.ensures.asked c.make_room.ensures.watchers c.make_room.ensures.outbox)

pub returns-in-Err-clause-err : goal.returns-in-Err-clause-err
returns-in-Err-clause-err g c =
    still_shown g.F.Facts c.args.space.now c.args.space.now c.args.subs.now c.watch.new.self c.args.outbox.now.items c.make_room.new.outbox.items c.args.loads
    refl refl (as_it_was g.F.Facts c.args.space.now)
    (λ asked shows. asked_same c.make_room.new.subs c.watch.new.self asked c.watch.ensures.asked (c.make_room.ensures.asked asked shows))
    (λ ws shows. watched_same c.make_room.new.subs c.watch.new.self ws c.in-Err.ensures.err (c.make_room.ensures.watchers ws shows))
    c.make_room.ensures.outbox
