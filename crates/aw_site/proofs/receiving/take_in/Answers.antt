use Rattle.std.proofs.Common.{◌∙◌, refl, sym, ap, map, option_map}
use Rattle.std.specs.Option.{option_copied}
use Rattle.aw_grammar.specs.GrammarOf.{grammar_of}
use Rattle.aw_store.specs.EquationView.{equation_of}
use Rattle.aw_msg.specs.MessageView.{message_of}
use Rattle.aw_space.specs.Placings.{placed_call}
use Rattle.aw_space.specs.Spaces.{taken_in}
use Rattle.aw_site.specs.Came.{came, holding}
use Rattle.aw_site.proofs.Holding.{shown_planned}
use Rattle.aw_site.proofs.InRange.{short_more}
use Rattle.aw_site.proofs.Unchanged.{as_it_was, still_shown}
use Rattle.aw_site.proofs.receiving.take_in.Goals as goal

pub returns-in-Ok-take_in-clause-site : goal.returns-in-Ok-take_in-clause-site
returns-in-Ok-take_in-clause-site g c = λ s shows.
    let gr = grammar_of c.args.g.now.grammar in
    let h = shows.holds in
    let call = option_map (placed_call gr) (option_copied c.args.call) in
    let es = map equation_of c.args.es in
    shown_planned g.F.Facts c.take_in.new.space c.carry_out.new.subs c.args.loads c.args.g.now.grammar (holding s call es) (came gr s call es) c.in-Ok.plan
    c.args.outbox.now.items c.plan_with_room.new.outbox.items c.carry_out.new.outbox.items
    (c.requires.grammar ∙ sym c.take_in.ensures.grammar) (h.role ∙ sym c.take_in.ensures.role) h.flag (ap (taken_in call es) h.holds ∙ sym c.in-Ok-take_in.ensures.space)
    (c.carry_out.ensures.asked s.asked (c.plan_with_room.ensures.asked s.asked h.asked))
    (c.carry_out.ensures.watchers s.watches (c.plan_with_room.ensures.watchers s.watches h.watchers))
    (shows.sent ∙ (λ i. map (message_of (grammar_of (sym c.requires.grammar i))) c.args.outbox.now.items))
    c.plan_with_room.ensures.outbox c.carry_out.ensures.outbox
    (c.in-Ok.ensures.plan s h)

pub returns-in-Ok-take_in-clause-short : goal.returns-in-Ok-take_in-clause-short
returns-in-Ok-take_in-clause-short g c =
    short_more c.args.outbox.now.items c.plan_with_room.new.outbox.items c.in-Ok.plan.sent.items c.carry_out.new.outbox.items
    c.plan_with_room.ensures.outbox c.carry_out.ensures.outbox c.in-Ok.ensures.short

pub returns-in-Err-clause-err : goal.returns-in-Err-clause-err
returns-in-Err-clause-err g c =
    still_shown g.F.Facts c.args.space.now c.args.space.now c.args.subs.now c.plan_with_room.new.subs c.args.outbox.now.items c.plan_with_room.new.outbox.items c.args.loads
    refl refl (as_it_was g.F.Facts c.args.space.now) c.plan_with_room.ensures.asked c.plan_with_room.ensures.watchers c.plan_with_room.ensures.outbox

pub returns-in-Err-take_in-clause-err : goal.returns-in-Err-take_in-clause-err
returns-in-Err-take_in-clause-err g c =
    still_shown g.F.Facts c.args.space.now c.take_in.new.space c.args.subs.now c.plan_with_room.new.subs c.args.outbox.now.items c.plan_with_room.new.outbox.items c.args.loads
    c.take_in.ensures.grammar c.take_in.ensures.role c.in-Err-take_in.ensures.err c.plan_with_room.ensures.asked c.plan_with_room.ensures.watchers c.plan_with_room.ensures.outbox
