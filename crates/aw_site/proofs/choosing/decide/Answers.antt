use Rattle.std.proofs.Common.{◌≡◌, ◌∙◌, ◌++◌, refl, sym, ap, map, length, subst, rules}
use Rattle.aw_choice.specs.ChoiceView.{choice_of}
use Rattle.aw_grammar.specs.GrammarOf.{grammar_of}
use Rattle.aw_msg.specs.MessageView.{message_of}
use Rattle.aw_law_sites.specs.Choosing.{outcome, choose}
use Rattle.aw_law_sites.specs.Sites.{Site}
use Rattle.aw_space.specs.Spaces as S
use Rattle.aw_space.specs.Spaces.{space_on}
use Rattle.aw_site.specs.Chosen.{worked, reaction_of}
use Rattle.aw_site.specs.Shown.{Shows}
use Rattle.aw_site.proofs.ChosenSites.{site_reacted, sent_reacted}
use Rattle.aw_site.proofs.Holding.{count_planned, copy_planned, shown_planned}
use Rattle.aw_site.proofs.InRange.{short_more}
use Rattle.aw_site.proofs.Unchanged.{if_err, as_it_was, still_shown}
use Rattle.aw_site.proofs.choosing.decide.Goals as goal

pub returns-in-Ok-clause-count : goal.returns-in-Ok-clause-count
returns-in-Ok-clause-count g c = λ s shows.
    let gr = grammar_of c.args.g.now.grammar in
    let ch = choice_of c.args.choice.now in
    let t = worked gr s ch (outcome gr s ch) in
    let x = reaction_of s (choose gr s ch) in
    let planned = (c.in_ok-outcome.ensures.prepares s shows.holds).plan in
    let counted : c.len-count.result ≡ length c.in_ok-outcome.field-0.plan.sent.items = search rules in
    count_planned c.args.g.now.grammar t x c.in_ok-outcome.field-0.plan c.len-count.result counted planned
    ∙ ap length (sent_reacted s (choose gr s ch))

pub returns-in-Ok-clause-site : goal.returns-in-Ok-clause-site
returns-in-Ok-clause-site g c = λ s shows.
    let gr = grammar_of c.args.g.now.grammar in
    let ch = choice_of c.args.choice.now in
    let h = shows.holds in
    let t = worked gr s ch (outcome gr s ch) in
    let x = reaction_of s (choose gr s ch) in
    let planned = (c.in_ok-outcome.ensures.prepares s h).plan in
    subst (λ (p : Site). Shows g.F.Facts c.conclude.new.space c.carry_out.new.subs c.carry_out.new.outbox.items c.args.loads p) (site_reacted s (choose gr s ch))
    (shown_planned g.F.Facts c.conclude.new.space c.carry_out.new.subs c.args.loads c.args.g.now.grammar t x c.in_ok-outcome.field-0.plan
    c.args.outbox.now.items c.prepare_with_room.new.outbox.items c.carry_out.new.outbox.items
    (c.requires.grammar ∙ sym c.conclude.ensures.grammar) (h.role ∙ sym c.conclude.ensures.role) h.flag
    ((λ i. space_on gr (h.role i) (h.holds i) ch (S.outcome gr (h.holds i) ch)) ∙ sym c.in-Ok.ensures.space)
    (c.carry_out.ensures.asked s.asked (c.prepare_with_room.ensures.asked s.asked h.asked))
    (c.carry_out.ensures.watchers s.watches (c.prepare_with_room.ensures.watchers s.watches h.watchers))
    (shows.sent ∙ (λ i. map (message_of (grammar_of (sym c.requires.grammar i))) c.args.outbox.now.items))
    c.prepare_with_room.ensures.outbox c.carry_out.ensures.outbox planned)

pub returns-in-Ok-clause-copy : goal.returns-in-Ok-clause-copy
returns-in-Ok-clause-copy g c = λ s shows.
    let gr = grammar_of c.args.g.now.grammar in
    let ch = choice_of c.args.choice.now in
    let t = worked gr s ch (outcome gr s ch) in
    let x = reaction_of s (choose gr s ch) in
    let planned = (c.in_ok-outcome.ensures.prepares s shows.holds).plan in
    copy_planned c.args.g.now.grammar t x c.in_ok-outcome.field-0.plan c.args.copy.now.items c.prepare_with_room.new.copy.items c.in_ok-outcome.ensures.copy planned
    ∙ ap (λ ms. map (message_of gr) c.args.copy.now.items ++ ms) (sent_reacted s (choose gr s ch))

pub returns-in-Ok-clause-short : goal.returns-in-Ok-clause-short
returns-in-Ok-clause-short g c =
    short_more c.args.outbox.now.items c.prepare_with_room.new.outbox.items c.in_ok-outcome.field-0.plan.sent.items c.carry_out.new.outbox.items
    c.prepare_with_room.ensures.outbox c.carry_out.ensures.outbox c.in_ok-outcome.ensures.short

pub returns-in_err-outcome-clause-err : goal.returns-in_err-outcome-clause-err
returns-in_err-outcome-clause-err g c = if_err c.from_residual.result
    (still_shown g.F.Facts c.args.space.now c.args.space.now c.args.subs.now c.prepare_with_room.new.subs c.args.outbox.now.items c.prepare_with_room.new.outbox.items c.args.loads
    refl refl (as_it_was g.F.Facts c.args.space.now) c.prepare_with_room.ensures.asked c.prepare_with_room.ensures.watchers c.prepare_with_room.ensures.outbox)

pub returns-in-Err-clause-err : goal.returns-in-Err-clause-err
returns-in-Err-clause-err g c =
    still_shown g.F.Facts c.args.space.now c.conclude.new.space c.args.subs.now c.prepare_with_room.new.subs c.args.outbox.now.items c.prepare_with_room.new.outbox.items c.args.loads
    c.conclude.ensures.grammar c.conclude.ensures.role c.in-Err.ensures.err c.prepare_with_room.ensures.asked c.prepare_with_room.ensures.watchers c.prepare_with_room.ensures.outbox
