use Rattle.std.proofs.Common.{◌≡◌, ◌≤◌, Some, true, length, ap, sym, ◌∙◌, subst, arith}
use Rattle.std.specs.Prelude.{slice_get, option_map, if◌then◌else◌}
use Rattle.std.proofs.lemmas.Option.{slice_get-map}
use Rattle.aw_list.proofs.Everyday.{length-slice_set as length_set}
use Rattle.aw_grammar.specs.GrammarOf.{grammar_of}
use Rattle.aw_law_sites.specs.Worlds as V
use Rattle.aw_law_sites.specs.Reacting.{receive}
use Rattle.aw_world.specs.declared.moves.Reply.TheVariants as replies
use Rattle.aw_msg.specs.MessageView.{message_of}
use Rattle.aw_world.specs.Seen.{Steps, world_of}
use Rattle.aw_world.proofs.Stepping.{got}
use Rattle.aw_world.proofs.delivering.deliver_at.Goals as goal

pub returns-clause-steps : goal.returns-clause-steps
returns-clause-steps g c = λ taken.
    let d = c.args.accepted.now.grammar in
    let p = grammar_of d in
    let f = g.W.Workspace in
    let k = c.args.at in
    let m = c.in_ok-message.message in
    let a = c.from.result in
    let b = c.in_ok-new.new in
    let ms = c.args.messages.now in
    let xs = c.receive_at.new.sites.items in
    let v = world_of f d c.args.sites.now.items ms c.args.marks.now.delivered.items taken in
    let ns = c.receive_at.new.messages in
    let bs = c.pad.new.self.delivered.items in
    let r = if b then replies.New else replies.Again in
    let there : slice_get v.messages k ≡ Some (message_of p m) =
    slice_get-map (message_of p) ms k ∙ ap (option_map (message_of p)) (c.at.ensures ∙ ap Some (sym c.in_ok-message.ensures)) in
    let bl : length bs ≤ length ms = c.in_ok-pad.ensures.most (length ms) c.requires.marked c.requires.at in
    subst (λ o. Steps f d xs ns c.mark.new.self.delivered.items taken (V.deliver_on p v k o) r) (sym there)
    (subst (λ a. Steps f d xs ns c.mark.new.self.delivered.items taken (V.received_at v k a (receive p (V.site_at v a) (message_of p m))) r) c.from.ensures
    (subst (λ fs. Steps f d xs ns fs taken (V.received_at v k a (receive p (V.site_at v a) (message_of p m))) r) (sym c.mark.ensures)
    (got f d c.args.sites.now.items xs ms ns c.args.marks.now.delivered.items bs taken b k a _ c.in_ok-new.ensures.got c.in_ok-pad.ensures.marks c.in_ok-pad.ensures.room bl)))

pub returns-in_err-new-clause-marked : goal.returns-in_err-new-clause-marked
returns-in_err-new-clause-marked g c =
    let h = c.in_ok-pad.ensures.most (length c.args.messages.now) c.requires.marked c.requires.at in
    omega (arith, h, c.receive_at.ensures.grows)

pub returns-clause-marked : goal.returns-clause-marked
returns-clause-marked g c =
    let h = c.in_ok-pad.ensures.most (length c.args.messages.now) c.requires.marked c.requires.at in
    omega (arith, h, c.receive_at.ensures.grows, ap length c.mark.ensures, length_set c.pad.new.self.delivered.items c.args.at true)
