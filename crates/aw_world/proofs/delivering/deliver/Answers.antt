use Rattle.std.proofs.Common.{◌≡◌, None, ap, sym, ◌∙◌, subst, refl}
use Rattle.std.specs.Prelude.{slice_get, option_map, if◌then◌else◌}
use Rattle.std.proofs.lemmas.Option.{slice_get-map, slice_get_past}
use Rattle.aw_grammar.specs.GrammarOf.{grammar_of}
use Rattle.aw_law_sites.specs.Worlds as V
use Rattle.aw_world.specs.declared.moves.Reply.TheVariants as replies
use Rattle.aw_msg.specs.MessageView.{message_of}
use Rattle.aw_world.specs.Seen.{Steps, world_of}
use Rattle.aw_world.proofs.delivering.deliver.Goals as goal

pub returns-then-branch-clause-steps : goal.returns-then-branch-clause-steps
returns-then-branch-clause-steps g c = λ taken.
    let d = c.args.accepted.now.grammar in
    let v = world_of g.W.Workspace d c.args.sites.now.items c.args.messages.now c.args.marks.now.delivered.items taken in
    subst (λ k. Steps g.W.Workspace d c.deliver_at.new.sites.items c.deliver_at.new.messages c.deliver_at.new.marks.delivered.items taken
    (V.deliver (grammar_of d) v k) replies.New) ((c.in-Some.ensures.some c.in-Some.at refl).0)
    (subst (λ b. Steps g.W.Workspace d c.deliver_at.new.sites.items c.deliver_at.new.messages c.deliver_at.new.marks.delivered.items taken
    (V.deliver (grammar_of d) v c.in-Some.at) (if b then replies.New else replies.Again)) c.if-branch.true
    (c.in_ok-deliver_at-in-Some.ensures.steps taken))

pub returns-else-branch-clause-steps : goal.returns-else-branch-clause-steps
returns-else-branch-clause-steps g c = λ taken.
    let d = c.args.accepted.now.grammar in
    let v = world_of g.W.Workspace d c.args.sites.now.items c.args.messages.now c.args.marks.now.delivered.items taken in
    subst (λ k. Steps g.W.Workspace d c.deliver_at.new.sites.items c.deliver_at.new.messages c.deliver_at.new.marks.delivered.items taken
    (V.deliver (grammar_of d) v k) replies.Again) ((c.in-Some.ensures.some c.in-Some.at refl).0)
    (subst (λ b. Steps g.W.Workspace d c.deliver_at.new.sites.items c.deliver_at.new.messages c.deliver_at.new.marks.delivered.items taken
    (V.deliver (grammar_of d) v c.in-Some.at) (if b then replies.New else replies.Again)) c.if-branch.false
    (c.in_ok-deliver_at-in-Some.ensures.steps taken))

pub returns-in-None-clause-steps : goal.returns-in-None-clause-steps
returns-in-None-clause-steps g c = λ taken.
    let d = c.args.accepted.now.grammar in
    let p = grammar_of d in
    let ms = c.args.messages.now in
    let k = c.args.number in
    let v = world_of g.W.Workspace d c.args.sites.now.items ms c.args.marks.now.delivered.items taken in
    let past : slice_get v.messages k ≡ None = slice_get-map (message_of p) ms k ∙ ap (option_map (message_of p)) (slice_get_past ms k (c.in-None.ensures.none refl)) in
    subst (λ o. Steps g.W.Workspace d c.args.sites.now.items ms c.args.marks.now.delivered.items taken (V.deliver_on p v k o) replies.NoMessage) (sym past)
    (record { world = refl; reply = refl })
