use Rattle.std.proofs.Common.{◌≡◌, ◌∙◌, sym, ap, subst, inl, inr, rules, Err}
use Rattle.aw_front.specs.declared.reply.Status.TheVariants.{Done}
use Rattle.aw_out.specs.Edge.{Gets}
use Rattle.aw_run.specs.Replies.{around, wired, ForInput}
use Rattle.aw_run.specs.Keeping.{StopsKeeping}
use Rattle.aw_run.specs.Carrying.{StopsCarrying}
use Rattle.aw_run.specs.Unserved.{StopsServing}
use Rattle.aw_run.specs.Words.{role_word}
use Rattle.aw_run.proofs.Endings.{Says-job, Says-cause, Says-complete, Says-kept, Says-kept-node, Says-carried, Says-node, Says-trial, done-said}
use Rattle.aw_run.proofs.Spelled.{Says-replayed, asks-replay}
use Rattle.aw_run.proofs.Stops.{journal-stops, never-stops, refused-told, stop-complete}
use Rattle.aw_run.specs.declared.words.Job.TheVariants.{Tells}
use Rattle.aw_run.specs.declared.words.Telling.TheVariants.{Undivided, Replayed}
use Rattle.aw_run.specs.Promises.{ArrivalsAnswer, KnowledgeStays, MessagesStayFew, NothingCircles, PlainIsTyped, ReplayIsTyped, RulesStayEnabled}
use Rattle.aw_run.specs.Promises.{Settled, SitesAnswerAsOne, SitesMerge, StartsStayEnabled, StaysAcyclic, WritesAnyOrder}
use Rattle.aw_run.proofs.running.run.Goals as goal

pub returns-in-Ok-clause-cause : goal.returns-in-Ok-clause-cause
returns-in-Ok-clause-cause g c = λ is_reply.
    let told : c.deliver.result ≡ c.in-Ok.reply.status = elim c.deliver.ensures.status [ inl e ↦ e | inr e ↦ absurd (rw e at is_reply) ] in
    Says-cause _ c.args.words.now (around g.W.Wire g.D.Disk c.args.wire.now c.prepare.new.wire c.args.disk.now c.prepare.new.disk) c.in-Ok.reply _ c.in-Ok.ensures.reply told

pub returns-in-Ok-clause-check : goal.returns-in-Ok-clause-check
returns-in-Ok-clause-check g c = λ is done.
    let told : c.in-Ok.reply.status ≡ Done = elim c.deliver.ensures.status [ inl e ↦ sym e ∙ done | inr e ↦ absurd (cc (e, done)) ] in
    Says-job _ _ c.args.words.now (around g.W.Wire g.D.Disk c.args.wire.now c.prepare.new.wire c.args.disk.now c.prepare.new.disk) c.in-Ok.reply _ c.in-Ok.ensures.reply is told (search (rules, done))

pub returns-in-Ok-clause-plain : goal.returns-in-Ok-clause-plain
returns-in-Ok-clause-plain g c = λ is done.
    let told : c.in-Ok.reply.status ≡ Done = elim c.deliver.ensures.status [ inl e ↦ sym e ∙ done | inr e ↦ absurd (cc (e, done)) ] in
    Says-job _ _ c.args.words.now (around g.W.Wire g.D.Disk c.args.wire.now c.prepare.new.wire c.args.disk.now c.prepare.new.disk) c.in-Ok.reply _ c.in-Ok.ensures.reply is told (search (rules, done))

pub returns-in-Ok-clause-replay : goal.returns-in-Ok-clause-replay
returns-in-Ok-clause-replay g c = λ is done.
    let told : c.in-Ok.reply.status ≡ Done = elim c.deliver.ensures.status [ inl e ↦ sym e ∙ done | inr e ↦ absurd (cc (e, done)) ] in
    Says-job _ _ c.args.words.now (around g.W.Wire g.D.Disk c.args.wire.now c.prepare.new.wire c.args.disk.now c.prepare.new.disk) c.in-Ok.reply _ c.in-Ok.ensures.reply is told (search (rules, done))

pub returns-in-Ok-clause-complete : goal.returns-in-Ok-clause-complete
returns-in-Ok-clause-complete g c = Says-complete _ c.args.words.now (around g.W.Wire g.D.Disk c.args.wire.now c.prepare.new.wire c.args.disk.now
    c.prepare.new.disk) c.in-Ok.reply _ c.in-Ok.ensures.reply c.deliver.ensures.status

pub returns-in-Ok-clause-acyclic : goal.returns-in-Ok-clause-acyclic
returns-in-Ok-clause-acyclic g c = λ is done.
    let said = done-said c.in-Ok.reply.status c.deliver.result c.deliver.ensures.status done in
    Says-replayed StaysAcyclic (λ t w h loads es p. p.acyclic) (g.S.Source.left c.args.src.now) c.in-Ok.reply _ (c.in-Ok.ensures.promises (Tells Replayed) (asks-replay c.args.words.now is)) said (search (rules, done))

pub returns-in-Ok-clause-enabled : goal.returns-in-Ok-clause-enabled
returns-in-Ok-clause-enabled g c = λ is done.
    let said = done-said c.in-Ok.reply.status c.deliver.result c.deliver.ensures.status done in
    Says-replayed RulesStayEnabled (λ t w h loads es p. p.enabled) (g.S.Source.left c.args.src.now) c.in-Ok.reply _ (c.in-Ok.ensures.promises (Tells Replayed) (asks-replay c.args.words.now is)) said (search (rules, done))

pub returns-in-Ok-clause-started : goal.returns-in-Ok-clause-started
returns-in-Ok-clause-started g c = λ is done.
    let said = done-said c.in-Ok.reply.status c.deliver.result c.deliver.ensures.status done in
    Says-replayed StartsStayEnabled (λ t w h loads es p. p.started) (g.S.Source.left c.args.src.now) c.in-Ok.reply _ (c.in-Ok.ensures.promises (Tells Replayed) (asks-replay c.args.words.now is)) said (search (rules, done))

pub returns-in-Ok-clause-any_order : goal.returns-in-Ok-clause-any_order
returns-in-Ok-clause-any_order g c = λ is done.
    let said = done-said c.in-Ok.reply.status c.deliver.result c.deliver.ensures.status done in
    Says-replayed WritesAnyOrder (λ t w h loads es p. p.any_order) (g.S.Source.left c.args.src.now) c.in-Ok.reply _ (c.in-Ok.ensures.promises (Tells Replayed) (asks-replay c.args.words.now is)) said (search (rules, done))

pub returns-in-Ok-clause-merged : goal.returns-in-Ok-clause-merged
returns-in-Ok-clause-merged g c = λ is done.
    let said = done-said c.in-Ok.reply.status c.deliver.result c.deliver.ensures.status done in
    Says-replayed SitesMerge (λ t w h loads es p. p.merged) (g.S.Source.left c.args.src.now) c.in-Ok.reply _ (c.in-Ok.ensures.promises (Tells Replayed) (asks-replay c.args.words.now is)) said (search (rules, done))

pub returns-in-Ok-clause-answers : goal.returns-in-Ok-clause-answers
returns-in-Ok-clause-answers g c = λ is done.
    let said = done-said c.in-Ok.reply.status c.deliver.result c.deliver.ensures.status done in
    Says-replayed SitesAnswerAsOne (λ t w h loads es p. p.answers) (g.S.Source.left c.args.src.now) c.in-Ok.reply _ (c.in-Ok.ensures.promises (Tells Replayed) (asks-replay c.args.words.now is)) said (search (rules, done))

pub returns-in-Ok-clause-arrived : goal.returns-in-Ok-clause-arrived
returns-in-Ok-clause-arrived g c = λ is done.
    let said = done-said c.in-Ok.reply.status c.deliver.result c.deliver.ensures.status done in
    Says-replayed ArrivalsAnswer (λ t w h loads es p. p.arrived) (g.S.Source.left c.args.src.now) c.in-Ok.reply _ (c.in-Ok.ensures.promises (Tells Replayed) (asks-replay c.args.words.now is)) said (search (rules, done))

pub returns-in-Ok-clause-stays : goal.returns-in-Ok-clause-stays
returns-in-Ok-clause-stays g c = λ is done.
    let said = done-said c.in-Ok.reply.status c.deliver.result c.deliver.ensures.status done in
    Says-replayed KnowledgeStays (λ t w h loads es p. p.stays) (g.S.Source.left c.args.src.now) c.in-Ok.reply _ (c.in-Ok.ensures.promises (Tells Replayed) (asks-replay c.args.words.now is)) said (search (rules, done))

pub returns-in-Ok-clause-no_circle : goal.returns-in-Ok-clause-no_circle
returns-in-Ok-clause-no_circle g c = λ is done.
    let said = done-said c.in-Ok.reply.status c.deliver.result c.deliver.ensures.status done in
    Says-replayed NothingCircles (λ t w h loads es p. p.no_circle) (g.S.Source.left c.args.src.now) c.in-Ok.reply _ (c.in-Ok.ensures.promises (Tells Replayed) (asks-replay c.args.words.now is)) said (search (rules, done))

pub returns-in-Ok-clause-bounded : goal.returns-in-Ok-clause-bounded
returns-in-Ok-clause-bounded g c = λ is done.
    let said = done-said c.in-Ok.reply.status c.deliver.result c.deliver.ensures.status done in
    Says-replayed MessagesStayFew (λ t w h loads es p. p.bounded) (g.S.Source.left c.args.src.now) c.in-Ok.reply _ (c.in-Ok.ensures.promises (Tells Replayed) (asks-replay c.args.words.now is)) said (search (rules, done))

pub returns-in-Ok-clause-settles : goal.returns-in-Ok-clause-settles
returns-in-Ok-clause-settles g c = λ is done.
    let said = done-said c.in-Ok.reply.status c.deliver.result c.deliver.ensures.status done in
    Says-replayed Settled (λ t w h loads es p. p.settles) (g.S.Source.left c.args.src.now) c.in-Ok.reply _ (c.in-Ok.ensures.promises (Tells Replayed) (asks-replay c.args.words.now is)) said (search (rules, done))

pub returns-in-Ok-clause-typed_plain : goal.returns-in-Ok-clause-typed_plain
returns-in-Ok-clause-typed_plain g c = λ is done.
    let said = done-said c.in-Ok.reply.status c.deliver.result c.deliver.ensures.status done in
    Says-kept PlainIsTyped (λ t w h loads es p. p.typed_plain) (g.S.Source.left c.args.src.now) Undivided c.in-Ok.reply _ (c.in-Ok.ensures.promises (Tells Undivided) is) said (search (rules, done))

pub returns-in-Ok-clause-typed_replay : goal.returns-in-Ok-clause-typed_replay
returns-in-Ok-clause-typed_replay g c = λ is done.
    let said = done-said c.in-Ok.reply.status c.deliver.result c.deliver.ensures.status done in
    Says-replayed ReplayIsTyped (λ t w h loads es p. p.typed_replay) (g.S.Source.left c.args.src.now) c.in-Ok.reply _ (c.in-Ok.ensures.promises (Tells Replayed) (asks-replay c.args.words.now is)) said (search (rules, done))

pub returns-in-Ok-clause-trial : goal.returns-in-Ok-clause-trial
returns-in-Ok-clause-trial g c = λ n is done.
    let told : c.in-Ok.reply.status ≡ Done = elim c.deliver.ensures.status [ inl e ↦ sym e ∙ done | inr e ↦ absurd (cc (e, done)) ] in
    Says-trial _ n c.args.words.now (around g.W.Wire g.D.Disk c.args.wire.now c.prepare.new.wire c.args.disk.now c.prepare.new.disk) c.in-Ok.reply
    (λ text. Gets (g.K.Sink.written c.args.out.now) (g.K.Sink.written c.deliver.new.out) text) c.in-Ok.ensures.reply is told (c.deliver.ensures.whole (rw done tt))

pub returns-in-Ok-clause-node : goal.returns-in-Ok-clause-node
returns-in-Ok-clause-node g c = λ n is done.
    let told : c.in-Ok.reply.status ≡ Done = elim c.deliver.ensures.status [ inl e ↦ sym e ∙ done | inr e ↦ absurd (cc (e, done)) ] in
    Says-node _ n c.args.words.now (around g.W.Wire g.D.Disk c.args.wire.now c.prepare.new.wire c.args.disk.now c.prepare.new.disk) c.in-Ok.reply _ c.in-Ok.ensures.reply is told (search (rules, done))

pub returns-in-Ok-clause-kept : goal.returns-in-Ok-clause-kept
returns-in-Ok-clause-kept g c = λ n is done.
    let told : c.in-Ok.reply.status ≡ Done = elim c.deliver.ensures.status [ inl e ↦ sym e ∙ done | inr e ↦ absurd (cc (e, done)) ] in
    Says-kept-node _ n c.args.words.now (around g.W.Wire g.D.Disk c.args.wire.now c.prepare.new.wire c.args.disk.now c.prepare.new.disk) c.in-Ok.reply
    _ c.in-Ok.ensures.reply is told (search (rules, done))

pub returns-in-Ok-clause-unserved : goal.returns-in-Ok-clause-unserved
returns-in-Ok-clause-unserved g c = λ n is stop. never-stops c.in-Ok.reply.status c.deliver.result c.in-Ok.ensures.is_reply c.deliver.ensures.status stop

pub returns-in-Ok-clause-stopped : goal.returns-in-Ok-clause-stopped
returns-in-Ok-clause-stopped g c = λ n is stop. never-stops c.in-Ok.reply.status c.deliver.result c.in-Ok.ensures.is_reply c.deliver.ensures.status stop

pub returns-in-Ok-clause-disk_command : goal.returns-in-Ok-clause-disk_command
returns-in-Ok-clause-disk_command g c = λ stop. never-stops c.in-Ok.reply.status c.deliver.result c.in-Ok.ensures.is_reply c.deliver.ensures.status (journal-stops c.deliver.result stop)

pub returns-in-Ok-clause-refused : goal.returns-in-Ok-clause-refused
returns-in-Ok-clause-refused g c = refused-told c.in-Ok.reply.status c.deliver.result c.deliver.ensures.status c.in-Ok.ensures.refused

pub returns-in-Err-clause-complete : goal.returns-in-Err-clause-complete
returns-in-Err-clause-complete g c =
    stop-complete _ c.args.words.now (around g.W.Wire g.D.Disk c.args.wire.now c.prepare.new.wire c.args.disk.now c.prepare.new.disk) c.in-Err.stop _
    c.status.ensures (λ e. c.in-Err.ensures.net_command (ap Err e)) c.in-Err.ensures.disk_command

pub returns-in-Err-clause-unserved : goal.returns-in-Err-clause-unserved
returns-in-Err-clause-unserved g c = λ n is stops.
    subst (λ st. ForInput (g.S.Source.left c.args.src.now) (λ input. StopsServing (role_word c.args.words.now) n (wired g.W.Wire c.args.wire.now c.prepare.new.wire) input st))
    (sym c.status.ensures) (c.in-Err.ensures.unserved n is)

pub returns-in-Err-clause-stopped : goal.returns-in-Err-clause-stopped
returns-in-Err-clause-stopped g c = λ n is stops.
    subst (λ st. ForInput (g.S.Source.left c.args.src.now) (λ input. StopsKeeping (role_word c.args.words.now) n
    (around g.W.Wire g.D.Disk c.args.wire.now c.prepare.new.wire c.args.disk.now c.prepare.new.disk) input st))
    (sym c.status.ensures) (c.in-Err.ensures.stopped n is)

pub returns-in-Ok-clause-courier : goal.returns-in-Ok-clause-courier
returns-in-Ok-clause-courier g c = λ n is done.
    let told : c.in-Ok.reply.status ≡ Done = elim c.deliver.ensures.status [ inl e ↦ sym e ∙ done | inr e ↦ absurd (cc (e, done)) ] in
    Says-carried _ n c.args.words.now (around g.W.Wire g.D.Disk c.args.wire.now c.prepare.new.wire c.args.disk.now c.prepare.new.disk) c.in-Ok.reply _
    c.in-Ok.ensures.reply is told (search (rules, done))

pub returns-in-Ok-clause-broken : goal.returns-in-Ok-clause-broken
returns-in-Ok-clause-broken g c = λ n is stop. never-stops c.in-Ok.reply.status c.deliver.result c.in-Ok.ensures.is_reply c.deliver.ensures.status stop

pub returns-in-Err-clause-broken : goal.returns-in-Err-clause-broken
returns-in-Err-clause-broken g c = λ n is stops.
    subst (λ st. ForInput (g.S.Source.left c.args.src.now) (λ input. StopsCarrying n (wired g.W.Wire c.args.wire.now c.prepare.new.wire) input st))
    (sym c.status.ensures) (c.in-Err.ensures.broken n is)
