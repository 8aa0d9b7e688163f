use Rattle.std.proofs.Common.{◌≡◌, ◌∙◌, ◌++◌, ap, map}
use Rattle.aw_grammar.specs.GrammarOf.{grammar_of}
use Rattle.aw_msg.specs.MessageView.{message_of}
use Rattle.aw_law_sites.specs.Reacting.{receive}
use Rattle.aw_law_sites.specs.SiteEvents.{after_message}
use Rattle.aw_site.specs.Answers.{sent_for, IsReceived}
use Rattle.aw_site.specs.Seen.{message_at, site_seen}
use Rattle.aw_site.proofs.Coming.{on_ok}
use Rattle.aw_site.proofs.NotedValid.{asked_on, watched_on, message_notes}
use Rattle.aw_site.proofs.Outboxes.{sendable_on, message_sends}
use Rattle.aw_site.proofs.SeenParts.{shows_seen, if_seen, on_seen, done_seen, kept_seen}
use Rattle.aw_site.proofs.site.Site.receive_into.Goals as goal

pub returns-clause-answer : goal.returns-clause-answer
returns-clause-answer g c =
    let old = c.args.self.now in
    let gr = grammar_of c.args.g.now.grammar in
    if_seen g.F.Facts old.space c.receive-received.new.space old.subs c.receive-received.new.subs old.outbox.items c.receive-received.new.outbox.items old.loads
    c.receive-received.result (λ s r. IsReceived r (receive gr s (message_of gr c.args.m.now))) c.receive-received.ensures.answer

pub returns-clause-site : goal.returns-clause-site
returns-clause-site g c =
    let old = c.args.self.now in
    let gr = grammar_of c.args.g.now.grammar in
    done_seen g.F.Facts old.space c.receive-received.new.space old.subs c.receive-received.new.subs old.outbox.items c.receive-received.new.outbox.items old.loads
    c.receive-received.result (λ s. after_message s (receive gr s (message_of gr c.args.m.now))) c.receive-received.ensures.site

pub returns-clause-err : goal.returns-clause-err
returns-clause-err g c =
    let old = c.args.self.now in
    kept_seen g.F.Facts old.space c.receive-received.new.space old.subs c.receive-received.new.subs old.outbox.items c.receive-received.new.outbox.items old.loads
    c.receive-received.result c.receive-received.ensures.err

pub returns-clause-copy : goal.returns-clause-copy
returns-clause-copy g c =
    let old = c.args.self.now in
    let gr = grammar_of c.args.g.now.grammar in
    on_ok c.receive-received.result
    (map (message_of gr) c.receive-received.new.copy.items ≡ map (message_of gr) c.into_vec-messages.result.items ++ sent_for (message_at g.F.Facts c.args.g.now.grammar old c.args.m.now)) _
    (λ h. ap (map (message_of gr)) c.from_vec.ensures ∙ h
    ∙ ap (λ ms. map (message_of gr) ms ++ sent_for (message_at g.F.Facts c.args.g.now.grammar old c.args.m.now)) (c.into_vec-messages.ensures ∙ c.replace.ensures.value))
    (on_seen g.F.Facts old.space c.receive-received.new.space old.subs c.receive-received.new.subs old.outbox.items c.receive-received.new.outbox.items old.loads
    c.receive-received.result
    (λ s. map (message_of gr) c.receive-received.new.copy.items ≡ map (message_of gr) c.into_vec-messages.result.items ++ sent_for (receive gr s (message_of gr c.args.m.now)))
    c.receive-received.ensures.copy)

pub invariant_of-self : goal.invariant_of-self
invariant_of-self g c =
    let old = c.args.self.now in
    let gr = grammar_of c.args.g.now.grammar in
    let x = message_at g.F.Facts c.args.g.now.grammar old c.args.m.now in
    record {
      sendable = sendable_on g.F.Facts old.space c.receive-received.new.space old.subs c.receive-received.new.subs old.outbox.items c.receive-received.new.outbox.items old.loads
          c.receive-received.result (after_message (site_seen g.F.Facts old) x) (sent_for x) (ap grammar_of c.receive-received.ensures.grammar)
          (message_sends g.F.Facts old.space old.subs old.outbox.items old.loads (site_seen g.F.Facts old) (shows_seen g.F.Facts old.space old.subs old.outbox.items old.loads) c.args.g.now.grammar
          c.args.m.now c.requires)
          (done_seen g.F.Facts old.space c.receive-received.new.space old.subs c.receive-received.new.subs old.outbox.items c.receive-received.new.outbox.items old.loads
          c.receive-received.result (λ s. after_message s (receive gr s (message_of gr c.args.m.now))) c.receive-received.ensures.site)
          (kept_seen g.F.Facts old.space c.receive-received.new.space old.subs c.receive-received.new.subs old.outbox.items c.receive-received.new.outbox.items old.loads
          c.receive-received.result c.receive-received.ensures.err)
          old.sendable;
      short = c.receive-received.ensures.short old.short;
      asked = asked_on g.F.Facts old.space c.receive-received.new.space old.subs c.receive-received.new.subs old.outbox.items c.receive-received.new.outbox.items old.loads
          (λ s. after_message s (receive gr s (message_of gr c.args.m.now))) (ap grammar_of c.receive-received.ensures.grammar) (site_seen g.F.Facts old)
          (shows_seen g.F.Facts old.space old.subs old.outbox.items old.loads)
          (message_notes (grammar_of old.space.accepted.now.grammar) gr (site_seen g.F.Facts old) (message_of gr c.args.m.now) (ap grammar_of c.requires))
          c.receive-received.result c.receive-received.ensures.site c.receive-received.ensures.err old.asked;
      watched = watched_on g.F.Facts old.space c.receive-received.new.space old.subs c.receive-received.new.subs old.outbox.items c.receive-received.new.outbox.items old.loads
          (λ s. after_message s (receive gr s (message_of gr c.args.m.now))) (ap grammar_of c.receive-received.ensures.grammar) (site_seen g.F.Facts old)
          (shows_seen g.F.Facts old.space old.subs old.outbox.items old.loads)
          (message_notes (grammar_of old.space.accepted.now.grammar) gr (site_seen g.F.Facts old) (message_of gr c.args.m.now) (ap grammar_of c.requires))
          c.receive-received.result c.receive-received.ensures.site c.receive-received.ensures.err old.watched;
    }
