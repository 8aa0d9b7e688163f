use Rattle.std.proofs.Common.{◌≡◌, ◌∙◌, ◌++◌, ap, length, map}
use Rattle.aw_choice.specs.ChoiceView.{answer_of, choice_of}
use Rattle.aw_grammar.specs.GrammarOf.{grammar_of}
use Rattle.aw_msg.specs.MessageView.{message_of}
use Rattle.aw_law_sites.specs.Choosing.{answer_to, choose}
use Rattle.aw_law_sites.specs.SiteEvents.{after_choice}
use Rattle.aw_site.specs.Answers.{sent_by}
use Rattle.aw_site.specs.Seen.{choice_at, site_seen}
use Rattle.aw_site.proofs.Coming.{on_ok}
use Rattle.aw_site.proofs.NotedValid.{asked_on, watched_on, choice_notes}
use Rattle.aw_site.proofs.Outboxes.{sendable_on, choice_sends}
use Rattle.aw_site.proofs.SeenParts.{shows_seen, if_seen, on_seen, done_seen, kept_seen}
use Rattle.aw_site.proofs.site.Site.choose_into.Goals as goal

pub returns-clause-answer : goal.returns-clause-answer
returns-clause-answer g c =
    let old = c.args.self.now in
    let gr = grammar_of c.args.g.now.grammar in
    if_seen g.F.Facts old.space c.choose-answered.new.space old.subs c.choose-answered.new.subs old.outbox.items c.choose-answered.new.outbox.items old.loads
    c.choose-answered.result (λ s r. answer_of r.0 ≡ answer_to (choose gr s (choice_of c.args.choice.now))) c.choose-answered.ensures.answer

pub returns-clause-count : goal.returns-clause-count
returns-clause-count g c =
    let old = c.args.self.now in
    let gr = grammar_of c.args.g.now.grammar in
    if_seen g.F.Facts old.space c.choose-answered.new.space old.subs c.choose-answered.new.subs old.outbox.items c.choose-answered.new.outbox.items old.loads
    c.choose-answered.result (λ s r. r.1 ≡ length (sent_by (choose gr s (choice_of c.args.choice.now)))) c.choose-answered.ensures.count

pub returns-clause-site : goal.returns-clause-site
returns-clause-site g c =
    let old = c.args.self.now in
    let gr = grammar_of c.args.g.now.grammar in
    done_seen g.F.Facts old.space c.choose-answered.new.space old.subs c.choose-answered.new.subs old.outbox.items c.choose-answered.new.outbox.items old.loads
    c.choose-answered.result (λ s. after_choice s (choose gr s (choice_of c.args.choice.now))) c.choose-answered.ensures.site

pub returns-clause-err : goal.returns-clause-err
returns-clause-err g c =
    let old = c.args.self.now in
    kept_seen g.F.Facts old.space c.choose-answered.new.space old.subs c.choose-answered.new.subs old.outbox.items c.choose-answered.new.outbox.items old.loads
    c.choose-answered.result c.choose-answered.ensures.err

pub returns-clause-copy : goal.returns-clause-copy
returns-clause-copy g c =
    let old = c.args.self.now in
    let gr = grammar_of c.args.g.now.grammar in
    on_ok c.choose-answered.result
    (map (message_of gr) c.choose-answered.new.copy.items ≡ map (message_of gr) c.into_vec-messages.result.items ++ sent_by (choice_at g.F.Facts c.args.g.now.grammar old c.args.choice.now)) _
    (λ h. ap (map (message_of gr)) c.from_vec.ensures ∙ h
    ∙ ap (λ ms. map (message_of gr) ms ++ sent_by (choice_at g.F.Facts c.args.g.now.grammar old c.args.choice.now)) (c.into_vec-messages.ensures ∙ c.replace.ensures.value))
    (on_seen g.F.Facts old.space c.choose-answered.new.space old.subs c.choose-answered.new.subs old.outbox.items c.choose-answered.new.outbox.items old.loads
    c.choose-answered.result
    (λ s. map (message_of gr) c.choose-answered.new.copy.items ≡ map (message_of gr) c.into_vec-messages.result.items ++ sent_by (choose gr s (choice_of c.args.choice.now)))
    c.choose-answered.ensures.copy)

pub invariant_of-self : goal.invariant_of-self
invariant_of-self g c =
    let old = c.args.self.now in
    let gr = grammar_of c.args.g.now.grammar in
    let x = choice_at g.F.Facts c.args.g.now.grammar old c.args.choice.now in
    record {
      sendable = sendable_on g.F.Facts old.space c.choose-answered.new.space old.subs c.choose-answered.new.subs old.outbox.items c.choose-answered.new.outbox.items old.loads
          c.choose-answered.result (after_choice (site_seen g.F.Facts old) x) (sent_by x) (ap grammar_of c.choose-answered.ensures.grammar)
          (choice_sends g.F.Facts old.space old.subs old.outbox.items old.loads (site_seen g.F.Facts old) (shows_seen g.F.Facts old.space old.subs old.outbox.items old.loads) c.args.g.now.grammar
          (choice_of c.args.choice.now) c.requires.grammar c.requires.ok c.requires.here)
          (done_seen g.F.Facts old.space c.choose-answered.new.space old.subs c.choose-answered.new.subs old.outbox.items c.choose-answered.new.outbox.items old.loads
          c.choose-answered.result (λ s. after_choice s (choose gr s (choice_of c.args.choice.now))) c.choose-answered.ensures.site)
          (kept_seen g.F.Facts old.space c.choose-answered.new.space old.subs c.choose-answered.new.subs old.outbox.items c.choose-answered.new.outbox.items old.loads
          c.choose-answered.result c.choose-answered.ensures.err)
          old.sendable;
      short = c.choose-answered.ensures.short old.short;
      asked = asked_on g.F.Facts old.space c.choose-answered.new.space old.subs c.choose-answered.new.subs old.outbox.items c.choose-answered.new.outbox.items old.loads
          (λ s. after_choice s (choose gr s (choice_of c.args.choice.now))) (ap grammar_of c.choose-answered.ensures.grammar) (site_seen g.F.Facts old)
          (shows_seen g.F.Facts old.space old.subs old.outbox.items old.loads)
          (choice_notes g.F.Facts old.space old.subs old.outbox.items old.loads (site_seen g.F.Facts old) (shows_seen g.F.Facts old.space old.subs old.outbox.items old.loads)
          c.args.g.now.grammar (choice_of c.args.choice.now) c.requires.grammar c.requires.ok c.requires.here)
          c.choose-answered.result c.choose-answered.ensures.site c.choose-answered.ensures.err old.asked;
      watched = watched_on g.F.Facts old.space c.choose-answered.new.space old.subs c.choose-answered.new.subs old.outbox.items c.choose-answered.new.outbox.items old.loads
          (λ s. after_choice s (choose gr s (choice_of c.args.choice.now))) (ap grammar_of c.choose-answered.ensures.grammar) (site_seen g.F.Facts old)
          (shows_seen g.F.Facts old.space old.subs old.outbox.items old.loads)
          (choice_notes g.F.Facts old.space old.subs old.outbox.items old.loads (site_seen g.F.Facts old) (shows_seen g.F.Facts old.space old.subs old.outbox.items old.loads)
          c.args.g.now.grammar (choice_of c.args.choice.now) c.requires.grammar c.requires.ok c.requires.here)
          c.choose-answered.result c.choose-answered.ensures.site c.choose-answered.ensures.err old.watched;
    }
