use Rattle.std.proofs.Common.{◌∙◌, ◌++◌, sym, ap, map, subst}
use Rattle.std.proofs.lemmas.List.{append-nil}
use Rattle.aw_grammar.specs.GrammarOf.{grammar_of}
use Rattle.aw_apply.specs.Messages.{Received}
use Rattle.aw_msg.specs.MessageView.{message_of}
use Rattle.aw_law_sites.specs.SiteEvents.{after_message}
use Rattle.aw_law_sites.specs.Sites.{Site, Reaction}
use Rattle.aw_site.specs.Answers.{IsReceived, sent_for}
use Rattle.aw_site.specs.Judged.{Sees, Carries}
use Rattle.aw_site.specs.Shown.{Shows}
use Rattle.aw_site.proofs.Receptions.{new_here}
use Rattle.aw_site.specs.declared.received.Received.TheVariants as answer
use Rattle.aw_site.proofs.receiving.receive.Goals as goal

pub returns-in-Answered-clause-answer : goal.returns-in-Answered-clause-answer
returns-in-Answered-clause-answer g c = λ s shows.
    let gr = grammar_of c.args.g.now.grammar in
    (subst (Sees gr s (message_of gr c.args.m.now)) c.in-Answered.is (c.in_ok-answer.ensures.sees c.args.loads s shows.holds)).0

pub returns-in-Answered-clause-site : goal.returns-in-Answered-clause-site
returns-in-Answered-clause-site g c = λ s shows.
    let gr = grammar_of c.args.g.now.grammar in
    let same = (subst (Sees gr s (message_of gr c.args.m.now)) c.in-Answered.is (c.in_ok-answer.ensures.sees c.args.loads s shows.holds)).1 in
    subst (λ (x : Site). Shows g.F.Facts c.args.space.now c.args.subs.now c.args.outbox.now.items c.args.loads x) (sym same) shows

pub returns-in-Answered-clause-copy : goal.returns-in-Answered-clause-copy
returns-in-Answered-clause-copy g c = λ s shows.
    let gr = grammar_of c.args.g.now.grammar in
    let none = (subst (Sees gr s (message_of gr c.args.m.now)) c.in-Answered.is (c.in_ok-answer.ensures.sees c.args.loads s shows.holds)).2 in
    sym (append-nil (map (message_of gr) c.args.copy.now.items)) ∙ ap (λ ms. map (message_of gr) c.args.copy.now.items ++ ms) (sym none)

pub react-requires-clause-carried : goal.react-requires-clause-carried
react-requires-clause-carried g c = λ gr. subst (Carries gr c.args.m.now.kind) c.in-Fresh.is (c.in_ok-answer.ensures.carried gr)

pub react-requires-clause-fresh : goal.react-requires-clause-fresh
react-requires-clause-fresh g c = λ s h.
    let gr = grammar_of c.args.g.now.grammar in
    subst (Sees gr s (message_of gr c.args.m.now)) c.in-Fresh.is (c.in_ok-answer.ensures.sees c.args.loads s h)

pub returns-in_ok-count-in-Fresh-clause-answer : goal.returns-in_ok-count-in-Fresh-clause-answer
returns-in_ok-count-in-Fresh-clause-answer g c = λ s shows.
    let gr = grammar_of c.args.g.now.grammar in
    let m = message_of gr c.args.m.now in
    let new = new_here gr s m (subst (Sees gr s m) c.in-Fresh.is (c.in_ok-answer.ensures.sees c.args.loads s shows.holds)) in
    subst (IsReceived (answer.New c.in_ok-count-in-Fresh.count)) (sym new) (c.in_ok-count-in-Fresh.ensures.count s shows)

pub returns-in_ok-count-in-Fresh-clause-site : goal.returns-in_ok-count-in-Fresh-clause-site
returns-in_ok-count-in-Fresh-clause-site g c = λ s shows.
    let gr = grammar_of c.args.g.now.grammar in
    let m = message_of gr c.args.m.now in
    let new = new_here gr s m (subst (Sees gr s m) c.in-Fresh.is (c.in_ok-answer.ensures.sees c.args.loads s shows.holds)) in
    subst (λ (x : Received Reaction). Shows g.F.Facts c.react.new.space c.react.new.subs c.react.new.outbox.items c.args.loads (after_message s x))
    (sym new) (c.in_ok-count-in-Fresh.ensures.site s shows)

pub returns-in_ok-count-in-Fresh-clause-copy : goal.returns-in_ok-count-in-Fresh-clause-copy
returns-in_ok-count-in-Fresh-clause-copy g c = λ s shows.
    let gr = grammar_of c.args.g.now.grammar in
    let m = message_of gr c.args.m.now in
    let new = new_here gr s m (subst (Sees gr s m) c.in-Fresh.is (c.in_ok-answer.ensures.sees c.args.loads s shows.holds)) in
    c.in_ok-count-in-Fresh.ensures.copy s shows ∙ ap (λ (x : Received Reaction). map (message_of gr) c.args.copy.now.items ++ sent_for x) (sym new)
