use Rattle.std.proofs.Common.{◌∙◌, ◌++◌, Some, None, ap, sym, map, length, subst}
use Rattle.std.proofs.lemmas.Result.{IfOk-weaker}
use Rattle.aw_grammar.specs.GrammarOf.{grammar_of}
use Rattle.aw_store.specs.EquationView.{equation_of}
use Rattle.aw_msg.specs.MessageView.{message_of, plain_kind}
use Rattle.aw_law_sites.specs.Sites.{Reaction}
use Rattle.aw_space.specs.Seen.{space_seen}
use Rattle.aw_space.specs.Spaces.{call_of}
use Rattle.aw_site_repeat.specs.Holders.{IsOfRole}
use Rattle.aw_site.specs.Shown.{HoldsAs, Shows}
use Rattle.aw_site.proofs.Coming.{call_fits, tell_fits, call_clashes, tell_clashes, fresh_ok, fresh_mine, fresh_free, reacts_to_call, reacts_to_tell, on_ok}
use Rattle.aw_site.proofs.Holding.{of_role}
use Rattle.aw_site.proofs.SeenParts.{held_seen}
use Rattle.aw_site.proofs.receiving.react.Goals as goal

pub take_in-count-requires-clause-call : goal.take_in-count-requires-clause-call
take_in-count-requires-clause-call g c =
    let gr = grammar_of c.args.g.now.grammar in
    let role = c.args.space.now.role in
    let m = message_of gr c.args.m.now in
    let holds = HoldsAs g.F.Facts c.args.space.now c.args.subs.now c.args.loads in
    let held = held_seen g.F.Facts c.args.space.now c.args.subs.now c.args.loads in
    (call_fits gr role c.args.m.now c.in-Call.node _ c.in-Call.inherited _ c.in-Call.load c.args.es (sym c.get.ensures ∙ c.in-Call.is)
    c.in-Ok.ensures.node c.in-Ok.ensures.inherited (c.requires.carried gr)
    (fresh_ok gr role holds m held (λ s h. h.role) c.requires.fresh) (fresh_mine gr role holds m held (λ s h. h.role) c.requires.fresh)).0

pub take_in-count-requires-clause-ok : goal.take_in-count-requires-clause-ok
take_in-count-requires-clause-ok g c =
    let gr = grammar_of c.args.g.now.grammar in
    let role = c.args.space.now.role in
    let m = message_of gr c.args.m.now in
    let holds = HoldsAs g.F.Facts c.args.space.now c.args.subs.now c.args.loads in
    let held = held_seen g.F.Facts c.args.space.now c.args.subs.now c.args.loads in
    (call_fits gr role c.args.m.now c.in-Call.node c.in-Ok.placing.node c.in-Call.inherited c.in-Ok.placing.inherited c.in-Call.load c.args.es
    (sym c.get.ensures ∙ c.in-Call.is) c.in-Ok.ensures.node c.in-Ok.ensures.inherited (c.requires.carried gr)
    (fresh_ok gr role holds m held (λ s h. h.role) c.requires.fresh) (fresh_mine gr role holds m held (λ s h. h.role) c.requires.fresh)).1

pub take_in-count-requires-clause-free : goal.take_in-count-requires-clause-free
take_in-count-requires-clause-free g c =
    let gr = grammar_of c.args.g.now.grammar in
    let role = c.args.space.now.role in
    let holds = HoldsAs g.F.Facts c.args.space.now c.args.subs.now c.args.loads in
    let held = held_seen g.F.Facts c.args.space.now c.args.subs.now c.args.loads in
    fresh_free gr role holds (message_of gr c.args.m.now) held (λ s h. h.role) c.requires.fresh (space_seen g.F.Facts c.args.space.now)
    (Some (call_of gr c.in-Ok.placing.node c.in-Ok.placing.inherited)) (map equation_of c.args.es)
    (λ s h. call_clashes gr s (space_seen g.F.Facts c.args.space.now) c.args.m.now.kind c.in-Call.node c.in-Ok.placing.node c.in-Call.inherited c.in-Ok.placing.inherited c.in-Call.load c.args.es
    (sym c.get.ensures ∙ c.in-Call.is) c.in-Ok.ensures.node c.in-Ok.ensures.inherited (c.requires.carried gr) h.holds)

pub answer_ask-requires-clause-role : goal.answer_ask-requires-clause-role
answer_ask-requires-clause-role g c =
    let gr = grammar_of c.args.g.now.grammar in
    let role = c.args.space.now.role in
    let holds = HoldsAs g.F.Facts c.args.space.now c.args.subs.now c.args.loads in
    let held = held_seen g.F.Facts c.args.space.now c.args.subs.now c.args.loads in
    subst (λ k. IsOfRole (plain_kind k)) (sym c.get.ensures ∙ c.in-Ask.is) (of_role c.args.g.now.grammar role c.args.m.now
    (fresh_ok gr role holds (message_of gr c.args.m.now) held (λ s h. h.role) c.requires.fresh))

pub take_in-requires-clause-ok : goal.take_in-requires-clause-ok
take_in-requires-clause-ok g c =
    let gr = grammar_of c.args.g.now.grammar in
    let role = c.args.space.now.role in
    let m = message_of gr c.args.m.now in
    let holds = HoldsAs g.F.Facts c.args.space.now c.args.subs.now c.args.loads in
    let held = held_seen g.F.Facts c.args.space.now c.args.subs.now c.args.loads in
    tell_fits gr role c.args.m.now c.in-Tell.equation c.in-Tell.load c.args.es (sym c.get.ensures ∙ c.in-Tell.is) (c.requires.carried gr)
    (fresh_ok gr role holds m held (λ s h. h.role) c.requires.fresh) (fresh_mine gr role holds m held (λ s h. h.role) c.requires.fresh)

pub take_in-requires-clause-free : goal.take_in-requires-clause-free
take_in-requires-clause-free g c =
    let gr = grammar_of c.args.g.now.grammar in
    let role = c.args.space.now.role in
    let holds = HoldsAs g.F.Facts c.args.space.now c.args.subs.now c.args.loads in
    let held = held_seen g.F.Facts c.args.space.now c.args.subs.now c.args.loads in
    fresh_free gr role holds (message_of gr c.args.m.now) held (λ s h. h.role) c.requires.fresh (space_seen g.F.Facts c.args.space.now) None (map equation_of c.args.es)
    (λ s h. tell_clashes gr s (space_seen g.F.Facts c.args.space.now) c.args.m.now.kind c.in-Tell.equation c.in-Tell.load c.args.es (sym c.get.ensures ∙ c.in-Tell.is) (c.requires.carried gr) h.holds)

pub returns-in-Ok-clause-count : goal.returns-in-Ok-clause-count
returns-in-Ok-clause-count g c =
    let gr = grammar_of c.args.g.now.grammar in
    IfOk-weaker c.take_in-count.result _ _
    (λ n h s shows. h s shows
    ∙ ap (λ (x : Reaction). length x.sent) (reacts_to_call gr s c.args.m.now.kind c.in-Call.node c.in-Ok.placing.node c.in-Call.inherited c.in-Ok.placing.inherited c.in-Call.load c.args.es
    (sym c.get.ensures ∙ c.in-Call.is) c.in-Ok.ensures.node c.in-Ok.ensures.inherited (c.requires.carried gr)))
    c.take_in-count.ensures.count

pub returns-in-Ok-clause-site : goal.returns-in-Ok-clause-site
returns-in-Ok-clause-site g c =
    let gr = grammar_of c.args.g.now.grammar in
    on_ok c.take_in-count.result _ _
    (λ h s shows.
    subst (λ (x : Reaction). Shows g.F.Facts c.take_in-count.new.space c.take_in-count.new.subs c.take_in-count.new.outbox.items c.args.loads x.site)
    (reacts_to_call gr s c.args.m.now.kind c.in-Call.node c.in-Ok.placing.node c.in-Call.inherited c.in-Ok.placing.inherited c.in-Call.load c.args.es
    (sym c.get.ensures ∙ c.in-Call.is) c.in-Ok.ensures.node c.in-Ok.ensures.inherited (c.requires.carried gr))
    (h s shows))
    c.take_in-count.ensures.site

pub returns-in-Ok-clause-copy : goal.returns-in-Ok-clause-copy
returns-in-Ok-clause-copy g c =
    let gr = grammar_of c.args.g.now.grammar in
    on_ok c.take_in-count.result _ _
    (λ h s shows. h s shows
    ∙ ap (λ (x : Reaction). map (message_of gr) c.args.copy.now.items ++ x.sent) (reacts_to_call gr s c.args.m.now.kind c.in-Call.node
    c.in-Ok.placing.node c.in-Call.inherited c.in-Ok.placing.inherited c.in-Call.load c.args.es
    (sym c.get.ensures ∙ c.in-Call.is) c.in-Ok.ensures.node c.in-Ok.ensures.inherited (c.requires.carried gr)))
    c.take_in-count.ensures.copy

pub returns-in-Tell-clause-count : goal.returns-in-Tell-clause-count
returns-in-Tell-clause-count g c =
    let gr = grammar_of c.args.g.now.grammar in
    IfOk-weaker c.take_in.result _ _
    (λ n h s shows. h s shows ∙ ap (λ (x : Reaction). length x.sent) (reacts_to_tell gr s c.args.m.now.kind c.in-Tell.equation c.in-Tell.load
    c.args.es (sym c.get.ensures ∙ c.in-Tell.is) (c.requires.carried gr)))
    c.take_in.ensures.count

pub returns-in-Tell-clause-copy : goal.returns-in-Tell-clause-copy
returns-in-Tell-clause-copy g c =
    let gr = grammar_of c.args.g.now.grammar in
    on_ok c.take_in.result _ _
    (λ h s shows. h s shows ∙ ap (λ (x : Reaction). map (message_of gr) c.args.copy.now.items ++ x.sent)
    (reacts_to_tell gr s c.args.m.now.kind c.in-Tell.equation c.in-Tell.load c.args.es (sym c.get.ensures ∙ c.in-Tell.is) (c.requires.carried gr)))
    c.take_in.ensures.copy
