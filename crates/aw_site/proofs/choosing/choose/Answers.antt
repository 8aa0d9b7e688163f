use Rattle.std.proofs.Common.{◌∙◌, ◌++◌, sym, ap, map, length, subst}
use Rattle.std.proofs.lemmas.List.{append-nil}
use Rattle.aw_choice.specs.ChoiceView.{choice_of}
use Rattle.aw_grammar.specs.GrammarOf.{grammar_of}
use Rattle.aw_msg.specs.MessageView.{message_of}
use Rattle.aw_law_sites.specs.Choosing.{choose}
use Rattle.aw_law_sites.specs.Sites.{Site}
use Rattle.aw_space.specs.Seen.{space_seen}
use Rattle.aw_site.specs.Shown.{Shows}
use Rattle.aw_site.proofs.RefusedChoices.{answer_foreseen, none_sent, refused_there, site_stays}
use Rattle.aw_site.proofs.choosing.choose.Goals as goal

pub returns-then-not-is_taken-clause-answer : goal.returns-then-not-is_taken-clause-answer
returns-then-not-is_taken-clause-answer g c = λ s shows.
    answer_foreseen (grammar_of c.args.g.now.grammar) s (space_seen g.F.Facts c.args.space.now) (choice_of c.args.choice.now)
    c.in_ok-foreseen.foreseen.answer shows.holds.holds c.in_ok-foreseen.ensures.answer

pub returns-then-not-is_taken-clause-count : goal.returns-then-not-is_taken-clause-count
returns-then-not-is_taken-clause-count g c = λ s shows.
    let gr = grammar_of c.args.g.now.grammar in
    let ch = choice_of c.args.choice.now in
    let refused = refused_there gr s (space_seen g.F.Facts c.args.space.now) ch c.in_ok-foreseen.foreseen.answer c.is_taken.result shows.holds.holds
    c.in_ok-foreseen.ensures.answer c.is_taken.ensures c.if-not-is_taken.true in
    ap length (sym (none_sent (choose gr s ch) refused))

pub returns-then-not-is_taken-clause-site : goal.returns-then-not-is_taken-clause-site
returns-then-not-is_taken-clause-site g c = λ s shows.
    let gr = grammar_of c.args.g.now.grammar in
    let ch = choice_of c.args.choice.now in
    let refused = refused_there gr s (space_seen g.F.Facts c.args.space.now) ch c.in_ok-foreseen.foreseen.answer c.is_taken.result shows.holds.holds
    c.in_ok-foreseen.ensures.answer c.is_taken.ensures c.if-not-is_taken.true in
    subst (λ (p : Site). Shows g.F.Facts c.args.space.now c.args.subs.now c.args.outbox.now.items c.args.loads p) (sym (site_stays s (choose gr s ch) refused)) shows

pub returns-then-not-is_taken-clause-copy : goal.returns-then-not-is_taken-clause-copy
returns-then-not-is_taken-clause-copy g c = λ s shows.
    let gr = grammar_of c.args.g.now.grammar in
    let ch = choice_of c.args.choice.now in
    let refused = refused_there gr s (space_seen g.F.Facts c.args.space.now) ch c.in_ok-foreseen.foreseen.answer c.is_taken.result shows.holds.holds
    c.in_ok-foreseen.ensures.answer c.is_taken.ensures c.if-not-is_taken.true in
    sym (append-nil (map (message_of gr) c.args.copy.now.items)) ∙ ap (λ ms. map (message_of gr) c.args.copy.now.items ++ ms) (sym (none_sent (choose gr s ch) refused))
