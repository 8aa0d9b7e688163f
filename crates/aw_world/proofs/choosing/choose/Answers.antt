use Rattle.std.proofs.Common.{◌≡◌, ◌<◌, [], ◌∷◌, ◌++◌, ap, ◌∙◌, arith, subst}
use Rattle.std.specs.Prelude.{if◌then◌else◌}
use Rattle.std.proofs.Math.Logic.{∥∥₁_elim}
use Rattle.std.specs.Coded.{le_prop}
use Rattle.aw_grammar.specs.GrammarOf.{grammar_of, words_of}
use Rattle.aw_choice.specs.ChoiceView.{choice_of, answer_of}
use Rattle.aw_law_sites.specs.Homes.{home}
use Rattle.aw_law_sites.specs.Worlds as V
use Rattle.aw_law_sites.specs.Choosing as D
use Rattle.aw_law_worlds.proofs.Sorts.{home_within, choice_node}
use Rattle.aw_world.specs.declared.moves.Reply.TheVariants as replies
use Rattle.aw_term.specs.Choices.{is_taken}
use Rattle.aw_world.specs.Seen.{AnswersAt, Steps, world_of}
use Rattle.aw_world.proofs.Stepping.{chose, honest}
use Rattle.aw_world.proofs.choosing.choose.Goals as goal

pub choose_at-requires-clause-at : goal.choose_at-requires-clause-at
choose_at-requires-clause-at g c =
    let d = c.args.accepted.now.grammar in
    let x = choice_of c.args.choice in
    let e : c.from.result ≡ home (grammar_of d) (V.node_of x) = c.from.ensures ∙ c.role_of-at.ensures
    ∙ ap (λ z. home (grammar_of z) (V.node_of (choice_of c.get-made.result.now))) c.grammar.ensures.value
    ∙ ap (λ y. home (grammar_of d) (V.node_of (choice_of y))) c.get-made.ensures in
    let h : home (grammar_of d) (V.node_of x) < (grammar_of d).roles = ∥∥₁_elim d.well_formed le_prop (λ w. home_within (words_of d) (grammar_of d) w
    (V.node_of x) (choice_node (grammar_of d) x c.requires.ok)) in
    omega (arith, e, h, c.requires.placed.count)

pub returns-clause-steps : goal.returns-clause-steps
returns-clause-steps g c = λ flags l.
    let d = c.args.accepted.now.grammar in
    let p = grammar_of d in
    let x = choice_of c.args.choice in
    let v = world_of g.W.Workspace d c.args.sites.now.items c.args.messages.now flags c.args.taken.now.items in
    let at = c.from.result in
    let e : at ≡ home p (V.node_of x) = c.from.ensures ∙ c.role_of-at.ensures ∙ ap (λ z. home (grammar_of z) (V.node_of (choice_of c.get-made.result.now))) c.grammar.ensures.value
    ∙ ap (λ y. home p (V.node_of (choice_of y))) c.get-made.ensures in
    let ch = c.args.choice in
    let noted = c.note.ensures ∙ ap (λ b. if b then c.reserve.new.self.items ++ ch ∷ [] else c.reserve.new.self.items) c.is_taken-is_taken.ensures
    ∙ ap (λ z. if is_taken (answer_of c.in_ok-answer.answer) then z ++ ch ∷ [] else z) c.in_ok-reserve.ensures.items in
    let answers = subst (λ y. AnswersAt g.W.Workspace d c.args.sites.now.items c.choose_at.new.sites.items at c.args.messages.now
    c.choose_at.new.messages y c.in_ok-answer.answer) c.get-made.ensures c.in_ok-answer.ensures.chose in
    subst (λ k. Steps g.W.Workspace d c.choose_at.new.sites.items c.choose_at.new.messages flags c.note.new.taken.items
    (V.chosen_at v k x (D.choose p (V.site_at v k) x)) (replies.Choice c.in_ok-answer.answer)) e
    (chose g.W.Workspace d c.args.sites.now.items c.choose_at.new.sites.items c.args.messages.now c.choose_at.new.messages flags
    c.args.taken.now.items c.note.new.taken.items c.args.choice c.in_ok-answer.answer at _
    (honest p (V.site_at v at) x) answers noted l)
