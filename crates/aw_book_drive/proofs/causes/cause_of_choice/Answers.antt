use Rattle.std.proofs.Common.{◌≡◌, true, refl, sym, ◌∙◌, subst, rules}
use Rattle.aw_choice.specs.ChoiceView.{choice_of}
use Rattle.aw_choice.specs.declared.choice.Choice.{Choice}
use Rattle.aw_law_sites.specs.Worlds.{Chooses}
use Rattle.aw_world.specs.Shown.{ShowsMove}
use Rattle.aw_world.specs.declared.moves.Reply.{Reply}
use Rattle.aw_book_drive.specs.Driving.{types_in}
use Rattle.aw_book_drive.proofs.WhyNot.{refused-cause}
use Rattle.aw_book_drive.proofs.causes.cause_of_choice.Goals as goal

pub returns-in-Choice-clause-cause : goal.returns-in-Choice-clause-cause
returns-in-Choice-clause-cause g c = λ v moves d none.
    let f = g.W.Workspace in
    let x = c.args.driver.now in
    let y = record x { world = c.step.new.self } in
    let asked : c.may_be_asked.result ≡ true = search rules in
    let made = c.in_ok-asked.ensures ∙ c.in_ok-copy_choice.ensures in
    let shows = subst (λ (z : Choice). ShowsMove f x.world y.world (Chooses (choice_of z)) c.in_ok-answer.field-0) made c.in_ok-answer.ensures.steps in
    refused-cause f (types_in x) x y v moves c.args.role c.args.choice.now c.in-Choice.answer x.world.messages d none (sym c.may_be_asked.ensures ∙ asked)
    (subst (λ (r : Reply). ShowsMove f x.world y.world (Chooses (choice_of c.args.choice.now)) r) c.in-Choice.is shows) refl refl
