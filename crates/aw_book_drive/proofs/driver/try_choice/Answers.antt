use Rattle.std.proofs.Common.{◌≡◌, true, false, refl, sym, ap, ◌∙◌, subst, rules}
use Rattle.aw_choice.specs.ChoiceView.{choice_of}
use Rattle.aw_choice.specs.declared.choice.Choice.{Choice}
use Rattle.aw_law_sites.specs.Worlds.{Chooses}
use Rattle.aw_world.specs.Shown.{ShowsMove}
use Rattle.aw_world.specs.declared.moves.Move.TheVariants.{Choose}
use Rattle.aw_world.specs.declared.world.World.{World}
use Rattle.aw_book_drive.specs.Driving.{types_in}
use Rattle.aw_book_drive.proofs.Tried.{not-asked, not-taken, is-taken}
use Rattle.aw_book_drive.proofs.driver.try_choice.Goals as goal

pub returns-then-not-may_be_asked-clause-tries : goal.returns-then-not-may_be_asked-clause-tries
returns-then-not-may_be_asked-clause-tries g c = λ v moves d.
    let x = c.args.driver.now in
    let miss : c.may_be_asked.result ≡ false = search rules in
    not-asked g.W.Workspace (types_in x) x v moves c.args.role d (choice_of c.args.choice.now) (sym c.may_be_asked.ensures ∙ miss)

pub returns-then-not-was_taken-clause-tries : goal.returns-then-not-was_taken-clause-tries
returns-then-not-was_taken-clause-tries g c = λ v moves d.
    let x = c.args.driver.now in
    let y = record x { world = c.step.new.self } in
    let miss : c.was_taken.result ≡ false = search rules in
    let same = c.in_ok-clone.ensures.cases ∙ (c.in_ok-shared.ensures ∙ c.in_ok-copy_choice.ensures) in
    let shows = subst (λ (z : Choice). ShowsMove g.W.Workspace x.world c.step.new.self (Chooses (choice_of z)) c.in_ok-reply.reply) same c.in_ok-reply.ensures.steps in
    not-taken g.W.Workspace (types_in x) x v moves c.args.role d y c.step.ensures.accepted (choice_of c.args.choice.now) c.in_ok-reply.reply (sym c.was_taken.ensures ∙ miss) shows refl refl

pub returns-clause-tries : goal.returns-clause-tries
returns-clause-tries g c = λ v moves d.
    let x = c.args.driver.now in
    let y = c.keep.new.driver in
    let m = record x { world = c.step.new.self } in
    let hit : c.was_taken.result ≡ true = search rules in
    let asked : c.may_be_asked.result ≡ true = search rules in
    let made = c.in_ok-shared.ensures ∙ c.in_ok-copy_choice.ensures in
    let same = c.in_ok-clone.ensures.cases ∙ made in
    let shows = subst (λ (z : Choice). ShowsMove g.W.Workspace x.world c.step.new.self (Chooses (choice_of z)) c.in_ok-reply.reply) same c.in_ok-reply.ensures.steps in
    is-taken g.W.Workspace (types_in x) x v moves c.args.role d y (ap (λ (w : World _ _). w.accepted.now) c.keep.ensures.world ∙ c.step.ensures.accepted) (choice_of c.args.choice.now) c.in_ok-reply.reply
    (Choose c.in_ok-shared.shared) (sym c.may_be_asked.ensures ∙ asked) (sym c.was_taken.ensures ∙ hit)
    (subst (λ (w : World _ _). ShowsMove g.W.Workspace x.world w (Chooses (choice_of c.args.choice.now)) c.in_ok-reply.reply) (sym c.keep.ensures.world) shows)
    m (sym c.keep.ensures.world) refl c.in_ok-keep.ensures.noted (ap (λ (z : Choice). Chooses (choice_of z)) made) c.in_ok-keep.ensures.moves
