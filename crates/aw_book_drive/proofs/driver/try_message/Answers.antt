use Rattle.std.specs.Prelude.{IfSome}
use Rattle.std.proofs.Common.{◌≡◌, ℕ, Option, true, false, refl, sym, ap, ◌∙◌, subst, eq-eqb, rules}
use Rattle.aw_law_sites.specs.Worlds.{Delivers}
use Rattle.aw_world.specs.Shown.{ShowsMove}
use Rattle.aw_world.specs.declared.moves.Move.TheVariants.{Deliver}
use Rattle.aw_world.specs.declared.world.World.{World}
use Rattle.aw_book_drive.specs.Driving.{types_in}
use Rattle.aw_book_drive.specs.Indexes.{IsAt}
use Rattle.aw_book_drive.proofs.Tried.{not-sent, not-new, is-new}
use Rattle.aw_book_drive.proofs.driver.try_message.Goals as goal

pub returns-in_default-clause-tries : goal.returns-in_default-clause-tries
returns-in_default-clause-tries g c = λ v moves d.
    let x = c.args.driver.now in
    not-sent g.W.Workspace (types_in x) x v moves c.args.role d c.args.message.now (λ k at. elim (c.in_ok-number.ensures.none v moves d c.in_default.is k at) [ ])

pub returns-then-not-was_new-clause-tries : goal.returns-then-not-was_new-clause-tries
returns-then-not-was_new-clause-tries g c = λ v moves d.
    let x = c.args.driver.now in
    let y = record x { world = c.step.new.self } in
    let k = c.in-Some.number in
    let miss : c.was_new.result ≡ false = search rules in
    let at = subst (λ (o : Option ℕ). IfSome o (IsAt x.world.messages c.args.message.now)) c.in-Some.is c.in_ok-number.ensures.found in
    not-new g.W.Workspace (types_in x) x v moves c.args.role d y c.step.ensures.accepted c.args.message.now k c.in_ok-reply.reply at (sym c.was_new.ensures ∙ miss) c.in_ok-reply.ensures.steps refl refl

pub returns-clause-tries : goal.returns-clause-tries
returns-clause-tries g c = λ v moves d.
    let x = c.args.driver.now in
    let y = c.keep.new.driver in
    let m = record x { world = c.step.new.self } in
    let k = c.in-Some.number in
    let hit : c.was_new.result ≡ true = search rules in
    let here : c.args.message.now.to ≡ c.args.role = search rules in
    let at = subst (λ (o : Option ℕ). IfSome o (IsAt x.world.messages c.args.message.now)) c.in-Some.is c.in_ok-number.ensures.found in
    is-new g.W.Workspace (types_in x) x v moves c.args.role d y (ap (λ (w : World _ _). w.accepted.now) c.keep.ensures.world ∙ c.step.ensures.accepted) c.args.message.now k c.in_ok-reply.reply (Deliver k)
    (eq-eqb c.args.message.now.to c.args.role here) at (sym c.was_new.ensures ∙ hit)
    (subst (λ (w : World _ _). ShowsMove g.W.Workspace x.world w (Delivers k) c.in_ok-reply.reply) (sym c.keep.ensures.world) c.in_ok-reply.ensures.steps)
    m (sym c.keep.ensures.world) refl c.in_ok-keep.ensures.noted refl c.in_ok-keep.ensures.moves
