use Rattle.std.proofs.Common.{◌<◌, length, Some, sym, ap, ◌∙◌, rules}
use Rattle.std.proofs.lemmas.Option.{same_Some, slice_get-get_or}
use Rattle.aw_book_drive.specs.declared.lanes.Lane.{Lane}
use Rattle.aw_book_drive.proofs.WhyNot.{tells-cause}
use Rattle.aw_book_drive.proofs.joining.Joined.cause.Goals as goal

pub returns-in_ok-cause_of-in-Some-clause-cause : goal.returns-in_ok-cause_of-in-Some-clause-cause
returns-in_ok-cause_of-in-Some-clause-cause g c = λ t d u v moves dr lane at none.
    let x = c.args.self.now.driver in
    let lanes = c.args.self.now.lanes.items in
    let l = c.index.result.now in
    let within : c.args.role < length lanes = search rules in
    let found = slice_get-get_or lanes c.args.role l within ∙ ap Some (sym c.index.ensures) in
    tells-cause g.W.Workspace x c.cause_of.new.driver t d u v moves x.world.messages c.args.role lane l c.in-Some.event c.in_ok-cause_of-in-Some.field-0 (same_Some _ _ (sym found ∙ at))
    c.in-Some.is none (c.in_ok-cause_of-in-Some.ensures.cause v moves dr)

pub returns-in-None-clause-cause : goal.returns-in-None-clause-cause
returns-in-None-clause-cause g c = λ t d u v moves dr lane at none.
    let lanes = c.args.self.now.lanes.items in
    let l = c.index.result.now in
    let within : c.args.role < length lanes = search rules in
    let found = slice_get-get_or lanes c.args.role l within ∙ ap Some (sym c.index.ensures) in
    (ap (λ (z : Lane). z.next) (sym (same_Some _ _ (sym found ∙ at))) ∙ c.in-None.is, dr)
