use Rattle.std.proofs.Common.{◌≡◌, Some, false, sym, ap, ◌∙◌, rules, arith}
use Rattle.std.proofs.lemmas.Bool.{false≢true}
use Rattle.std.proofs.lemmas.Option.{slice_get-get_or}
use Rattle.aw_book_drive.proofs.WhyNot.{none-alike, none-alike-all}
use Rattle.aw_book_drive.proofs.causes.find_alike.Goals as goal

pub loop-number-preserved : goal.loop-number-preserved
loop-number-preserved c =
    let ms = c.args.messages.now in
    let item = c.index-messages-number.result in
    let miss : c.are_alike.result ≡ false = search rules in
    none-alike ms c.args.m.now item c.loop-number.number (slice_get-get_or ms c.loop-number.number item c.loop-number-test.true ∙ ap Some (sym c.index-messages-number.is))
    (λ alike. elim (false≢true (sym miss ∙ c.are_alike.ensures.1 alike)) [ ]) c.loop-number.invariant

pub returns-clause-none : goal.returns-clause-none
returns-clause-none c = λ e. none-alike-all c.args.messages.now c.args.m.now c.loop-number.number (omega (arith, c.loop-number-test.false)) c.loop-number.invariant
