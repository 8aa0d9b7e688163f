use Rattle.std.proofs.Common.{◌≡◌, ◌∙◌, get_or, ap}
use Rattle.std.proofs.lemmas.Option.{slice_get-get_or}
use Rattle.std.proofs.lemmas.Result.{IfOk-weaker}
use Rattle.aw_choice.specs.ChoiceView.{refusal_of}
use Rattle.aw_choice.specs.declared.choice.Standing.{Standing}
use Rattle.aw_standing.specs.declared.record.Mark.{Mark}
use Rattle.aw_standing.specs.Items.{said_refusal, SayOf}
use Rattle.aw_standing.proofs.Rising.{read_of_rule}
use Rattle.aw_standing.proofs.listing.standing_in.Goals as goal

pub standing-requires : goal.standing-requires
standing-requires g c =
    let d = c.index-marks-at.result in
    c.requires c.in-Some.at (get_or c.args.marks.now c.in-Some.at d) (slice_get-get_or c.args.marks.now c.in-Some.at d c.in-Some.ensures.within)

pub returns-in-Some : goal.returns-in-Some
returns-in-Some g c =
    let names = g.F.Facts.names c.args.facts.now in
    let ms = c.args.marks.now in
    let at = c.in-Some.at in
    let number = c.args.number in
    let d = c.index-marks-at.result in
    let (k, found, of_rule) = c.in-Some.ensures.found in
    IfOk-weaker c.standing.result (λ (s : Standing). refusal_of s ≡ said_refusal names (get_or ms at d).stands) (SayOf names ms number)
    (λ s e rising j m here same. e ∙ ap (λ (z : Mark). said_refusal names z.stands) (read_of_rule ms rising number at j d k m found of_rule here same)) c.standing.ensures
