use Rattle.std.proofs.Common.{◌≡◌, true, false, refl, ◌∙◌}
use Rattle.aw_term.specs.Choices.{Choice}
use Rattle.aw_term.proofs.Eaches.{each_map}
use Rattle.aw_base.specs.ChoiceFits.{choice_ok}
use Rattle.aw_law_sites.specs.Laws.{IsAccepted}
use Rattle.aw_replay.specs.United.{united, united_words}
use Rattle.aw_replay.proofs.laws.undivided_laws.Goals as goal

pub returns : goal.returns
returns c w g accepted cs ok =
    let u = c.united_laws.ensures in
    let one : IsAccepted (united_words w) (united g) = (u.formed w g accepted.0, (u.circles g).1 accepted.1) in
    let here = each_map (λ (x : Choice). choice_ok g x ≡ true) (λ (x : Choice). choice_ok (united g) x ≡ true) cs (λ x h. u.choices g x ∙ h) ok in
    c.output_laws.ensures.plain (united_words w) (united g) one refl false cs here ∙ u.plain w g cs
