use Rattle.std.proofs.Common.{◌≡◌, ◌∙◌, sym, ap, add-one, option_map, Some, drop, suc}
use Rattle.std.proofs.lemmas.List.{drop-drop}
use Rattle.aw_spelling.proofs.Cuts.{round, cut_by_place}
use Rattle.aw_spelling.proofs.cut.cut_at.Goals as goal

pub returns-clause-value : goal.returns-clause-value
returns-clause-value c =
    let bs = c.args.bytes.now in
    let at = c.in_ok-at.at in
    let rest : drop 1 (drop at bs) ≡ drop (suc at) bs = drop-drop 1 at bs ∙ ap (λ n. drop n bs) (add-one at) in
    (λ i. Some (c.split_at.ensures.front i, (c.split_at-2.ensures.back ∙ ap (drop 1) c.split_at.ensures.back ∙ rest) i))
    ∙ ap (option_map (round bs)) (sym c.in_ok-at.was ∙ c.place_of.ensures.value) ∙ cut_by_place c.args.mark bs

pub returns-in_err-at-clause-value : goal.returns-in_err-at-clause-value
returns-in_err-at-clause-value c =
    ap (option_map (λ x. (x.0.now, x.1.now))) c.from_residual.ensures
    ∙ ap (option_map (round c.args.bytes.now)) (sym c.in_err-at.was ∙ c.place_of.ensures.value) ∙ cut_by_place c.args.mark c.args.bytes.now
