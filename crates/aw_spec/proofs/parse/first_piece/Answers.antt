use Rattle.std.proofs.Common.{◌≡◌, ◌∙◌, sym, ap, add-one, drop, suc, ◌∷◌}
use Rattle.std.proofs.lemmas.List.{drop-drop}
use Rattle.aw_term_reader.specs.Lexemes.{lexemes}
use Rattle.aw_spec.specs.ReadLine.{pieces}
use Rattle.aw_spec.proofs.PieceCuts.{cut_pieces, pieces_by_cut}
use Rattle.aw_spec.proofs.parse.first_piece.Goals as goal

pub returns-in-Some-clause-value : goal.returns-in-Some-clause-value
returns-in-Some-clause-value c =
    let line = c.args.line.now in
    let ts = c.args.tokens.now in
    let at = c.in-Some.at in
    let rest : drop 1 (drop at ts) ≡ drop (suc at) ts = drop-drop 1 at ts ∙ ap (λ n. drop n ts) (add-one at) in
    pieces_by_cut line ts ∙ ap (cut_pieces line ts) (sym c.in-Some.ensures.value)
    ∙ (λ i. lexemes line (sym c.split_at.ensures.front i) ∷ pieces (lexemes line (sym (c.split_at-in-Some.ensures.back ∙ ap (drop 1) c.split_at.ensures.back ∙ rest) i)))

pub returns-in-None-clause-value : goal.returns-in-None-clause-value
returns-in-None-clause-value c = pieces_by_cut c.args.line.now c.args.tokens.now ∙ ap (cut_pieces c.args.line.now c.args.tokens.now) (sym c.in-None.ensures.value)
