use Rattle.std.proofs.Common.{ap, sym, ◌∙◌}
use Rattle.std.proofs.lemmas.Result.{IfOk-weaker}
use Rattle.aw_term.specs.Trees.{Made, Nil}
use Rattle.aw_term.specs.Trees as P
use Rattle.aw_term.specs.Matching.{match}
use Rattle.aw_term.specs.Views.{pattern_of}
use Rattle.aw_term.specs.declared.term.Pattern as pattern
use Rattle.aw_choice.specs.ChoiceView.{path_of}
use Rattle.aw_plain_rows.specs.TreeView.{value_of}
use Rattle.aw_plain.specs.MatchView.{behind}
use Rattle.aw_plain.specs.declared.matching.Matched.{Matched}
use Rattle.aw_plain.proofs.matching.match_lit.Goals as goal

pub returns-in-Text : goal.returns-in-Text
returns-in-Text c =
    let v = ap (λ t. Made (P.Text t) Nil) c.as_ref.ensures ∙ sym (ap value_of c.in-Text.is) in
    IfOk-weaker c.match_text.result _ _ (λ (m : Matched) w. w ∙ ap (λ v. behind (path_of c.args.at.now) (match (pattern_of (pattern.Lit c.args.lit.now)) v)) v) c.match_text.ensures
