use Rattle.std.proofs.Common.{◌++◌, map, ap, sym, ◌∙◌}
use Rattle.std.proofs.lemmas.Result.{on_ok_weaker}
use Rattle.aw_term.specs.Artifacts.{state_text}
use Rattle.aw_term.specs.Views.{ground_of}
use Rattle.aw_grammar.specs.GrammarOf.{words_of}
use Rattle.aw_plain_rows.specs.RowView.{plain_state}
use Rattle.aw_plain.specs.Pieces.{arguments, pending}
use Rattle.aw_plain.proofs.LineLemmas.{done_line}
use Rattle.aw_plain.proofs.print.push_state.Goals as goal

pub returns-in_ok-push_bytes-in-Done-2 : goal.returns-in_ok-push_bytes-in-Done-2
returns-in_ok-push_bytes-in-Done-2 c =
    let w = words_of c.args.grammar.now in
    let old = pending w c.args.pieces.now.items in
    on_ok_weaker c.push_bytes-in-Done-3.result (λ e.
    done_line w c.in-Done.rule (map ground_of c.in-Done._written) c.args.args.now c.rule_name.result.now old _ _ _ _
    (c.requires ∙ ap (λ s. arguments (plain_state s)) c.in-Done.is) c.rule_name.ensures
    (c.in_ok-push_bytes-in-Done.ensures w) (c.in_ok-push_listed-in-Done.ensures.text w) (c.in_ok-push_bytes-in-Done-2.ensures w) (e w)
    ∙ sym (ap (λ s. state_text w (plain_state s) ++ old) c.in-Done.is)) c.push_bytes-in-Done-3.ensures
