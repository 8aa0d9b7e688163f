use Rattle.std.proofs.Common.{◌+◌, ap, subst, sym, ◌∙◌}
use Rattle.std.specs.Prelude.{option_map}
use Rattle.aw_term.specs.Configs.{Row}
use Rattle.aw_term.specs.Choices.{or_same}
use Rattle.aw_plain_rows.specs.RowView.{plain_row}
use Rattle.aw_plain.specs.Changes.{row_taken, IsChangedTo}
use Rattle.aw_plain.proofs.ChangeLemmas.{change_some, change_none}
use Rattle.aw_plain.proofs.change.push_change.Goals as goal

pub returns-in_ok-push-in-Some : goal.returns-in_ok-push-in-Some
returns-in_ok-push-in-Some c = λ rows l e w.
    let f : Row → Row = row_taken c.args.taking.now in
    subst (λ xs. IsChangedTo f rows xs (c.args.at + 1)) (sym c.in_ok-push-in-Some.ensures.items)
    (change_some f rows c.args.changes.now.items (record { at = c.args.at; row = c.in-Some.row }) c.args.row.now l e
    (ap (λ o. or_same (plain_row c.args.row.now) (option_map plain_row o)) (sym c.in-Some.is) ∙ c.in_ok-row.ensures) w)

pub returns-in-None : goal.returns-in-None
returns-in-None c = λ rows l e w.
    let f : Row → Row = row_taken c.args.taking.now in
    change_none f rows c.args.changes.now.items c.args.at c.args.row.now l e
    (ap (λ o. or_same (plain_row c.args.row.now) (option_map plain_row o)) (sym c.in-None.is) ∙ c.in_ok-row.ensures) w
