use Rattle.std.proofs.Common.{◌≡◌, ◌++◌, map, take, drop, arith, ap, ◌∙◌}
use Rattle.aw_term.specs.Configs.{Row}
use Rattle.aw_plain_rows.specs.RowView.{config_of}
use Rattle.aw_plain.specs.Changes.{row_taken, changed}
use Rattle.aw_plain.proofs.TouchLemmas.{stay_in_front, stay_behind}
use Rattle.aw_plain.proofs.change.changes.Goals as goal

pub loop-at-init : goal.loop-at-init
loop-at-init c =
    let f : Row → Row = row_taken c.args.taking.now in
    ap (λ xs. config_of (changed c.args.rows.now xs)) c.new-changes.ensures.items
    ∙ stay_in_front f (config_of c.args.rows.now) c.args.places.start c.requires.outside.0

pub returns : goal.returns
returns c =
    let f : Row → Row = row_taken c.args.taking.now in
    let held = config_of c.args.rows.now in
    let last : c.loop-at.at ≡ c.args.places.end = omega (arith, c.loop-at-test.false, c.loop-at.auto.at-end, c.requires.order) in
    c.loop-at.invariant
    ∙ ap (λ i. map f (take i held) ++ drop i held) last
    ∙ stay_behind f held c.args.places.end c.requires.outside.1
