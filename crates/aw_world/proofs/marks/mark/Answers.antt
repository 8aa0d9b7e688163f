use Rattle.std.proofs.Common.{◌≡◌, ◌+◌, true, drop, sym, ◌∙◌, arith, subst}
use Rattle.std.specs.Prelude.{slice_set}
use Rattle.aw_world.specs.Marks.{leading}
use Rattle.aw_world.proofs.MarkLemmas.{leading_set, count_more, count_again, count_below}
use Rattle.aw_world.proofs.marks.mark.Goals as goal
use Rattle.aw_world.proofs.marks.mark.Goals.{then-not-is_marked, else-not-is_marked}

pub one_more-requires : goal.one_more-requires
one_more-requires c =
    let h = count_below c.args.flags.now c.args.at c.requires.at (sym c.is_marked.ensures ∙ c.if-not-is_marked.true) in
    omega (arith, h, c.requires.counts)

pub go_on-requires : goal.go_on-requires
go_on-requires c =
    let bs = slice_set c.args.flags.now c.args.at true in
    subst (λ n. n + leading (drop n bs) ≡ leading bs) (sym c.requires.leads) (leading_set c.args.flags.now c.args.at)

pub returns-clause-counts : goal.returns-clause-counts
returns-clause-counts c =
    elim c.if-not-is_marked.branch [
      | then-not-is_marked w ↦ (let h = count_more c.args.flags.now c.args.at c.requires.at (sym c.is_marked.ensures ∙ w.if-not-is_marked.true) in omega (arith, w.count-is, c.requires.counts, h))
      | else-not-is_marked w ↦ w.count-is ∙ c.requires.counts ∙ sym (count_again c.args.flags.now c.args.at (sym c.is_marked.ensures ∙ w.if-not-is_marked.false))
    ]
