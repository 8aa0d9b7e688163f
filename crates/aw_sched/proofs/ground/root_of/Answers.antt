use Rattle.std.proofs.Common.{◌≡◌, ◌∙◌, sym, ap, map, subst}
use Rattle.aw_grammar.specs.Written.{Apply, side_by_side, written_of}
use Rattle.aw_grammar.specs.GrammarOf.{words_of}
use Rattle.aw_grammar.proofs.WrittenLemmas.{written_apply}
use Rattle.aw_sched.specs.ArgumentRoots.{FindsRoot}
use Rattle.aw_sched.proofs.ground.root_of.Goals as goal

pub returns-in-Apply : goal.returns-in-Apply
returns-in-Apply c =
    let name = c.in-Apply.name in
    let parts = c.in-Apply.parts in
    let name_is : c.as_slice-in-Apply.result.now ≡ name = cc (c.as_slice-in-Apply.ensures, c.in-Apply.name-is) in
    let term = ap written_of c.in-Apply.is ∙ written_apply name parts ∙ ap (λ n. Apply n (side_by_side (map written_of parts))) (sym name_is) in
    subst (λ t. FindsRoot (words_of c.args.g.now).cons t c.root_of_parts.result) (sym term)
    (subst (λ ps. FindsRoot (words_of c.args.g.now).cons (Apply c.as_slice-in-Apply.result.now (side_by_side (map written_of ps))) c.root_of_parts.result) c.in-Apply.parts-is c.root_of_parts.ensures)
