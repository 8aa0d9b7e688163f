use Rattle.std.proofs.Common.{◌≡◌, ◌∙◌, ◌+◌, ◌-◌, ◌∷◌, [], sym, ap, Some, option_map, option_copied, arith, take, drop}
use Rattle.aw_grammar.specs.GrammarOf.{grammar_of, words_of}
use Rattle.aw_base.specs.NodeReading.{steps_behind}
use Rattle.aw_base.proofs.ReadFronts.{goes_on}
use Rattle.aw_base.proofs.node_reader.step_behind.Goals as goal

pub returns-in_ok-sort-in-None : goal.returns-in_ok-sort-in-None
returns-in_ok-sort-in-None c =
    let w = words_of c.args.g.now in
    let g = grammar_of c.args.g.now in
    let text = c.args.text.now in
    let last = c.args.last in
    let n = c.part_end-end.result - (last.end + 1) in
    let step = c.in_ok-part.part.step in
    let read : steps_behind w (Some (take n (drop (last.end + 1) text))) ≡ Some (step ∷ []) =
    c.in_ok-part.ensures.value ∙ ap (λ m. option_map (λ more. step ∷ more) (steps_behind w (option_copied m))) c.in-None.is in
    goes_on w g text last step (record { end = c.part_end-end.result; sort = c.in_ok-sort-in-None.sort }) n c.requires c.if-text-last-ne47.false (omega arith) c.part_end-end.ensures.within
    read (sym c.sort_of_step.ensures ∙ c.in_ok-sort-in-None.was)
