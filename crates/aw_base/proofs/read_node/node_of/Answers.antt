use Rattle.std.proofs.Common.{◌∙◌, sym, ap, option_copied, Some}
use Rattle.aw_spelling.specs.Spelling.{steps_of, parts_behind}
use Rattle.aw_grammar.specs.GrammarOf.{grammar_of, words_of}
use Rattle.aw_base.specs.NodeNames.{first_misfit, fitted, with_parts}
use Rattle.aw_base.proofs.NodeReads.{all_declared, few_steps}
use Rattle.aw_base.proofs.ValidNodes.{node_valid}
use Rattle.aw_base.proofs.read_node.node_of.Goals as goal

pub from_vec-requires : goal.from_vec-requires
from_vec-requires c =
    let name = c.args.name.now in
    few_steps (words_of c.args.g.now) name.start.now name.case (steps_of (parts_behind (option_copied name.steps))) c.in-Some-2.steps.items c.requires.few
    (sym (rw c.in-Some-2.is at c.in_ok-steps.ensures))

pub returns-in-Some-first_misfit-clause-read : goal.returns-in-Some-first_misfit-clause-read
returns-in-Some-first_misfit-clause-read c =
    let w = words_of c.args.g.now in
    let g = grammar_of c.args.g.now in
    let name = c.args.name.now in
    let s = c.in-Some.start in
    let steps = c.in-Some-2.steps.items in
    ap (with_parts w g) c.requires.begun
    ∙ all_declared w g name.start.now name.case s (steps_of (parts_behind (option_copied name.steps))) steps c.requires.few (sym c.in-Some.ensures)
    (sym (rw c.in-Some-2.is at c.in_ok-steps.ensures))
    ∙ ap (fitted (record { start = s; case = name.case; steps = steps })) (sym (c.in-Some-first_misfit.ensures ∙ ap (first_misfit g 0 s) c.deref.ensures.value))

pub returns-in_ok-from_vec-in-None-clause-valid : goal.returns-in_ok-from_vec-in-None-clause-valid
returns-in_ok-from_vec-in-None-clause-valid c =
    let g = grammar_of c.args.g.now in
    let s = c.in-Some.start in
    let steps = c.in_ok-from_vec-in-None.field-0 in
    node_valid (words_of c.args.g.now) g c.args.name.now.start.now s c.args.name.now.case steps c.in-Some.ensures
    (c.in-None.ensures ∙ ap (first_misfit g 0 s) (c.deref.ensures.value ∙ sym c.in_ok-from_vec-in-None.ensures))

pub returns-in_ok-from_vec-in-None-clause-read : goal.returns-in_ok-from_vec-in-None-clause-read
returns-in_ok-from_vec-in-None-clause-read c =
    let w = words_of c.args.g.now in
    let g = grammar_of c.args.g.now in
    let name = c.args.name.now in
    let s = c.in-Some.start in
    let steps = c.in_ok-from_vec-in-None.field-0 in
    ap (with_parts w g) c.requires.begun
    ∙ all_declared w g name.start.now name.case s (steps_of (parts_behind (option_copied name.steps))) steps c.requires.few (sym c.in-Some.ensures)
    (sym (rw c.in-Some-2.is at c.in_ok-steps.ensures) ∙ ap Some (sym c.in_ok-from_vec-in-None.ensures))
    ∙ ap (fitted (record { start = s; case = name.case; steps = steps })) (sym (c.in-None.ensures ∙ ap (first_misfit g 0 s) (c.deref.ensures.value ∙ sym c.in_ok-from_vec-in-None.ensures)))
