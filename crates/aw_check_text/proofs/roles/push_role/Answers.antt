use Rattle.std.proofs.Common.{List, sym, subst}
use Rattle.aw_term.specs.WellFormed.{Each}
use Rattle.aw_grammar.specs.declared.rule.Sort.{Sort}
use Rattle.aw_grammar.specs.GrammarView.{sorts_of}
use Rattle.aw_modular.specs.Refusals.{IsPosition}
use Rattle.aw_check_text.proofs.Findings.{role_if_ok, words_of_part}
use Rattle.aw_check_text.proofs.roles.push_role.Goals as goal

pub push_part-told-requires-clause-faces : goal.push_part-told-requires-clause-faces
push_part-told-requires-clause-faces c = c.in_ok-part.ensures.keeps c.requires.faces

pub push_part-told-requires-clause-range : goal.push_part-told-requires-clause-range
push_part-told-requires-clause-range c = subst (λ (ss : List Sort). Each (IsPosition (sorts_of ss)) c.args.declared.now) (sym c.in_ok-part.ensures.sorts) c.requires.range

pub returns : goal.returns
returns c =
    let g = c.args.g.now in
    let p = c.in_ok-part.part in
    let is = c.in_ok-part.ensures in
    role_if_ok g c.args.f.now p c.args.declared.now c.args.role c.args.text.now c.push_part-told.new.text c.push_part-told.result is.faces is.role
    is.grammar (words_of_part g p.grammar c.args.role is.roles is.cons is.sorts is.rules) c.push_part-told.ensures
