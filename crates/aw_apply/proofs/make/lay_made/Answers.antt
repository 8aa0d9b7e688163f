use Rattle.std.proofs.Common.{length, map, ap, sym, ◌∙◌, arith, List}
use Rattle.aw_term.specs.Names.{below}
use Rattle.aw_term.specs.Rules.{get, upto}
use Rattle.aw_term.specs.WellFormed.{symbols_of, child_symbols}
use Rattle.aw_term.specs.Views.{ground_of, term_of}
use Rattle.aw_grammar.specs.GrammarView.{child_of, rule_of}
use Rattle.aw_apply.specs.Made.{Laid, no_ref}
use Rattle.aw_apply.specs.declared.making.MadeChild.{MadeChild}
use Rattle.aw_apply.proofs.LayLemmas.{lay_list-next}
use Rattle.aw_apply.proofs.ChildLemmas.{symbols_apart, children-next}
use Rattle.aw_apply.proofs.MakeLemmas.{made_all}
use Rattle.aw_apply.proofs.make.lay_made.Goals as goal

pub lay_children-requires-clause-nodes : goal.lay_children-requires-clause-nodes
lay_children-requires-clause-nodes c = c.requires.nodes ∙ ap (λ k. map (below c.args.node.now c.args.number) (upto 1 k)) (ap length (sym c.as_slice-declared.ensures))

pub lay_children-requires-clause-parts : goal.lay_children-requires-clause-parts
lay_children-requires-clause-parts c = λ sorts. omega (
  arith,
  c.in_ok-next.ensures.numbered,
  lay_list-next c.args.node.now (λ x. elim x [ ]) 1 (map ground_of c.args.args.now),
  c.requires.entered,
  c.requires.symbols,
  ap (λ cs. child_symbols (map (child_of sorts) cs)) c.as_slice-declared.ensures,
  symbols_apart sorts c.args.g.now.sorts c.args.rule.now.children,
)

pub lay_results-requires-clause-parts : goal.lay_results-requires-clause-parts
lay_results-requires-clause-parts c =
    let n = c.args.node.now in
    let sorts = c.args.g.now.sorts in
    omega (
      arith,
      c.in_ok-next.ensures.numbered,
      lay_list-next n (λ x. elim x [ ]) 1 (map ground_of c.args.args.now),
      c.requires.entered,
      c.requires.symbols,
      ap (λ (z : Laid (List MadeChild)). z.next) (c.in_ok-called.ensures sorts),
      children-next n c.args.number (get (no_ref n) c.as_slice-known.result.now) 1 c.in_ok-next.next (map (child_of sorts) c.as_slice-declared.result.now),
      ap (λ cs. child_symbols (map (child_of sorts) cs)) c.as_slice-declared.ensures,
      ap (λ ts. symbols_of (map term_of ts)) c.as_slice.ensures,
    )

pub returns : goal.returns
returns c =
    let sorts = c.args.g.now.sorts in
    let rule = c.args.rule.now in
    made_all c.args.node.now c.args.number (rule_of sorts rule) (map ground_of c.args.args.now) c.args.equations.now.items c.enter.new.equations.items
    c.lay_children.new.equations.items c.lay_results.new.equations.items
    c.args.refs.now.items c.enter.new.refs.items c.as_slice-known.result.now c.in_ok-next.next c.in_ok-called.called
    (map (child_of sorts) c.as_slice-declared.result.now) (map term_of c.as_slice.result.now)
    c.in_ok-next.ensures c.as_slice-known.ensures.value (ap (map (child_of sorts)) c.as_slice-declared.ensures) (ap (map term_of) c.as_slice.ensures)
    (c.in_ok-called.ensures sorts) c.in_ok-lay_results.ensures
