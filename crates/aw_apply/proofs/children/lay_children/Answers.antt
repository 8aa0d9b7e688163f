use Rattle.std.proofs.Common.{◌≡◌, ◌+◌, ◌<◌, suc, [], length, map, drop, refl, ap, sym, ◌∙◌, arith}
use Rattle.aw_term.specs.Names.{below}
use Rattle.aw_term.specs.Rules.{get}
use Rattle.aw_term.specs.WellFormed.{symbols_of}
use Rattle.aw_term.specs.Views.{term_of}
use Rattle.aw_grammar.specs.declared.rule.Child.{Child}
use Rattle.aw_grammar.specs.GrammarView.{child_of}
use Rattle.aw_store.specs.EquationView.{equation_of}
use Rattle.aw_apply.specs.Made.{lay_list, lay_children, no_ref}
use Rattle.aw_apply.specs.MadeView.{called_of, as_children, laid_behind}
use Rattle.aw_apply.proofs.LayLemmas.{joined}
use Rattle.aw_apply.proofs.ChildLemmas.{child_more, child_at, one_called, called_more, called_next, node_at, within_nodes}
use Rattle.aw_apply.proofs.children.lay_children.Goals as goal

pub bounds-nodes-i : goal.bounds-nodes-i
bounds-nodes-i c = within_nodes c.args.node.now c.args.rule (length c.args.children.now) c.loop-i.i c.args.nodes.now c.requires.nodes c.loop-i-test.true

pub lay_terms-requires : goal.lay_terms-requires
lay_terms-requires c =
    omega (
      arith,
      c.loop-i.invariant.1 [],
      child_more [] c.args.children.now c.loop-i.i c.index-children-i.result c.loop-i-test.true
          c.index-children-i.is,
      ap (λ ts. symbols_of (map term_of ts)) (c.as_slice-args.ensures ∙ ap (λ (z : Child). z.args) (sym c.index-children-i.is)),
    )

pub loop-i-preserved : goal.loop-i-preserved
loop-i-preserved c =
    let n = c.args.node.now in
    let r = c.args.rule in
    let f = get (no_ref n) c.args.refs.now in
    let cs = c.args.children.now in
    let i = c.loop-i.i in
    let x = c.index-children-i.result in
    let lt : i < length cs = c.loop-i-test.true in
    let old = map equation_of c.loop-i.equations.items in
    let new = map equation_of c.lay_terms.new.equations.items in
    let a = called_of old c.loop-i.called in
    let b = called_of new c.add.new.self in
    let laid = lay_list n f a.next (map term_of x.args) in
    let inherited = c.in_ok-inherited.inherited in
    let is_laid = c.in_ok-inherited.ensures ∙ ap (λ ts. laid_behind old (lay_list n f a.next (map term_of ts))) (c.as_slice-args.ensures ∙ ap (λ (z : Child). z.args) (sym c.index-children-i.is)) in
    let at = node_at n r (length cs) i c.index-nodes-i.result c.args.nodes.now c.requires.nodes lt c.index-nodes-i.is in
    let is_one = one_called old new c.loop-i.called.children.items c.add.new.self.children.items a.next b.next c.in_ok-below.below (below n r (i + 1)) inherited.roots.items inherited.next laid
    (c.in_ok-below.ensures ∙ at) is_laid c.in_ok-add.ensures.children c.in_ok-add.ensures.next in
    let next : i + 1 + 1 ≡ suc (i + 1) = omega arith in (
      λ sorts.
          ap (λ m. joined b (as_children (lay_children n r f m b.next (map (child_of sorts) (drop (i + 1) cs))))) next
          ∙ called_more n r f (i + 1) sorts cs i x a b (child_at (below n r (i + 1)) laid) _ lt c.index-children-i.is refl is_one (c.loop-i.invariant.0 sorts),
      λ sorts. omega (arith, c.loop-i.invariant.1 sorts, child_more sorts cs i x lt c.index-children-i.is, called_next n r f (i + 1) x a b (child_at (below n r (i + 1)) laid) refl is_one),
    )
