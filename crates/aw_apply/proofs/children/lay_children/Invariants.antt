use Rattle.std.proofs.Common.{◌≡◌, ◌+◌, ◌≤◌, List, map, drop}
use Rattle.aw_term.specs.Rules.{get}
use Rattle.aw_term.specs.WellFormed.{child_symbols}
use Rattle.aw_grammar.specs.declared.rule.Sort.{Sort}
use Rattle.aw_grammar.specs.GrammarView.{child_of}
use Rattle.aw_store.specs.EquationView.{equation_of}
use Rattle.aw_apply.specs.Made.{lay_children, no_ref}
use Rattle.aw_apply.specs.MadeView.{called_of, as_children, laid_behind}
use Rattle.aw_apply.proofs.LayLemmas.{joined}
use Rattle.aw_apply.proofs.children.lay_children.Given as goal

abbrev pub invariant-loop-i : goal.invariant-loop-i
invariant-loop-i l =
    let f = get (no_ref l.node) l.refs in
    ((sorts : List Sort) → joined (called_of (map equation_of l.equations.items) l.called)
    (as_children (lay_children l.node l.rule f (l.i + 1) l.called.next (map (child_of sorts) (drop l.i l.children)))) ≡ laid_behind
    (map equation_of l.fn.equations.items) (as_children (lay_children l.node l.rule f 1 l.k (map (child_of sorts) l.children))))
    × ((sorts : List Sort) → l.called.next + child_symbols (map (child_of sorts) (drop l.i l.children)) ≤ 65535)
