use Rattle.std.proofs.Common.{◌≡◌, ◌+◌, ◌≤◌, ◌++◌, map, drop}
use Rattle.aw_term.specs.Rules.{get}
use Rattle.aw_term.specs.WellFormed.{symbols_of}
use Rattle.aw_term.specs.Views.{term_of}
use Rattle.aw_store.specs.EquationView.{equation_of}
use Rattle.aw_apply.specs.Made.{lay_results, no_ref}
use Rattle.aw_apply.proofs.make.lay_results.Given as goal

abbrev pub invariant-loop-j : goal.invariant-loop-j
invariant-loop-j l =
    let f = get (no_ref l.node) l.refs in
    (map equation_of l.equations.items ++ lay_results l.node f l.next (l.j + 1) (map term_of (drop l.j l.results)) ≡ map equation_of
    l.fn.equations.items ++ lay_results l.node f l.k 1 (map term_of l.results))
    × (l.next + symbols_of (map term_of (drop l.j l.results)) ≤ 65535)
