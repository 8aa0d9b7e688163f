use Rattle.std.proofs.Common.{◌≡◌, ◌+◌, ◌*◌, ◌≤◌, map, drop}
use Rattle.aw_term.specs.Rules.{get}
use Rattle.aw_term.specs.WellFormed.{symbols, symbols_of}
use Rattle.aw_term.specs.Views.{term_of}
use Rattle.aw_store.specs.EquationView.{equation_of}
use Rattle.aw_apply.specs.Made.{lay_list, no_ref}
use Rattle.aw_apply.specs.MadeView.{all_of, laid_behind}
use Rattle.aw_apply.proofs.LayLemmas.{joined}
use Rattle.aw_apply.proofs.laid.+lay_term.Given as goal

abbrev pub invariant-lay_terms-loop-term : goal.invariant-lay_terms-loop-term
invariant-lay_terms-loop-term l =
    (joined (all_of (map equation_of l.equations.items) l.all) (lay_list l.node (get (no_ref l.node) l.refs) l.all.next
    (map term_of (drop l.term-index l.terms))) ≡ laid_behind (map equation_of l.fn.equations.items) (lay_list l.node (get (no_ref l.node) l.refs)
    l.k (map term_of l.terms)))
    × (l.all.next + symbols_of (map term_of (drop l.term-index l.terms)) ≤ 65535)

abbrev pub decreases-lay_term : goal.decreases-lay_term
decreases-lay_term l = 2 * symbols (term_of l.term.now)

abbrev pub decreases-lay_terms : goal.decreases-lay_terms
decreases-lay_terms l = 2 * symbols_of (map term_of l.terms.now) + 1
