use Rattle.std.proofs.Common.{◌≡◌, ◌+◌, ◌<◌, ◌++◌, suc, length, map, drop, refl, ap, ◌∙◌, arith}
use Rattle.aw_term.specs.Rules.{get}
use Rattle.aw_term.specs.Views.{term_of}
use Rattle.aw_store.specs.EquationView.{equation_of}
use Rattle.aw_apply.specs.Made.{lay_results, no_ref}
use Rattle.aw_apply.proofs.LayLemmas.{symbols_more}
use Rattle.aw_apply.proofs.MakeLemmas.{results_follow, lay_result-next}
use Rattle.aw_apply.proofs.make.lay_results.Goals as goal

pub loop-j-preserved : goal.loop-j-preserved
loop-j-preserved c =
    let n = c.args.node.now in
    let f = get (no_ref n) c.args.refs.now in
    let xs = c.args.results.now in
    let j = c.loop-j.j in
    let x = c.index-results-j.result in
    let lt : j < length xs = c.loop-j-test.true in
    let after = c.in_ok-next.next in
    let num : j + 1 + 1 ≡ suc (j + 1) = omega arith in (
      ap (λ m. map equation_of c.lay_result.new.equations.items ++ lay_results n f after m (map term_of (drop (j + 1) xs))) num
          ∙ results_follow n f c.loop-j.next (j + 1) after xs j x (map equation_of c.loop-j.equations.items)
          (map equation_of c.lay_result.new.equations.items) _ _ lt c.index-results-j.is c.in_ok-next.ensures.equations refl
          c.in_ok-next.ensures.next c.loop-j.invariant.0,
      omega (arith, c.loop-j.invariant.1, symbols_more term_of xs j x lt c.index-results-j.is, c.in_ok-next.ensures.next, lay_result-next n f c.loop-j.next (j + 1) (term_of x)),
    )
