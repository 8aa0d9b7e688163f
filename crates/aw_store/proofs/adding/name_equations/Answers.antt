use Rattle.aw_store.proofs.NameLemmas.{grows_more, has_names-grown}
use Rattle.aw_store.proofs.AddLemmas.{has_names-take, only_at}
use Rattle.aw_store.proofs.adding.name_equations.Goals as goal

pub loop-e-preserved : goal.loop-e-preserved
loop-e-preserved c =
    let inv = c.loop-e.invariant in
    let new = c.name_equation.new.names.items in (
      c.name_equation.ensures.once,
      grows_more _ _ _ inv.1 c.name_equation.ensures.grows,
      only_at c.args.names.now.items c.loop-e.names.items c.name_equation.new.names.items c.args.es.now c.loop-e.e-index c.e-item.result
          c.loop-e-test.true c.e-item.is inv.2 c.name_equation.ensures.only,
      has_names-take new c.args.es.now c.loop-e.e-index c.e-item.result c.loop-e-test.true c.e-item.is (has_names-grown _ new _ c.name_equation.ensures.grows inv.3) c.in_ok-name_equation.ensures.ok,
    )

pub returns-in_err-name_equation-clause-only : goal.returns-in_err-name_equation-clause-only
returns-in_err-name_equation-clause-only c =
    only_at c.args.names.now.items c.loop-e.names.items c.name_equation.new.names.items c.args.es.now c.loop-e.e-index c.e-item.result
    c.loop-e-test.true c.e-item.is c.loop-e.invariant.2 c.name_equation.ensures.only
