use Rattle.std.proofs.Common.{List, map, sym, subst, Contains}
use Rattle.aw_store.specs.EquationView.{equation_of}
use Rattle.aw_store.specs.declared.equation.Equation.{Equation}
use Rattle.aw_store.proofs.list.ListFactsFacts.add.Goals as goal

pub returns-clause-kept_ready : goal.returns-clause-kept_ready
returns-clause-kept_ready c = λ held x m. subst (λ (ready : List Equation). Contains (map equation_of ready) x) (sym (c.add_to.ensures.kept_ready held)) m

pub returns-clause-ready : goal.returns-clause-ready
returns-clause-ready c = λ is x m. subst (λ (ready : List Equation). Contains (map equation_of ready) x) (sym (c.add_to.ensures.ready is)) m
