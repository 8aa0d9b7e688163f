use Rattle.std.proofs.Common.{map}
use Rattle.aw_store.specs.EquationView.{equation_of}
use Rattle.aw_store.specs.NamedRefs.{all_refs_in}
use Rattle.aw_store.proofs.StayingNames.{among_all, names_stay}
use Rattle.aw_store.proofs.facts.Facts.reserve_named.Goals as goal

pub returns-clause-names : goal.returns-clause-names
returns-clause-names g c =
    let es = map equation_of c.args.es.now in
    names_stay _ _ (all_refs_in es) (among_all _ es c.requires.named) c.reserve.ensures.names c.reserve.ensures.only (g.met.Self.Facts.once c.reserve.new.self)
