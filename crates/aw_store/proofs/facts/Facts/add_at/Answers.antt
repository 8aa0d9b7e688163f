use Rattle.aw_store.specs.EquationView.{equation_of}
use Rattle.aw_store.specs.NamedRefs.{refs_in}
use Rattle.aw_store.proofs.StayingNames.{among_named, names_stay}
use Rattle.aw_store.proofs.facts.Facts.add_at.Goals as goal

pub returns-clause-names : goal.returns-clause-names
returns-clause-names g c =
    let rs = refs_in (equation_of c.args.e) in
    names_stay _ _ rs (among_named _ rs c.requires.named) c.add.ensures.names c.add.ensures.only (g.met.Self.Facts.once c.add.new.self)
