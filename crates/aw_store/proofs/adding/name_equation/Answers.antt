use Rattle.std.proofs.lemmas.Bool.{and_parts}
use Rattle.aw_store.specs.Equations.{mentions}
use Rattle.aw_store.specs.EquationView.{equation_of}
use Rattle.aw_store.specs.NamedRefs.{is_named, refs_in}
use Rattle.aw_store.proofs.NameLemmas.{is_named-at, is_named-grown, all_named-grown, names_both, named_first, only_named, only_both}
use Rattle.aw_store.proofs.adding.name_equation.Goals as goal

pub returns-clause-ok : goal.returns-clause-ok
returns-clause-ok c =
    let new = c.name_body.new.names.items in
    names_both c.name_body.result new (equation_of c.args.e.now) (is_named-grown _ new _ c.name_body.ensures.grows (is_named-at _ _ _ c.in_ok-name_one.ensures.slot)) c.name_body.ensures.ok

pub returns-clause-named : goal.returns-clause-named
returns-clause-named c = λ w.
    let old = c.args.names.now.items in
    c.name_body.ensures.named (all_named-grown old _ _ c.name_one.ensures.grows (and_parts (is_named old c.args.e.now.left) _ w).1)

pub returns-clause-only : goal.returns-clause-only
returns-clause-only c =
    let e = equation_of c.args.e.now in
    let old = c.args.names.now.items in
    let mid = c.name_one.new.names.items in
    only_both old mid c.name_body.new.names.items e (only_named c.name_one.result old mid (refs_in e) e.left (named_first e.left (mentions e.body))
    c.name_one.ensures.ok c.name_one.ensures.err) c.name_body.ensures.only
