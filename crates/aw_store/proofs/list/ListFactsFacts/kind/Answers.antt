use Rattle.std.proofs.Common.{ap, ◌∙◌, refl}
use Rattle.std.specs.Option.{option_copied}
use Rattle.std.specs.Prelude.{None, option_map}
use Rattle.aw_store.specs.Equations.{mentions}
use Rattle.aw_store.specs.EquationView.{body_of}
use Rattle.aw_store.specs.NamedRefs.{all_named}
use Rattle.aw_store.proofs.StoreLemmas.{at_slot, found_named, found_small, kind_seen}
use Rattle.aw_store.proofs.list.ListFactsFacts.kind.Goals as goal

pub kind_of-requires-clause-named : goal.kind_of-requires-clause-named
kind_of-requires-clause-named c =
    let s = c.args.self.now in
    let e = at_slot s.equations.items _ s.names.items c.args.slot _ _ c.as_slice.ensures.value c.index.ensures c.requires c.find_body.ensures
    ∙ ap (λ o. option_map body_of (option_copied o)) c.in-Some.is in
    ap (λ ns. all_named ns (mentions (body_of c.in-Some.body.now))) c.as_slice-in-Some.ensures.value ∙ found_named s.names.items _ c.args.slot _ s.sound.named e

pub kind_of-requires-clause-few : goal.kind_of-requires-clause-few
kind_of-requires-clause-few c =
    let s = c.args.self.now in
    let e = at_slot s.equations.items _ s.names.items c.args.slot _ _ c.as_slice.ensures.value c.index.ensures c.requires c.find_body.ensures
    ∙ ap (λ o. option_map body_of (option_copied o)) c.in-Some.is in
    found_small s.names.items _ c.args.slot _ s.sound.few e

pub returns-in-Some : goal.returns-in-Some
returns-in-Some c =
    let s = c.args.self.now in
    let e = at_slot s.equations.items _ s.names.items c.args.slot _ _ c.as_slice.ensures.value c.index.ensures c.requires c.find_body.ensures
    ∙ ap (λ o. option_map body_of (option_copied o)) c.in-Some.is in
    kind_seen _ _ _ _ _ c.as_slice-in-Some.ensures.value e c.kind_of.ensures

pub returns-in-None : goal.returns-in-None
returns-in-None c =
    let s = c.args.self.now in
    let e = at_slot s.equations.items _ s.names.items c.args.slot _ _ c.as_slice.ensures.value c.index.ensures c.requires c.find_body.ensures
    ∙ ap (λ o. option_map body_of (option_copied o)) c.in-None.is in
    kind_seen _ _ _ None _ refl e tt
