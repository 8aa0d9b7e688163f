use Rattle.std.proofs.Common.{◌<◌, ap, sym, ◌∙◌, subst, length}
use Rattle.std.specs.Option.{option_copied}
use Rattle.std.specs.Prelude.{option_map, slice_get, Option}
use Rattle.aw_store.specs.Equations as P
use Rattle.aw_store.specs.Equations.{mentions}
use Rattle.aw_store.specs.EquationView.{body_of}
use Rattle.aw_store.specs.NamedRefs.{con_parts, all_named}
use Rattle.aw_store.proofs.StoreLemmas.{at_slot, live_slot, found_named, no_part}
use Rattle.aw_store.proofs.list.ListFactsFacts.child.Goals as goal

pub child_of-requires-clause-named : goal.child_of-requires-clause-named
child_of-requires-clause-named c =
    let s = c.args.self.now in
    let e = at_slot s.equations.items _ s.names.items c.args.slot _ _ c.as_slice.ensures.value c.index.ensures
    (live_slot _ s.names.items c.args.slot c.args.k c.requires) c.find_body.ensures ∙ ap (λ o. option_map body_of (option_copied o)) c.in-Some.is in
    ap (λ ns. all_named ns (mentions (body_of c.in-Some.body.now))) c.as_slice-in-Some.ensures.value ∙ found_named s.names.items _ c.args.slot _ s.sound.named e

pub child_of-requires-clause-within : goal.child_of-requires-clause-within
child_of-requires-clause-within c =
    let s = c.args.self.now in
    let e = at_slot s.equations.items _ s.names.items c.args.slot _ _ c.as_slice.ensures.value c.index.ensures
    (live_slot _ s.names.items c.args.slot c.args.k c.requires) c.find_body.ensures ∙ ap (λ o. option_map body_of (option_copied o)) c.in-Some.is in
    subst (λ (b : Option P.Body). c.args.k < length (con_parts b)) e c.requires

pub unreachable-requires : goal.unreachable-requires
unreachable-requires c =
    let s = c.args.self.now in
    let e = at_slot s.equations.items _ s.names.items c.args.slot _ _ c.as_slice.ensures.value c.index.ensures
    (live_slot _ s.names.items c.args.slot c.args.k c.requires) c.find_body.ensures ∙ ap (λ o. option_map body_of (option_copied o)) c.in-None.is in
    no_part c.args.k _ e c.requires

pub returns : goal.returns
returns c =
    let s = c.args.self.now in
    let e = at_slot s.equations.items _ s.names.items c.args.slot _ _ c.as_slice.ensures.value c.index.ensures
    (live_slot _ s.names.items c.args.slot c.args.k c.requires) c.find_body.ensures ∙ ap (λ o. option_map body_of (option_copied o)) c.in-Some.is in
    ap (λ ns. slice_get ns c.child_of.result) (sym c.as_slice-in-Some.ensures.value) ∙ c.child_of.ensures ∙ ap (λ (b : Option P.Body). slice_get (con_parts b) c.args.k) (sym e)
