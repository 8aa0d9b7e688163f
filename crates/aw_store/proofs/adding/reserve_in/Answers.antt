use Rattle.std.proofs.Common.{map, ap, sym, ◌∙◌, arith}
use Rattle.std.proofs.lemmas.List.{length-map}
use Rattle.aw_store.specs.EquationView.{equation_of}
use Rattle.aw_store.specs.NamedRefs.{has_names}
use Rattle.aw_store.specs.StoreView.{all_few}
use Rattle.aw_store.proofs.NameLemmas.{has_names-grown}
use Rattle.aw_store.proofs.AddLemmas.{lacking-few}
use Rattle.aw_store.proofs.adding.reserve_in.Goals as goal

pub returns-in_err-name_equations-clause-sound : goal.returns-in_err-name_equations-clause-sound
returns-in_err-name_equations-clause-sound c =
    let s = c.requires.sound in
    let ms = c.name_equations.new.names.items in
    let g = c.name_equations.ensures.grows in
    record { once = c.name_equations.ensures.once; named = has_names-grown _ ms _ g s.named; few = s.few; ready_named = has_names-grown _ ms _ g s.ready_named }

pub returns-in_err-reserve-clause-sound : goal.returns-in_err-reserve-clause-sound
returns-in_err-reserve-clause-sound c =
    let s = c.requires.sound in
    let ms = c.name_equations.new.names.items in
    let g = c.name_equations.ensures.grows in
    let same = ap (map equation_of) c.reserve.ensures.items in
    record {
      once = c.name_equations.ensures.once;
      named = ap (has_names ms) same ∙ has_names-grown _ ms _ g s.named;
      few = ap all_few same ∙ s.few;
      ready_named = has_names-grown _ ms _ g s.ready_named;
    }

pub returns-clause-sound : goal.returns-clause-sound
returns-clause-sound c =
    let s = c.requires.sound in
    let ms = c.name_equations.new.names.items in
    let g = c.name_equations.ensures.grows in
    let same = ap (map equation_of) c.reserve.ensures.items in
    record {
      once = c.name_equations.ensures.once;
      named = ap (has_names ms) same ∙ has_names-grown _ ms _ g s.named;
      few = ap all_few same ∙ s.few;
      ready_named = ap (λ es. has_names ms (map equation_of es)) (c.in_ok-copies.ensures ∙ c.as_slice.ensures ∙ sym c.as_slice-2.ensures) ∙ c.in_ok-name_equations.ensures.ok;
    }

pub returns-clause-room : goal.returns-clause-room
returns-clause-room c =
    let k = map equation_of c.reserve.new.self.items in
    let copies = c.in_ok-copies.copies in
    omega (arith, lacking-few k (map equation_of copies.items), length-map copies.items equation_of, copies.ok.0, c.len.ensures, c.in_ok-reserve.ensures.ok)
