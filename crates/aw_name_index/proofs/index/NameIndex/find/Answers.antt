use Rattle.std.proofs.Common.{◌∙◌, ap, sym}
use Rattle.aw_name_index.specs.Places.{is_same, place_of}
use Rattle.aw_name_index.proofs.Guesses.{place_at}
use Rattle.aw_name_index.proofs.Lookups.{place_by_position}
use Rattle.aw_name_index.proofs.Same.{same_is}
use Rattle.aw_name_index.proofs.index.NameIndex.find.Goals as goal

pub returns-then-eq-clause-place : goal.returns-then-eq-clause-place
returns-then-eq-clause-place c =
    let name = c.args.name.now in
    let there = c.in-Some.ensures.lookup in
    let same = same_is c.in-Some.known.now.items name (sym (c.eq.ensures ∙ (λ i. is_same (c.as_slice-in-Some.ensures.value i) name)) ∙ c.if-eq.true) in
    place_at (λ name. name.items) name c.self.inside.names.keys c.as_slice.result.now c.from-guess.result c.in-Some.known.now c.as_slice.ensures.keys
    c.as_slice.ensures.unique there.3.0 (sym there.1) same
    ∙ ap (place_of name) c.self.view_is

pub returns-clause-place : goal.returns-clause-place
returns-clause-place c =
    c.get_index_of.ensures.index
    ∙ place_by_position (λ name. name.items) c.args.name.now c.self.inside.names.keys
    ∙ ap (place_of c.args.name.now) c.self.view_is
