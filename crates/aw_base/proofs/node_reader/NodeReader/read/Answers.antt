use Rattle.std.proofs.Common.{◌<◌, length, rules, subst, sym}
use Rattle.std.proofs.lemmas.List.Elements.{All-set}
use Rattle.aw_grammar.specs.GrammarOf.{grammar_of, words_of}
use Rattle.aw_base.specs.ReadFronts.{IsReadOver}
use Rattle.aw_base.proofs.node_reader.NodeReader.read.Goals as goal

pub read-requires : goal.read-requires
read-requires c =
    let w = words_of c.args.g.now in
    let g = grammar_of c.args.g.now in
    let place = c.place_of-place.result in
    let within : place < length c.has_place.new.self.names.items = search rules in
    subst (IsReadOver w g) (sym c.index_mut.ensures.value) ((c.has_place.ensures.kept w g c.requires).each place c.index_mut.result.now within)

pub returns-then-has_place-clause-kept : goal.returns-then-has_place-clause-kept
returns-then-has_place-clause-kept c =
    let w = words_of c.args.g.now in
    let g = grammar_of c.args.g.now in
    record { each = All-set (IsReadOver w g) c.has_place.new.self.names.items c.place_of-place.result c.read.new.self c.read.ensures.kept (c.has_place.ensures.kept w g c.requires).each }

pub returns-else-has_place-clause-kept : goal.returns-else-has_place-clause-kept
returns-else-has_place-clause-kept c = c.has_place.ensures.kept (words_of c.args.g.now) (grammar_of c.args.g.now) c.requires
