use Rattle.std.proofs.Common.{◌∙◌, ap, length, refl, rules}
use Rattle.std.proofs.lemmas.Option.{slice_get_read}
use Rattle.aw_grammar.specs.GrammarOf.{words_of}
use Rattle.aw_term.specs.Artifacts.{node_text}
use Rattle.aw_base.proofs.NameFronts.{front_stands}
use Rattle.aw_base.proofs.name_writer.find_end.Goals as goal

pub returns-clause-within : goal.returns-clause-within
returns-clause-within c =
    let new = c.know.new.written in
    let ends = new.ends.items in
    let at = length c.args.n.now.steps in
    (front_stands (words_of c.args.g.now) new.node new.text ends at c.index.result.now c.know.ensures.sound
    (slice_get_read ends (length ends) at c.index.result.now refl c.in_ok-know.ensures.within (search rules))).0

pub returns-clause-text : goal.returns-clause-text
returns-clause-text c =
    let w = words_of c.args.g.now in
    let new = c.know.new.written in
    let ends = new.ends.items in
    let at = length c.args.n.now.steps in
    (front_stands w new.node new.text ends at c.index.result.now c.know.ensures.sound
    (slice_get_read ends (length ends) at c.index.result.now refl c.in_ok-know.ensures.within (search rules))).1
    ∙ ap (node_text w) c.in_ok-know.ensures.known
