use Rattle.std.proofs.Common.{rules, length, refl}
use Rattle.std.proofs.lemmas.Option.{slice_get_read}
use Rattle.aw_grammar.specs.GrammarOf.{words_of}
use Rattle.aw_base.proofs.NameFronts.{fronts_cut}
use Rattle.aw_base.proofs.name_writer.cut.Goals as goal

pub returns-clause-sound : goal.returns-clause-sound
returns-clause-sound c =
    let ends = c.args.written.now.ends.items in
    fronts_cut (words_of c.args.g.now) c.args.written.now.node c.args.written.now.text ends c.args.at c.index-end.result.now c.truncate.new.self c.truncate-2.new.self.items c.requires.sound
    (slice_get_read ends (length ends) c.args.at c.index-end.result.now refl c.requires.within (search rules)) c.truncate.ensures c.truncate-2.ensures.items
