use Rattle.std.proofs.Common.{map}
use Rattle.std.proofs.lemmas.Result.{on_ok_weaker}
use Rattle.aw_grammar.specs.GrammarOf.{words_of}
use Rattle.aw_spec_writer.specs.SpecLines.{offer_line, use_line}
use Rattle.aw_spec_writer.proofs.Pushing.{two_added}
use Rattle.aw_spec_writer.proofs.lines.push_faces.Goals as goal

pub returns : goal.returns
returns c =
    let w = words_of c.args.s.now.grammar in
    let f = c.args.s.now.faces in
    on_ok_weaker c.push_uses.result (two_added (map (offer_line w.sorts) f.offers) (map (use_line w.roles w.sorts) f.uses) _ _ _ c.in_ok-push_offers.ensures) c.push_uses.ensures
