use Rattle.std.proofs.Common.{◌∙◌, sym, ap, None, Some}
use Rattle.aw_grammar.specs.Written.{rule_of_raw}
use Rattle.aw_spec.specs.Reading.{Wrong}
use Rattle.aw_spec.proofs.LastRule.{put_kept}
use Rattle.aw_spec.proofs.draft.Draft.add_rule.Goals as goal

pub returns-in-None : goal.returns-in-None
returns-in-None c = put_kept c.args.self.now c.taken.result c.in_ok-grammar.grammar c.put.new.grammar (rule_of_raw c.args.rule) None c.taken.ensures
    c.in_ok-grammar.ensures c.put.ensures c.in-None.ensures

pub returns-in-Some : goal.returns-in-Some
returns-in-Some c =
    let fault = Some (c.in-Some.field-0-0, c.in-Some.kind) in
    put_kept c.args.self.now c.taken.result c.in_ok-grammar.grammar c.put.new.grammar (rule_of_raw c.args.rule) fault c.taken.ensures
    c.in_ok-grammar.ensures c.put.ensures c.in-Some.ensures ∙ ap Wrong (sym c.face_kind.ensures)
