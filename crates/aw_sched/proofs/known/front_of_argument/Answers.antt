use Rattle.std.proofs.Common.{rules, ◌≡◌, ◌∷◌, [], get_or, subst, ap, ◌∙◌}
use Rattle.std.proofs.lemmas.Result.{IfOk-weaker}
use Rattle.aw_sched.specs.ByteArguments.{SaysBefore}
use Rattle.aw_sched.proofs.ByteFronts.{behind_first, others}
use Rattle.aw_sched.proofs.ReadArguments.{front_behind}
use Rattle.aw_sched.proofs.known.front_of_argument.Goals as goal

pub returns-in-34 : goal.returns-in-34
returns-in-34 c =
    let bytes = c.behind_blanks-bytes.result.now in
    let opened : get_or bytes 0 0 ≡ 34 = search rules in
    let cut : bytes ≡ 34 ∷ others bytes = behind_first bytes 0 c.in-34.len_at_least ∙ ap (λ b. b ∷ others bytes) opened in
    let blanks = subst (SaysBefore c.args.line.now []) cut c.behind_blanks-bytes.ensures in
    IfOk-weaker c.text_argument.result _ _ (λ x h. front_behind c.args.g.now.cons c.args.line.now (34 ∷ others bytes) x.0 x.1.now blanks (h c.args.g.now.cons)) c.text_argument.ensures

pub returns-in-48-to-57 : goal.returns-in-48-to-57
returns-in-48-to-57 c =
    IfOk-weaker c.number_argument.result _ _ (λ x h. front_behind c.args.g.now.cons c.args.line.now c.behind_blanks-bytes.result.now x.0 x.1.now
    c.behind_blanks-bytes.ensures (h c.args.g.now.cons)) c.number_argument.ensures

pub returns-in_default : goal.returns-in_default
returns-in_default c =
    IfOk-weaker c.constructor_front.result _ _ (λ x h. front_behind c.args.g.now.cons c.args.line.now c.behind_blanks-bytes.result.now x.0 x.1.now
    c.behind_blanks-bytes.ensures h) c.constructor_front.ensures
