use Rattle.std.proofs.Common.{Err, ap, sym, ◌∙◌, subst}
use Rattle.std.specs.Prelude.{IfErr}
use Rattle.aw_list.proofs.Members.{never, member_got}
use Rattle.aw_grammar.specs.GrammarOf.{grammar_of}
use Rattle.aw_iograph.specs.Dependence.{IO, HasNoCircle}
use Rattle.aw_accept.specs.Refusals.{Tells}
use Rattle.aw_trial.proofs.Declares.{trial_no_circle}
use Rattle.aw_trial.proofs.making.accept_trial.Goals as goal

pub unreachable-requires : goal.unreachable-requires
unreachable-requires c =
    let g = grammar_of c.args.g in
    let told = subst (λ r. IfErr r (λ e. Tells c.args.g e)) (c.in-Err-Circular.is ∙ ap Err c.in-Err-Circular.field-0-is) c.accept.ensures.circular in
    let (r, there, circle) = told.1.0 in
    let none = subst (λ h. HasNoCircle h (IO h)) (sym c.requires.grammar) trial_no_circle in
    never (none r (member_got g.rules c.in-Err-Circular.field-0-1 r there) c.in-Err-Circular.field-0-2 circle.0)
