use Rattle.std.proofs.Common.{sym, inr, Some}
use Rattle.std.proofs.lemmas.Result.{IfOk-weaker, IfErr-weaker}
use Rattle.aw_run.specs.Devices.{wired}
use Rattle.aw_run.specs.Serving.{ServesRole}
use Rattle.aw_run.proofs.ServedOutputs.{named-at, found-in, by-some, by-none, done-no-refusal}
use Rattle.aw_run.proofs.serving.serve_named.Goals as goal

pub serve_role-requires-clause-role : goal.serve_role-requires-clause-role
serve_role-requires-clause-role g c =
    named-at c.args.accepted.now.grammar c.args.name.now c.in-Some.role (rw c.grammar.ensures.value at c.in-Some.ensures)

pub returns-in-Some-clause-reply : goal.returns-in-Some-clause-reply
returns-in-Some-clause-reply g c =
    IfOk-weaker c.serve_role.result _ _
    (λ said w s same typed.
    by-some (λ r. ServesRole s r c.args.sessions (wired g.W.Wire c.args.wire.now c.serve_role.new.wire))
    said s c.args.accepted.now.grammar c.args.name.now c.in-Some.role same (rw c.grammar.ensures.value at c.in-Some.ensures) (w s same typed))
    c.serve_role.ensures.reply

pub returns-in-Some-clause-refused : goal.returns-in-Some-clause-refused
returns-in-Some-clause-refused g c = IfOk-weaker c.serve_role.result _ _ (λ said done refusal. done-no-refusal said done refusal) c.serve_role.ensures.done

pub returns-in-Some-clause-stopped : goal.returns-in-Some-clause-stopped
returns-in-Some-clause-stopped g c =
    IfErr-weaker c.serve_role.result _ _
    (λ stop w s same typed.
    inr (c.in-Some.role, sym (found-in s c.args.accepted.now.grammar c.args.name.now (Some c.in-Some.role) same (rw c.grammar.ensures.value at c.in-Some.ensures)), w s same typed))
    c.serve_role.ensures.stopped

pub returns-in_ok-line-in-None-clause-reply : goal.returns-in_ok-line-in-None-clause-reply
returns-in_ok-line-in-None-clause-reply g c = λ s same typed.
    by-none (λ r. ServesRole s r c.args.sessions (wired g.W.Wire c.args.wire.now c.args.wire.now))
    _ s c.args.accepted.now.grammar c.args.name.now same (rw c.grammar.ensures.value at c.in-None.ensures) c.in_ok-line-in-None.ensures
