use Rattle.std.proofs.Common.{sym, inr, Some}
use Rattle.std.proofs.lemmas.Result.{IfOk-weaker, IfErr-weaker}
use Rattle.aw_run.specs.Devices.{around}
use Rattle.aw_run.specs.Keeping.{KeepsRole}
use Rattle.aw_run.proofs.ServedOutputs.{named-at, found-in, by-some, by-none, done-no-refusal}
use Rattle.aw_run.proofs.keeping.keep_named.Goals as goal

pub keep_role-requires-clause-role : goal.keep_role-requires-clause-role
keep_role-requires-clause-role g c =
    named-at c.args.accepted.now.grammar c.args.name.now c.in-Some.role (rw c.grammar.ensures.value at c.in-Some.ensures)

pub returns-in-Some-clause-reply : goal.returns-in-Some-clause-reply
returns-in-Some-clause-reply g c =
    IfOk-weaker c.keep_role.result _ _
    (λ said w s same typed spells.
    by-some (λ r. KeepsRole s r c.args.sessions (around g.W.Wire g.D.Disk c.args.wire.now c.keep_role.new.wire c.args.disk.now c.keep_role.new.disk))
    said s c.args.accepted.now.grammar c.args.name.now c.in-Some.role same (rw c.grammar.ensures.value at c.in-Some.ensures) (w s same typed spells))
    c.keep_role.ensures.reply

pub returns-in-Some-clause-refused : goal.returns-in-Some-clause-refused
returns-in-Some-clause-refused g c = IfOk-weaker c.keep_role.result _ _ (λ said done refusal. done-no-refusal said done refusal) c.keep_role.ensures.done

pub returns-in-Some-clause-stopped : goal.returns-in-Some-clause-stopped
returns-in-Some-clause-stopped g c =
    IfErr-weaker c.keep_role.result _ _
    (λ stop w s same typed spells.
    inr (c.in-Some.role, sym (found-in s c.args.accepted.now.grammar c.args.name.now (Some c.in-Some.role) same (rw c.grammar.ensures.value at c.in-Some.ensures)), w s same typed spells))
    c.keep_role.ensures.stopped

pub returns-in_ok-line-in-None-clause-reply : goal.returns-in_ok-line-in-None-clause-reply
returns-in_ok-line-in-None-clause-reply g c = λ s same typed spells.
    by-none (λ r. KeepsRole s r c.args.sessions (around g.W.Wire g.D.Disk c.args.wire.now c.args.wire.now c.args.disk.now c.args.disk.now))
    _ s c.args.accepted.now.grammar c.args.name.now same (rw c.grammar.ensures.value at c.in-None.ensures) c.in_ok-line-in-None.ensures
