use Rattle.std.proofs.Common.{rules, ◌≡◌, [], refl, subst, get_or, length}
use Rattle.std.proofs.lemmas.List.{nil_from_length}
use Rattle.std.proofs.lemmas.Result.{IfOk-weaker}
use Rattle.aw_sched.specs.ByteArguments.{SaysBefore}
use Rattle.aw_sched.proofs.ByteFronts.{mark_passed, others}
use Rattle.aw_sched.proofs.ReadArguments.{none_read, some_read}
use Rattle.aw_sched.proofs.known.read_all.Goals as goal

pub returns-in-empty : goal.returns-in-empty
returns-in-empty c =
    let line = c.args.line.now in
    let bytes = c.behind_blanks.result.now in
    let none : length bytes ≡ 0 = search rules in
    none_read c.args.g.now.cons c.new.result line c.new.ensures (subst (SaysBefore line []) (nil_from_length bytes none) c.behind_blanks.ensures)

pub returns-in-123 : goal.returns-in-123
returns-in-123 c =
    let line = c.args.line.now in
    let bytes = c.behind_blanks.result.now in
    let opened : get_or bytes 0 0 ≡ 123 = search rules in
    IfOk-weaker c.read_in_braces.result _ _
    (λ xs h. some_read c.args.g.now.cons line (others bytes) xs (mark_passed line bytes 0 123 c.behind_blanks.ensures c.in-123.len_at_least opened (refl, refl)) h)
    c.read_in_braces.ensures
