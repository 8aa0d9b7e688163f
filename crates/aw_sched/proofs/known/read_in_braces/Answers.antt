use Rattle.std.proofs.Common.{◌≡◌, ◌∙◌, [], sym, subst, length, arith}
use Rattle.std.proofs.lemmas.Bool.{eqb-true}
use Rattle.std.proofs.lemmas.List.{nil_from_length}
use Rattle.aw_sched.specs.ByteArguments.{SaysBefore}
use Rattle.aw_sched.proofs.known.read_in_braces.Goals as goal

pub returns-then-is_empty : goal.returns-then-is_empty
returns-then-is_empty c =
    let after = c.arguments.new.self in
    let left = c.behind_blanks in
    let none : length left.result.now ≡ 0 = eqb-true (length left.result.now) 0 (sym c.is_empty.ensures ∙ c.if-is_empty.true) in
    record {
      left = after.room;
      rest = after.rest.now;
      reads = c.in_ok-arguments.ensures.reads;
      ends = subst (SaysBefore after.rest.now []) (nil_from_length left.result.now none) left.ensures;
      few = omega (arith, c.len.ensures, c.if-len-le-MOST_ARGUMENTS.true);
    }
