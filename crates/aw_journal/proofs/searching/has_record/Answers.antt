use Rattle.std.specs.Prelude.{◌≡◌, false, drop}
use Rattle.std.proofs.Common.{sym, ◌∙◌, arith}
use Rattle.aw_journal.specs.Standing.{begins_record}
use Rattle.aw_journal.proofs.Readings.{passed_err, read_ok, read_then}
use Rattle.aw_journal.proofs.Searches.{begun_later}
use Rattle.aw_journal.proofs.searching.has_record.Goals as goal

pub loop-gate-preserved : goal.loop-gate-preserved
loop-gate-preserved g c =
    let was = c.loop-gate.invariant in
    let one = c.in_ok-gate.ensures in
    let begun = c.in_ok-begins_at.ensures in
    let so_far = read_then g.P.Pages g.met.P.Pages.read_on _ _ _ _ _ was.only one.only in
    record {
      room = c.begins_at.ensures.room;
      end = c.begins_at.ensures.end ∙ c.next_one.ensures.end ∙ was.end;
      few = λ le. c.begins_at.ensures.few (rw c.next_one.ensures.asked (was.few le));
      later = omega (arith, was.later, (one.within c.in-Some.gate c.in-Some.is).0);
      only = read_ok g.P.Pages _ _ _ _ (read_then g.P.Pages g.met.P.Pages.read_on _ _ _ _ _ so_far begun.only);
      holds = λ file told h. begun.holds file (so_far.same_bytes ∙ told) (one.holds file (was.only.same_bytes ∙ told) (was.holds file told h));
      passed = λ file told h.
          let told_then = was.only.same_bytes ∙ told in
          let h_then = was.holds file told h in
          let here : begins_record (drop c.in-Some.gate file) ≡ false = sym (begun.begins file (one.only.same_bytes ∙ told_then) (one.holds file told_then h_then)) ∙ c.if-branch.false in
          let next = rw c.in-Some.is at one.found file told_then h_then in
          was.passed file told h ∙ next ∙ begun_later file c.in-Some.gate here;
    }

pub returns-in_err-begins_at-clause-only : goal.returns-in_err-begins_at-clause-only
returns-in_err-begins_at-clause-only g c =
    let so_far = read_then g.P.Pages g.met.P.Pages.read_on _ _ _ _ _ c.loop-gate.invariant.only c.in_ok-gate.ensures.only in
    passed_err g.P.Pages _ _ _ _ c.from_residual-in_err-begins_at.ensures.1 (read_then g.P.Pages g.met.P.Pages.read_on _ _ _ _ _ so_far c.in_err-begins_at.ensures.only)

pub returns-then-branch-clause-only : goal.returns-then-branch-clause-only
returns-then-branch-clause-only g c =
    let so_far = read_then g.P.Pages g.met.P.Pages.read_on _ _ _ _ _ c.loop-gate.invariant.only c.in_ok-gate.ensures.only in
    read_ok g.P.Pages _ _ _ _ (read_then g.P.Pages g.met.P.Pages.read_on _ _ _ _ _ so_far c.in_ok-begins_at.ensures.only)
