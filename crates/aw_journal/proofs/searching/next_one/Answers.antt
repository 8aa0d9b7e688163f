use Rattle.std.specs.Prelude.{drop}
use Rattle.std.proofs.Common.{sym, ◌∙◌, ap, arith}
use Rattle.aw_journal.specs.Standing.{has_record}
use Rattle.aw_journal.proofs.Readings.{read_ok, read_then}
use Rattle.aw_journal.proofs.Searches.{not_found}
use Rattle.aw_journal.proofs.searching.next_one.Goals as goal

pub loop-reader-preserved : goal.loop-reader-preserved
loop-reader-preserved g c =
    let was = c.loop-reader.invariant in
    let reached = c.in_ok-reach.ensures in
    let held = reached.held c.if-branch.true in
    record {
      room = c.reach.ensures.room;
      end = c.reach.ensures.asked.1 ∙ was.end;
      asked = c.reach.ensures.asked.0 ∙ was.asked;
      later = omega (arith, was.later, held.1, c.held_to-place.ensures);
      only = read_ok g.P.Pages _ _ _ _ (read_then g.P.Pages g.met.P.Pages.read_on _ _ _ _ _ was.only reached.only);
      holds = λ file told h. reached.holds file (was.only.same_bytes ∙ told) (was.holds file told h);
      passed = λ file told h.
          let none = not_found _ _ _ c.in_default.not-Some (c.one_held.ensures.found file (reached.holds file (was.only.same_bytes ∙ told) (was.holds file told h))) in
          was.passed file told h ∙ none ∙ sym (ap (λ n. has_record (drop n file)) c.held_to-place.ensures);
    }
