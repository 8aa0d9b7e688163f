use Rattle.std.proofs.Common.{◌∙◌, arith}
use Rattle.aw_journal.proofs.Readings.{read_ok, read_then}
use Rattle.aw_journal.proofs.searching.ends_at.Goals as goal

pub loop-reader-preserved : goal.loop-reader-preserved
loop-reader-preserved g c =
    let was = c.loop-reader.invariant in
    let reached = c.in_ok-reach.ensures in
    let held = reached.held c.if-branch.true in
    record {
      room = c.reach.ensures.room;
      end = c.reach.ensures.asked.1 ∙ was.end;
      asked = c.reach.ensures.asked.0 ∙ was.asked;
      later = omega (arith, was.later, held.1, c.held_to-place.ensures);
      only = read_ok g.P.Pages _ _ _ _ (read_then g.P.Pages g.met.P.Pages.read_on _ _ _ _ _ was.only reached.only);
      holds = λ file told h. reached.holds file (was.only.same_bytes ∙ told) (was.holds file told h);
      within = λ file told h le. omega (arith, (reached.holds file (was.only.same_bytes ∙ told) (was.holds file told h)).within, c.held_to-place.ensures);
    }
