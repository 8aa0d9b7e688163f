use Rattle.std.proofs.Common.{◌<◌, length}
use Rattle.aw_print.specs.Ends.{AreEnds, EndsAt, end_at}
use Rattle.aw_print.proofs.ends.Ends.keep_way.Given as goal

-- what is kept is so, and the end is that of the slot that was reached
abbrev pub invariant-loop-i : goal.invariant-loop-i
invariant-loop-i g l =
    record {
      live : l.at < length (g.F.Facts.names l.f);
      ends : AreEnds (g.F.Facts.map l.f) (g.F.Facts.names l.f) l.self;
      end : EndsAt (g.F.Facts.map l.f) (g.F.Facts.names l.f) l.at (end_at l.at l.end);
    }
