use Rattle.std.proofs.Common.{◌≡◌, ◌≤◌, length}
use Rattle.aw_world.proofs.Printers.{AreNew}
use Rattle.aw_world.proofs.listing.new_printers.Given as goal

-- so many were made, and each keeps nothing
abbrev pub invariant-loop-i : goal.invariant-loop-i
invariant-loop-i g l =
    record {
      bound : l.i ≤ length l.sites;
      count : length l.printers.items ≡ l.i;
      new : AreNew l.printers.items;
    }
