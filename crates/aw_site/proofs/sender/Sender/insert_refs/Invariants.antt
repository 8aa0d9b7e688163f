use Rattle.std.proofs.Common.{◌-◌, drop, length}
use Rattle.aw_site.specs.Wanting.{PutsWanted}
use Rattle.aw_site.proofs.sender.Sender.insert_refs.Given as goal

abbrev pub invariant-loop-i : goal.invariant-loop-i
invariant-loop-i g l = PutsWanted g.F.Facts l.self l.subs (drop (length l.refs - l.i) l.refs) l.fn.wanted.items l.wanted.items
