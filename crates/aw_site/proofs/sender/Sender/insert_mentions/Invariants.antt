use Rattle.std.proofs.Common.{◌-◌, drop, length, map}
use Rattle.aw_store.specs.EquationView.{equation_of}
use Rattle.aw_law_sites.specs.Asking.{all_mentions}
use Rattle.aw_site.specs.Wanting.{PutsWanted}
use Rattle.aw_site.proofs.sender.Sender.insert_mentions.Given as goal

abbrev pub invariant-loop-i : goal.invariant-loop-i
invariant-loop-i g l = PutsWanted g.F.Facts l.self l.subs (all_mentions (map equation_of (drop (length l.es - l.i) l.es))) l.fn.wanted.items l.wanted.items
