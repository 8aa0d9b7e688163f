use Rattle.std.specs.Prelude.{◌≡◌, ℕ, ◌≤◌, ◌-◌, List, Some, Ok, length, take, drop}
use Rattle.aw_journal.specs.Pieces.{HasRoom, Holds, OnlyReads}
use Rattle.aw_journal.proofs.pieces.ask.Given as goal

abbrev pub invariant-loop-reader : goal.invariant-loop-reader
invariant-loop-reader g l = record {
  room : HasRoom l.reader;
  end : l.reader.end ≡ l.fn.reader.end;
  most : length l.reader.asked.items ≤ l.count;
  only : OnlyReads {T = Unit {0}} g.P.Pages (Ok tt) l.fn.pages l.pages;
  holds : (file : List ℕ) → g.P.Pages.bytes l.fn.pages ≡ Some file → Holds file l.fn.reader → Holds file l.reader;
  asked : (file : List ℕ) → g.P.Pages.bytes l.fn.pages ≡ Some file → Holds file l.fn.reader → l.reader.asked.items ≡ take (length l.reader.asked.items) (drop l.at file);
}

abbrev pub decreases-loop-reader : goal.decreases-loop-reader
decreases-loop-reader g l = l.count - length l.reader.asked.items
