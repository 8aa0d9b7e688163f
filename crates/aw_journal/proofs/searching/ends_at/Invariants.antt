use Rattle.std.specs.Prelude.{◌≡◌, ℕ, ◌≤◌, ◌-◌, List, Some, Ok, length}
use Rattle.aw_journal.specs.Pieces.{HasRoom, Holds, OnlyReads}
use Rattle.aw_journal.proofs.searching.ends_at.Given as goal

-- the file goes on up to the place
abbrev pub invariant-loop-reader : goal.invariant-loop-reader
invariant-loop-reader g l = record {
  room : HasRoom l.reader;
  end : l.reader.end ≡ l.fn.reader.end;
  asked : l.reader.asked ≡ l.fn.reader.asked;
  later : l.from ≤ l.place;
  only : OnlyReads {T = Unit {0}} g.P.Pages (Ok tt) l.fn.pages l.pages;
  holds : (file : List ℕ) → g.P.Pages.bytes l.fn.pages ≡ Some file → Holds file l.fn.reader → Holds file l.reader;
  within : (file : List ℕ) → g.P.Pages.bytes l.fn.pages ≡ Some file → Holds file l.fn.reader → l.from ≤ length file → l.place ≤ length file;
}

abbrev pub decreases-loop-reader : goal.decreases-loop-reader
decreases-loop-reader g l = l.reader.end - l.place
