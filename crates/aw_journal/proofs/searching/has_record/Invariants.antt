use Rattle.std.specs.Prelude.{◌≡◌, ℕ, ◌≤◌, ◌-◌, List, Some, Ok, length, drop}
use Rattle.aw_journal.specs.Pieces.{HasRoom, Holds, OnlyReads}
use Rattle.aw_journal.specs.Standing.{has_record}
use Rattle.aw_journal.proofs.searching.has_record.Given as goal

-- no record begins up to the place
abbrev pub invariant-loop-gate : goal.invariant-loop-gate
invariant-loop-gate g l = record {
  room : HasRoom l.reader;
  end : l.reader.end ≡ l.fn.reader.end;
  few : length l.fn.reader.asked.items ≤ 1048578 → length l.reader.asked.items ≤ 1048578;
  later : l.from ≤ l.place;
  only : OnlyReads {T = Unit {0}} g.P.Pages (Ok tt) l.fn.pages l.pages;
  holds : (file : List ℕ) → g.P.Pages.bytes l.fn.pages ≡ Some file → Holds file l.fn.reader → Holds file l.reader;
  passed : (file : List ℕ) → g.P.Pages.bytes l.fn.pages ≡ Some file → Holds file l.fn.reader → has_record (drop l.from file) ≡ has_record (drop l.place file);
}

abbrev pub decreases-loop-gate : goal.decreases-loop-gate
decreases-loop-gate g l = l.reader.end - l.place
