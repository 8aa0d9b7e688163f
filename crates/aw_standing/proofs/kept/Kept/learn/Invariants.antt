use Rattle.std.proofs.Common.{◌≡◌, ℕ, ◌+◌, ◌≤◌, true, List, Some, slice_get}
use Rattle.std.specs.Prelude.{is_some}
use Rattle.aw_term.specs.Names.{Ref}
use Rattle.aw_store.specs.Chase.{Missing, chase}
use Rattle.aw_store.specs.NamedRefs.{body_at}
use Rattle.aw_grammar.specs.GrammarOf.{grammar_of}
use Rattle.aw_node_list.specs.Row.{Row}
use Rattle.aw_work.specs.Triples.{waiting_at}
use Rattle.aw_standing.specs.KeptStates.{IsFitKept, IsKeptBut, HasRoom}
use Rattle.aw_standing.proofs.kept.Kept.learn.Given as goal

abbrev pub invariant-loop-pair : goal.invariant-loop-pair
invariant-loop-pair g l = record {
  fits : IsFitKept (grammar_of l.grammar) (g.F.Facts.names l.facts) l.self;
  kept : (row : Row) (late : List Ref) → IsKeptBut (grammar_of l.grammar) row (g.F.Facts.map l.facts) (g.F.Facts.names l.facts) late l.initial.self
      → IsKeptBut (grammar_of l.grammar) row (g.F.Facts.map l.facts) (g.F.Facts.names l.facts) late l.self;
  room : (n w : ℕ) → HasRoom l.initial.self n w → HasRoom l.self n w;
  fewer : (q : ℕ) → is_some (body_at (g.F.Facts.map l.facts) (g.F.Facts.names l.facts) q) ≡ true → waiting_at q l.self.work.waiting ≤ waiting_at q l.initial.self.work.waiting;
  steps : l.steps + waiting_at l.slot l.self.work.waiting ≤ l.initial.steps + waiting_at l.slot l.initial.self.work.waiting;
  leads_on : (r end : Ref) → slice_get (g.F.Facts.names l.facts) l.slot ≡ Some r → chase (g.F.Facts.map l.facts) r ≡ Missing end → l.steps ≡ l.initial.steps;
}

abbrev pub decreases-loop-pair : goal.decreases-loop-pair
decreases-loop-pair g l = waiting_at l.slot l.self.work.waiting
