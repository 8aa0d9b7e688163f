use Rattle.std.proofs.Common.{◌≡◌, true, length, reverse}
use Rattle.std.specs.Option.{option_copied}
use Rattle.aw_grammar.specs.GrammarOf.{grammar_of}
use Rattle.aw_law_sites.specs.Loads.{next_given}
use Rattle.aw_law_sites.specs.Sites.{Site}
use Rattle.aw_law_sites.specs.ValidNames.{refs_ok}
use Rattle.aw_site.specs.Senders.{SendsAs}
use Rattle.aw_site.specs.Walks.{listed, seen_with}
use Rattle.aw_site.proofs.sender.Sender.next_given.Given as goal

abbrev pub invariant-loop-r : goal.invariant-loop-r
invariant-loop-r g l = record {
  valid : refs_ok (grammar_of l.self.grammar.now) (reverse l.stack.items) ≡ true;
  gives : (s : Site) → SendsAs g.F.Facts l.self s →
      next_given (grammar_of l.self.grammar.now) s (seen_with l.load (listed (option_copied l.first))) (reverse l.stack.items)
      ≡ next_given (grammar_of l.self.grammar.now) s (seen_with l.load (listed (option_copied l.first))) (reverse l.fn.stack.items);
}

abbrev pub decreases-loop-r : goal.decreases-loop-r
decreases-loop-r g l = length l.stack.items
