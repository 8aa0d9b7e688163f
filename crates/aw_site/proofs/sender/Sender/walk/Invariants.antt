use Rattle.std.proofs.Common.{◌≡◌, true, ◌++◌, ◌-◌, map, reverse}
use Rattle.std.specs.Option.{option_copied}
use Rattle.aw_grammar.specs.GrammarOf.{grammar_of}
use Rattle.aw_store.specs.EquationView.{equation_of}
use Rattle.aw_law_sites.specs.Loads.{walk}
use Rattle.aw_law_sites.specs.Sites.{Site}
use Rattle.aw_law_sites.specs.ValidNames.{refs_ok}
use Rattle.aw_site.specs.Senders.{SendsAs}
use Rattle.aw_site.specs.Walks.{listed, seen_with}
use Rattle.aw_site.proofs.sender.Sender.walk.Given as goal

abbrev pub invariant-loop-i : goal.invariant-loop-i
invariant-loop-i g l = record {
  valid : refs_ok (grammar_of l.self.grammar.now) (reverse l.stack.items) ≡ true;
  load : (s : Site) → SendsAs g.F.Facts l.self s →
      map equation_of l.load.items ++ walk (l.most - l.i) (grammar_of l.self.grammar.now) s (seen_with l.load.items (listed (option_copied l.first))) (reverse l.stack.items)
      ≡ walk l.most (grammar_of l.self.grammar.now) s (listed (option_copied l.first)) l.refs;
}
