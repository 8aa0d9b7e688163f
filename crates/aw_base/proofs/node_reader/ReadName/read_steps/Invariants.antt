use Rattle.std.proofs.Common.{◌≡◌, ◌-◌, length}
use Rattle.aw_grammar.specs.GrammarOf.{grammar_of, words_of}
use Rattle.aw_base.specs.ReadFronts.{IsReadBy, StandsAt}
use Rattle.aw_base.proofs.node_reader.ReadName.read_steps.Given as goal

abbrev pub invariant-loop-last : goal.invariant-loop-last
invariant-loop-last l =
    record {
      read : IsReadBy l.g l.self;
      stands : StandsAt (words_of l.g) (grammar_of l.g) l.self l.last;
      same : l.self.text ≡ l.fn.self.text;
    }

abbrev pub decreases-loop-last : goal.decreases-loop-last
decreases-loop-last l = length l.self.text.items - l.last.end
