-- A valid node of the program, printed and read by it.
use Rattle.std.proofs.Common.{◌≡◌, ap, ◌∙◌, List, true, is_some}
use Rattle.std.proofs.Math.Logic.{∥∥₁_elim}
use Rattle.std.specs.Prelude.{ℕ}
use Rattle.aw_term.specs.Names.{Node}
use Rattle.aw_term.specs.Rules.{sort_of}
use Rattle.aw_term.specs.Artifacts.{node_text}
use Rattle.aw_grammar.specs.GrammarOf.{grammar_of, words_of}
use Rattle.aw_base.specs.NodeNames.{Named, node_read}
use Rattle.aw_grammar.specs.declared.grammar.Grammar.{Grammar}
use Rattle.aw_sched.specs.Printed.{IsHeld}
use Rattle.aw_sched.proofs.NodeProps.{named_prop}
use Rattle.aw_sched.proofs.Reading.{node_again}

pub read_by_grammar : (g : Grammar) (n : Node) (text : List ℕ) → IsHeld n → is_some (sort_of (grammar_of g) n) ≡ true → text ≡ node_text (words_of g)
    n → node_read (words_of g) (grammar_of g) text ≡ Named n
read_by_grammar g n text held valid e =
    ap (node_read (words_of g) (grammar_of g)) e
    ∙ ∥∥₁_elim g.well_formed (named_prop (node_read (words_of g) (grammar_of g) (node_text (words_of g) n)) n)
    (λ formed. node_again (words_of g) (grammar_of g) n formed held valid)
