use Rattle.std.proofs.Common.{sym, ◌∙◌}
use Rattle.std.proofs.lemmas.Bool.{false≢true}
use Rattle.aw_grammar.specs.GrammarOf.{grammar_of}
use Rattle.aw_modular.specs.Declaring.{IsElsewhere}
use Rattle.aw_modular.proofs.Declarings.{adds_any}
use Rattle.aw_modular.proofs.declaring.add_elsewhere.Goals as goal

pub returns-then-not-is_of-clause-pairs : goal.returns-then-not-is_of-clause-pairs
returns-then-not-is_of-clause-pairs c =
    adds_any (IsElsewhere (grammar_of c.args.g.now) c.args.role) c.args.triple c.args.io.now c.add.new.io
    (λ own. absurd (false≢true (sym c.if-not-is_of.true ∙ c.is_of.ensures.1 own))) c.add.ensures.pairs
