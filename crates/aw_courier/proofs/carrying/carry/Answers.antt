use Rattle.std.proofs.Math.Logic.{∥∥₁_elim, ∥∥₁_map}
use Rattle.std.proofs.Common.{subst}
use mathlib.Core.Logic.{∥∥₁_prop}
use Rattle.aw_grammar.specs.GrammarOf.{grammar_of, words_of}
use Rattle.aw_law_nodes.specs.Sizes.{GrammarSized}
use Rattle.aw_courier.proofs.HonestLemmas.{means-over-honest}
use Rattle.aw_courier.proofs.carrying.carry.Goals as goal

pub returns-clause-world : goal.returns-clause-world
returns-clause-world g c =
    let a = c.args.g.now in
    ∥∥₁_elim a.grammar.well_formed ∥∥₁_prop (λ w. ∥∥₁_map a.sound (λ s.
    means-over-honest (words_of a.grammar) (grammar_of a.grammar) (c.courier_laws.ensures.quiet (words_of a.grammar) (grammar_of a.grammar) (w, s))
    (c.courier_laws.ensures.ends (words_of a.grammar) (grammar_of a.grammar) (w, s)) (c.courier_laws.ensures.honest (words_of a.grammar) (grammar_of a.grammar) (w, s))
    (subst (λ h. GrammarSized (grammar_of h)) c.grammar.ensures.value c.see_rules.ensures) _ _ _ _ _ _ c.carry_rounds.result c.carry_rounds.ensures.ok))
