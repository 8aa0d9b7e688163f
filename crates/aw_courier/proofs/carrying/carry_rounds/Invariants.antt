use Rattle.aw_grammar.specs.GrammarOf.{grammar_of}
use Rattle.aw_courier.specs.Mails.{HasRoles}
use Rattle.aw_courier.proofs.RoundLemmas.{IsCarrying}
use Rattle.aw_courier.proofs.carrying.carry_rounds.Given as goal

abbrev pub invariant-rounds : goal.invariant-rounds
invariant-rounds g l = record {
  roles : HasRoles l.roles l.mails;
  carrying : IsCarrying (grammar_of l.g.grammar) g.W.Wire.content g.W.Wire.faults g.W.Wire.failed_openings l.made l.fn.wire l.wire l.mails;
}
