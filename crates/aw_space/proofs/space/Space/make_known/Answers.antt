use Rattle.aw_grammar.specs.GrammarOf.{grammar_of}
use Rattle.aw_space.proofs.Stills.{step_named}
use Rattle.aw_space.proofs.space.Space.make_known.Goals as goal

pub invariant_of-self : goal.invariant_of-self
invariant_of-self g c =
    let old = c.args.self.now in
    let s = step_named (grammar_of old.accepted.now.grammar) old.role old.held _ _ old.kept old.sound old.valid old.stands _ _ c.reserve.ensures.map c.reserve.ensures.names in
    record { sound = s.sound; valid = s.valid; stands = s.stands }
