use Rattle.std.proofs.Common.{[]}
use Rattle.aw_grammar.specs.GrammarOf.{grammar_of}
use Rattle.aw_space.proofs.Stills.{step_placed}
use Rattle.aw_space.proofs.space.Space.make_place.Goals as goal

pub invariant_of-self : goal.invariant_of-self
invariant_of-self g c =
    let old = c.args.self.now in
    let gr = grammar_of old.accepted.now.grammar in
    let s = step_placed gr old.role old.held _ _ old.kept old.sound old.valid old.stands c.reserve.new.self c.reserve.ensures.items c.reserve.ensures.numbers in
    record { sound = s.sound; valid = s.valid; stands = s.stands }

pub invariant_of-self-2 : goal.invariant_of-self-2
invariant_of-self-2 g c =
    let old = c.args.self.now in
    let gr = grammar_of old.accepted.now.grammar in
    let k = g.F.Facts.map old.facts in
    let names = g.F.Facts.names old.facts in
    let s = step_placed gr old.role old.held k names old.kept old.sound old.valid old.stands c.reserve.new.self c.reserve.ensures.items c.reserve.ensures.numbers in
    record { sound = s.sound; valid = s.valid; stands = c.reserve-2.ensures.kept gr c.reserve.new.self k names [] s.stands }
