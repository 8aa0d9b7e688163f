use Rattle.std.proofs.Common.{[], refl, sym, subst, arith}
use Rattle.std.proofs.lemmas.List.{append-nil}
use Rattle.aw_grammar.specs.GrammarOf.{grammar_of}
use Rattle.aw_store.specs.NamedRefs.{Grows}
use Rattle.aw_standing.specs.KeptStates.{IsKept}
use Rattle.aw_space.specs.Openings.{IsReady}
use Rattle.aw_space.proofs.Arriving.{held_sound, held_valid}
use Rattle.aw_space.proofs.Openings.{ready_named, tests_are}
use Rattle.aw_space.proofs.space.Space.put.Goals as goal

pub put_open-requires-clause-lacks : goal.put_open-requires-clause-lacks
put_open-requires-clause-lacks g c = c.requires.may.lacks

pub put_open-requires-clause-ready : goal.put_open-requires-clause-ready
put_open-requires-clause-ready g c =
    subst (λ x. IsReady (grammar_of x) (g.F.Facts.names c.args.self.now.facts) c.args.opening) (sym c.grammar-grammar.ensures.value) c.requires.ready.0

pub put_open-requires-clause-stands : goal.put_open-requires-clause-stands
put_open-requires-clause-stands g c =
    let old = c.args.self.now in
    subst (λ x. IsKept (grammar_of x) old.held (g.F.Facts.map old.facts) (g.F.Facts.names old.facts) old.kept) (sym c.grammar-grammar.ensures.value) old.stands

pub put_open-requires-clause-place : goal.put_open-requires-clause-place
put_open-requires-clause-place g c = c.requires.ready.1

pub put_open-requires-clause-room : goal.put_open-requires-clause-room
put_open-requires-clause-room g c = c.requires.ready.2

pub invariant_of-self : goal.invariant_of-self
invariant_of-self g c =
    let old = c.args.self.now in
    let gr = grammar_of old.accepted.now.grammar in
    let hs = old.held.items in
    let ks = c.put_open.new.held.items in
    let k = g.F.Facts.map old.facts in
    let names = g.F.Facts.names old.facts in
    let h = c.args.opening.held in
    let grows : Grows names names = ([], sym (append-nil names)) in
    let held = c.put_open.ensures.items in
    let ordered = c.put_open.ensures.ordered in
    record {
      sound = held_sound gr old.role hs ks k k names names ordered grows old.sound h c.requires.may held refl (ready_named gr names c.args.opening c.requires.ready.0);
      valid = held_valid gr old.role hs ks k k names names ordered grows old.sound h c.requires.may held refl;
      stands = subst (λ x. IsKept (grammar_of x) c.put_open.new.held k names c.put_open.new.kept) c.grammar-grammar.ensures.value c.put_open.ensures.stands;
    }

pub returns-clause-steps : goal.returns-clause-steps
returns-clause-steps g c =
    let old = c.args.self.now in
    omega (arith, c.put_open.ensures.steps, tests_are (grammar_of old.accepted.now.grammar) (g.F.Facts.names old.facts) c.args.opening c.requires.ready.0)
