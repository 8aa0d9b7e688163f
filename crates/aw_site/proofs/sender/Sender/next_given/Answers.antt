use Rattle.std.proofs.Common.{◌∙◌, ap, reverse}
use Rattle.std.specs.Option.{option_copied}
use Rattle.aw_grammar.specs.GrammarOf.{grammar_of}
use Rattle.aw_law_sites.specs.Loads.{next_given}
use Rattle.aw_site.specs.Walks.{listed, seen_with}
use Rattle.aw_site.proofs.Named.{popped_valid}
use Rattle.aw_site.proofs.Walking.{given_here, given_later}
use Rattle.aw_site.proofs.sender.Sender.next_given.Goals as goal

pub give-requires : goal.give-requires
give-requires g c = (popped_valid (grammar_of c.args.self.now.grammar.now) c.pop.new.self.items c.loop-r.stack.items c.in-Some.r c.in-Some.ensures.items c.loop-r.invariant.valid).0

pub returns-in-Some-2-clause-valid : goal.returns-in-Some-2-clause-valid
returns-in-Some-2-clause-valid g c =
    c.in_ok-e.ensures.valid (popped_valid (grammar_of c.args.self.now.grammar.now) c.pop.new.self.items c.loop-r.stack.items c.in-Some.r c.in-Some.ensures.items c.loop-r.invariant.valid).1

pub returns-in-Some-2-clause-gives : goal.returns-in-Some-2-clause-gives
returns-in-Some-2-clause-gives g c = λ s sends.
    let gr = grammar_of c.args.self.now.grammar.now in
    given_here gr s (seen_with c.args.load.now (listed (option_copied c.args.first))) c.args.stack.now.items c.loop-r.stack.items c.pop.new.self.items
    c.in-Some.r c.in_ok-e.field-0 (reverse c.give.new.stack.items)
    (c.loop-r.invariant.gives s sends) c.in-Some.ensures.items (c.in_ok-e.ensures.gives s sends _) c.in-Some-2.e c.in-Some-2.is

pub loop-r-preserved : goal.loop-r-preserved
loop-r-preserved g c =
    let gr = grammar_of c.args.self.now.grammar.now in
    let seen = seen_with c.args.load.now (listed (option_copied c.args.first)) in
    record {
      valid = c.in_ok-e.ensures.valid (popped_valid gr c.pop.new.self.items c.loop-r.stack.items c.in-Some.r c.in-Some.ensures.items c.loop-r.invariant.valid).1;
      gives = λ s sends.
          ap (λ xs. next_given gr s seen (reverse xs)) (c.in_ok-e.ensures.none c.in_default-2.is)
          ∙ given_later gr s seen c.args.stack.now.items c.loop-r.stack.items c.pop.new.self.items c.in-Some.r c.in_ok-e.field-0 (reverse c.give.new.stack.items)
          (c.loop-r.invariant.gives s sends) c.in-Some.ensures.items (c.in_ok-e.ensures.gives s sends _) c.in_default-2.is;
    }
