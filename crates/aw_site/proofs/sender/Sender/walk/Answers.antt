use Rattle.std.proofs.Common.{◌≡◌, true, reverse, Option, subst}
use Rattle.std.specs.Prelude.{IfSome}
use Rattle.std.specs.Option.{option_copied}
use Rattle.aw_grammar.specs.GrammarOf.{grammar_of}
use Rattle.aw_store.specs.declared.equation.Equation.{Equation}
use Rattle.aw_law_sites.specs.ValidNames.{refs_ok}
use Rattle.aw_site.specs.Walks.{listed}
use Rattle.aw_site.proofs.Walking.{at_slice, walked_more, walked_end}
use Rattle.aw_site.proofs.sender.Sender.walk.Goals as goal

pub returns-in-None : goal.returns-in-None
returns-in-None g c = record {
  load = λ s sends.
      let gr = grammar_of c.args.self.now.grammar.now in
      walked_end c.loop-i.i c.args.most gr s c.loop-i.load.items (listed (option_copied c.args.first)) _ _ _ c.loop-i-test.true
      (at_slice gr s _ _ _ _ _ _ _ c.as_slice.ensures.value c.in-None.is (c.in_ok-e.ensures.gives s sends)) (c.loop-i.invariant.load s sends);
}

pub loop-i-preserved : goal.loop-i-preserved
loop-i-preserved g c =
    let gr = grammar_of c.args.self.now.grammar.now in
    record {
      valid = subst (λ (o : Option Equation). IfSome o (λ x. refs_ok gr (reverse c.next_given.new.stack.items) ≡ true)) c.in-Some.is c.in_ok-e.ensures.valid;
      load = λ s sends.
          walked_more c.loop-i.i c.args.most gr s c.loop-i.load.items c.push.new.self.items (listed (option_copied c.args.first)) c.in-Some.e _ _ _ c.loop-i-test.true
          (at_slice gr s _ _ _ _ _ _ _ c.as_slice.ensures.value c.in-Some.is (c.in_ok-e.ensures.gives s sends)) c.in_ok-push-in-Some.ensures.items (c.loop-i.invariant.load s sends);
    }
