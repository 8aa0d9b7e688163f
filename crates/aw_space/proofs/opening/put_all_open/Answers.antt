use Rattle.std.proofs.Common.{◌≡◌, ◌∷◌, ◌∙◌, List, length, map, ap, sym, subst, arith, All}
use Rattle.std.specs.Vec.Iter.{into_iter_items}
use Rattle.std.proofs.lemmas.List.Elements.{All-head, All-tail}
use Rattle.std.proofs.lemmas.List.Sums.{sum_by-cons}
use Rattle.aw_grammar.specs.GrammarOf.{grammar_of}
use Rattle.aw_node_list.specs.InOrder.{LackEach, insert_all_in}
use Rattle.aw_standing.specs.KeptStates.{HasRoom}
use Rattle.aw_space.specs.Openings.{IsReady, all_tests, held_in, tests_of}
use Rattle.aw_space.specs.declared.opening.Opening.{Opening}
use Rattle.aw_space.proofs.Openings.{less_room}
use Rattle.aw_space.proofs.opening.put_all_open.Goals as goal

pub put_open-requires-clause-lacks : goal.put_open-requires-clause-lacks
put_open-requires-clause-lacks g c =
    (subst (λ os. LackEach (map held_in os) c.loop-new.held.items) c.in-Some.ensures.steps.0 c.loop-new.invariant.lacks).0

pub put_open-requires-clause-ready : goal.put_open-requires-clause-ready
put_open-requires-clause-ready g c =
    let P = IsReady (grammar_of c.args.grammar.now) (g.F.Facts.names c.args.facts.now) in
    All-head P c.in-Some.new (into_iter_items c.next.new.self) (subst (All P) c.in-Some.ensures.steps.0 c.loop-new.invariant.ready)

pub put_open-requires-clause-room : goal.put_open-requires-clause-room
put_open-requires-clause-room g c =
    let rest = into_iter_items c.next.new.self in
    less_room c.loop-new.kept _ _ _ _ (subst (λ (os : List Opening). HasRoom c.loop-new.kept (length os) (all_tests os)) c.in-Some.ensures.steps.0 c.loop-new.invariant.room)
    (omega arith) (omega (arith, sum_by-cons tests_of c.in-Some.new rest))

pub loop-new-preserved : goal.loop-new-preserved
loop-new-preserved g c =
    let o = c.in-Some.new in
    let rest = into_iter_items c.next.new.self in
    let held = c.loop-new.held in
    let lists : into_iter_items c.loop-new.new-iterator ≡ o ∷ rest = c.in-Some.ensures.steps.0 in
    let P = IsReady (grammar_of c.args.grammar.now) (g.F.Facts.names c.args.facts.now) in
    record {
      items = ap (insert_all_in (map held_in rest)) c.put_open.ensures.items ∙ ap (λ (os : List Opening). insert_all_in (map held_in os) held.items) (sym lists) ∙ c.loop-new.invariant.items;
      lacks = subst (LackEach (map held_in rest)) (sym c.put_open.ensures.items) (subst (λ os. LackEach (map held_in os) held.items) lists c.loop-new.invariant.lacks).1;
      ordered = c.put_open.ensures.ordered;
      ready = All-tail P o rest (subst (All P) lists c.loop-new.invariant.ready);
      stands = c.put_open.ensures.stands;
      place = omega (arith, c.loop-new.invariant.place, ap length lists, c.put_open.ensures.place);
      room = c.put_open.ensures.room (length rest) (all_tests rest)
          (less_room c.loop-new.kept _ _ _ _ (subst (λ (os : List Opening). HasRoom c.loop-new.kept (length os) (all_tests os)) lists c.loop-new.invariant.room) (omega arith)
          (omega (arith, sum_by-cons tests_of o rest)));
      steps = omega (arith, c.loop-new.invariant.steps, ap all_tests lists, c.put_open.ensures.steps, sum_by-cons tests_of o rest);
    }
