use Rattle.std.proofs.Common.{◌++◌, ◌∷◌, ◌∙◌, [], map, ap, sym, subst, All, append_assoc}
use Rattle.std.specs.Vec.Iter.{into_iter_items}
use Rattle.std.proofs.lemmas.List.Elements.{All-head, All-tail}
use Rattle.aw_grammar.specs.GrammarOf.{grammar_of}
use Rattle.aw_store.proofs.NameLemmas.{grows_more}
use Rattle.aw_space.specs.Openings.{IsOpenable, held_in}
use Rattle.aw_space.proofs.making.push_each.Goals as goal

pub push_ready-requires-clause-node : goal.push_ready-requires-clause-node
push_ready-requires-clause-node g c =
    let P = IsOpenable (grammar_of c.args.grammar.now) in
    All-head P c.in-Some.node (into_iter_items c.next.new.self) (subst (All P) c.in-Some.ensures.steps.0 c.loop-node.invariant.rest)

pub loop-node-preserved : goal.loop-node-preserved
loop-node-preserved g c =
    let P = IsOpenable (grammar_of c.args.grammar.now) in
    let node = c.in-Some.node in
    let rest = into_iter_items c.next.new.self in
    let hs = map held_in c.loop-node.more.items in
    record {
      items = ap (λ xs. xs ++ rest) c.in_ok-push_ready.ensures.items ∙ append_assoc hs (node ∷ []) rest ∙ ap (λ xs. hs ++ xs) (sym c.in-Some.ensures.steps.0) ∙ c.loop-node.invariant.items;
      ready = c.in_ok-push_ready.ensures.ready;
      rest = All-tail P node rest (subst (All P) c.in-Some.ensures.steps.0 c.loop-node.invariant.rest);
      equations = c.in_ok-push_ready.ensures.map ∙ c.loop-node.invariant.equations;
      names = grows_more _ _ _ c.loop-node.invariant.names c.in_ok-push_ready.ensures.names;
    }
