use Rattle.std.proofs.Common.{◌≡◌, ◌++◌, ◌∷◌, ◌∙◌, [], ap, sym, subst, true, append_assoc}
use Rattle.std.specs.Vec.Iter.{into_iter_items}
use Rattle.aw_grammar.specs.GrammarOf.{grammar_of}
use Rattle.aw_space.specs.Children.{own_children, are_named}
use Rattle.aw_space.proofs.OwnChildren.{named_first, named_rest, own_cons}
use Rattle.aw_space.proofs.taking.own_children.Goals as goal

pub push_own-requires : goal.push_own-requires
push_own-requires c =
    let gr = grammar_of c.args.grammar.now in
    named_first gr c.in-Some.child (into_iter_items c.next.new.self) (subst (λ cs. are_named gr cs ≡ true) c.in-Some.ensures.steps.0 c.loop-child.invariant.rest)

pub loop-child-preserved : goal.loop-child-preserved
loop-child-preserved c =
    let gr = grammar_of c.args.grammar.now in
    let role = c.args.role in
    let child = c.in-Some.child in
    let rest = into_iter_items c.next.new.self in
    let own = c.loop-child.own.items in
    record {
      items = ap (λ hs. hs ++ own_children gr role rest) c.in_ok-push_own.ensures ∙ append_assoc own (own_children gr role (child ∷ [])) (own_children gr role rest)
          ∙ ap (λ hs. own ++ hs) (sym (own_cons gr role child rest)) ∙ ap (λ cs. own ++ own_children gr role cs) (sym c.in-Some.ensures.steps.0) ∙ c.loop-child.invariant.items;
      rest = named_rest gr child rest (subst (λ cs. are_named gr cs ≡ true) c.in-Some.ensures.steps.0 c.loop-child.invariant.rest);
    }
