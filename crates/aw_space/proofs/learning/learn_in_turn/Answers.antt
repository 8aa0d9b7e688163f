use Rattle.std.proofs.Common.{◌≡◌, None, ◌∷◌, ◌∙◌, sym, ap, subst, map, true, Contains, arith}
use Rattle.std.proofs.lemmas.Bool.{and_parts}
use Rattle.std.specs.Vec.Iter.{into_iter_items}
use Rattle.aw_grammar.specs.GrammarOf.{grammar_of}
use Rattle.aw_node_list.specs.HeldView.{all_of}
use Rattle.aw_store.specs.EquationView.{equation_of}
use Rattle.aw_store.specs.NamedRefs.{is_named, all_named}
use Rattle.aw_store.specs.StoreView.{has_few, all_few}
use Rattle.aw_store.proofs.NameLemmas.{grows_more, all_named-grown}
use Rattle.aw_store.proofs.AddLemmas.{contains_first, contains_later}
use Rattle.aw_law_sites.specs.Receiving.{add_all, first_clash}
use Rattle.aw_space.specs.Waking.{lefts_of, turns_cost}
use Rattle.aw_space.proofs.Clashes.{first_free}
use Rattle.aw_space.proofs.learning.learn_in_turn.Goals as goal

pub learn_sure-requires-clause-ready : goal.learn_sure-requires-clause-ready
learn_sure-requires-clause-ready g c =
    let e = equation_of c.in-Some.e in
    let es = map equation_of (into_iter_items c.next.new.self) in
    let lists : map equation_of (into_iter_items c.loop-e.e-iterator) ≡ e ∷ es = ap (map equation_of) c.in-Some.ensures.steps.0 in
    c.loop-e.invariant.ready e (subst (λ l. Contains l e) (sym lists) (contains_first e es))

pub learn_sure-requires-clause-free : goal.learn_sure-requires-clause-free
learn_sure-requires-clause-free g c =
    let k = g.F.Facts.map c.loop-e.facts in
    let e = equation_of c.in-Some.e in
    let es = map equation_of (into_iter_items c.next.new.self) in
    let lists : map equation_of (into_iter_items c.loop-e.e-iterator) ≡ e ∷ es = ap (map equation_of) c.in-Some.ensures.steps.0 in
    (first_free k e es (subst (λ l. first_clash k l ≡ None) lists c.loop-e.invariant.free)).0

pub learn_sure-requires-clause-named : goal.learn_sure-requires-clause-named
learn_sure-requires-clause-named g c =
    let names = g.F.Facts.names c.loop-e.facts in
    let e = equation_of c.in-Some.e in
    let es = map equation_of (into_iter_items c.next.new.self) in
    let lists : map equation_of (into_iter_items c.loop-e.e-iterator) ≡ e ∷ es = ap (map equation_of) c.in-Some.ensures.steps.0 in
    (and_parts (is_named names e.left) (all_named names (lefts_of es)) (subst (λ l. all_named names (lefts_of l) ≡ true) lists c.loop-e.invariant.named)).0

pub loop-e-preserved : goal.loop-e-preserved
loop-e-preserved g c =
    let gr = grammar_of c.args.grammar.now in
    let k = g.F.Facts.map c.loop-e.facts in
    let l = g.F.Facts.map c.learn_sure.new.facts in
    let names = g.F.Facts.names c.loop-e.facts in
    let more = g.F.Facts.names c.learn_sure.new.facts in
    let e = equation_of c.in-Some.e in
    let es = map equation_of (into_iter_items c.next.new.self) in
    let lists : map equation_of (into_iter_items c.loop-e.e-iterator) ≡ e ∷ es = ap (map equation_of) c.in-Some.ensures.steps.0 in
    record {
      equations = ap (λ m. add_all m es) c.learn_sure.ensures.map ∙ ap (add_all k) (sym lists) ∙ c.loop-e.invariant.equations;
      free = subst (λ m. first_clash m es ≡ None) (sym c.learn_sure.ensures.map) (first_free k e es (subst (λ l. first_clash k l ≡ None) lists c.loop-e.invariant.free)).1;
      few = (and_parts (has_few e) (all_few es) (subst (λ l. all_few l ≡ true) lists c.loop-e.invariant.few)).1;
      ready = λ x m. c.learn_sure.ensures.ready x (c.loop-e.invariant.ready x (subst (λ l. Contains l x) (sym lists) (contains_later e es x m)));
      named = all_named-grown names more (lefts_of es) c.learn_sure.ensures.names
          (and_parts (is_named names e.left) (all_named names (lefts_of es)) (subst (λ l. all_named names (lefts_of l) ≡ true) lists c.loop-e.invariant.named)).1;
      names = grows_more _ _ _ c.loop-e.invariant.names c.learn_sure.ensures.names;
      fits = c.learn_sure.ensures.fits;
      kept = λ row w. c.learn_sure.ensures.kept row (c.loop-e.invariant.kept row w);
      steps = λ row w.
          let now = c.learn_sure.ensures.steps row (c.loop-e.invariant.kept row w) in
          let before = c.loop-e.invariant.steps row w in
          omega (arith, now, before, ap (turns_cost gr (all_of gr row.items) k) lists, ap (λ m. turns_cost gr (all_of gr row.items) m es) c.learn_sure.ensures.map);
    }
