use Rattle.std.proofs.Common.{◌≡◌, [], ◌∷◌, ◌++◌, ◌∙◌, sym, ap, subst, map, append_assoc, true, Contains}
use Rattle.std.proofs.lemmas.Bool.{and_parts}
use Rattle.std.specs.Vec.Iter.{into_iter_items}
use Rattle.aw_store.specs.Adding.{AreNew}
use Rattle.aw_store.specs.EquationView.{equation_of}
use Rattle.aw_store.specs.StoreView.{has_few, all_few}
use Rattle.aw_store.proofs.NameLemmas.{grows_more}
use Rattle.aw_store.proofs.AddLemmas.{contains_first, contains_later}
use Rattle.aw_store.proofs.ready.add_all_ready.Goals as goal

pub add_ready-requires-clause-ready : goal.add_ready-requires-clause-ready
add_ready-requires-clause-ready g c =
    let e = equation_of c.in-Some.e in
    let es = map equation_of (into_iter_items c.next.new.self) in
    let lists : map equation_of (into_iter_items c.loop-e.e-iterator) ≡ e ∷ es = ap (map equation_of) c.in-Some.ensures.steps.0 in
    c.loop-e.invariant.ready e (subst (λ l. Contains l e) (sym lists) (contains_first e es))

pub loop-e-preserved : goal.loop-e-preserved
loop-e-preserved g c =
    let k = g.F.Facts.map c.loop-e.f in
    let e = equation_of c.in-Some.e in
    let es = map equation_of (into_iter_items c.next.new.self) in
    let lists : map equation_of (into_iter_items c.loop-e.e-iterator) ≡ e ∷ es = ap (map equation_of) c.in-Some.ensures.steps.0 in
    record {
      equations = ap (λ m. m ++ es) c.add_ready.ensures.map ∙ append_assoc k (e ∷ []) es ∙ ap (λ l. k ++ l) (sym lists) ∙ c.loop-e.invariant.equations;
      new = subst (λ m. AreNew m es) (sym c.add_ready.ensures.map) (subst (AreNew k) lists c.loop-e.invariant.new).1;
      few = (and_parts (has_few e) (all_few es) (subst (λ l. all_few l ≡ true) lists c.loop-e.invariant.few)).1;
      ready = λ x m. c.add_ready.ensures.ready x (c.loop-e.invariant.ready x (subst (λ l. Contains l x) (sym lists) (contains_later e es x m)));
      names = grows_more _ _ _ c.loop-e.invariant.names c.add_ready.ensures.names;
    }
