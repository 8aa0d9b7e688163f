use Rattle.std.proofs.Common.{[], ◌∷◌, ◌++◌, length, map, ap, sym, ◌∙◌, arith, inl, inr}
use Rattle.std.specs.Prelude.{slice_get}
use Rattle.std.proofs.lemmas.List.{length-append, map-append}
use Rattle.aw_grammar.specs.GrammarOf.{grammar_of}
use Rattle.aw_law_sites.specs.Sites.{empty_site}
use Rattle.aw_term.specs.SameGrammar.{same_grammar}
use Rattle.aw_world.proofs.Growing.{get_end, all_end}
use Rattle.aw_world.proofs.making.make_sites.Goals as goal

pub loop-role-preserved : goal.loop-role-preserved
loop-role-preserved g c =
    let ws = c.loop-role.sites.items in
    let x = c.in_ok-make.field-0 in
    let i = c.loop-role.invariant in
    let n = c.loop-role.role in
    let f = g.W.Workspace in
    let e = c.in_ok-push.ensures.items in
    record {
      count = omega (arith, ap length e, length-append ws (x ∷ []), i.count);
      shown =
          ap (map (λ w. f.seen w)) e ∙ map-append (λ w. f.seen w) ws (x ∷ []) ∙ (λ j. i.shown j ++ c.in_ok-make.ensures.shows j ∷ [])
          ∙ sym (all_end (empty_site c.args.loads) n);
      role = λ j y s. elim (get_end ws x j y (ap (λ zs. slice_get zs j) (sym e) ∙ s)) [
        | inl h ↦ i.role j y h
        | inr h ↦ ap (λ z. f.its_role z) (sym h.1) ∙ c.in_ok-make.ensures.role ∙ sym i.count ∙ sym h.0
      ];
      grammar = λ j y s. elim (get_end ws x j y (ap (λ zs. slice_get zs j) (sym e) ∙ s)) [
        | inl h ↦ i.grammar j y h
        | inr h ↦ ap (λ z. same_grammar (f.its_grammar z) (grammar_of c.args.accepted.now.grammar)) (sym h.1) ∙ c.in_ok-make.ensures.grammar
      ];
    }
