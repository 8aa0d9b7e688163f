use Rattle.std.proofs.Common.{◌≡◌, ◌∙◌, ◌+◌, ◌++◌, ◌∷◌, [], map, drop, sym, ap, refl, length}
use Rattle.std.proofs.lemmas.Bool.{and_parts}
use Rattle.std.proofs.lemmas.List.{map-append}
use Rattle.aw_grammar.specs.Written.{written_of, child_of_raw}
use Rattle.aw_grammar.specs.Terms.{args_of}
use Rattle.aw_grammar.specs.Resolved.{child_numbered}
use Rattle.aw_grammar.specs.Kinds.{children_fit, takes_and_gives, sort_called}
use Rattle.aw_grammar.specs.Faultless.{all_faultless}
use Rattle.aw_grammar.specs.GrammarView.{child_of}
use Rattle.aw_grammar.specs.GrammarOf.{words_of}
use Rattle.aw_grammar.proofs.Steps.{rest_is, and_stops, and_goes, gathers}
use Rattle.aw_grammar.proofs.FaultlessTerms.{faultless_append, made_none, made_some}
use Rattle.aw_grammar.proofs.made.to_children.Goals as goal

pub returns-in_default : goal.returns-in_default
returns-in_default c =
    let g = c.args.grammar.now in let names = c.args.variables.now.names in
    let items = c.as_slice-child-items.result.now in let i = c.loop-child.child-index in let child = c.child-item.result in
    let here = all_faultless g.cons names (map written_of child.args) in
    let fails = made_none here (λ made. child_of g.sorts made ≡ child_numbered (words_of g).cons (words_of g).sorts names (child_of_raw child))
    c.in_ok-one.field-0 c.in_default.is c.in_ok-one.ensures in
    sym (and_stops (λ cs. all_faultless g.cons names (args_of (map child_of_raw cs))) items i child here c.loop-child-test.true c.child-item.is
    (faultless_append g.cons names (map written_of child.args) (args_of (map child_of_raw (drop (i + 1) items)))) fails _ c.loop-child.invariant.faultless)

pub loop-child-preserved : goal.loop-child-preserved
loop-child-preserved c =
    let g = c.args.grammar.now in let names = c.args.variables.now.names in
    let items = c.as_slice-child-items.result.now in let i = c.loop-child.child-index in let child = c.child-item.result in
    let here = all_faultless g.cons names (map written_of child.args) in
    let made = made_some here (λ made. child_of g.sorts made ≡ child_numbered (words_of g).cons (words_of g).sorts names (child_of_raw child))
    c.in_ok-one.field-0 c.in-Some.one c.in-Some.is c.in_ok-one.ensures in
    record {
      made = gathers (λ cs. map (child_numbered (words_of g).cons (words_of g).sorts names) (map child_of_raw cs)) items i child
          (child_numbered (words_of g).cons (words_of g).sorts names (child_of_raw child) ∷ []) c.loop-child-test.true c.child-item.is refl
          (map (child_of g.sorts) c.loop-child.made) (map (child_of g.sorts) c.push.new.self) _
          (ap (λ cs. map (child_of g.sorts) cs) c.in_ok-push.ensures.ok ∙ map-append (child_of g.sorts) c.loop-child.made (c.in-Some.one ∷ [])
          ∙ ap (λ x. map (child_of g.sorts) c.loop-child.made ++ x ∷ []) made.1) c.loop-child.invariant.made;
      fit = (and_parts (takes_and_gives (sort_called child.sort g.sorts) (length (map written_of child.args)) (length child.results)) (children_fit g.sorts (map child_of_raw (drop (i + 1) items)))
          (sym (rest_is (λ cs. children_fit g.sorts (map child_of_raw cs)) items i child c.loop-child-test.true c.child-item.is) ∙ c.loop-child.invariant.fit)).1;
      faultless = and_goes (λ cs. all_faultless g.cons names (args_of (map child_of_raw cs))) items i child here c.loop-child-test.true c.child-item.is
          (faultless_append g.cons names (map written_of child.args) (args_of (map child_of_raw (drop (i + 1) items)))) made.0 _ c.loop-child.invariant.faultless;
    }
