use Rattle.std.proofs.Common.{ℕ, ◌+◌, List, [], ◌∷◌, ◌++◌, drop, take, map, sym, ap, ◌∙◌, subst, rules}
use Rattle.aw_choice.specs.ChoiceView.{item_of}
use Rattle.aw_grammar.specs.GrammarOf.{words_of}
use Rattle.aw_term.specs.Runs.{item_lines}
use Rattle.aw_book_join.specs.Handing.{HandsOn, Hands}
use Rattle.aw_book_join.specs.Tasks.{items_of}
use Rattle.aw_book_join.proofs.Handing.{hands-as, hands-more}
use Rattle.aw_book_join.proofs.ItemLines.{case-more, case-rest}
use Rattle.aw_book_join.proofs.Results.{hands-stop}
use Rattle.aw_book_join.proofs.items.write_each.Goals as goal

pub returns-in_err-write_next-clause-hands : goal.returns-in_err-write_next-clause-hands
returns-in_err-write_next-clause-hands g c =
    let a = g.K.Sink.written c.args.out.now in
    let b = g.K.Sink.written c.loop-item.out in
    let z = g.K.Sink.written c.write_next.new.out in
    let w = words_of c.args.names.now.grammar.now in
    let k = c.args.case.now in
    let xs = c.args.items.now in
    let i = c.loop-item.item-index in
    let x = c.item-item.result in
    let left = c.loop-item.text in
    let next = subst (λ gr. Hands b z (left ++ item_lines (words_of gr) (items_of k
    (item_of x ∷ []))) c.write_next.new.text c.write_next.result) c.loop-item.invariant.named c.write_next.ensures.hands in
    let more = case-more w k xs i x c.loop-item-test.true c.item-item.is in
    let rest = item_lines w (items_of k (map item_of (drop (i + 1) xs))) in
    let whole = sym (case-rest w k xs (i + 1)) ∙ ap (λ (t : List ℕ). t ++ rest) more in
    hands-stop a b z left (item_lines w (items_of k (map item_of (take i xs)))) (item_lines w (items_of k (item_of x ∷ []))) rest (item_lines w (items_of k (map item_of xs)))
    c.write_next.new.text c.write_next.new.text c.write_next.result c.from_residual.result _ whole c.in_err-write_next.was (search rules) c.loop-item.invariant.handed next

pub loop-item-preserved : goal.loop-item-preserved
loop-item-preserved g c =
    let a = g.K.Sink.written c.args.out.now in
    let b = g.K.Sink.written c.loop-item.out in
    let z = g.K.Sink.written c.write_next.new.out in
    let w = words_of c.args.names.now.grammar.now in
    let k = c.args.case.now in
    let xs = c.args.items.now in
    let i = c.loop-item.item-index in
    let x = c.item-item.result in
    let left = c.loop-item.text in
    let line = item_lines w (items_of k (item_of x ∷ [])) in
    let next = subst (λ gr. HandsOn b z c.write_next.new.text (left ++ item_lines (words_of gr) (items_of k (item_of x ∷ [])))) c.loop-item.invariant.named c.in_ok-write_next.ensures.hands in
    let more = case-more w k xs i x c.loop-item-test.true c.item-item.is in
    record {
      named = c.write_next.ensures.grammar ∙ c.loop-item.invariant.named;
      counts = c.in_ok-write_next.ensures.counts ∙ c.loop-item.invariant.counts;
      handed = hands-as a z c.write_next.new.text (item_lines w (items_of k (map item_of (take i xs))) ++ line) (item_lines w (items_of k (map item_of (take (i + 1) xs)))) (sym more)
          (hands-more a b z left c.write_next.new.text (item_lines w (items_of k (map item_of (take i xs)))) line c.loop-item.invariant.handed next);
    }
