use Rattle.std.proofs.Common.{◌∙◌, arith}
use Rattle.std.specs.Vec.Iter.{into_iter_items}
use Rattle.aw_grammar.specs.GrammarOf.{declarations_of}
use Rattle.aw_grammar.proofs.InTurn.{fault_goes, declared_goes, spelled_goes}
use Rattle.aw_grammar.proofs.whole.add_each.Goals as goal

pub loop-item-preserved : goal.loop-item-preserved
loop-item-preserved g c =
    let inv = c.loop-item.invariant in
    let d = declarations_of c.loop-item.grammar in
    let e = declarations_of c.in-Ok.next in
    let i = c.loop-item.place in
    let x = c.in-Some.item in
    let at = g.D.Declares.place_of in
    let wrap = g.D.Declares.declares in
    let rest = into_iter_items c.next.new.self in
    let left = into_iter_items c.loop-item.left in
    let next = c.in-Some.ensures.items in
    let later = spelled_goes at wrap i x rest left next inv.spelled in
    record {
      fault = fault_goes at wrap d e i x rest left next c.in-Ok.ensures.added.0 c.in-Ok.ensures.added.1 ∙ inv.fault;
      declared = declared_goes at wrap d e i x rest left next c.in-Ok.ensures.added.1 ∙ inv.declared;
      spelled = later.1;
      may_come = c.in-Ok.ensures.may_come;
      counted = omega (arith, inv.counted, c.in-Some.ensures.len);
    }
