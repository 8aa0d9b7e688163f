use Rattle.std.proofs.Common.{◌≡◌, ◌∙◌, subst, sym, refl}
use Rattle.aw_node_list.specs.InOrder.{IsInOrder, insert_in}
use Rattle.aw_node_list.proofs.InOrderLemmas.{up_of, far, ordered_inserted, inserted_before}
use Rattle.aw_node_list.proofs.placing.put_between.Goals as goal

pub returns-clause-items : goal.returns-clause-items
returns-clause-items c =
    let hs = c.args.held.now.items in
    let p = c.count_before-place in
    c.put_at.ensures.items
    ∙ sym (inserted_before hs c.args.new.node p.result p.ensures.within p.ensures.front p.ensures.rest c.requires.lacks c.args.new refl)

pub returns-clause-ordered : goal.returns-clause-ordered
returns-clause-ordered c =
    let hs = c.args.held.now.items in
    let p = c.count_before-place in
    let same : c.put_at.new.self.items ≡ insert_in c.args.new hs =
    c.put_at.ensures.items ∙ sym (inserted_before hs c.args.new.node p.result p.ensures.within p.ensures.front p.ensures.rest c.requires.lacks c.args.new refl) in
    subst IsInOrder (sym same) (far _ (ordered_inserted c.args.new hs (up_of hs c.requires.ordered) c.requires.lacks))
