use Rattle.std.proofs.Common.{◌≡◌, ◌-◌, ◌<◌, ◌∷◌, None, Some, IfSome, set, ap, sym, ◌∙◌, subst, arith}
use Rattle.std.proofs.lemmas.Option.{same_Some}
use Rattle.std.specs.List.Sorted.{IsPermutation}
use Rattle.slab.specs.Slab.{slab_len}
use Rattle.futures.specs.LinkedLists.{key_limit}
use Rattle.aw_work.specs.declared.block.Triple.{Triple}
use Rattle.aw_work.specs.Triples.{triple, triples, values, left_out, room, IsIndexed}
use Rattle.aw_work.proofs.TakenLemmas.{again_indexed, all_again, fewer_out, as_many}
use Rattle.aw_work.proofs.block.Block.wait_again.Goals as goal

pub put-requires-clause-within : goal.put-requires-clause-within
put-requires-clause-within c = subst (λ o. IfSome o (λ k. k < key_limit c.self.inside.slots)) c.in-Some.is c.self.invariant.held_room

pub invariant_of-self : goal.invariant_of-self
invariant_of-self c =
    again_indexed c.self.inside.pairs c.self.inside.slots c.put.new.self c.self.inside.nodes c.in-Some.key c.args.slot c.index_mut.result.now
    (subst (IsIndexed c.self.inside.pairs c.self.inside.slots c.self.inside.nodes) c.in-Some.is c.self.invariant) c.index_mut.ensures.value c.put.ensures.moves

pub returns-clause-yes : goal.returns-clause-yes
returns-clause-yes c _ =
    let xs = c.self.inside.pairs.slots in
    let key = c.in-Some.key in
    let slot = c.args.slot in
    let t = c.index_mut.result.now in
    let again = triple slot t.node t.rule in
    let same : t ≡ c.index-t.result.now = same_Some t c.index-t.result.now (sym c.index_mut.ensures.value ∙ c.index-t.ensures) in
    let node : t.node ≡ c.args.pair.node = ap (λ (z : Triple). z.node) same ∙ c.if-t-pair.false in
    let rule : t.rule ≡ c.args.pair.rule = ap (λ (z : Triple). z.rule) same ∙ c.if-t-pair-2.false in
    let was : triples c.args.self.now ≡ values (set xs key None) = ap triples (sym c.self.view_is) ∙ ap (λ o. values (left_out o c.self.inside.pairs).slots) c.in-Some.is in
    subst (λ ts. IsPermutation (triple slot c.args.pair.node c.args.pair.rule ∷ ts) (values (set xs key (Some again)))) (sym was)
    (subst (λ n. IsPermutation (triple slot n c.args.pair.rule ∷ values (set xs key None)) (values (set xs key (Some again)))) node
    (subst (λ r. IsPermutation (triple slot t.node r ∷ values (set xs key None)) (values (set xs key (Some again)))) rule (all_again xs key t c.index_mut.ensures.value again)))

pub returns-clause-room : goal.returns-clause-room
returns-clause-room c _ =
    let xs = c.self.inside.pairs.slots in
    let key = c.in-Some.key in
    let t = c.index_mut.result.now in
    let was = ap room (sym c.self.view_is) ∙ ap (λ o. c.self.inside.pairs.capacity - slab_len (left_out o c.self.inside.pairs)) c.in-Some.is in
    omega (arith, was, fewer_out xs key t c.index_mut.ensures.value, as_many xs key t c.index_mut.ensures.value (triple c.args.slot t.node t.rule), c.self.invariant.fits)
