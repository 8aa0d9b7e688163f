use Rattle.std.proofs.Common.{◌≡◌, ◌<◌, ◌+◌, ◌++◌, [], length, get_or, ap, sym, ◌∙◌, arith}
use Rattle.std.proofs.lemmas.List.{get_or_read}
use Rattle.aw_node_list.specs.Chunks.{Chunked, begins, begin_of, chunk_at, IsHalved}
use Rattle.aw_node_list.proofs.ChunkLemmas.{length_starts, start_is, begin_within, halved_begins, halved_items}
use Rattle.aw_node_list.proofs.chunks.Chunks.halve.Goals as goal

pub index-requires : goal.index-requires
index-requires c =
    let a = c.self.inside in
    omega (arith, c.requires.within, ap (λ (r : Chunked). length r.chunks) c.self.view_is, a.starts.ok, length_starts a.starts.items a.list.items c.self.invariant.begins)

pub overflow_add-start : goal.overflow_add-start
overflow_add-start c =
    let cs = c.self.inside.list.items in
    let ss = c.self.inside.starts.items in
    let i = c.args.at in
    let here : i < length cs = omega (arith, c.requires.within, ap (λ (r : Chunked). length r.chunks) c.self.view_is) in
    let there : i < length ss = omega (arith, here, length_starts ss cs c.self.invariant.begins) in
    let read : c.index.result.now ≡ begin_of cs i = get_or_read ss i c.index.result.now there c.index.ensures 0 ∙ start_is ss cs c.self.invariant.begins i 0 here in
    let full = ap (λ (r : Chunked). length (chunk_at r.chunks i)) c.self.view_is ∙ c.requires.full in
    omega (arith, read, full, begin_within cs i here, c.self.invariant.count, c.self.invariant.few)

pub put_chunk-requires-clause-starts : goal.put_chunk-requires-clause-starts
put_chunk-requires-clause-starts c =
    let a = c.self.inside in (
      omega (arith, c.requires.within, ap (λ (r : Chunked). length r.chunks) c.self.view_is, a.starts.ok, length_starts a.starts.items a.list.items c.self.invariant.begins),
      omega (arith, c.requires.spare, ap (λ (r : Chunked). r.spare) c.self.view_is),
    )

pub invariant_of-self : goal.invariant_of-self
invariant_of-self c =
    let cs = c.self.inside.list.items in
    let ss = c.self.inside.starts.items in
    let i = c.args.at in
    let l = c.halve.new.self in
    let u = c.halve.new.upper in
    let s = c.index.result.now + 256 in
    let here : i < length cs = omega (arith, c.requires.within, ap (λ (r : Chunked). length r.chunks) c.self.view_is) in
    let there : i < length ss = omega (arith, here, length_starts ss cs c.self.invariant.begins) in
    let read = get_or_read ss i c.index.result.now there c.index.ensures 0 in
    let second : s ≡ get_or ss i 0 + length l = omega (arith, read, c.halve.ensures.lower) in
    let whole : chunk_at cs i ≡ l ++ u = sym (get_or_read cs i c.index_mut.result.now here c.index_mut.ensures.value []) ∙ c.halve.ensures.whole in
    let halved : IsHalved cs i c.put_chunk.new.list.items = record { lower = l; upper = u; whole = whole; even = (c.halve.ensures.lower, c.halve.ensures.upper); is = c.put_chunk.ensures.list } in
    record {
      begins = c.put_chunk.ensures.starts ∙ halved_begins ss cs i s l u c.self.invariant.begins second here whole ∙ ap (begins 0) (sym c.put_chunk.ensures.list);
      count = c.self.invariant.count ∙ ap length (sym (halved_items cs c.put_chunk.new.list.items i here halved));
      few = c.self.invariant.few;
      empty = c.take_spare-upper.ensures.empty;
    }
