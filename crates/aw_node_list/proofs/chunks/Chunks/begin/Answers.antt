use Rattle.std.proofs.Common.{◌≡◌, length, ap, sym, ◌∙◌, arith}
use Rattle.std.specs.List.{concat}
use Rattle.aw_node_list.specs.Chunks.{Chunked, begins}
use Rattle.aw_node_list.proofs.ChunkLemmas.{length_starts, begun_laid, begun_same}
use Rattle.aw_node_list.proofs.chunks.Chunks.begin.Goals as goal

pub put_chunk-requires-clause-starts : goal.put_chunk-requires-clause-starts
put_chunk-requires-clause-starts c =
    let a = c.self.inside in (
      omega (arith, c.len-at.ensures, a.list.ok, a.starts.ok, length_starts a.starts.items a.list.items c.self.invariant.begins),
      omega (arith, c.requires, ap (λ (r : Chunked). r.spare) c.self.view_is),
    )

pub invariant_of-self : goal.invariant_of-self
invariant_of-self c =
    let cs = c.self.inside.list.items in
    let ss = c.self.inside.starts.items in
    let i = c.len-at.result in
    let s = c.self.inside.count in
    let new = c.take_spare-new.result in
    let last : i ≡ length cs = omega (arith, c.len-at.ensures, c.self.inside.list.ok) in
    let same = begun_same ss cs i s new c.self.invariant.begins last c.self.invariant.count c.take_spare-new.ensures.new in
    record {
      begins = c.put_chunk.ensures.starts ∙ begun_laid ss cs i s new c.self.invariant.begins last c.self.invariant.count c.take_spare-new.ensures.new ∙ ap (begins 0) (sym c.put_chunk.ensures.list);
      count = c.self.invariant.count ∙ ap length (sym same) ∙ ap (λ z. length (concat z)) (sym c.put_chunk.ensures.list);
      few = c.self.invariant.few;
      empty = c.take_spare-new.ensures.empty;
    }
