use Rattle.std.proofs.Common.{length, ap, arith}
use Rattle.aw_node_list.specs.Chunks.{Chunked}
use Rattle.aw_node_list.proofs.ChunkLemmas.{length_starts}
use Rattle.aw_node_list.proofs.chunks.Chunks.put.Goals as goal

pub put_in-requires-clause-within : goal.put_in-requires-clause-within
put_in-requires-clause-within c =
    let a = c.self.inside in
    omega (
      arith,
      c.requires.lies.within,
      ap (λ (r : Chunked). length r.chunks) c.self.view_is,
      length_starts a.starts.items a.list.items c.self.invariant.begins,
      ap length c.as_mut_slice-2.ensures.value,
    )
