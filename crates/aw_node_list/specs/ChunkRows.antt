-- What chunks are seen as.
use Rattle.std.specs.Prelude.{◌≡◌, ◌-◌, ◌^◌, ◌≤◌, [], All, length, min, vec_len, vec_capacity}
use Rattle.std.specs.List.{concat}
use Rattle.aw_node_list.specs.Chunks.{Chunked, begins}
use Rattle.aw_node_list.specs.declared.chunks.Chunks.TheInside.{Inside}

-- the chunks, and for how many more there is a spare one and room
abbrev pub chunked_of : Inside → Chunked
chunked_of a = record {
  chunks = a.list.items;
  spare = min (vec_len a.spare) (min (vec_capacity a.list - vec_len a.list) (vec_capacity a.starts - vec_len a.starts));
}

-- It is told where each chunk begins and how many numbers there are, and the spare chunks are empty.
pub record AreLaid (a : Inside) : Type 0 where
  pub begins : a.starts.items ≡ begins 0 a.list.items
  pub count : a.count ≡ length (concat a.list.items)
  pub few : a.count ≤ 2 ^ 32 - 1
  pub empty : All (λ c. c ≡ []) a.spare.items
