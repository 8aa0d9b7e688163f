-- Sources and sinks in memory, which move pieces and fail at the calls that they are told to.
use Rattle.std.specs.Prelude.{ℕ, ◌+◌, ◌-◌, ◌≤◌, ◌<◌, ◌==◌, ◌++◌, List, length, min, slice_index, nat_lt, All, Bool, ◌||◌, if◌then◌else◌}
use Rattle.std.specs.List.{list_any}
use Rattle.aw_out.specs.Causes.{one_more}
use Rattle.aw_out.specs.Edge.{taken}
use Rattle.aw_out.specs.Reads.{answer_of, left_after}
use Rattle.aw_out.specs.declared.edge.Got.{Got}
use Rattle.aw_out.specs.declared.edge.Got.TheVariants.{Read, End, Failed}
use Rattle.aw_out.specs.declared.edge.Put.{Put}
use Rattle.aw_out.specs.declared.edge.Put.TheVariants.{Took, Failed as PutFailed}

-- What a source in memory has: the bytes that are left, the most that each read moves, the calls that fail, and how many calls, moves and faults there were.
pub record Supply : Type 0 where
  pub left : List ℕ
  pub pieces : List ℕ
  pub fails : List ℕ
  pub calls : ℕ
  pub moves : ℕ
  pub faults : ℕ

-- What a sink in memory has: the bytes that were written, and the number for which there is room; the rest as a source.
pub record Kept : Type 0 where
  pub written : List ℕ
  pub room : ℕ
  pub pieces : List ℕ
  pub fails : List ℕ
  pub calls : ℕ
  pub moves : ℕ
  pub faults : ℕ

-- there is a size, and none is 0
abbrev pub AreSizes : List ℕ → Type 0
AreSizes pieces = (0 < length pieces) × All (λ size. 1 ≤ size) pieces

-- the size of the read or write of this number, and past the end of the list the last one
abbrev pub piece_at : List ℕ → ℕ → ℕ
piece_at pieces number = slice_index pieces (min number (length pieces - 1))

-- whether the list names the call of this number
abbrev pub is_named : List ℕ → ℕ → Bool
is_named fails number = list_any (λ call. call == number) fails

-- what a read into a buffer of so many bytes answers
abbrev pub read_answer : Supply → ℕ → Got
read_answer source room = if is_named source.fails source.calls then Failed else answer_of source.left (min room (piece_at source.pieces source.moves))

-- the count of faults after a read that gave this answer
abbrev pub faults_after_read : Got → ℕ → ℕ
faults_after_read (Read n) faults = faults
faults_after_read End faults = faults
faults_after_read Failed faults = one_more faults

-- the source after a read that gave this answer
abbrev pub after_read : Supply → Got → Supply
after_read source answer = record source {
  left = left_after answer source.left;
  calls = one_more source.calls;
  moves = one_more source.moves;
  faults = faults_after_read answer source.faults;
}

-- the most bytes that the next write moves, where it is passed so many
abbrev pub next_piece : Kept → ℕ → ℕ
next_piece sink count = min count (piece_at sink.pieces sink.moves)

-- What a write of so many bytes answers. It fails where it is named, and where it would pass the room.
abbrev pub write_answer : Kept → ℕ → Put
write_answer sink count =
    if is_named sink.fails sink.calls || nat_lt sink.room (length sink.written + next_piece sink count) then PutFailed else Took (next_piece sink count)

-- the count of faults after a write that gave this answer
abbrev pub faults_after_write : Put → ℕ → ℕ
faults_after_write (Took n) faults = faults
faults_after_write PutFailed faults = one_more faults

-- the sink after a write of these bytes that gave this answer
abbrev pub after_write : Kept → List ℕ → Put → Kept
after_write sink bytes answer = record sink {
  written = sink.written ++ taken answer bytes;
  calls = one_more sink.calls;
  moves = one_more sink.moves;
  faults = faults_after_write answer sink.faults;
}
