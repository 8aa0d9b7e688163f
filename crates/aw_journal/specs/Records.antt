-- Where a reader of records stands in a file.
use Rattle.std.specs.Prelude.{◌≡◌, ℕ, ◌+◌, ◌≤◌, ◌<◌, ◌^◌, List, ◌++◌, Bool, true, length, take, drop}
use Rattle.aw_journal.specs.Events.{Event, AllEvents}
use Rattle.aw_journal.specs.Format.{events_of, events_from, records}
use Rattle.aw_journal.specs.Standing.{first_gate, has_whole_head, tail_of, tail_from}
use Rattle.aw_journal.specs.Pieces.{HasRoom}
use Rattle.aw_journal.specs.declared.records.Records.TheInside.{Inside}

-- Whether a head stands whole, where the next gate stands, where the file has no byte any more, what is held of it in front of room for more, and for how many bytes there is room.
pub record Reached : Type 0 where
  pub headed : Bool
  pub gate : ℕ
  pub end : ℕ
  pub start : ℕ
  pub held : ℕ
  pub ahead : List ℕ
  pub room : ℕ

-- what is seen of the inside of a reader
abbrev pub reached : Inside → Reached
reached r = record {
  headed = r.headed;
  gate = r.gate;
  end = r.reader.end;
  start = r.reader.start;
  held = r.reader.held;
  ahead = r.reader.ahead.items;
  room = length r.reader.ahead.items + length r.reader.asked.items;
}

-- what is held has room, and what was asked for last is no longer than a payload and a gate
pub record IsReached (r : Inside) : Type 0 where
  pub room : HasRoom r.reader
  pub few : length r.reader.asked.items ≤ 1048578
  pub small : r.gate + 1 < 2 ^ 64

-- what is held stands at its place in the file, which ends where it is said to, or before
pub record IsOf (file : List ℕ) (r : Reached) : Type 0 where
  pub below : length file ≤ r.end
  pub within : r.start + r.held ≤ length file
  pub same : take r.held r.ahead ≡ take r.held (drop r.start file)

-- it stands behind these events, which are the first ones of the file
pub record IsBehind (file : List ℕ) (events : List Event) (r : Reached) : Type 0 where
  pub own : IsOf file r
  pub headed : r.headed ≡ true
  pub whole_head : has_whole_head file ≡ true
  pub place : r.gate < length file
  pub all : AllEvents events
  pub parts : drop (first_gate file) file ≡ records events ++ drop r.gate file
  pub rest : events_of file ≡ events ++ events_from 0 (drop r.gate file)
  pub tail : tail_of file ≡ tail_from 0 (drop r.gate file)

-- it stands where the records that count end, or at the front where no head stands whole
pub record IsAtEnd (file : List ℕ) (r : Reached) : Type 0 where
  pub own : IsOf file r
  pub headed : r.headed ≡ has_whole_head file
  pub place : r.gate ≤ length file
  pub tail : tail_of file ≡ drop r.gate file
