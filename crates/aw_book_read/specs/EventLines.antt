-- The events of a journal, a line for each, in the words of a transcript and of a schedule.
use Rattle.std.specs.Prelude.{ℕ, List, ◌++◌, flat_map, codes}
use Rattle.aw_term.specs.Rules.{Grammar}
use Rattle.aw_term.specs.Artifacts.{Words}
use Rattle.aw_msg.specs.MessageView.{kind_with, sort_or_zero}
use Rattle.aw_law_sites.specs.Transcripts.{kind_text}
use Rattle.aw_journal.specs.Events.{Event, Took, Got}
use Rattle.aw_sched_writer.specs.EventTexts.{asked_text}

-- `choose visit#1 admit {"Ada"}`, `got ask visit#1:p2 from lab`
abbrev pub event_line : Words → Grammar → Event → List ℕ
event_line w g (Took c) = asked_text w c ++ codes "\n"
event_line w g (Got m) = codes "got " ++ (kind_text w (kind_with (sort_or_zero g) m.kind) ++ codes "\n")

-- the lines of some events
abbrev pub event_lines : Words → Grammar → List Event → List ℕ
event_lines w g es = flat_map (event_line w g) es
