-- The events of journals, as the laws of joined journals speak of them.
use Rattle.std.specs.Prelude.{List, map}
use Rattle.aw_journal.specs.Events as kept
use Rattle.aw_law_sites.specs.SiteEvents.{SiteEvent, Chose, Got}
use Rattle.aw_msg.specs.MessageView.{message_of}
use Rattle.aw_term.specs.Rules.{Grammar}

-- an event of a node, as one of its site
abbrev pub site_event : Grammar → kept.Event → SiteEvent
site_event g (kept.Took c) = Chose c
site_event g (kept.Got m) = Got (message_of g m)

-- those of a journal
abbrev pub journal_seen : Grammar → List kept.Event → List SiteEvent
journal_seen g events = map (site_event g) events

-- those of all journals
abbrev pub journals_seen : Grammar → List (List kept.Event) → List (List SiteEvent)
journals_seen g journals = map (journal_seen g) journals
