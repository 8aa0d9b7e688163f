-- What a journal in a file gives.
use Rattle.std.specs.Prelude.{◌≡◌, ℕ, List, ◌++◌, Some}
use Rattle.aw_disk.specs.declared.pages.Pages.{Ghosts}
use Rattle.aw_journal.specs.Events.{Event}
use Rattle.aw_journal.specs.Format.{events_of}
use Rattle.aw_journal.specs.Records.{IsBehind}
use Rattle.aw_book_drive.specs.declared.journal_source.JournalSource.{JournalSource}

-- where the bytes of the file are told, these are its events behind those that were read
abbrev pub JournalGives : {P : Type 0} → Ghosts P → JournalSource P → List Event → Type 0
JournalGives p s events = (file : List ℕ) (read : List Event) → p.bytes s.pages ≡ Some file → IsBehind file read s.records → events_of file ≡ read ++ events
