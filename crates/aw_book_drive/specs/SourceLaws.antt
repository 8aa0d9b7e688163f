-- Each source can give some events.
use Rattle.std.specs.Prelude.{◌≡◌, ℕ, List, [], ◌++◌, drop, None, Some}
use Rattle.std.specs.declared.option.Option.{Option}
use Rattle.std.proofs.Common.{refl, sym, subst, ◌∙◌}
use Rattle.std.proofs.lemmas.Option.{same_Some}
use Rattle.aw_disk.specs.PagesLaws.{untold}
use Rattle.aw_disk.specs.declared.pages.Pages.{Ghosts}
use Rattle.aw_journal.specs.Events.{Event}
use Rattle.aw_journal.specs.Format.{events_of, events_from}
use Rattle.aw_book_drive.specs.JournalSources.{JournalGives}
use Rattle.aw_book_drive.specs.Selecting.{SelectedGives, selected}
use Rattle.aw_book_drive.specs.declared.journal_source.JournalSource.{JournalSource}
use Rattle.aw_book_drive.specs.declared.selecting.OneCase.{OneCase}
use Rattle.aw_book_drive.specs.declared.selecting.Selected.{Selected}

told_some : {P : Type 0} (p : Ghosts P) (s : JournalSource P) (o : Option (List ℕ)) → p.bytes s.pages ≡ o → (events : List Event) × JournalGives p s events
told_some p s None none = ([], λ file read told behind. elim (untold file (sym none ∙ told)) [ ])
told_some p s (Some bytes) some = (
  events_from 0 (drop s.records.gate bytes),
  λ file read told behind. subst (λ (b : List ℕ). events_of file ≡ read ++ events_from 0 (drop s.records.gate b)) (same_Some file bytes (sym told ∙ some)) behind.rest,
)

pub journal_some : {P : Type 0} (p : Ghosts P) (s : JournalSource P) → (events : List Event) × JournalGives p s events
journal_some p s = told_some p s (p.bytes s.pages) refl

source_some : {S : Type 0} (gives : S → List Event → Type 0) → ((s : S) → (events : List Event) × gives s events) → (case : Option OneCase) (o : Option S) →
    (events : List Event) × SelectedGives gives (record { source = o; case = case }) events
source_some gives some case None = ([], refl)
source_some gives some case (Some s) = (selected case (some s).0, ((some s).0, (some s).1, refl))

pub selected_some : {S : Type 0} (gives : S → List Event → Type 0) → ((s : S) → (events : List Event) × gives s events) → (x : Selected S) →
    (events : List Event) × SelectedGives gives x events
selected_some gives some x = source_some gives some x.case x.source
