-- Events that are passed over, one by one.
use Rattle.std.proofs.Common.{◌≡◌, true, false, List, [], ◌∷◌, Option, None, Some, Result, Ok, Err, refl, sym, ap, ◌∙◌, subst}
use Rattle.std.specs.Prelude.{if◌then◌else◌, IfOk}
use Rattle.aw_journal.specs.Events.{Event}
use Rattle.aw_journal.specs.EventView.{event_of}
use Rattle.aw_journal.specs.declared.payload.NodeEvent.{NodeEvent}
use Rattle.aw_book_drive.specs.Selecting.{is_selected, selected, GivesSelected, GivesOf, SelectedGives}
use Rattle.aw_book_drive.specs.Sources.{Gives}
use Rattle.aw_book_drive.specs.declared.selecting.OneCase.{OneCase}
use Rattle.aw_book_drive.specs.declared.selecting.Selected.{Selected}
use Rattle.aw_book_drive.specs.declared.source.SourceFault.{SourceFault}

module _ {S : Type 0} (gives : S → List Event → Type 0) (case : Option OneCase) where
  -- one that is not asked for
  pub passes-over : (first old new : S) (e : NodeEvent) → ((events : List Event) → GivesSelected gives case old events → GivesSelected gives case first events) →
      is_selected case (event_of e) ≡ false → Gives gives old new (Some e) → (events : List Event) → GivesSelected gives case new events → GivesSelected gives case first events
  passes-over first old new e back out given events g =
      let (all, can, same) = g in
      back events (event_of e ∷ all, given all can, same ∙ sym (ap (λ b. if b then event_of e ∷ selected case all else selected case all) out))

  -- one that is
  pub selects : (first old new : S) (e : NodeEvent) → ((events : List Event) → GivesSelected gives case old events → GivesSelected gives case first events) →
      is_selected case (event_of e) ≡ true → Gives gives old new (Some e) → Gives (GivesSelected gives case) first new (Some e)
  selects first old new e back is given rest g =
      let (all, can, same) = g in
      back (event_of e ∷ rest)
      (event_of e ∷ all, given all can, ap (◌∷◌ (event_of e)) same ∙ sym (ap (λ b. if b then event_of e ∷ selected case all else selected case all) is))

  -- there is no other
  pub ends-selected : (first old new : S) → ((events : List Event) → GivesSelected gives case old events → GivesSelected gives case first events) → Gives gives old new None →
      Gives (GivesSelected gives case) first new None
  ends-selected first old new back given = back [] ([], given, refl)

-- what a source gives of one case is what is given of it where a role has a journal
pub selected-as : {S : Type 0} (gives : S → List Event → Type 0) (x y : Selected S) (s t : S) → x.source ≡ Some s → y.source ≡ Some t → y.case ≡ x.case → (r : Result (Option NodeEvent) SourceFault) →
    IfOk r (Gives (GivesSelected gives x.case) s t) → IfOk r (Gives (λ z events. SelectedGives gives z events) x y)
selected-as {S} gives x y s t p q k (Ok None) h = subst (λ (o : Option S). GivesOf gives x.case o []) (sym p) h
selected-as {S} gives x y s t p q k (Ok (Some e)) h =
    λ rest given. subst (λ (o : Option S). GivesOf gives x.case o (event_of e ∷ rest)) (sym p)
    (h rest (subst (λ (o : Option S). GivesOf gives x.case o rest) q (subst (λ (z : Option OneCase). GivesOf gives z y.source rest) k given)))
selected-as gives x y s t p q k (Err e) h = tt
