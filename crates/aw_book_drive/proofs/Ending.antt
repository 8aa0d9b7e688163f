-- Where all stand still, the journals are joined.
use Rattle.std.specs.Prelude.{slice_get}
use Rattle.std.proofs.Common.{◌≡◌, ℕ, true, List, [], length, Some, sym, ◌∙◌, subst}
use Rattle.aw_journal.specs.Events.{Event}
use Rattle.aw_law_journals.specs.Journals.{IsReach}
use Rattle.aw_law_sites.specs.Worlds.{Move, world_after}
use Rattle.aw_term.specs.Rules.{Grammar, get}
use Rattle.aw_typed.specs.Types.{Types}
use Rattle.aw_world.specs.declared.workspace.Workspace.{Ghosts}
use Rattle.aw_book_drive.specs.Lanes.{IsLane}
use Rattle.aw_book_drive.specs.declared.lanes.Lane.{Lane}
use Rattle.aw_book_drive.specs.Driving.{Drives}
use Rattle.aw_book_drive.specs.Joins.{CanGive, IsThrough, IsJoined, counts_of}
use Rattle.aw_book_drive.specs.Journals.{journals_seen}
use Rattle.aw_book_drive.specs.declared.joining.Joined.{Joined}
use Rattle.aw_book_drive.proofs.Reached.{journals_of, rest, all-given, next-event, reached}

module _ {W S : Type 0} (f : Ghosts W) (gives : S → List Event → Type 0) (some : (s : S) → (events : List Event) × gives s events) (t : Types) (g : Grammar) where
  lane-from : (firsts : List S) (r : ℕ) (old s : S) (lane : Lane) (came : List Event) → slice_get firsts r ≡ Some old → IsLane gives (CanGive gives firsts r) s lane came → IsLane gives (gives old) s lane came
  lane-from firsts r old s lane came at l = record { count = l.count; whole = λ events c. l.whole events c old at }

  pub all-joined : (firsts : List S) (x : Joined W f) (sources : List S) → length sources ≡ length firsts → length x.lanes.items ≡ length sources → IsThrough f gives t g firsts x sources → IsJoined f gives t g firsts x
  all-joined firsts x sources same many through =
      let s = through.stands in
      let came = through.came in
      let lanes = x.lanes.items in
      let moves = through.moves in
      let is = sym s.drives.moves_are in
      let counts-stand : (r : ℕ) (source : S) (l : Lane) → slice_get sources r ≡ Some source → slice_get lanes r ≡ Some l → l.count ≡ length (get [] came r) =
      λ r source l a b. (s.lanes r source l a b).count in
      record {
        journals = journals_of (rest gives some) came lanes sources;
        given = all-given gives some firsts sources came lanes (s.many ∙ same) (many ∙ same) same (λ r old source l a b c. lane-from firsts r old source l (get [] came r) a (s.lanes r source l b c));
        reach = subst (λ (es : List Move). IsReach t g (journals_seen g (journals_of (rest gives some) came lanes sources)) (counts_of x) es) is
            (reached gives some t g came lanes sources moves s.many many counts-stand s.joint through.blocked);
        drives = subst (λ (es : List Move). Drives f x.driver (world_after g true es) es) is s.drives;
        many = many ∙ same;
        next = λ r lane at. next-event gives some t g came lanes sources moves s.many many counts-stand r lane at;
      }
