-- How the journals stand behind one event more, or none.
use Rattle.std.specs.Prelude.{slice_get, slice_set}
use Rattle.std.proofs.Common.{◌≡◌, ℕ, ◌+◌, ◌<◌, true, List, [], ◌∷◌, ◌++◌, length, Option, Some, Bool, false, refl, sym, ap, ◌∙◌, subst, arith}
use Rattle.std.proofs.lemmas.Option.{same_Some}
use Rattle.aw_journal.specs.Events.{Event}
use Rattle.aw_journal.specs.EventView.{event_of}
use Rattle.aw_journal.specs.declared.payload.NodeEvent.{NodeEvent}
use Rattle.aw_law_journals.specs.Journals.{Fits}
use Rattle.aw_law_sites.specs.Worlds.{World, Move, step, world_after}
use Rattle.aw_list.proofs.Everyday.{length-slice_set as length-set}
use Rattle.aw_term.specs.Rules.{Grammar, get}
use Rattle.aw_typed.specs.Types.{Types}
use Rattle.aw_world.specs.declared.workspace.Workspace.{Ghosts}
use Rattle.aw_book_drive.specs.Driving.{grammar_in, types_in, Uses, Drives, Tries}
use Rattle.aw_book_drive.specs.Joins.{CanGive, NoneFits, TriesNext, Stands, IsBlocked, GoesOn, Goes}
use Rattle.aw_book_drive.specs.Journals.{site_event}
use Rattle.aw_book_drive.specs.Lanes.{Reads}
use Rattle.aw_book_drive.specs.declared.driver.Driver.{Driver}
use Rattle.aw_book_drive.specs.declared.joining.Joined.{Joined}
use Rattle.aw_book_drive.specs.declared.lanes.Lane.{Lane}
use Rattle.aw_book_drive.proofs.Keeping.{uses-all}
use Rattle.aw_book_drive.proofs.Standing.{with_event, came-with, world-on, lanes-next}

module _ {W S : Type 0} (f : Ghosts W) (gives : S → List Event → Type 0) (t : Types) (g : Grammar) (firsts : List S) where
  -- one event more
  pub stands-on : (x y : Joined W f) (sources new : List S) (came : List (List Event)) (moves : List Move) (role : ℕ) (lane : Lane) (e : NodeEvent) (found : Option NodeEvent) (count : ℕ) (m : Move) →
      Stands f gives t g firsts x sources came moves → role < length sources → length x.lanes.items ≡ length sources → slice_get x.lanes.items role ≡ Some lane → lane.next ≡ Some e →
      count ≡ lane.count → Reads gives sources new role found → Fits t g (world_after g true moves) role (site_event g (event_of e)) m →
      Drives f y.driver (step g (world_after g true moves) m).world (moves ++ m ∷ []) → y.lanes.items ≡ slice_set x.lanes.items role (record { next = found; count = count + 1 }) →
      GoesOn f gives t g firsts y new
  stands-on x y sources new came moves role lane e found count m s l many at next same reads fits drives lanes =
      let n = s.many in
      let lc : role < length came = omega (arith, l, n) in
      let ll : role < length x.lanes.items = omega (arith, l, many) in (
        with_event came role (event_of e),
        moves ++ m ∷ [],
        record {
          drives = subst (λ v. Drives f y.driver v (moves ++ m ∷ [])) (world-on g moves m) drives;
          joint = came-with t g came moves role (event_of e) m lc s.joint fits;
          many = length-set came role (get [] came role ++ event_of e ∷ []) ∙ (n ∙ sym (ap length reads.others ∙ length-set sources role reads.source));
          lanes = λ r source z here there.
              lanes-next gives (CanGive gives firsts) sources new x.lanes.items came role lane e found count lc l ll at next same reads s.lanes r source z here (ap (λ ls. slice_get ls r) (sym lanes) ∙ there);
        },
      )

  -- none more
  pub stands-still : (x y : Joined W f) (sources : List S) (came : List (List Event)) (moves : List Move) → Stands f gives t g firsts x sources came moves →
      Drives f y.driver (world_after g true moves) moves → y.lanes.items ≡ x.lanes.items → Stands f gives t g firsts y sources came moves
  stands-still x y sources came moves s drives same = record {
    drives = drives;
    joint = s.joint;
    many = s.many;
    lanes = λ r source z here there. s.lanes r source z here (ap (λ ls. slice_get ls r) (sym same) ∙ there);
  }

-- trying the next event is trying that of the lane
pub tries-next : {W : Type 0} (f : Ghosts W) (t : Types) (g : Grammar) (y : Driver W f) (v : World) (moves : List Move) (role : ℕ) (lane : Lane) (event : NodeEvent) → lane.next ≡ Some event → (came : Bool) →
    Tries f t g y v moves role (site_event g (event_of event)) came → TriesNext f t g y v moves role lane came
tries-next f t g y v moves role lane event is true tries = (event, is, tries)
tries-next f t g y v moves role lane event is false tries = (
  λ other e next fits. tries.0 e (subst (λ (n : NodeEvent). Fits t g v role (site_event g (event_of n)) e) (same_Some _ _ (sym next ∙ is)) fits),
  tries.1,
)

-- a journal is blocked whose next event is not allowed
pub blocked-lane : (t : Types) (g : Grammar) (lanes : List Lane) (moves : List Move) (role : ℕ) (lane : Lane) → slice_get lanes role ≡ Some lane →
    NoneFits t g (world_after g true moves) role lane → IsBlocked t g lanes moves role
blocked-lane t g lanes moves role lane at none other there = subst (NoneFits t g (world_after g true moves) role) (same_Some _ _ (sym at ∙ there)) none

module _ {W S : Type 0} (f : Ghosts W) (gives : S → List Event → Type 0) (x y : Joined W f) (sources new : List S) (role : ℕ) (lane : Lane)
    (at : slice_get x.lanes.items role ≡ Some lane) (t : Types) (g : Grammar) (u : Uses x.driver t g) (firsts : List S) (came : List (List Event)) (moves : List Move)
    (s : Stands f gives t g firsts x sources came moves) where
  -- what trying the next event did, by the types and the grammar that are used
  tried : (moved : Bool) → ((v : World) (moves : List Move) → Drives f x.driver v moves → TriesNext f (types_in x.driver) (grammar_in x.driver) y.driver v moves role lane moved) →
      TriesNext f t g y.driver (world_after g true moves) moves role lane moved
  tried moved tries = uses-all x.driver t g (λ a b. TriesNext f a b y.driver (world_after g true moves) moves role lane moved) u (tries (world_after g true moves) moves s.drives)

  -- the next event was not allowed
  pub goes-none : y.lanes.items ≡ x.lanes.items →
      ((v : World) (moves : List Move) → Drives f x.driver v moves → TriesNext f (types_in x.driver) (grammar_in x.driver) y.driver v moves role lane false) →
      Goes f gives t g firsts y sources came moves (IsBlocked t g y.lanes.items moves role) false
  goes-none same tries =
      let r = tried false tries in
      (stands-still f gives t g firsts x y sources came moves s r.1 same, blocked-lane t g y.lanes.items moves role lane (ap (λ ls. slice_get ls role) same ∙ at) r.0)

  -- it was, and the journal was read on
  pub goes-one : role < length sources → length x.lanes.items ≡ length sources → (found : Option NodeEvent) → Reads gives sources new role found →
      y.lanes.items ≡ slice_set x.lanes.items role (record { next = found; count = lane.count + 1 }) →
      ((v : World) (moves : List Move) → Drives f x.driver v moves → TriesNext f (types_in x.driver) (grammar_in x.driver) y.driver v moves role lane true) →
      Goes f gives t g firsts y new came moves (IsBlocked t g y.lanes.items moves role) true
  goes-one l many found reads put tries =
      let (e, next, (m, fits, drives)) = tried true tries in
      stands-on f gives t g firsts x y sources new came moves role lane e found lane.count m s l many at next refl reads fits drives put
