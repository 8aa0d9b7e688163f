-- Where nothing came yet.
use Rattle.std.specs.Prelude.{slice_get}
use Rattle.std.proofs.Common.{◌≡◌, ℕ, zero, suc, true, List, [], ◌∷◌, map, length, Some, refl, sym, ap, ◌∙◌, subst, arith}
use Rattle.std.proofs.lemmas.Option.{same_Some}
use Rattle.aw_journal.specs.Events.{Event}
use Rattle.aw_law_sites.specs.Worlds.{empty_world}
use Rattle.aw_term.specs.Rules.{Grammar, get}
use Rattle.aw_typed.specs.Types.{Types}
use Rattle.aw_world.specs.MoveView.{move_of}
use Rattle.aw_world.specs.Shown.{Shows}
use Rattle.aw_world.specs.declared.workspace.Workspace.{Ghosts}
use Rattle.aw_book_drive.specs.Indexes.{Covers}
use Rattle.aw_book_drive.specs.Joins.{CanGive, Stands}
use Rattle.aw_book_drive.specs.Journals.{journal_seen}
use Rattle.aw_book_drive.specs.Lanes.{IsLane, AreFresh}
use Rattle.aw_book_drive.specs.declared.joining.Joined.{Joined}
use Rattle.aw_book_drive.specs.declared.lanes.Lane.{Lane}
use Rattle.aw_book_drive.proofs.Places.{some-there, none-past}

-- of each journal no event
abbrev pub nothing : {S : Type 0} → List S → List (List Event)
nothing [] = []
nothing (s ∷ ss) = [] ∷ nothing ss

nothing-many : {S : Type 0} (ss : List S) → length (nothing ss) ≡ length ss
nothing-many [] = refl
nothing-many (s ∷ ss) = ap suc (nothing-many ss)

nothing-at : {S : Type 0} (ss : List S) (r : ℕ) → get [] (nothing ss) r ≡ []
nothing-at [] r = refl
nothing-at (s ∷ ss) zero = refl
nothing-at (s ∷ ss) (suc r) = nothing-at ss r

module _ {W S : Type 0} (f : Ghosts W) (gives : S → List Event → Type 0) (t : Types) (g : Grammar) where
  -- the lane of a journal of which nothing came
  lane-first : (firsts sources : List S) (lanes : List Lane) → length sources ≡ length firsts → AreFresh gives firsts sources lanes → (r : ℕ) (s : S) (lane : Lane) → slice_get sources r ≡ Some s →
      slice_get lanes r ≡ Some lane → IsLane gives (CanGive gives firsts r) s lane []
  lane-first firsts sources lanes many fresh r s lane source there =
      let within = none-past sources r s source in
      let (old, stood) = some-there firsts r (omega (arith, within, many)) in
      let l = fresh.each r old s lane stood source there in
      record { count = l.count; whole = λ events c o at. subst (λ o. gives o events) (same_Some _ _ (sym stood ∙ at)) (l.whole events c) }

  pub stands-first : (x : Joined W f) (firsts sources : List S) → length sources ≡ length firsts → AreFresh gives firsts sources x.lanes.items → Shows f x.driver.world (empty_world g true) →
      Covers x.driver.index [] → x.driver.moves.items ≡ [] → Stands f gives t g firsts x sources (nothing sources) []
  stands-first x firsts sources many fresh shows covers none = record {
    drives = record { world = ((empty_world g true).delivered, shows); index = covers; moves_are = ap (map move_of) none };
    joint = ([], (λ r. sym (ap (journal_seen g) (nothing-at sources r))), tt);
    many = nothing-many sources;
    lanes = λ r s lane source there. subst (IsLane gives (CanGive gives firsts r) s lane) (sym (nothing-at sources r)) (lane-first firsts sources x.lanes.items many fresh r s lane source there);
  }
