-- One event more of a role's journal.
use Rattle.std.specs.Prelude.{slice_get, slice_set, nat_eq}
use Rattle.std.proofs.Common.{◌≡◌, ℕ, ◌+◌, ◌<◌, Bool, true, false, cond, List, [], ◌∷◌, ◌++◌, length, Option, Some, refl, sym, ap, ◌∙◌, subst, inl, inr, append-nil, eqb-true, eq-eqb}
use Rattle.std.proofs.lemmas.Option.{same_Some}
use Rattle.aw_journal.specs.Events.{Event}
use Rattle.aw_journal.specs.EventView.{event_of}
use Rattle.aw_journal.specs.declared.payload.NodeEvent.{NodeEvent}
use Rattle.aw_law_journals.specs.Journals.{Entry, of_role, Fits}
use Rattle.aw_law_journals.proofs.Coming.{came-as, came-more}
use Rattle.aw_law_sites.specs.Worlds.{Move, step, empty_world, world_after}
use Rattle.aw_law_worlds.proofs.Places.{get-set, get-set_other, same_or_not}
use Rattle.aw_law_worlds.proofs.Settling.{run_both}
use Rattle.aw_term.specs.Rules.{Grammar, get}
use Rattle.aw_typed.specs.Types.{Types}
use Rattle.aw_book_drive.specs.Joins.{seen_at, Came}
use Rattle.aw_book_drive.specs.Journals.{site_event, journal_seen}
use Rattle.aw_book_drive.specs.Lanes.{IsLane, Reads}
use Rattle.aw_book_drive.specs.declared.lanes.Lane.{Lane}
use Rattle.aw_book_drive.proofs.Coming.{lane-next}
use Rattle.aw_book_drive.proofs.Places.{put-here, put-other, some-there}

-- with this event at the end of what came of this role's journal
abbrev pub with_event : List (List Event) → ℕ → Event → List (List Event)
with_event came r e = slice_set came r (get [] came r ++ e ∷ [])

seen-append : (g : Grammar) (xs : List Event) (e : Event) → journal_seen g (xs ++ e ∷ []) ≡ journal_seen g xs ++ site_event g e ∷ []
seen-append g [] e = refl
seen-append g (x ∷ xs) e = ap (◌∷◌ (site_event g x)) (seen-append g xs e)

module _ (t : Types) (g : Grammar) where
  seen-with : (came : List (List Event)) (role : ℕ) (e : Event) → role < length came → (r : ℕ) → (b : Bool) → nat_eq role r ≡ b → seen_at g came r ++ cond b (site_event g e ∷ []) [] ≡ seen_at g (with_event came role e) r
  seen-with came role e l r true q =
      let p = eqb-true role r q in
      subst (λ r. seen_at g came r ++ site_event g e ∷ [] ≡ seen_at g (with_event came role e) r) p
      (sym (ap (journal_seen g) (get-set [] came role (get [] came role ++ e ∷ []) l) ∙ seen-append g (get [] came role) e))
  seen-with came role e l r false q =
      append-nil (seen_at g came r) ∙ ap (journal_seen g) (sym (get-set_other [] came role r (get [] came role ++ e ∷ []) (λ p. let z : nat_eq role r ≡ true = eq-eqb role r p in absurd cc)))

  -- the moves with one more that is allowed are a joint order of what came with its event
  pub came-with : (came : List (List Event)) (moves : List Move) (role : ℕ) (e : Event) (m : Move) → role < length came → Came t g came moves → Fits t g (world_after g true moves) role (site_event g e) m
      → Came t g (with_event came role e) (moves ++ m ∷ [])
  came-with came moves role e m l joint fits =
      let x : Entry = record { role = role; event = site_event g e } in
      came-as t g (λ r. seen_at g came r ++ of_role r (x ∷ [])) (seen_at g (with_event came role e)) (moves ++ m ∷ []) (λ r. seen-with came role e l r (nat_eq role r) refl)
      (came-more t g (seen_at g came) moves x m joint fits)

-- the world behind one move more
pub world-on : (g : Grammar) (moves : List Move) (m : Move) → (step g (world_after g true moves) m).world ≡ world_after g true (moves ++ m ∷ [])
world-on g moves m = sym (run_both g (empty_world g true) moves (m ∷ []))

module _ {S : Type 0} (gives : S → List Event → Type 0) where
  -- the lanes of all journals behind one event more of one of them
  pub lanes-next : (first : ℕ → List Event → Type 0) (sources : List S) (new : List S) (lanes : List Lane) (came : List (List Event)) (role : ℕ) (lane : Lane) (e : NodeEvent) (found : Option NodeEvent)
      (count : ℕ) → role < length came → role < length sources → role < length lanes → slice_get lanes role ≡ Some lane → lane.next ≡ Some e → count ≡ lane.count → Reads gives sources new role found →
      ((r : ℕ) (s : S) (l : Lane) → slice_get sources r ≡ Some s → slice_get lanes r ≡ Some l → IsLane gives (first r) s l (get [] came r)) →
      (r : ℕ) (s : S) (l : Lane) → slice_get new r ≡ Some s → slice_get (slice_set lanes role (record { next = found; count = count + 1 })) r ≡ Some l →
      IsLane gives (first r) s l (get [] (with_event came role (event_of e)) r)
  lanes-next first sources new lanes came role lane e found count lc ls ll at n same reads all r s l source there =
      let y : Lane = record { next = found; count = count + 1 } in
      elim (same_or_not role r) [
        | inl p ↦ subst (λ r. (s : S) (l : Lane) → slice_get new r ≡ Some s → slice_get (slice_set lanes role y) r ≡ Some l → IsLane gives (first r) s l (get [] (with_event came role (event_of e)) r)) p here s l source there
        | inr d ↦ subst (IsLane gives (first r) s l) (sym (get-set_other [] came role r (get [] came role ++ event_of e ∷ []) d))
            (all r s l (sym (put-other sources role r reads.source d) ∙ (ap (λ ss. slice_get ss r) (sym reads.others) ∙ source)) (sym (put-other lanes role r y d) ∙ there))
      ]
    where
      here : (s : S) (l : Lane) → slice_get new role ≡ Some s → slice_get (slice_set lanes role (record { next = found; count = count + 1 })) role ≡ Some l →
          IsLane gives (first role) s l (get [] (with_event came role (event_of e)) role)
      here s l source there =
          let y : Lane = record { next = found; count = count + 1 } in
          let (old, stood) = some-there sources role ls in
          let p : reads.source ≡ s = same_Some _ _ (sym (put-here sources role reads.source ls) ∙ (ap (λ ss. slice_get ss role) (sym reads.others) ∙ source)) in
          let q : y ≡ l = same_Some _ _ (sym (put-here lanes role y ll) ∙ there) in
          let one = lane-next gives (first role) old reads.source lane (get [] came role) e found count n same (all role old lane stood at) (reads.given old stood) in
          subst (λ came'. IsLane gives (first role) s l came') (sym (get-set [] came role (get [] came role ++ event_of e ∷ []) lc))
          (subst (λ s. IsLane gives (first role) s l (get [] came role ++ event_of e ∷ [])) p (subst (λ l. IsLane gives (first role) reads.source l (get [] came role ++ event_of e ∷ [])) q one))
