-- Where no journal's next event is allowed, the journals are joined as far as they fit.
use Rattle.std.specs.Prelude.{slice_get, take, option_map, ◌⊎◌}
use Rattle.std.proofs.Common.{◌≡◌, true, ℕ, zero, suc, ◌<◌, ◌≤◌, List, [], ◌∷◌, ◌++◌, map, length, Option, Some, None, refl, sym, ap, ◌∙◌, subst, inl, inr, append-nil, length-append, arith}
use Rattle.std.proofs.lemmas.List.{length-map}
use Rattle.std.proofs.lemmas.Option.{same_Some}
use Rattle.aw_accept.specs.Acyclic.{Pairs}
use Rattle.aw_journal.specs.Events.{Event}
use Rattle.aw_journal.specs.EventView.{event_of}
use Rattle.aw_journal.specs.declared.payload.NodeEvent.{NodeEvent}
use Rattle.aw_law_journals.specs.Journals.{Fits, IsReach, journal_at, firsts}
use Rattle.aw_law_journals.proofs.Coming.{came-as}
use Rattle.aw_law_journals.proofs.Reaching.{journal-firsts, get-front}
use Rattle.aw_law_sites.specs.SiteEvents.{SiteEvent}
use Rattle.aw_law_sites.specs.Worlds.{Move, world_after}
use Rattle.aw_term.specs.Rules.{Grammar, get}
use Rattle.aw_typed.specs.Types.{Types}
use Rattle.aw_book_drive.specs.Joins.{seen_at, Came, AreBlocked}
use Rattle.aw_book_drive.specs.Journals.{site_event, journal_seen, journals_seen}
use Rattle.aw_book_drive.specs.Lanes.{ToCome, IsLane}
use Rattle.aw_book_drive.specs.declared.lanes.Lane.{Lane}
use Rattle.aw_book_drive.proofs.Lists.{get-seen}
use Rattle.aw_book_drive.proofs.Places.{past-all}

-- the counts of lanes
abbrev pub counts : List Lane → List ℕ
counts lanes = map (λ (l : Lane). l.count) lanes

seen-both : (g : Grammar) (xs ys : List Event) → journal_seen g (xs ++ ys) ≡ journal_seen g xs ++ journal_seen g ys
seen-both g [] ys = refl
seen-both g (x ∷ xs) ys = ap (◌∷◌ (site_event g x)) (seen-both g xs ys)

-- a journal each: what came, and some events behind it
abbrev pub journals_of : {S : Type 0} → (Option NodeEvent → S → List Event) → List (List Event) → List Lane → List S → List (List Event)
journals_of rest (c ∷ cs) (l ∷ ls) (s ∷ ss) = (c ++ rest l.next s) ∷ journals_of rest cs ls ss
journals_of rest [] ls ss = []
journals_of rest (c ∷ cs) [] ss = []
journals_of rest (c ∷ cs) (l ∷ ls) [] = []

-- what stands at a role: its lane and its source
pub record IsHere {S : Type 0} (rest : Option NodeEvent → S → List Event) (came : List (List Event)) (lanes : List Lane) (sources : List S) (r : ℕ) : Type 0 where
  pub lane : Lane
  pub source : S
  pub lane_at : slice_get lanes r ≡ Some lane
  pub source_at : slice_get sources r ≡ Some source
  pub count : get 0 (counts lanes) r ≡ lane.count
  pub journal : get [] (journals_of rest came lanes sources) r ≡ get [] came r ++ rest lane.next source
  pub within : r < length sources

-- or nothing
pub record IsGone {S : Type 0} (rest : Option NodeEvent → S → List Event) (came : List (List Event)) (lanes : List Lane) (sources : List S) (r : ℕ) : Type 0 where
  pub lane : slice_get lanes r ≡ None
  pub count : get 0 (counts lanes) r ≡ 0
  pub none : get [] came r ≡ []
  pub journal : get [] (journals_of rest came lanes sources) r ≡ []

here-or-gone : {S : Type 0} (rest : Option NodeEvent → S → List Event) (came : List (List Event)) (lanes : List Lane) (sources : List S) (r : ℕ) → length came ≡ length sources →
    length lanes ≡ length sources → IsHere rest came lanes sources r ⊎ IsGone rest came lanes sources r
here-or-gone rest [] [] [] r a b = inr (record { lane = refl; count = refl; none = refl; journal = refl })
here-or-gone rest (c ∷ cs) (l ∷ ls) (s ∷ ss) zero a b =
    inl (record { lane = l; source = s; lane_at = refl; source_at = refl; count = refl; journal = refl; within = omega arith })
here-or-gone rest (c ∷ cs) (l ∷ ls) (s ∷ ss) (suc r) a b =
    elim (here-or-gone rest cs ls ss r (omega (arith, a)) (omega (arith, b))) [
      | inl x ↦ (let w = x.within in
          inl (record { lane = x.lane; source = x.source; lane_at = x.lane_at; source_at = x.source_at; count = x.count; journal = x.journal; within = omega (arith, w) }))
      | inr x ↦ inr (record { lane = x.lane; count = x.count; none = x.none; journal = x.journal })
    ]
here-or-gone rest [] (l ∷ ls) [] r a b = absurd (omega (arith, b))
here-or-gone rest (c ∷ cs) ls [] r a b = absurd (omega (arith, a))
here-or-gone rest [] ls (s ∷ ss) r a b = absurd (omega (arith, a))
here-or-gone rest (c ∷ cs) [] (s ∷ ss) r a b = absurd (omega (arith, b))

module _ {S : Type 0} (gives : S → List Event → Type 0) (some : (s : S) → (events : List Event) × gives s events) where
  -- events that can come yet
  abbrev pub rest : Option NodeEvent → S → List Event
  rest None s = []
  rest (Some e) s = event_of e ∷ (some s).0

  rest-comes : (next : Option NodeEvent) (s : S) → ToCome gives s next (rest next s)
  rest-comes None s = refl
  rest-comes (Some e) s = ((some s).0, refl, (some s).1)

  -- the sources can have given the journals
  pub all-given : (olds sources : List S) (came : List (List Event)) (lanes : List Lane) → length came ≡ length olds → length lanes ≡ length olds → length sources ≡ length olds →
      ((r : ℕ) (old s : S) (l : Lane) → slice_get olds r ≡ Some old → slice_get sources r ≡ Some s → slice_get lanes r ≡ Some l → IsLane gives (gives old) s l (get [] came r)) →
      Pairs gives olds (journals_of rest came lanes sources)
  all-given [] [] [] [] a b c h = tt
  all-given (o ∷ os) (s ∷ ss) (x ∷ xs) (l ∷ ls) a b c h =
      ((h 0 o s l refl refl refl).whole (rest l.next s) (rest-comes l.next s), all-given os ss xs ls (omega (arith, a)) (omega (arith, b)) (omega (arith, c)) (λ r. h (suc r)))
  all-given [] [] [] (l ∷ ls) a b c h = absurd (omega (arith, b))
  all-given [] [] (x ∷ xs) ls a b c h = absurd (omega (arith, a))
  all-given [] (s ∷ ss) xs ls a b c h = absurd (omega (arith, c))
  all-given (o ∷ os) [] xs ls a b c h = absurd (omega (arith, c))
  all-given (o ∷ os) (s ∷ ss) [] ls a b c h = absurd (omega (arith, a))
  all-given (o ∷ os) (s ∷ ss) (x ∷ xs) [] a b c h = absurd (omega (arith, b))

  module _ (t : Types) (g : Grammar) (came : List (List Event)) (lanes : List Lane) (sources : List S) (moves : List Move)
      (many : length came ≡ length sources) (each : length lanes ≡ length sources)
      (stand : (r : ℕ) (s : S) (l : Lane) → slice_get sources r ≡ Some s → slice_get lanes r ≡ Some l → l.count ≡ length (get [] came r)) where
    abbrev pub js : List (List SiteEvent)
    js = journals_seen g (journals_of rest came lanes sources)

    at-role : (r : ℕ) → journal_at js r ≡ journal_seen g (get [] (journals_of rest came lanes sources) r)
    at-role r = get-seen (journal_seen g) refl (journals_of rest came lanes sources) r

    long : (r : ℕ) → length (seen_at g came r) ≡ length (get [] came r)
    long r = length-map (get [] came r) (site_event g)

    -- the first events are those that came
    first-events : (r : ℕ) → take (get 0 (counts lanes) r) (journal_at js r) ≡ seen_at g came r
    first-events r =
        elim (here-or-gone rest came lanes sources r many each) [
          | inl x ↦ (let n = x.count ∙ (stand r x.source x.lane x.source_at x.lane_at ∙ sym (long r)) in
              let p = at-role r ∙ (ap (journal_seen g) x.journal ∙ seen-both g (get [] came r) (rest x.lane.next x.source)) in
              ap (λ k. take k (journal_at js r)) n ∙ (ap (take (length (seen_at g came r))) p ∙ all-of (seen_at g came r) (journal_seen g (rest x.lane.next x.source))))
          | inr x ↦ ap (λ k. take k (journal_at js r)) x.count ∙ (sym (ap (journal_seen g) x.none))
        ]
      where
        all-of : (xs ys : List SiteEvent) → take (length xs) (xs ++ ys) ≡ xs
        all-of [] ys = refl
        all-of (x ∷ xs) ys = ap (◌∷◌ x) (all-of xs ys)

    within-all : (r : ℕ) → get 0 (counts lanes) r ≤ length (journal_at js r)
    within-all r =
        elim (here-or-gone rest came lanes sources r many each) [
          | inl x ↦ (let n = x.count ∙ (stand r x.source x.lane x.source_at x.lane_at ∙ sym (long r)) in
              let p = ap length (at-role r ∙ (ap (journal_seen g) x.journal ∙ seen-both g (get [] came r) (rest x.lane.next x.source))) in
              let q = length-append (seen_at g came r) (journal_seen g (rest x.lane.next x.source)) in
              omega (arith, n, p, q))
          | inr x ↦ (let n = x.count in omega (arith, n))
        ]

    -- the event behind them, where there is one
    next-of : (xs : List Event) (next : Option NodeEvent) (s : S) → slice_get (xs ++ rest next s) (length xs) ≡ option_map event_of next
    next-of xs None s = ap (λ ys. slice_get ys (length xs)) (append-nil xs) ∙ past-all xs
    next-of xs (Some e) s = get-front xs (event_of e) (some s).0 (length xs) refl

    pub next-event : (r : ℕ) (lane : Lane) → slice_get lanes r ≡ Some lane → option_map event_of lane.next ≡ slice_get (get [] (journals_of rest came lanes sources) r) lane.count
    next-event r lane at =
        elim (here-or-gone rest came lanes sources r many each) [
          | inl x ↦ (let p : x.lane ≡ lane = same_Some _ _ (sym x.lane_at ∙ at) in
              let n = stand r x.source x.lane x.source_at x.lane_at in
              subst (λ (l : Lane). option_map event_of l.next ≡ slice_get (get [] (journals_of rest came lanes sources) r) l.count) p
              (sym (ap (λ xs. slice_get xs x.lane.count) x.journal ∙ (ap (slice_get (get [] came r ++ (rest x.lane.next x.source))) n ∙ next-of (get [] came r) x.lane.next x.source))))
          | inr x ↦ (let e : None ≡ Some lane = sym x.lane ∙ at in absurd cc)
        ]

    seen-next : (xs : List Event) (k : ℕ) (y : SiteEvent) (next : Option NodeEvent) → option_map event_of next ≡ slice_get xs k → slice_get (journal_seen g xs) k ≡ Some y →
        (e : NodeEvent) × (next ≡ Some e) × (site_event g (event_of e) ≡ y)
    seen-next [] k y None p q = absurd cc
    seen-next [] k y (Some e) p q = absurd cc
    seen-next (x ∷ xs) zero y None p q = absurd cc
    seen-next (x ∷ xs) zero y (Some e) p q = (e, refl, ap (site_event g) (same_Some _ _ p) ∙ same_Some _ _ q)
    seen-next (x ∷ xs) (suc k) y next p q = seen-next xs k y next p q

    pub reached : Came t g came moves → AreBlocked t g lanes moves (length sources) → IsReach t g js (counts lanes) moves
    reached joint blocked = record {
      joint = came-as t g (seen_at g came) (journal_at (firsts (counts lanes) js)) moves (λ r. sym (journal-firsts (counts lanes) js r ∙ first-events r)) joint;
      within = within-all;
      ended = λ r event e at fits.
          elim (here-or-gone rest came lanes sources r many each) [
            | inl x ↦ (let there : slice_get (journal_seen g (get [] (journals_of rest came lanes sources) r)) x.lane.count ≡ Some event =
                ap (λ xs. slice_get xs x.lane.count) (sym (at-role r)) ∙ (ap (slice_get (journal_at js r)) (sym x.count) ∙ at) in
                let (n, p, q) = seen-next (get [] (journals_of rest came lanes sources) r) x.lane.count event x.lane.next (next-event r x.lane x.lane_at) there in
                blocked r x.within x.lane x.lane_at n e p (subst (λ y. Fits t g (world_after g true moves) r y e) (sym q) fits))
            | inr x ↦ (let none : journal_at js r ≡ [] = at-role r ∙ ap (journal_seen g) x.journal in
                let e : None ≡ Some event = sym (ap (λ xs. slice_get xs (get 0 (counts lanes) r)) none) ∙ at in absurd cc)
          ];
    }
