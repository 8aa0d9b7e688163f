-- What opening a file leaves, and what its contract says of each answer.
use Rattle.std.specs.Prelude.{◌≡◌, ◌≢◌, ℕ, ◌+◌, ◌≤◌, ◌<◌, List, [], Bool, IsTrue, if◌then◌else◌, ◌==◌, true, false, length, drop, get_or, Result, Ok, Err, IfErr, IfOk, OnOk}
use Rattle.std.proofs.Common.{inl, inr, refl, sym, ◌∙◌, ap, subst, arith}
use Rattle.std.proofs.lemmas.Bool.{false≢true}
use Rattle.aw_out.specs.Causes.{Rose}
use Rattle.aw_disk.specs.Disk.{LeavesOnly, Only}
use Rattle.aw_disk.specs.declared.edge.Disk.{Ghosts}
use Rattle.aw_journal.specs.Format.{has_head, end_of_head, events_of, front}
use Rattle.aw_journal.specs.Events.{Event}
use Rattle.aw_journal.specs.EventView.{events_seen}
use Rattle.aw_journal.specs.Journal.{IsSettled, Kept, Quiet, StandsAt}
use Rattle.aw_journal.specs.Opens.{FirstSync, HasEvents, IsEnded, IsForeign, IsOldOrSame, IsSameJournal}
use Rattle.aw_journal.specs.Openings.{IsOpened, IsStartFault, IsUntouched, KeepsFile, KeepsJournal, Reopens, Resumed}
use Rattle.aw_journal.specs.Reading.{OnlyReads}
use Rattle.aw_journal.specs.declared.reads.OpenFault.{OpenFault}
use Rattle.aw_journal.specs.declared.reads.OpenFault.TheVariants.{BadHead, DiskFault, Full, NoMemory}
use Rattle.aw_journal.specs.declared.payload.NodeEvent.{NodeEvent}
use Rattle.aw_journal.proofs.Bytes.{headless}
use Rattle.aw_journal.proofs.Heads.{ended_events, shut_after}
use Rattle.aw_journal.proofs.Moments.{read_last, runs_on, synced, synced_before, weaker}
use Rattle.aw_journal.proofs.Quiets.{quiet_none, quiet_then}

-- a head stands, or none does
pub headed : (bytes : List ℕ) → has_head bytes ≡ true → has_head bytes ≡ false → ⊥
headed bytes is not = false≢true (sym not ∙ is)

-- the same file
pub same_file : (role : ℕ) (text file c : List ℕ) → c ≡ file → IsSameJournal role text file c
same_file role text file c is = record { same_events = ap events_of is; no_new_head = subst (IsForeign role text) is }

-- a file with the same events and no other head
pub same_journal : (role : ℕ) (text file c : List ℕ) (events : List Event) → events ≡ events_of file → HasEvents role text events c → IsSameJournal role text file c
same_journal role text file c events same has = record { same_events = has.events_are ∙ same; no_new_head = λ foreign. absurd (has.no_other_head foreign) }

module _ {D : Type 0} (d : Ghosts D) (reads_an_outcome : (x : D) → IsTrue (d.tells x) → d.may_leave x (d.seen x))
    (counts_now : (x : D) (t : ℕ) (c : List ℕ) → t ≤ d.moment x → d.may_leave x c → d.left_since x t c)
    (only_now : (x : D) (c : List ℕ) → d.left_since x (d.moment x) c → d.may_leave x c) where
  -- what is read at the end of a run that leaves the same journal is that
  pub keeps : (role : ℕ) (text : List ℕ) (old new : D) →
      (IsTrue (d.tells old) → LeavesOnly d.moment d.left_since old new (IsSameJournal role text (d.seen old))) → d.tells new ≡ d.tells old →
      d.faults old ≤ d.faults new
      → KeepsJournal d role text old new
  keeps role text old new run same later = record {
    any_moment = run;
    reads_same = λ told. read_last d.moment d.left_since old new (IsSameJournal role text (d.seen old)) (d.seen new) (run told)
        (λ t le. counts_now new t (d.seen new) le (reads_an_outcome new (subst IsTrue (sym same) told)));
    told_same = same;
    never_falls = later;
  }

  module _ (role : ℕ) (text : List ℕ) (old mid : D) (quiet : Quiet d.tells d.seen d.may_leave d.moment d.left_since old mid)
      (later : d.faults old ≤ d.faults mid) (only : IsTrue (d.tells old) → Only (d.seen old) (d.may_leave old)) where
    moments : IsTrue (d.tells old) → LeavesOnly d.moment d.left_since old mid (IsSameJournal role text (d.seen old))
    moments told = weaker d.moment d.left_since old mid (d.may_leave old) (IsSameJournal role text (d.seen old)) quiet.any_moment (λ c left. same_file role text (d.seen old) c (only told c left))

    -- where nothing is written to a file of which a crash leaves nothing else
    pub keeps_quiet : KeepsJournal d role text old mid
    keeps_quiet = keeps role text old mid moments quiet.told_same later

    -- and where something is written then
    pub keeps_then : (new : D) → KeepsJournal d role text mid new → KeepsJournal d role text old new
    keeps_then new run =
        let told_mid : IsTrue (d.tells old) → IsTrue (d.tells mid) = λ told. subst IsTrue (sym quiet.told_same) told in
        keeps role text old new
        (λ told. runs_on d.moment d.left_since old mid new (IsSameJournal role text (d.seen old)) (IsSameJournal role text (d.seen mid)) (moments told) (run.any_moment (told_mid told))
        (λ c same. subst (λ (file : List ℕ). IsSameJournal role text file c) quiet.seen_same same))
        (run.told_same ∙ quiet.told_same) (omega (arith, later, run.never_falls))

    -- a crash still leaves nothing else
    pub only_then : IsTrue (d.tells old) → Only (d.seen mid) (d.may_leave mid)
    only_then told c left = only told c (quiet.no_more c left) ∙ sym quiet.seen_same

    -- the open records and the gate behind them
    pub resumed_stands : (gate : ℕ) (events : List Event) → IsTrue (d.tells old) → Resumed role text (d.seen old) gate events
        → StandsAt d.tells d.seen d.may_leave mid gate (front role text events) (drop (gate + 1) (d.seen old)) (get_or (d.seen old) gate 0)
    resumed_stands gate events told r = record {
      told = subst IsTrue (sym quiet.told_same) told;
      is = quiet.seen_same ∙ r.is;
      durable = only_then told;
      place_is = r.place;
    }

    -- while what lies past the last gate is cut off
    pub keeps_ended : (gate : ℕ) (events : List Event) (is_open : Bool) (new : D) →
        (IsTrue (d.tells old) → Resumed role text (d.seen old) gate events) → (IsTrue (d.tells old) → is_open ≡ (get_or (d.seen old) gate 0 == 1))
        → ((before rest : List ℕ) (g : ℕ) → StandsAt d.tells d.seen d.may_leave mid gate before rest g → LeavesOnly d.moment d.left_since mid new (IsEnded before rest g is_open))
        → d.tells new ≡ d.tells mid → d.faults mid ≤ d.faults new → KeepsJournal d role text old new
    keeps_ended gate events is_open new resumed gate_open ends same more =
        let last = get_or (d.seen old) gate 0 in
        let past = drop (gate + 1) (d.seen old) in
        keeps role text old new
        (λ told.
        let r = resumed told in
        runs_on d.moment d.left_since old mid new (IsSameJournal role text (d.seen old)) (IsEnded (front role text events) past last is_open) (moments told)
        (ends (front role text events) past last (resumed_stands gate events told r))
        (λ c left. same_journal role text (d.seen old) c events (sym r.events_are)
        (ended_events role text past c events last r.all r.fits r.none (subst (λ (b : Bool). IsEnded (front role text events) past last b c) (gate_open told) left))))
        (same ∙ quiet.told_same) (omega (arith, later, more))

    -- and once it is
    pub settled_ended : (gate limit : ℕ) (events : List NodeEvent) (is_open : Bool) (new : D) →
        (IsTrue (d.tells old) → Resumed role text (d.seen old) gate (events_seen events)) → (IsTrue (d.tells old) → is_open ≡ (get_or (d.seen old) gate 0 == 1))
        → ((before rest : List ℕ) (g : ℕ) → StandsAt d.tells d.seen d.may_leave mid gate before rest g → StandsAt d.tells d.seen d.may_leave new gate before [] (if is_open then 0 else g))
        → IsTrue (d.tells old) → IsSettled d.seen d.may_leave new (record { role = role; text = text; events = events; limit = limit; usable = true })
    settled_ended gate limit events is_open new resumed gate_open ends told =
        let last = get_or (d.seen old) gate 0 in
        let after = ends (front role text (events_seen events)) (drop (gate + 1) (d.seen old)) last (resumed_stands gate (events_seen events) told (resumed told)) in
        record {
          file = record { gate = if is_open then 0 else last; rest = []; shut = subst (λ (b : Bool). (if b then 0 else last) ≢ 1) (sym (gate_open told)) (shut_after last); is = after.is };
          durable = after.durable;
        }

  -- where the first sync fails
  pub keeps_unread : (role : ℕ) (text : List ℕ) (old new : D) → Quiet d.tells d.seen d.may_leave d.moment d.left_since old new → d.faults old ≤ d.faults new → KeepsFile d role text old new
  keeps_unread role text old new quiet later = record {
    any_moment = λ told. weaker d.moment d.left_since old new (d.may_leave old) (IsOldOrSame role text (d.may_leave old) (d.seen old)) quiet.any_moment (λ c left. inl left);
    first_sync = λ told. inl quiet.any_moment.each;
    images = λ told. inl quiet.no_more;
    reads_same = λ told. same_file role text (d.seen old) (d.seen new) quiet.seen_same;
    told_same = quiet.told_same;
    never_falls = later;
  }

  -- where it is done
  module _ (role : ℕ) (text : List ℕ) (old mid new : D) (quiet : Quiet d.tells d.seen d.may_leave d.moment d.left_since old mid)
      (only : IsTrue (d.tells old) → Only (d.seen mid) (d.may_leave mid)) (run : KeepsJournal d role text mid new) where
    told_mid : IsTrue (d.tells old) → IsTrue (d.tells mid)
    told_mid told = subst IsTrue (sym quiet.told_same) told

    of_seen : (c : List ℕ) → IsSameJournal role text (d.seen mid) c → IsSameJournal role text (d.seen old) c
    of_seen c same = subst (λ (file : List ℕ). IsSameJournal role text file c) quiet.seen_same same

    first_sync : IsTrue (d.tells old) → FirstSync d (IsSameJournal role text (d.seen old)) old new
    first_sync told =
        let P = IsSameJournal role text (d.seen old) in
        synced_before d old mid new P (IsSameJournal role text (d.seen mid)) P
        (synced d old mid P only_now quiet.any_moment (λ c left. same_file role text (d.seen old) c (only told c left ∙ quiet.seen_same)))
        (run.any_moment (told_mid told)) (λ c same. same) of_seen

    pub keeps_file : d.faults old ≤ d.faults mid → KeepsFile d role text old new
    keeps_file later = record {
      any_moment = λ told. runs_on d.moment d.left_since old mid new (IsOldOrSame role text (d.may_leave old) (d.seen old)) (IsSameJournal role text (d.seen mid))
          (weaker d.moment d.left_since old mid (d.may_leave old) (IsOldOrSame role text (d.may_leave old) (d.seen old)) quiet.any_moment (λ c left. inl left))
          (run.any_moment (told_mid told))
          (λ c same. inr (of_seen c same));
      first_sync = λ told. inr (first_sync told);
      images = λ told. inr (λ c left.
          let one = run.any_moment (told_mid told) in
          of_seen c (one.each c (counts_now new (d.moment mid) c one.later left)));
      reads_same = λ told. of_seen (d.seen new) (run.reads_same (told_mid told));
      told_same = run.told_same ∙ quiet.told_same;
      never_falls = omega (arith, later, run.never_falls);
    }

  untouched : (old mid new : D) → Quiet d.tells d.seen d.may_leave d.moment d.left_since old mid → d.faults mid ≡ d.faults old → IsUntouched d mid new → IsUntouched d old new
  untouched old mid new quiet kept h = record { quiet = quiet_then d.tells d.seen d.may_leave d.moment d.left_since counts_now only_now old mid new quiet h.quiet; unfailed = h.unfailed ∙ kept }

  pub nothing : (disk : D) → IsUntouched d disk disk
  nothing disk = record { quiet = quiet_none d.tells d.seen d.may_leave d.moment d.left_since counts_now only_now disk; unfailed = refl }

  module _ (role : ℕ) (text : List ℕ) (limit : ℕ) where
    -- a run of reads that failed
    pub not_read : {T : Type 0} (old new : D) (e : OpenFault) → OnlyReads {T = T} d (Err e) old new → Reopens d role text limit old new (Err e)
    not_read old new DiskFault h = h.cause
    not_read old new BadHead h = absurd h.cause
    not_read old new Full h = absurd h.cause
    not_read old new NoMemory h = record { quiet = h.quiet; unfailed = h.cause }

    -- a quiet run, and then the file is opened
    pub reopens_then : (old mid new : D) (r : Result Kept OpenFault) → Quiet d.tells d.seen d.may_leave d.moment d.left_since old mid →
        d.faults mid ≡ d.faults old → Reopens d role text limit mid new r → Reopens d role text limit old new r
    reopens_then old mid new (Ok j) quiet kept h =
        let told_mid : IsTrue (d.tells old) → IsTrue (d.tells mid) = λ told. subst IsTrue (sym quiet.told_same) told in
        record {
          events_are = λ told. h.events_are (told_mid told) ∙ ap events_of quiet.seen_same;
          role_is = h.role_is;
          text_is = h.text_is;
          limit_is = h.limit_is;
          used = h.used;
          settled = λ told. h.settled (told_mid told);
          own = λ told foreign. h.own (told_mid told) (subst (IsForeign role text) (sym quiet.seen_same) foreign);
          has_place = λ told none. h.has_place (told_mid told) (ap has_head quiet.seen_same ∙ none);
          unfailed = h.unfailed ∙ kept;
        }
    reopens_then old mid new (Err DiskFault) quiet kept h = subst (λ (n : ℕ). Rose n (d.faults new)) kept h
    reopens_then old mid new (Err BadHead) quiet kept h = (λ told. subst (IsForeign role text) quiet.seen_same (h.0 (subst IsTrue (sym quiet.told_same) told)), untouched old mid new quiet kept h.1)
    reopens_then old mid new (Err Full) quiet kept h =
        (λ told. (ap has_head (sym quiet.seen_same) ∙ (h.0 (subst IsTrue (sym quiet.told_same) told)).0, (h.0 (subst IsTrue (sym quiet.told_same) told)).1), untouched old mid new quiet kept h.1)
    reopens_then old mid new (Err NoMemory) quiet kept h = untouched old mid new quiet kept h

    -- why a journal is not started
    pub not_started : (disk : D) (e : OpenFault) → (IsTrue (d.tells disk) → has_head (d.seen disk) ≡ false) → IsStartFault (length text) limit e → Reopens d role text limit disk disk (Err e)
    not_started disk DiskFault none h = absurd h
    not_started disk BadHead none h = absurd h
    not_started disk Full none h = (λ told. (none told, h), nothing disk)
    not_started disk NoMemory none h = nothing disk

    -- the journal that is started, and the one that is gone on with
    pub is_started : (old new : D) (j : Kept) → j ≡ record { role = role; text = text; events = []; limit = limit; usable = true } →
        (IsTrue (d.tells old) → has_head (d.seen old) ≡ false) → end_of_head (length text) ≤ limit
        → (IsTrue (d.tells old) → IsSettled d.seen d.may_leave new (record { role = role; text = text; events = []; limit = limit; usable = true })) →
        d.faults new ≡ d.faults old → IsOpened d role text limit old new j
    is_started old new j is none place settled kept = subst (IsOpened d role text limit old new) (sym is) (record {
      events_are = λ told. sym (headless (d.seen old) (none told));
      role_is = refl;
      text_is = refl;
      limit_is = refl;
      used = refl;
      settled = settled;
      own = λ told foreign. headed (d.seen old) foreign.0 (none told);
      has_place = λ _ _. place;
      unfailed = kept;
    })

    pub is_resumed : (old new : D) (j : Kept) (gate : ℕ) (events : List NodeEvent) → j ≡ record {
      role = role;
      text = text;
      events = events;
      limit =
          limit;
      usable = true;
    } → (IsTrue (d.tells old) → has_head (d.seen old) ≡ true)
        → (IsTrue (d.tells old) → Resumed role text (d.seen old) gate (events_seen events))
        → (IsTrue (d.tells old) → IsSettled d.seen d.may_leave new (record {
          role = role;
          text = text;
          events = events;
          limit = limit;
          usable =
              true;
        })) → d.faults new ≡ d.faults old → IsOpened d role text limit old new j
    is_resumed old new j gate events is some r settled kept = subst (IsOpened d role text limit old new) (sym is) (record {
      events_are = λ told. sym (r told).events_are;
      role_is = refl;
      text_is = refl;
      limit_is = refl;
      used = refl;
      settled = settled;
      own = λ told foreign. foreign.1 (r told).own;
      has_place = λ told none. absurd (headed (d.seen old) (some told) none);
      unfailed = kept;
    })

  -- what is so of each answer
  module _ (role : ℕ) (text : List ℕ) (limit : ℕ) (old new : D) where
    abbrev Opens : Result Kept OpenFault → Type 0
    Opens = Reopens d role text limit old new

    pub opened_events : (r : Result Kept OpenFault) → Opens r → IfOk r (λ j. IsTrue (d.tells old) → events_seen j.events ≡ events_of (d.seen old))
    opened_events (Ok j) h = h.events_are
    opened_events (Err e) h = tt

    pub opened_made : (r : Result Kept OpenFault) → Opens r → IfOk r (λ j. (j.role ≡ role) × (j.text ≡ text) × (j.limit ≡ limit) × IsTrue j.usable)
    opened_made (Ok j) h = (h.role_is, h.text_is, h.limit_is, h.used)
    opened_made (Err e) h = tt

    pub opened_settled : (r : Result Kept OpenFault) → Opens r → IfOk r (λ j. IsTrue (d.tells old) → IsSettled d.seen d.may_leave new j)
    opened_settled (Ok j) h = h.settled
    opened_settled (Err e) h = tt

    pub opened_own : (r : Result Kept OpenFault) → Opens r → OnOk r (IsTrue (d.tells old) → IsForeign role text (d.seen old) → ⊥)
    opened_own (Ok j) h = h.own
    opened_own (Err e) h = tt

    pub opened_place : (r : Result Kept OpenFault) → Opens r → OnOk r (IsTrue (d.tells old) → has_head (d.seen old) ≡ false → end_of_head (length text) ≤ limit)
    opened_place (Ok j) h = h.has_place
    opened_place (Err e) h = tt

    pub opened_foreign : (r : Result Kept OpenFault) → Opens r → r ≡ Err BadHead → IsTrue (d.tells old) → IsForeign role text (d.seen old) × (d.seen new ≡ d.seen old)
    opened_foreign r h is told =
        let as_err = subst Opens is h in
        (as_err.0 told, as_err.1.quiet.seen_same)

    pub opened_full : (r : Result Kept OpenFault) → Opens r → r ≡ Err Full → IsTrue (d.tells old) → (has_head (d.seen old) ≡ false) × (limit < end_of_head (length text)) × (d.seen new ≡ d.seen old)
    opened_full r h is told =
        let as_err = subst Opens is h in
        ((as_err.0 told).0, (as_err.0 told).1, as_err.1.quiet.seen_same)

    pub opened_quiet : (r : Result Kept OpenFault) → Opens r → IfErr r (λ e. (e ≡ DiskFault → ⊥) → Quiet d.tells d.seen d.may_leave d.moment d.left_since old new)
    opened_quiet (Ok j) h = tt
    opened_quiet (Err DiskFault) h = λ not. absurd (not refl)
    opened_quiet (Err BadHead) h = λ _. h.1.quiet
    opened_quiet (Err Full) h = λ _. h.1.quiet
    opened_quiet (Err NoMemory) h = λ _. h.quiet

    pub opened_fault : (r : Result Kept OpenFault) → Opens r → r ≡ Err DiskFault → Rose (d.faults old) (d.faults new)
    opened_fault r h is = subst Opens is h

    pub opened_kept : (r : Result Kept OpenFault) → Opens r → (r ≡ Err DiskFault → ⊥) → d.faults new ≡ d.faults old
    opened_kept (Ok j) h not = h.unfailed
    opened_kept (Err DiskFault) h not = absurd (not refl)
    opened_kept (Err BadHead) h not = h.1.unfailed
    opened_kept (Err Full) h not = h.1.unfailed
    opened_kept (Err NoMemory) h not = h.unfailed
