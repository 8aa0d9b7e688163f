-- How serving begins, and what it leaves.
use Rattle.std.proofs.Common.{◌≡◌, ℕ, ◌≤◌, List, IsTrue, None, inl, inr, ⊎_elim, refl, sym, ◌∙◌, subst, arith}
use Rattle.aw_out.specs.declared.edge.Wire as wires
use Rattle.aw_law_sites.specs.Sites.{Site}
use Rattle.aw_disk.specs.Disk.{LeavesOnly}
use Rattle.aw_disk.specs.declared.edge.Disk as disks
use Rattle.aw_journal.specs.Events.{Event}
use Rattle.aw_journal.specs.EventView.{events_seen}
use Rattle.aw_journal.specs.Journal.{Kept, IsSettled}
use Rattle.aw_journal.specs.Opens.{HasEvents, IsSameJournal, IsOldOrSame, FirstSync, OldUntilSynced}
use Rattle.aw_journal.specs.declared.journal.AppendFault.{AppendFault}
use Rattle.aw_journal.specs.declared.journal.AppendFault.TheVariants as append
use Rattle.aw_journal.proofs.Moments.{weaker}
use Rattle.aw_session.specs.declared.log.SessionLog.{SessionLog}
use Rattle.aw_session.specs.declared.serving.Stopped.{Stopped}
use Rattle.aw_session.specs.declared.serving.Stopped.TheVariants as stopped
use Rattle.aw_node.specs.TypedNodes.{Rules}
use Rattle.aw_kept_node.specs.Exits.{IsBetween, IsOldOrBetween, Origin, Stands}
use Rattle.aw_kept_node.specs.Faults.{of_append}
use Rattle.aw_kept_node.specs.KeptSites.{KeptSite, reopened}
use Rattle.aw_kept_node.specs.Redone.{RedoesAll, StopsRedoing}
use Rattle.aw_kept_node.specs.Serving.{begun_at, IsReopened, WasReopened, IsKeptServing, IsKeptUnopened, IsKeptCutOff, IsNotBegun, StopsKept, GoesOn, StopsNode}
use Rattle.aw_kept_node.specs.declared.node.Unanswered.{Unanswered}
use Rattle.aw_kept_node.specs.declared.fault.KeptFault.{KeptFault}
use Rattle.aw_kept_node.specs.declared.fault.KeptFault.TheVariants.{NetFault, DiskFault, BadHead, BadEvent, Full, NoMemory}
use Rattle.aw_kept_node.proofs.Exits.{begins-same, between-one}
use Rattle.aw_kept_node.proofs.Steps.{left-standing}

-- what stands by some values stands by the same values under other names
pub stands-here : {D P : Type 0} (d : disks.Ghosts D) (o : Origin D) (shows : P → Site → Type 0) (p q : P) (j k : Kept) (x y : D) (l : KeptSite) →
    p ≡ q → j ≡ k → x ≡ y → Stands d o (shows q) k y l → Stands d o (shows p) j x l
stands-here {D} {P} d o shows p q j k x y l site journal disk h =
    subst (λ (z : P). Stands d o (shows z) j x l) (sym site) (subst (λ (z : Kept). Stands d o (shows q) z x l) (sym journal) (subst (λ (z : D). Stands d o (shows q) k z l) (sym disk) h))

module _ {W D : Type 0} (w : wires.Ghosts W) (d : disks.Ghosts D) (r : Rules) (role : ℕ) (text : List ℕ) (s : Site) (old : D) where
  -- its events were not done again
  pub not-redone : (u : W) (new : D) (events : List Event) (fault : KeptFault) → StopsRedoing r s events fault → IsNotBegun d role text u u old new →
      IsReopened d role text old events → StopsKept w d r role text s u u old new fault
  not-redone u new events NetFault h none is = absurd h
  not-redone u new events DiskFault h none is = absurd h
  not-redone u new events BadHead h none is = absurd h
  not-redone u new events (BadEvent n) h none is = (none, record { events = events; opened = is; first_bad = h })
  not-redone u new events Full h none is = absurd h
  not-redone u new events NoMemory h none is = inl none

  -- a file of the same journal has its events and no head but this one, since no other stood there before
  has-first : (j : Kept) (c : List ℕ) → IsReopened d role text old (events_seen j.events) → IsTrue (d.tells old) → IsSameJournal role text (d.seen old) c → HasEvents role text (events_seen j.events) c
  has-first j c is told h = record { events_are = h.same_events ∙ sym (is.are_read told); no_other_head = λ other. is.own_head told (h.no_new_head other) }

  between-first : (j : Kept) (c : List ℕ) → IsReopened d role text old (events_seen j.events) → IsTrue (d.tells old) → IsSameJournal role text
      (d.seen old) c → IsBetween role text (events_seen j.events) (events_seen j.events) c
  between-first j c is told h =
      let events = events_seen j.events in
      between-one role text events events events None c (begins-same events events refl) (begins-same events events refl) (inl (has-first j c is told h))

  -- the site of the events stands by the journal
  pub stands-first : (new : D) (shows : Site → Type 0) (j : Kept) → RedoesAll r s (events_seen j.events) shows → WasReopened d role text old new j →
      Stands d (begun_at r s role text (events_seen j.events) old) shows j new (reopened r s (events_seen j.events))
  stands-first new shows j redone was =
      let events = events_seen j.events in
      record {
        shown = redone.1;
        made = record { kept = redone.0; made = refl };
        same = refl;
        same_role = was.same_role;
        same_text = was.same_text;
        same_limit = was.same_limit;
        begins = begins-same events events refl;
        within = inl refl;
        tells_same = was.tells;
        never_falls = was.never_falls;
        moments = λ told. weaker d.moment d.left_since old new _ (IsOldOrBetween (d.may_leave old) role text events events) (was.moments told)
            (λ c h. ⊎_elim (λ past. inl past) (λ same. inr (between-first j c was.opened told same)) h);
        first_sync = λ told.
            let h = was.first_sync told in
            record { done_at = h.done_at; began = h.began; ended = h.ended; until = h.until; since = λ c left. between-first j c was.opened told (h.since c left) };
        durable = λ told c left. has-first j c was.opened told (subst (IsSameJournal role text (d.seen old)) (sym ((was.settled told).durable c left)) (was.reads told));
      }

  -- where reopening answered, its first sync was done by then
  pub synced-by : (only_now : (x : D) (c : List ℕ) → d.left_since x (d.moment x) c → d.may_leave x c) (new : D) (j : Kept) →
      LeavesOnly d.moment d.left_since old new (IsOldOrSame role text (d.may_leave old) (d.seen old)) →
      OldUntilSynced d (IsSameJournal role text (d.seen old)) old new → IsSettled d.seen d.may_leave new j → IsSameJournal role text (d.seen old)
      (d.seen new) → FirstSync d (IsSameJournal role text (d.seen old)) old new
  synced-by only_now new j run (inl none) settled reads = record {
    done_at = d.moment new;
    began = run.later;
    ended = omega arith;
    until = λ c left. inl (none c left);
    since = λ c left. subst (IsSameJournal role text (d.seen old)) (sym (settled.durable c (only_now new c left))) reads;
  }
  synced-by only_now new j run (inr first) settled reads = first

  module _
      (reads : (x : D) → IsTrue (d.tells x) → d.may_leave x (d.seen x))
      (counts : (x : D) (t : ℕ) (c : List ℕ) → t ≤ d.moment x → d.may_leave x c → d.left_since x t c)
    where
      -- all sessions were served
      pub kept-serving : (u v : W) (new : D) (moment : ℕ) (events : List Event) (shows start : Site → Type 0) (j : Kept) (log : List SessionLog) →
          IsReopened d role text old events → RedoesAll r s events start →
          GoesOn w d (begun_at r s role text events old) (reopened r s events) moment u v shows j new log → IsKeptServing w d r role text s u v old new log
      kept-serving u v new moment events shows start j log is redone h = record {
        events = events;
        opened = is;
        kept = redone.0;
        opened_at = moment;
        after = h.after;
        safe = h.safe;
        served = h.served;
        made = h.stands.made;
        within = h.stands.within;
        left = λ told. left-standing d (begun_at r s role text events old) reads counts shows j new h.after.kept h.stands told;
      }

      -- no session could be opened
      pub kept-unopened : (u v : W) (new : D) (moment : ℕ) (events : List Event) (shows start : Site → Type 0) (j : Kept) (reason : AppendFault)
          (why : Stopped Unanswered) → why ≡ stopped.NetFault → IsReopened d role text old events →
          RedoesAll r s events start → StopsNode w d (begun_at r s role text events old) (reopened r s events) moment u v shows j new reason why → IsKeptUnopened w d r role text s u v old new
      kept-unopened u v new moment events shows start j reason why net is redone stops =
          let h = subst (λ (x : Stopped Unanswered). StopsNode w d (begun_at r s role text events old) (reopened r s events) moment u v shows j new reason x) net stops in
          record {
            events = events;
            opened = is;
            kept = redone.0;
            opened_at = moment;
            after = h.after;
            safe = h.safe;
            served = h.served;
            made = h.stands.made;
            within = h.stands.within;
            left = λ told. left-standing d (begun_at r s role text events old) reads counts shows j new h.after.kept h.stands told;
          }

      -- a frame got no reply
      kept-cut-off : (u v : W) (new : D) (moment : ℕ) (events : List Event) (shows start : Site → Type 0) (j : Kept) (reason : AppendFault)
          (e : Unanswered) → IsReopened d role text old events → RedoesAll r s events start →
          StopsNode w d (begun_at r s role text events old) (reopened r s events) moment u v shows j new reason (stopped.Node e) → IsKeptCutOff w d r role text s u v old new reason
      kept-cut-off u v new moment events shows start j reason e is redone h =
          record { events = events; opened = is; kept = redone.0; opened_at = moment; after = h.after; safe = h.safe; served = h.served; halted = h.halted }

      kept-fault : (u v : W) (new : D) (reason : AppendFault) → IsKeptCutOff w d r role text s u v old new reason → StopsKept w d r role text s u v old new (of_append reason)
      kept-fault u v new append.DiskFault h = (h.halted.disk_fault refl, inr h)
      kept-fault u v new append.Full h = inr h
      kept-fault u v new append.NoMemory h = inr h

      pub kept-stopped : (u v : W) (new : D) (moment : ℕ) (events : List Event) (shows start : Site → Type 0) (j : Kept) (reason : AppendFault)
          (why : Stopped Unanswered) (e : Unanswered) (fault : KeptFault) → why ≡ stopped.Node e → fault ≡ of_append reason →
          IsReopened d role text old events → RedoesAll r s events start →
          StopsNode w d (begun_at r s role text events old) (reopened r s events) moment u v shows j new reason why → StopsKept w d r role text s u v old new fault
      kept-stopped u v new moment events shows start j reason why e fault node from is redone stops =
          let h = subst (λ (x : Stopped Unanswered). StopsNode w d (begun_at r s role text events old) (reopened r s events) moment u v shows j new reason x) node stops in
          subst (λ (f : KeptFault). StopsKept w d r role text s u v old new f) (sym from) (kept-fault u v new reason (kept-cut-off u v new moment events shows start j reason e is redone h))
