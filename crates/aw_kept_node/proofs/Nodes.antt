-- What a kept node does is what the site does that keeps its events.
use Rattle.std.proofs.Common.{◌≡◌, ◌≢◌, ℕ, ◌≤◌, List, IsTrue, Option, None, refl, sym, ◌∙◌, subst}
use Rattle.aw_out.specs.declared.edge.Wire as wires
use Rattle.aw_law_sites.specs.Sites.{Site}
use Rattle.aw_msg.specs.Frames.{Frame}
use Rattle.aw_disk.specs.declared.edge.Disk as disks
use Rattle.aw_journal.specs.Events.{Event}
use Rattle.aw_journal.specs.Journal.{Kept}
use Rattle.aw_journal.specs.declared.journal.AppendFault.{AppendFault}
use Rattle.aw_journal.specs.declared.journal.AppendFault.TheVariants.{DiskFault, NoMemory}
use Rattle.aw_session.specs.Sessions.{IsServing, IsUnopened, IsCutOff, StopsServing}
use Rattle.aw_session.specs.declared.log.SessionLog.{SessionLog}
use Rattle.aw_session.specs.declared.serving.Stopped.{Stopped}
use Rattle.aw_session.specs.declared.serving.Stopped.TheVariants as stopped
use Rattle.aw_session.proofs.Simulations.{all-served-as}
use Rattle.aw_node.specs.TypedNodes.{Rules}
use Rattle.aw_kept_node.specs.Answering.{AnswersAndKeeps, FailsAsSeen}
use Rattle.aw_kept_node.specs.Exits.{Origin, Stands, Halts}
use Rattle.aw_kept_node.specs.KeptEvents.{kept_of}
use Rattle.aw_kept_node.specs.KeptSites.{KeptSite, Standing, standing, after_frame, with_event}
use Rattle.aw_kept_node.specs.Replying.{RepliesSafely, LeavesInHand}
use Rattle.aw_kept_node.specs.Serving.{GoesOn, StopsNode}
use Rattle.aw_kept_node.specs.declared.node.Unanswered.{Unanswered}
use Rattle.aw_kept_node.proofs.BothWays.{all-served-back, cut-off-back}
use Rattle.aw_kept_node.proofs.CutOffs.{cut-off-with}
use Rattle.aw_kept_node.proofs.Exits.{begins-same}
use Rattle.aw_kept_node.proofs.Steps.{stands-on, RunsSafely, safe-since, answers-safely, safely-here, tries-safely, halts, halts-still}

module _
    {W D N T : Type 0}
    (w : wires.Ghosts W)
    (d : disks.Ghosts D)
    (reads : (x : D) → IsTrue (d.tells x) → d.may_leave x (d.seen x))
    (counts : (x : D) (t : ℕ) (c : List ℕ) → t ≤ d.moment x → d.may_leave x c → d.left_since x t c)
    (only_now : (x : D) (c : List ℕ) → d.left_since x (d.moment x) c → d.may_leave x c)
    (shows : N → Site → Type 0)
    (rules : N → Rules)
    (journal : N → Kept)
    (disk : N → D)
    (reason : N → AppendFault)
    (name : N → T)
    (A : N → Frame → List ℕ → N → Type 0)
    (step : (n m : N) (f : Frame) (x : List ℕ) → A n f x m →
    AnswersAndKeeps d (rules n) f (shows n) (shows m) (journal n) (journal m) (disk n) (disk m) x × (rules m ≡ rules n) × (name m ≡ name n)
    × (reason m ≡ reason n) × (d.faults (disk m) ≡ d.faults (disk n)))
    (B : N → Frame → Unanswered → N → Type 0)
    (stop : (n m : N) (f : Frame) (e : Unanswered) → B n f e m → FailsAsSeen d (rules n) f (shows n) (journal n) (disk n) (disk m) (reason m)
    × (name m ≡ name n) × (reason m ≢ DiskFault → d.faults (disk m) ≡ d.faults (disk n)))
  where
    -- ---- a node keeps its name

    abbrev Anything : Unit {0} → Frame → List ℕ → Unit {0} → Type 0
    Anything s f x t = Unit {0}

    abbrev Named : T → N → Unit {0} → Type 0
    Named x n s = name n ≡ x

    name-sim : (x : T) (n m : N) (s : Unit {0}) (f : Frame) (y : List ℕ) → A n f y m → Named x n s → (t : Unit {0}) × Anything s f y t × Named x m t
    name-sim x n m s f y a r = (tt, tt, (step n m f y a).2 ∙ r)

    pub named-served : (role : ℕ) (n m : N) (u v : W) (log : List SessionLog) → IsServing A w.content w.faults w.failed_openings role n m u v log → name m ≡ name n
    named-served role n m u v log h = (all-served-as N (Unit {0}) A Anything (Named (name n)) (name-sim (name n)) role n m tt h.sessions log h.served refl).2

    pub named-stopped : (role : ℕ) (n m : N) (u v : W) (why : Stopped Unanswered) → StopsServing A B w.content w.failed_openings role n m u v why → name m ≡ name n
    named-stopped role n m u v stopped.NetFault h = (all-served-as N (Unit {0}) A Anything (Named (name n)) (name-sim (name n)) role n m tt h.sessions h.log h.served refl).2
    named-stopped role n m u v (stopped.Node e) h =
        (cut-off-with N (Unit {0}) A Anything (Named (name n)) (name-sim (name n)) B (Named (name n)) (λ a b s f fault p r. (stop a b f fault p).1
        ∙ r) (λ a s r. r) W w.content role n m tt u v e h refl).1

    -- ---- its disk counts no fault that it does not tell

    abbrev HasCounted : ℕ → N → Unit {0} → Type 0
    HasCounted x n s = d.faults (disk n) ≡ x

    abbrev TellsFaults : ℕ → N → Unit {0} → Type 0
    TellsFaults x n s = reason n ≢ DiskFault → d.faults (disk n) ≡ x

    count-sim : (x : ℕ) (n m : N) (s : Unit {0}) (f : Frame) (y : List ℕ) → A n f y m → HasCounted x n s → (t : Unit {0}) × Anything s f y t × HasCounted x m t
    count-sim x n m s f y a r = (tt, tt, (step n m f y a).4 ∙ r)

    pub counted-served : (role : ℕ) (n m : N) (u v : W) (log : List SessionLog) → IsServing A w.content w.faults w.failed_openings role n m u v log → d.faults (disk m) ≡ d.faults (disk n)
    counted-served role n m u v log h = (all-served-as N (Unit {0}) A Anything (HasCounted (d.faults (disk n))) (count-sim (d.faults (disk n))) role n m tt h.sessions log h.served refl).2

    pub counted-unopened : (role : ℕ) (n m : N) (u v : W) (why : Stopped Unanswered) → StopsServing A B w.content w.failed_openings role n m u v why →
        why ≡ stopped.NetFault → d.faults (disk m) ≡ d.faults (disk n)
    counted-unopened role n m u v stopped.NetFault h is = (all-served-as N (Unit {0}) A Anything (HasCounted (d.faults (disk n)))
        (count-sim (d.faults (disk n))) role n m tt h.sessions h.log h.served refl).2
    counted-unopened role n m u v (stopped.Node e) h is = absurd (cc is)

    pub counted-stopped : (role : ℕ) (n m : N) (u v : W) (why : Stopped Unanswered) → StopsServing A B w.content w.failed_openings role n m u v why →
        reason m ≢ DiskFault → d.faults (disk m) ≡ d.faults (disk n)
    counted-stopped role n m u v stopped.NetFault h other = counted-unopened role n m u v stopped.NetFault h refl
    counted-stopped role n m u v (stopped.Node e) h other =
        (cut-off-with N (Unit {0}) A Anything (HasCounted (d.faults (disk n))) (count-sim (d.faults (disk n))) B (TellsFaults (d.faults (disk n)))
        (λ a b s f fault p r told. (stop a b f fault p).2 told ∙ r) (λ a s r told. r) W w.content role n m tt u v e h refl).1 other

    -- ---- it stands by its site

    -- the site, the journal and the disk of a node stand as this tells
    abbrev StandsBy : Origin D → N → Standing → Type 0
    StandsBy o n l = Stands d o (shows n) (journal n) (disk n) l.kept × (rules n ≡ o.rules) × (reason n ≡ NoMemory) × (l.in_hand ≡ None) × (l.moment ≡ d.moment (disk n))

    abbrev HaltsBy : Origin D → N → Standing → Type 0
    HaltsBy o n l = Halts d o (disk n) l (reason n)

    -- from a node to this disk of the end no crash loses what it keeps
    abbrev IsSafe : Origin D → D × List Event → N → Standing → Type 0
    IsSafe o end n l = RunsSafely d o end.0 end.1 (disk n) l.kept.events

    abbrev Replies : Origin D → D × List Event → Standing → Frame → List ℕ → Standing → Type 0
    Replies o end = RepliesSafely d o end.0 end.1

    -- the disk of the end, and its events with the one in hand
    abbrev at-end : N → Standing → D × List Event
    at-end m l = (disk m, with_event l.kept.events l.in_hand)

    node-sim : (o : Origin D) (n m : N) (l : Standing) (f : Frame) (x : List ℕ) → A n f x m → StandsBy o n l →
        (t : Standing) × StandsBy o m t × ((end : D × List Event) → IsSafe o end m t → Replies o end l f x t × IsSafe o end n l)
    node-sim o n m l f x a r =
        let one = step n m f x a in
        let h = subst (λ (q : Rules). AnswersAndKeeps d q f (shows n) (shows m) (journal n) (journal m) (disk n) (disk m) x) r.1 one.0 in
        let next = stands-on d o (shows n) (shows m) (journal n) (journal m) (disk n) (disk m) f x l.kept h r.0 in (
          standing (after_frame o.rules l.kept f) (d.moment (disk m)),
          (next.1, one.1 ∙ r.1, one.3 ∙ r.2, refl, refl),
          λ end safe.
              let both = answers-safely d o (shows n) (shows m) (journal n) (journal m) (disk n) (disk m) end.0 end.1 f x l.kept h r.0 safe in (
                record {
                  replied = next.0;
                  none_in_hand = refl;
                  later = λ told. subst (λ (k : ℕ). k ≤ d.moment (disk m)) (sym r.4) (both.1 told);
                  safe = safe-since d o end.0 (disk m) end.1 (after_frame o.rules l.kept f).events safe;
                },
                both.0,
              ),
        )

    node-halts : (o : Origin D) (n m : N) (l : Standing) (f : Frame) (e : Unanswered) → B n f e m → StandsBy o n l →
        (t : Standing) × LeavesInHand {F = Unit {0}} o.rules l f tt t × HaltsBy o m t × IsSafe o (at-end m t) n l
    node-halts o n m l f e b r =
        let h = subst (λ (q : Rules). FailsAsSeen d q f (shows n) (journal n) (disk n) (disk m) (reason m)) r.1 (stop n m f e b).0 in (
          record { kept = l.kept; in_hand = kept_of o.rules l.kept.site f; moment = l.moment },
          refl,
          halts d o reads counts (shows n) (journal n) (disk n) (disk m) f l (reason m) h r.0,
          tries-safely d o only_now (shows n) (journal n) (disk n) (disk m) l.kept (kept_of o.rules l.kept.site f) r.0 (h l.kept.site r.0.shown).0,
        )

    node-still : (o : Origin D) (n : N) (l : Standing) → StandsBy o n l → HaltsBy o n l × IsSafe o (at-end n l) n l
    node-still o n l r = (
      subst (λ (a : AppendFault). Halts d o (disk n) l a) (sym r.2)
          (subst (λ (e : Option Event). Halts d o (disk n) (record { kept = l.kept; in_hand = e; moment = l.moment }) NoMemory) (sym r.3)
          (halts-still d o reads counts (shows n) (journal n) (disk n) l.kept l.moment r.0)),
      subst (λ (e : Option Event). RunsSafely d o (disk n) (with_event l.kept.events e) (disk n) l.kept.events) (sym r.3)
          (safely-here d o only_now (shows n) (journal n) (disk n) l.kept.events l.kept r.0 (begins-same l.kept.events l.kept.events refl)),
    )

    -- at the end of what was served
    safe-here : (o : Origin D) (n : N) (l : Standing) → StandsBy o n l → IsSafe o (disk n, l.kept.events) n l
    safe-here o n l r = safely-here d o only_now (shows n) (journal n) (disk n) l.kept.events l.kept r.0 (begins-same l.kept.events l.kept.events refl)

    abbrev AnswersFrom : Origin D → N → KeptSite → Type 0
    AnswersFrom o n k = Stands d o (shows n) (journal n) (disk n) k × (rules n ≡ o.rules) × (reason n ≡ NoMemory)

    pub goes-on : (o : Origin D) (role : ℕ) (n m : N) (k : KeptSite) (u v : W) (log : List SessionLog) → o.role ≡ role →
        IsServing A w.content w.faults w.failed_openings role n m u v log → AnswersFrom o n k →
        GoesOn w d o k (d.moment (disk n)) u v (shows m) (journal m) (disk m) log
    goes-on o role n m k u v log e h r =
        let all = all-served-back N Standing (D × List Event) A (Replies o) (StandsBy o) (IsSafe o) (node-sim o) role n m
        (standing k (d.moment (disk n))) h.sessions log h.served (r.0, r.1, r.2, refl, refl) in
        let back = all.2 (disk m, all.0.kept.events) (safe-here o m all.0 all.1) in
        record {
          after = all.0;
          safe = safe-since d o (disk m) (disk n) all.0.kept.events k.events back.1;
          served = subst (λ (q : ℕ). IsServing (RepliesSafely d o (disk m) all.0.kept.events) w.content w.faults w.failed_openings q (standing k (d.moment (disk n))) all.0 u v log) (sym e)
              (record { sessions = h.sessions; served = back.0; told = h.told; counts = h.counts; openings = h.openings });
          stands = all.1.0;
        }

    pub stops-node : (o : Origin D) (role : ℕ) (n m : N) (k : KeptSite) (u v : W) (why : Stopped Unanswered) → o.role ≡ role →
        StopsServing A B w.content w.failed_openings role n m u v why → AnswersFrom o n k →
        StopsNode w d o k (d.moment (disk n)) u v (shows m) (journal m) (disk m) (reason m) why
    stops-node o role n m k u v stopped.NetFault e h r =
        let all = all-served-back N Standing (D × List Event) A (Replies o) (StandsBy o) (IsSafe o) (node-sim o) role n m
        (standing k (d.moment (disk n))) h.sessions h.log h.served (r.0, r.1, r.2, refl, refl) in
        let back = all.2 (disk m, all.0.kept.events) (safe-here o m all.0 all.1) in
        record {
          after = all.0;
          safe = safe-since d o (disk m) (disk n) all.0.kept.events k.events back.1;
          served = subst (λ (q : ℕ). IsUnopened (RepliesSafely d o (disk m) all.0.kept.events) w.content w.failed_openings q (standing k (d.moment (disk n))) all.0 u v) (sym e)
              (record { log = h.log; sessions = h.sessions; served = back.0; told = h.told; rose = h.rose });
          stands = all.1.0;
        }
    stops-node o role n m k u v (stopped.Node fault) e h r =
        let all = cut-off-back N Standing (D × List Event) A (Replies o) (StandsBy o) (IsSafe o) (node-sim o) B (LeavesInHand {F = Unit {0}} o.rules) (HaltsBy o) at-end (node-halts o) (node-still o)
        W w.content role n m (standing k (d.moment (disk n))) u v fault h (r.0, r.1, r.2, refl, refl) in
        record {
          after = all.0;
          safe = safe-since d o (disk m) (disk n) (with_event all.0.kept.events all.0.in_hand) k.events all.3;
          served = subst (λ (q : ℕ). IsCutOff {F = Unit {0}} (RepliesSafely d o (disk m) (with_event all.0.kept.events all.0.in_hand))
              (LeavesInHand o.rules) w.content q (standing k (d.moment (disk n))) all.0 u v tt) (sym e) all.1;
          halted = all.2;
        }
