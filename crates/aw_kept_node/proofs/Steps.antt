-- What stands while frames are answered, and what is left where one gets no reply.
use Rattle.std.proofs.Common.{◌≡◌, ℕ, ◌+◌, ◌<◌, ◌≤◌, List, [], ◌∷◌, ◌++◌, IsTrue, length, Option, None, Some, inl, inr, refl, sym, ap, ◌∙◌, subst, arith}
use Rattle.aw_out.specs.Causes.{Rose}
use Rattle.aw_law_sites.specs.Sites.{Site}
use Rattle.aw_msg.specs.Frames.{Frame}
use Rattle.aw_disk.specs.Disk.{LeavesOnly}
use Rattle.aw_disk.specs.declared.edge.Disk.{Ghosts}
use Rattle.aw_journal.specs.Events.{Event}
use Rattle.aw_journal.specs.EventView.{events_seen}
use Rattle.aw_journal.specs.Format.{front, events_of}
use Rattle.aw_journal.specs.Journal.{Kept, IsBeforeOrAfter, end_after}
use Rattle.aw_journal.specs.Opens.{FirstSync}
use Rattle.aw_journal.specs.declared.journal.AppendFault.{AppendFault}
use Rattle.aw_journal.specs.declared.journal.AppendFault.TheVariants.{DiskFault, Full, NoMemory}
use Rattle.aw_journal.proofs.Moments.{started, weaker, runs_on, synced_before}
use Rattle.aw_node.specs.TypedNodes.{handle}
use Rattle.aw_kept_append.specs.Appending.{Writes, Appends, Tries, Because}
use Rattle.aw_kept_node.specs.Answering.{AnswersAndKeeps, FailsAsSeen}
use Rattle.aw_kept_node.specs.Exits.{Begins, IsBetween, IsOldOrBetween, IsLeft, Origin, Stands, Halts, IsWithin}
use Rattle.aw_kept_node.specs.KeptEvents.{kept_of}
use Rattle.aw_kept_node.specs.KeptSites.{KeptSite, Standing, standing, keeps, after_frame, with_event}
use Rattle.aw_kept_node.specs.Replying.{IsSafeSince}
use Rattle.aw_kept_node.proofs.Exits.{begins-same, begins-more, begins-with, begins-trans, IsOneOf, has-as, between-one, between-wider, old-or-more, in-hand}
use Rattle.aw_kept_node.proofs.KeptSites.{made-with}

-- a count that rose since has risen since an earlier moment
pub rose-since : (a b c : ℕ) → a ≤ b → Rose b c → Rose a c
rose-since a b c le rose = omega (arith, rose)

module _ {D : Type 0} (d : Ghosts D) (o : Origin D) where
  -- where a record of the journal ends, by its own head and events
  ends-at : (shows : Site → Type 0) (j : Kept) (now : D) (l : KeptSite) (e : Event) → Stands d o shows j now l → end_after j e ≡ length (front o.role o.text (l.events ++ e ∷ [])) + 1
  ends-at shows j now l e st =
      ap (λ (n : ℕ). length (front n j.text (events_seen j.events ++ e ∷ [])) + 1) st.same_role
      ∙ (ap (λ (t : List ℕ). length (front o.role t (events_seen j.events ++ e ∷ [])) + 1) st.same_text
      ∙ ap (λ (es : List Event). length (front o.role o.text (es ++ e ∷ [])) + 1) st.same)

  -- the disk tells as it did
  told-now : (shows : Site → Type 0) (j : Kept) (now : D) (l : KeptSite) → Stands d o shows j now l → IsTrue (d.tells o.disk) → IsTrue (d.tells now)
  told-now shows j now l st told = subst IsTrue (sym st.tells_same) told

  -- what was written of an event, by the events of the site
  one-of : (shows : Site → Type 0) (j : Kept) (now : D) (l : KeptSite) (e : Event) (c : List ℕ) → Stands d o shows j now l → IsBeforeOrAfter j e c → IsOneOf o.role o.text l.events (Some e) c
  one-of shows j now l e c st (inl before) = inl (has-as j o.role o.text (events_seen j.events) l.events c st.same_role st.same_text st.same before)
  one-of shows j now l e c st (inr after) =
      inr (has-as j o.role o.text (events_seen j.events ++ e ∷ []) (l.events ++ e ∷ []) c st.same_role st.same_text (ap (λ (es : List Event). es ++ e ∷ []) st.same) after)

  -- and so between the first events and last ones that have it
  between-of : (shows : Site → Type 0) (j : Kept) (now : D) (l : KeptSite) (e : Event) (first last : List Event) (c : List ℕ) →
      Stands d o shows j now l → Begins first l.events → Begins (l.events ++ e ∷ []) last → IsBeforeOrAfter j e c →
      IsBetween o.role o.text first last c
  between-of shows j now l e first last c st b t h = between-one o.role o.text first last l.events (Some e) c b t (one-of shows j now l e c st h)

  -- one event more, at any moment
  moments-more : (shows : Site → Type 0) (j : Kept) (old new : D) (l : KeptSite) (e : Event) → Stands d o shows j old l → Writes d e j old new → IsTrue (d.tells o.disk) →
      LeavesOnly d.moment d.left_since o.disk new (IsOldOrBetween (d.may_leave o.disk) o.role o.text o.first (l.events ++ e ∷ []))
  moments-more shows j old new l e st writes told =
      let all = IsOldOrBetween (d.may_leave o.disk) o.role o.text o.first (l.events ++ e ∷ []) in
      runs_on d.moment d.left_since o.disk old new all (IsBeforeOrAfter j e)
      (weaker d.moment d.left_since o.disk old (IsOldOrBetween (d.may_leave o.disk) o.role o.text o.first l.events) all (st.moments told)
      (λ c h. old-or-more (d.may_leave o.disk) o.role o.text o.first l.events (Some e) c h))
      (writes.moments (told-now shows j old l st told))
      (λ c h. inr (between-of shows j old l e o.first (l.events ++ e ∷ []) c st st.begins (begins-same (l.events ++ e ∷ []) (l.events ++ e ∷ []) refl) h))

  -- and since the first sync
  synced-more : (shows : Site → Type 0) (j : Kept) (old new : D) (l : KeptSite) (e : Event) → Stands d o shows j old l → Writes d e j old new → IsTrue (d.tells o.disk) →
      FirstSync d (IsBetween o.role o.text o.first (l.events ++ e ∷ [])) o.disk new
  synced-more shows j old new l e st writes told =
      synced_before d o.disk old new (IsBetween o.role o.text o.first l.events) (IsBeforeOrAfter j e) (IsBetween o.role o.text o.first (l.events ++ e ∷ []))
      (st.first_sync told) (writes.moments (told-now shows j old l st told))
      (λ c h. between-wider o.role o.text o.first l.events o.first (l.events ++ e ∷ []) c (begins-same o.first o.first refl) (begins-with l.events (Some e)) h)
      (λ c h. between-of shows j old l e o.first (l.events ++ e ∷ []) c st st.begins (begins-same (l.events ++ e ∷ []) (l.events ++ e ∷ []) refl) h)

  stands-with : (shows after : Site → Type 0) (j k : Kept) (old new : D) (f : Frame) (l : KeptSite) (event : Option Event) →
      after (handle o.rules l.site f).site → kept_of o.rules l.site f ≡ event → Appends d event j k old new → Stands d o shows j old l →
      Stands d o after k new (record { site = (handle o.rules l.site f).site; events = with_event l.events event })
  stands-with shows after j k old new f l None shown is same st =
      subst (λ (x : Kept). Stands d o after x new (record { site = (handle o.rules l.site f).site; events = l.events })) (sym same.0)
      (subst (λ (x : D). Stands d o after j x (record { site = (handle o.rules l.site f).site; events = l.events })) (sym same.1) (record {
        shown = shown;
        made = made-with o.rules o.start l f None st.made is;
        same = st.same;
        same_role = st.same_role;
        same_text = st.same_text;
        same_limit = st.same_limit;
        begins = st.begins;
        within = st.within;
        tells_same = st.tells_same;
        never_falls = st.never_falls;
        moments = st.moments;
        first_sync = st.first_sync;
        durable = st.durable;
      }))
  stands-with shows after j k old new f l (Some e) shown is more st =
      let same = more.added ∙ ap (λ (es : List Event). es ++ e ∷ []) st.same in
      let same_role = more.same_role ∙ st.same_role in
      let same_text = more.same_text ∙ st.same_text in
      record {
        shown = shown;
        made = made-with o.rules o.start l f (Some e) st.made is;
        same = same;
        same_role = same_role;
        same_text = same_text;
        same_limit = more.same_limit ∙ st.same_limit;
        begins = begins-more o.first l.events (Some e) st.begins;
        within = inr (omega (arith, more.within, ends-at shows j old l e st, st.same_limit));
        tells_same = more.writes.tells_same ∙ st.tells_same;
        never_falls = omega (arith, more.writes.never_falls, st.never_falls);
        moments = λ told. moments-more shows j old new l e st more.writes told;
        first_sync = λ told. synced-more shows j old new l e st more.writes told;
        durable = λ told c left. has-as k o.role o.text (events_seen k.events) (l.events ++ e ∷ []) c same_role same_text same (more.durable (told-now shows j old l st told) c left);
      }

  -- a frame is answered as the site that keeps its events answers
  pub stands-on : (shows after : Site → Type 0) (j k : Kept) (old new : D) (f : Frame) (x : List ℕ) (l : KeptSite) → AnswersAndKeeps d o.rules f shows after j k old new x → Stands d o shows j old l →
      keeps o.rules l f x (after_frame o.rules l f) × Stands d o after k new (after_frame o.rules l f)
  stands-on shows after j k old new f x l h st =
      let one = h.0 l.site st.shown in
      ((one.0, refl), stands-with shows after j k old new f l (kept_of o.rules l.site f) one.1 refl (h.1 l.site st.shown) st)

  -- ---- from a moment on

  -- these events are among the last ones, and from this disk to that of the end no crash loses them
  abbrev pub RunsSafely : D → List Event → D → List Event → Type 0
  RunsSafely end last now events = Begins events last × (IsTrue (d.tells o.disk) → LeavesOnly d.moment d.left_since now end (IsBetween o.role o.text events last))

  -- so they are safe since then
  pub safe-since : (end now : D) (last events : List Event) → RunsSafely end last now events → IsTrue (d.tells o.disk) → IsSafeSince d o end last (d.moment now) events
  safe-since end now last events run told = record { passed = (run.1 told).later; left = (run.1 told).each }

  -- an event was added, and the run goes on
  more-safely : (shows : Site → Type 0) (j : Kept) (old new end : D) (last : List Event) (l : KeptSite) (e : Event) → Stands d o shows j old l →
      Writes d e j old new → RunsSafely end last new (l.events ++ e ∷ []) → RunsSafely end last old l.events
  more-safely shows j old new end last l e st writes run = (
    begins-trans l.events (l.events ++ e ∷ []) last (begins-with l.events (Some e)) run.0,
    λ told. runs_on d.moment d.left_since old new end (IsBetween o.role o.text l.events last) (IsBetween o.role o.text (l.events ++ e ∷ []) last)
        (weaker d.moment d.left_since old new (IsBeforeOrAfter j e) (IsBetween o.role o.text l.events last) (writes.moments (told-now shows j old l st told))
        (λ c h. between-of shows j old l e l.events last c st (begins-same l.events l.events refl) run.0 h))
        (run.1 told)
        (λ c h. between-wider o.role o.text (l.events ++ e ∷ []) last l.events last c (begins-with l.events (Some e)) (begins-same last last refl) h),
  )

  safely-with : (shows : Site → Type 0) (j k : Kept) (old new end : D) (last : List Event) (l : KeptSite) (event : Option Event) →
      Stands d o shows j old l → Appends d event j k old new → RunsSafely end last new (with_event l.events event) →
      RunsSafely end last old l.events
  safely-with shows j k old new end last l None st same run = subst (λ (x : D). RunsSafely end last x l.events) same.1 run
  safely-with shows j k old new end last l (Some e) st more run = more-safely shows j old new end last l e st more.writes run

  later-with : (shows : Site → Type 0) (j k : Kept) (old new : D) (l : KeptSite) (event : Option Event) → Stands d o shows j old l →
      Appends d event j k old new → IsTrue (d.tells o.disk) → d.moment old ≤ d.moment new
  later-with shows j k old new l None st same told = subst (λ (x : D). d.moment old ≤ d.moment x) (sym same.1) (omega arith)
  later-with shows j k old new l (Some e) st more told = (more.writes.moments (told-now shows j old l st told)).later

  -- what was answered with a frame is safe where what comes after it is
  pub answers-safely : (shows after : Site → Type 0) (j k : Kept) (old new end : D) (last : List Event) (f : Frame) (x : List ℕ) (l : KeptSite) →
      AnswersAndKeeps d o.rules f shows after j k old new x → Stands d o shows j old l →
      RunsSafely end last new (after_frame o.rules l f).events → RunsSafely end last old l.events × (IsTrue (d.tells o.disk) → d.moment old ≤ d.moment new)
  answers-safely shows after j k old new end last f x l h st run =
      let appends = h.1 l.site st.shown in
      (safely-with shows j k old new end last l (kept_of o.rules l.site f) st appends run, later-with shows j k old new l (kept_of o.rules l.site f) st appends)

  module _ (only_now : (x : D) (c : List ℕ) → d.left_since x (d.moment x) c → d.may_leave x c) where
    -- at the end of a run a crash leaves just the events
    pub safely-here : (shows : Site → Type 0) (j : Kept) (now : D) (last : List Event) (l : KeptSite) → Stands d o shows j now l → Begins l.events last → RunsSafely now last now l.events
    safely-here shows j now last l st b = (
      b,
      λ told. started d.moment d.left_since now (IsBetween o.role o.text l.events last)
          (λ c left. between-one o.role o.text l.events last l.events None c (begins-same l.events l.events refl) b (inl (st.durable told c (only_now now c left)))),
    )

    -- the last frame was handled, and its event written in part or whole
    pub tries-safely : (shows : Site → Type 0) (j : Kept) (old new : D) (l : KeptSite) (event : Option Event) → Stands d o shows j old l →
        Tries d event j old new → RunsSafely new (with_event l.events event) old l.events
    tries-safely shows j old new l event st (inl same) =
        subst (λ (x : D). RunsSafely x (with_event l.events event) old l.events) (sym same) (safely-here shows j old (with_event l.events event) l st (begins-with l.events event))
    tries-safely shows j old new l event st (inr h) =
        subst (λ (x : Option Event). RunsSafely new (with_event l.events x) old l.events) (sym h.1) (
          begins-with l.events (Some h.0),
          λ told. weaker d.moment d.left_since old new (IsBeforeOrAfter j h.0) (IsBetween o.role o.text l.events (l.events ++ h.0 ∷ [])) (h.2.moments (told-now shows j old l st told))
              (λ c b. between-of shows j old l h.0 l.events (l.events ++ h.0 ∷ []) c st (begins-same l.events l.events refl) (begins-same (l.events ++ h.0 ∷ []) (l.events ++ h.0 ∷ []) refl) b),
        )

  module _
      (reads : (x : D) → IsTrue (d.tells x) → d.may_leave x (d.seen x))
      (counts : (x : D) (t : ℕ) (c : List ℕ) → t ≤ d.moment x → d.may_leave x c → d.left_since x t c)
    where
      -- what is left where all frames got their replies
      pub left-standing : (shows : Site → Type 0) (j : Kept) (now : D) (l : KeptSite) → Stands d o shows j now l → IsTrue (d.tells o.disk) → IsLeft d o l.events l.events now
      left-standing shows j now l st told = record {
        moments = st.moments told;
        first_sync = st.first_sync told;
        images = λ c left. between-one o.role o.text l.events l.events l.events None c (begins-same l.events l.events refl) (begins-same l.events l.events refl) (inl (st.durable told c left));
        reads = inl (sym (st.durable told (d.seen now) (reads now (told-now shows j now l st told))).events_are);
      }

      -- what is left where nothing more was written, or an event
      images-of : (shows : Site → Type 0) (j : Kept) (old new : D) (l : KeptSite) (event : Option Event) → Stands d o shows j old l →
          Tries d event j old new → IsTrue (d.tells o.disk) → (c : List ℕ) → d.may_leave new c →
          IsOneOf o.role o.text l.events event c
      images-of shows j old new l event st (inl same) told c left = inl (st.durable told c (subst (λ (x : D). d.may_leave x c) same left))
      images-of shows j old new l event st (inr h) told c left =
          let run = h.2.moments (told-now shows j old l st told) in
          subst (λ (x : Option Event). IsOneOf o.role o.text l.events x c) (sym h.1) (one-of shows j old l h.0 c st (run.each c (counts new (d.moment old) c run.later left)))

      moments-of : (shows : Site → Type 0) (j : Kept) (old new : D) (l : KeptSite) (event : Option Event) → Stands d o shows j old l → Tries d event j old new → IsTrue (d.tells o.disk) →
          LeavesOnly d.moment d.left_since o.disk new (IsOldOrBetween (d.may_leave o.disk) o.role o.text o.first (with_event l.events event))
      moments-of shows j old new l event st (inl same) told =
          subst (λ (x : D). LeavesOnly d.moment d.left_since o.disk x (IsOldOrBetween (d.may_leave o.disk) o.role o.text o.first (with_event l.events event))) (sym same)
          (weaker d.moment d.left_since o.disk old _ _ (st.moments told) (λ c h. old-or-more (d.may_leave o.disk) o.role o.text o.first l.events event c h))
      moments-of shows j old new l event st (inr h) told =
          subst (λ (x : Option Event). LeavesOnly d.moment d.left_since o.disk new (IsOldOrBetween (d.may_leave o.disk) o.role o.text o.first (with_event l.events x))) (sym h.1)
          (moments-more shows j old new l h.0 st h.2 told)

      synced-of : (shows : Site → Type 0) (j : Kept) (old new : D) (l : KeptSite) (event : Option Event) → Stands d o shows j old l → Tries d event j old new → IsTrue (d.tells o.disk) →
          FirstSync d (IsBetween o.role o.text o.first (with_event l.events event)) o.disk new
      synced-of shows j old new l event st (inl same) told =
          let h = st.first_sync told in
          subst (λ (x : D). FirstSync d (IsBetween o.role o.text o.first (with_event l.events event)) o.disk x) (sym same) (record {
            done_at = h.done_at;
            began = h.began;
            ended = h.ended;
            until = h.until;
            since = λ c left. between-wider o.role o.text o.first l.events o.first (with_event l.events event) c (begins-same o.first o.first refl) (begins-with l.events event) (h.since c left);
          })
      synced-of shows j old new l event st (inr h) told =
          subst (λ (x : Option Event). FirstSync d (IsBetween o.role o.text o.first (with_event l.events x)) o.disk new) (sym h.1) (synced-more shows j old new l h.0 st h.2 told)

      tells-of : (shows : Site → Type 0) (j : Kept) (old new : D) (l : KeptSite) (event : Option Event) → Stands d o shows j old l → Tries d event j old new → d.tells new ≡ d.tells o.disk
      tells-of shows j old new l event st (inl same) = ap d.tells same ∙ st.tells_same
      tells-of shows j old new l event st (inr h) = h.2.tells_same ∙ st.tells_same

      faults-of : (shows : Site → Type 0) (j : Kept) (old new : D) (l : KeptSite) (event : Option Event) → Stands d o shows j old l → Tries d event j old new → d.faults o.disk ≤ d.faults new
      faults-of shows j old new l event st (inl same) = subst (λ (x : D). d.faults o.disk ≤ d.faults x) (sym same) st.never_falls
      faults-of shows j old new l event st (inr h) = omega (arith, h.2.never_falls, st.never_falls)

      rose-of : (shows : Site → Type 0) (j : Kept) (old new : D) (l : KeptSite) (event : Option Event) (fault : AppendFault) →
          Stands d o shows j old l → Because d event j old new fault → fault ≡ DiskFault → Rose (d.faults o.disk) (d.faults new)
      rose-of shows j old new l event DiskFault st h e = rose-since (d.faults o.disk) (d.faults old) (d.faults new) st.never_falls h
      rose-of shows j old new l event Full st h e = absurd (cc e)
      rose-of shows j old new l event NoMemory st h e = absurd (cc e)

      full-of : (shows : Site → Type 0) (j : Kept) (old new : D) (l : KeptSite) (event : Option Event) (fault : AppendFault) →
          Stands d o shows j old l → Because d event j old new fault → fault ≡ Full →
          (e : Event) × (event ≡ Some e) × (o.limit < length (front o.role o.text (l.events ++ e ∷ [])) + 1)
      full-of shows j old new l event DiskFault st h e = absurd (cc e)
      full-of shows j old new l event Full st h e = (h.0, h.1, omega (arith, h.2, ends-at shows j old l h.0 st, st.same_limit))
      full-of shows j old new l event NoMemory st h e = absurd (cc e)

      -- what is left is within the limit
      within-of : (shows : Site → Type 0) (j : Kept) (old new : D) (l : KeptSite) (event : Option Event) → Stands d o shows j old l →
          Tries d event j old new → IsTrue (d.tells o.disk) → (c : List ℕ) → d.may_leave new c →
          IsWithin o.role o.text o.limit o.first (events_of c)
      within-of shows j old new l event st (inl same) told c left =
          subst (IsWithin o.role o.text o.limit o.first) (sym (st.durable told c (subst (λ (x : D). d.may_leave x c) same left)).events_are) st.within
      within-of shows j old new l event st (inr h) told c left =
          let run = h.2.moments (told-now shows j old l st told) in
          of-one (one-of shows j old l h.0 c st (run.each c (counts new (d.moment old) c run.later left)))
        where
          of-one : IsOneOf o.role o.text l.events (Some h.0) c → IsWithin o.role o.text o.limit o.first (events_of c)
          of-one (inl before) = subst (IsWithin o.role o.text o.limit o.first) (sym before.events_are) st.within
          of-one (inr after) = subst (IsWithin o.role o.text o.limit o.first) (sym after.events_are) (inr (omega (arith, h.3, ends-at shows j old l h.0 st, st.same_limit)))

      -- a frame got no reply
      pub halts : (shows : Site → Type 0) (j : Kept) (old new : D) (f : Frame) (s : Standing) (fault : AppendFault) → FailsAsSeen d o.rules f shows j old new fault → Stands d o shows j old s.kept →
          Halts d o new (record { kept = s.kept; in_hand = kept_of o.rules s.kept.site f; moment = s.moment }) fault
      halts shows j old new f s fault h st =
          let l = s.kept in
          let event = kept_of o.rules l.site f in
          let both = h l.site st.shown in
          record {
            made = st.made;
            kept = (made-with o.rules o.start l f event st.made refl).kept;
            tells_same = tells-of shows j old new l event st both.0;
            never_falls = faults-of shows j old new l event st both.0;
            left = λ told. record {
              moments = moments-of shows j old new l event st both.0 told;
              first_sync = synced-of shows j old new l event st both.0 told;
              images = λ c left. between-one o.role o.text l.events (with_event l.events event) l.events event c (begins-same l.events l.events refl)
                  (begins-same (with_event l.events event) (with_event l.events event) refl)
                  (images-of shows j old new l event st both.0 told c left);
              reads = in-hand o.role o.text l.events event (d.seen new)
                  (images-of shows j old new l event st both.0 told (d.seen new) (reads new (subst IsTrue (sym (tells-of shows j old new l event st both.0)) told)));
            };
            within = st.within;
            images_within = λ told c left. within-of shows j old new l event st both.0 told c left;
            disk_fault = rose-of shows j old new l event fault st both.1;
            full = full-of shows j old new l event fault st both.1;
          }

      -- memory ran out before a frame was there
      pub halts-still : (shows : Site → Type 0) (j : Kept) (now : D) (l : KeptSite) (moment : ℕ) → Stands d o shows j now l → Halts d o now (standing l moment) NoMemory
      halts-still shows j now l moment st = record {
        made = st.made;
        kept = st.made.kept;
        tells_same = st.tells_same;
        never_falls = st.never_falls;
        left = λ told. left-standing shows j now l st told;
        within = st.within;
        images_within = λ told c left. subst (IsWithin o.role o.text o.limit o.first) (sym (st.durable told c left).events_are) st.within;
        disk_fault = λ e. absurd (cc e);
        full = λ e. absurd (cc e);
      }
