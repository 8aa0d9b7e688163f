-- A world with crashes, seen as one without.
use Rattle.std.specs.Prelude.{slice_get, slice_set}
use Rattle.std.proofs.lemmas.Option.{slice_get_within}
use Rattle.std.proofs.Common.{◌≡◌, ℕ, ◌<◌, Bool, true, false, List, [], ◌∷◌, ◌++◌, map, length, Option, Some, None, refl, sym, ap, ◌∙◌, subst, arith, append_assoc}
use Rattle.std.proofs.lemmas.List.{append-nil, map-append}
use Rattle.aw_list.proofs.Members.{got_map}
use Rattle.aw_list.proofs.Everyday.{set-append, map-set}
use Rattle.aw_term.specs.Choices.{Choice}
use Rattle.aw_term.specs.Rules.{Grammar, upto}
use Rattle.aw_term.specs.WellFormed.{Each}
use Rattle.aw_term.proofs.Eaches.{each_append}
use Rattle.aw_apply.specs.Messages.{Message, Received, New, Repeat, Conflict, NotMine, BadName}
use Rattle.aw_law_sites.specs.Joint.{Joint}
use Rattle.aw_law_sites.specs.Choosing.{Chosen, No, Did, choose}
use Rattle.aw_law_sites.specs.Homes.{home}
use Rattle.aw_law_sites.specs.Reacting.{receive}
use Rattle.aw_law_sites.specs.SiteEvents.{SiteEvent, Chose, Got, site_run}
use Rattle.aw_law_sites.specs.Sites.{Site, Reaction, empty_site}
use Rattle.aw_law_sites.specs.Worlds.{node_of, empty_world, site_at, with_site, chosen_at, mark_delivered, received_at, deliver_on, Move, Chooses, Delivers, run}
use Rattle.aw_law_worlds.specs.Invariant.{IsInvariant}
use Rattle.aw_law_worlds.specs.Laws.{MayCome, world_after, InvariantHolds}
use Rattle.aw_law_worlds.proofs.Settling.{run_both}
use Rattle.aw_law_nodes.specs.Crashes.{Kept, Posted, Past, Frail, new_kept, kept_at, start_at, kept_after, posting, happen, chosen_frail, reaction_of}
use Rattle.aw_law_nodes.specs.Crashes.{with_delivery, delivered_frail, frail_step, FrailEvent, frail_run, AreAllowed, is_delivered, choices_in}
use Rattle.aw_law_nodes.specs.Crashes.{remaining, world_of}
use Rattle.aw_law_nodes.specs.Nodes.{ReadAs}
use Rattle.aw_law_nodes.proofs.OwnEvents.{empty-size, plain_run, run-size, Own, run-own, start-own}
use Rattle.aw_law_nodes.proofs.Crashed.{without}
use Rattle.aw_law_nodes.proofs.ListParts.{set-get, map-get, map-map, map-self, set-same}
use Rattle.aw_law_nodes.proofs.Served.{read-append}
use Rattle.aw_law_worlds.proofs.Lists.{length-mapped}

-- seen as a world
choices-append : (hs is : List SiteEvent) → choices_in (hs ++ is) ≡ choices_in hs ++ choices_in is
choices-append [] is = refl
choices-append (Chose c ∷ hs) is = ap (◌∷◌ c) (choices-append hs is)
choices-append (Got m ∷ hs) is = choices-append hs is

delivered-more : (ds : List ℕ) (c : ℕ) → is_delivered (ds ++ c ∷ []) ≡ true
delivered-more [] c = refl
delivered-more (d ∷ ds) c = refl

abbrev site : Kept → Site
site k = k.site

abbrev message : Posted → Message
message p = p.message

abbrev is_sent : Posted → Bool
is_sent p = is_delivered p.deliveries

abbrev happening : Past → SiteEvent
happening e = e.happening

module _ (g : Grammar) (loads : Bool) where
  site-seen : (w : Frail) (r : ℕ) → site_at (world_of w) r ≡ (kept_at w r).site
  site-seen w r = map-get site (new_kept false r) w.kept r

  messages-seen : (ps : List Posted) (a n : ℕ) (ms : List Message) → map message (ps ++ map (posting a n) ms) ≡ map message ps ++ ms
  messages-seen ps a n ms = map-append message ps (map (posting a n) ms) ∙ ap (λ qs. map message ps ++ qs) (map-map message (posting a n) ms ∙ map-self (λ m. m) ms (λ m. refl))

  marks-seen : (ps : List Posted) (a n : ℕ) (ms : List Message) → map is_sent (ps ++ map (posting a n) ms) ≡ map is_sent ps ++ map (λ m. false) ms
  marks-seen ps a n ms = map-append is_sent ps (map (posting a n) ms) ∙ ap (λ qs. map is_sent ps ++ qs) (map-map is_sent (posting a n) ms)

  taken-seen : (es : List Past) (e : Past) → choices_in (map happening (es ++ e ∷ [])) ≡ choices_in (map happening es) ++ choices_in (e.happening ∷ [])
  taken-seen es e = ap choices_in (map-append happening es (e ∷ [])) ∙ choices-append (map happening es) (e.happening ∷ [])

  took-seen : (w : Frail) (a : ℕ) (c : Choice) (x : Reaction) → (chosen_at (world_of w) a c (Did x)).world ≡ world_of (happen w a (Chose c) (Some x) w.posted)
  took-seen w a c x = λ i. record {
    sites = sym (map-set site w.kept a (kept_after (kept_at w a) (Chose c) (Some x))) i;
    messages = sym (messages-seen w.posted a (length (kept_at w a).events) x.sent) i;
    delivered = sym (marks-seen w.posted a (length (kept_at w a).events) x.sent) i;
    taken = sym (taken-seen w.past (record { role = a; before = length (kept_at w a).events; happening = Chose c })) i;
  }

  module _ (w : Frail) (k : ℕ) (p : Posted) (e : slice_get w.posted k ≡ Some p) (c : ℕ) where
    noted-messages : map message (slice_set w.posted k (with_delivery c p)) ≡ map message w.posted
    noted-messages = map-set message w.posted k (with_delivery c p) ∙ set-get (map message w.posted) k p.message (got_map message w.posted k p e)

    noted-marks : map is_sent (slice_set w.posted k (with_delivery c p)) ≡ slice_set (map is_sent w.posted) k true
    noted-marks = map-set is_sent w.posted k (with_delivery c p) ∙ ap (slice_set (map is_sent w.posted) k) (delivered-more p.deliveries c)

    got-taken : (a b : ℕ) → choices_in (map happening (w.past ++ record { role = a; before = b; happening = Got p.message } ∷ [])) ≡ choices_in (map happening w.past)
    got-taken a b = taken-seen w.past (record { role = a; before = b; happening = Got p.message }) ∙ append-nil (choices_in (map happening w.past))

    new-seen : (a : ℕ) (x : Reaction) → mark_delivered k (with_site (world_of w) a x) ≡ world_of (happen w a (Got p.message) (Some x) (slice_set w.posted k (with_delivery c p)))
    new-seen a x =
        let l : k < length (map is_sent w.posted) = (let y = slice_get_within w.posted k p e in let z = length-mapped is_sent w.posted in omega (arith, y, z)) in
        λ i. record {
          sites = sym (map-set site w.kept a (kept_after (kept_at w a) (Got p.message) (Some x))) i;
          messages = sym (messages-seen (slice_set w.posted k (with_delivery c p)) a (length (kept_at w a).events) x.sent ∙ ap (λ ms. ms ++ x.sent) noted-messages) i;
          delivered = sym (marks-seen (slice_set w.posted k (with_delivery c p)) a (length (kept_at w a).events) x.sent
              ∙ (ap (λ ms. ms ++ map (λ m. false) x.sent) noted-marks ∙ sym (set-append (map is_sent w.posted) (map (λ m. false) x.sent) k true l))) i;
          taken = sym (got-taken a (length (kept_at w a).events)) i;
        }

    old-seen : (a : ℕ) → mark_delivered k (world_of w) ≡ world_of (happen w a (Got p.message) None (slice_set w.posted k (with_delivery c p)))
    old-seen a =
        λ i. record {
          sites = sym (ap (map site) (set-same (new_kept false a) w.kept a)) i;
          messages = sym (ap (map message) (append-nil (slice_set w.posted k (with_delivery c p))) ∙ noted-messages) i;
          delivered = sym (ap (map is_sent) (append-nil (slice_set w.posted k (with_delivery c p))) ∙ noted-marks) i;
          taken = sym (got-taken a (length (kept_at w a).events)) i;
        }

    got-seen : (a : ℕ) (z : Received Reaction) → (received_at (world_of w) k a z).world ≡ world_of (happen w a (Got p.message) (reaction_of z) (slice_set w.posted k (with_delivery c p)))
    got-seen a (New x) = new-seen a x
    got-seen a Repeat = old-seen a
    got-seen a (Conflict b d) = old-seen a
    got-seen a NotMine = old-seen a
    got-seen a BadName = old-seen a

  -- events that lead from one world with crashes to another, and what they add to the past
  record Tells (u v : Frail) : Type 0 where
    events : List Move
    past : List Past
    more : v.past ≡ u.past ++ past
    read : ReadAs g (world_of u) (map happening past) events
    is : run g (world_of u) events ≡ world_of v
    ok : Each (MayCome g) events

  tells-none : (w : Frail) → Tells w w
  tells-none w = record { events = []; past = []; more = sym (append-nil w.past); read = tt; is = refl; ok = tt }

  tells-on : (u v w : Frail) → Tells u v → Tells v w → Tells u w
  tells-on u v w p q = record {
    events = p.events ++ q.events;
    past = p.past ++ q.past;
    more = q.more ∙ (ap (λ es. es ++ q.past) p.more ∙ append_assoc u.past p.past q.past);
    read = subst (λ hs. ReadAs g (world_of u) hs (p.events ++ q.events)) (sym (map-append happening p.past q.past))
        (read-append g (world_of u) (map happening p.past) (map happening q.past) p.events q.events p.read (subst (λ x. ReadAs g x (map happening q.past) q.events) (sym p.is) q.read));
    is = run_both g (world_of u) p.events q.events ∙ (ap (λ x. run g x q.events) p.is ∙ q.is);
    ok = each_append (MayCome g) p.events q.events p.ok q.ok;
  }

  chose-tells : (w : Frail) (c : Choice) → MayCome g (Chooses c) → (z : Chosen) → choose g (kept_at w (home g (node_of c))).site c ≡ z → Tells w (chosen_frail w (home g (node_of c)) c z)
  chose-tells w c ok (No b) e = tells-none w
  chose-tells w c ok (Did x) e = record {
    events = Chooses c ∷ [];
    past = record { role = home g (node_of c); before = length (kept_at w (home g (node_of c))).events; happening = Chose c } ∷ [];
    more = refl;
    read = (refl, tt);
    is = ap (λ z. (chosen_at (world_of w) (home g (node_of c)) c z).world) (ap (λ s. choose g s c) (site-seen w (home g (node_of c))) ∙ e) ∙ took-seen w (home g (node_of c)) c x;
    ok = (ok, tt);
  }

  got-tells : (w : Frail) (k : ℕ) (o : Option Posted) → slice_get w.posted k ≡ o → Tells w (delivered_frail g w k o)
  got-tells w k None e = tells-none w
  got-tells w k (Some p) e = record {
    events = Delivers k ∷ [];
    past = record { role = p.message.to; before = length (kept_at w p.message.to).events; happening = Got p.message } ∷ [];
    more = refl;
    read = (got_map message w.posted k p e, tt);
    is = ap (λ o. (deliver_on g (world_of w) k o).world) (got_map message w.posted k p e)
        ∙ (ap (λ s. (received_at (world_of w) k p.message.to (receive g s p.message)).world) (site-seen w p.message.to)
        ∙ got-seen w k p e (length (kept_at w p.message.to).events) p.message.to (receive g (kept_at w p.message.to).site p.message));
    ok = (tt, tt);
  }

  step-tells : (w : Frail) (e : Move) → MayCome g e → Tells w (frail_step g w e)
  step-tells w (Chooses c) ok = chose-tells w c ok (choose g (kept_at w (home g (node_of c))).site c) refl
  step-tells w (Delivers k) ok = got-tells w k (slice_get w.posted k) refl

  run-tells : (w : Frail) (es : List Move) → Each (MayCome g) es → Tells w (plain_run g w es)
  run-tells w [] k = tells-none w
  run-tells w (e ∷ es) k = tells-on w (frail_step g w e) (plain_run g (frail_step g w e) es) (step-tells w e k.0) (run-tells (frail_step g w e) es k.1)

  start-seen : world_of (start_at g loads) ≡ empty_world g loads
  start-seen = λ i. record { sites = map-map site (new_kept loads) (upto 0 g.roles) i; messages = []; delivered = []; taken = [] }

  -- the laws as they are stated
  pub crashes_leave_a_world : (es : List FrailEvent) → AreAllowed g loads (start_at g loads) es →
      (fs : List Move) × ReadAs g (empty_world g loads) (remaining (frail_run g loads (start_at g loads) es)) fs × Each (MayCome g) fs
      × (world_after g loads fs ≡ world_of (frail_run g loads (start_at g loads) es))
  crashes_leave_a_world es h =
      let (fs, k, q) = without g loads [] tt es h in
      let T : Tells (start_at g loads) (frail_run g loads (start_at g loads) es) = subst (Tells (start_at g loads)) q (run-tells (start_at g loads) fs k) in (
        T.events,
        subst (λ x. ReadAs g x (remaining (frail_run g loads (start_at g loads) es)) T.events) start-seen
            (subst (λ es. ReadAs g (world_of (start_at g loads)) (map happening es) T.events) (sym T.more) T.read),
        T.ok,
        ap (λ x. run g x T.events) (sym start-seen) ∙ T.is,
      )

  pub sites_are_their_events : (es : List FrailEvent) → AreAllowed g loads (start_at g loads) es → (r : ℕ) → r < g.roles →
      (kept_at (frail_run g loads (start_at g loads) es) r).site ≡ site_run g (empty_site loads r) (kept_at (frail_run g loads (start_at g loads) es) r).events
  sites_are_their_events es h r l =
      let (fs, k, q) = without g loads [] tt es h in
      let size : length (frail_run g loads (start_at g loads) es).kept ≡ length (start_at g loads).kept =
      subst (λ (u : Frail). length u.kept ≡ length (start_at g loads).kept) q (run-size g (start_at g loads) fs) in
      let n = empty-size loads 0 g.roles in
      let own : Own g loads (frail_run g loads (start_at g loads) es) = subst (Own g loads) q (run-own g loads (start_at g loads) fs (start-own g loads)) in
      own r (omega (arith, size, n, l))

pub invariant_after_crashes : (g : Grammar) → InvariantHolds g → (loads : Bool) (es : List FrailEvent) → AreAllowed g loads (start_at g loads) es →
    (x : Joint) × IsInvariant g loads (world_of (frail_run g loads (start_at g loads) es)) x
invariant_after_crashes g I loads es h =
    let (fs, r, k, q) = crashes_leave_a_world g loads es h in
    subst (λ w. (x : Joint) × IsInvariant g loads w x) q (I loads fs k)
