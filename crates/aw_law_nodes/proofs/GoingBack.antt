-- A site that goes back after an event: the event happens after going back as well, or it is dropped.
use Rattle.std.specs.Prelude.{slice_get, slice_set, ◌⊎◌, not}
use Rattle.std.proofs.Common.{◌≡◌, ℕ, ◌+◌, ◌<◌, ◌≤◌, Bool, true, false, List, [], ◌∷◌, ◌++◌, length, Option, Some, None, refl, sym, ap, ◌∙◌, subst, inl, inr, arith, length-append}
use Rattle.std.proofs.lemmas.Bool.{cases_lt}
use Rattle.std.proofs.lemmas.List.{take_all, take-append-le, append-nil}
use Rattle.aw_term.specs.Choices.{Choice}
use Rattle.aw_term.specs.Rules.{Grammar}
use Rattle.aw_term.specs.Trees.{Never}
use Rattle.aw_law_sites.specs.Choosing.{Chosen, No, Did, choose}
use Rattle.aw_law_sites.specs.Homes.{home}
use Rattle.aw_law_sites.specs.Reacting.{receive}
use Rattle.aw_law_sites.specs.SiteEvents.{SiteEvent, Chose, Got, site_run}
use Rattle.aw_law_sites.specs.Sites.{Reaction, empty_site}
use Rattle.aw_law_sites.specs.Worlds.{node_of, Chooses, Delivers}
use Rattle.aw_law_worlds.specs.Laws.{MayCome}
use Rattle.aw_law_worlds.proofs.Places.{get-set, get-set_other, same_or_not}
use Rattle.aw_law_nodes.specs.Crashes.{Kept, Posted, Past, Frail, new_kept, kept_at, kept_after, posts_of, happen, chosen_frail, reaction_of}
use Rattle.aw_law_nodes.specs.Crashes.{with_delivery, delivered_frail, frail_step, is_dropped, back_kept, back_post, back_posted, back_past, go_back}
use Rattle.aw_law_nodes.proofs.ListParts.{set-set, set-swap, set-get, filter-append}
use Rattle.aw_law_nodes.proofs.Dropped.{drop-other, drop-early, drop-late, back-append, back-sent, back-none, past-kept, past-dropped, place, noted-stays, noted-goes}
use Rattle.aw_law_nodes.proofs.OwnEvents.{Reacts, chosen-reacts, got-reacts, Replays, IsOwn, Own, own-after}

-- at most one event is added
length-after : (k : Kept) (h : SiteEvent) (o : Option Reaction) → length (kept_after k h o).events ≤ length k.events + 1
-- at most one event is added
length-after k h None = omega arith
-- at most one event is added
length-after k h (Some x) = let e = length-append k.events (h ∷ []) in omega (arith, e)

-- an event at role a comes before a place that role r goes back to
abbrev IsEarly : Frail → ℕ → ℕ → ℕ → Type 0
IsEarly w r n a = (a ≡ r → Never) ⊎ ((a ≡ r) × (length (kept_at w r).events < n))

early_or_late : (w : Frail) (r n a : ℕ) → IsEarly w r n a ⊎ ((a ≡ r) × (n ≤ length (kept_at w r).events))
early_or_late w r n a = elim (same_or_not a r) [
  | inr f ↦ inl (inl f)
  | inl e ↦ elim (cases_lt (length (kept_at w r).events) n) [ inl l ↦ inl (inr (e, l)) | inr l ↦ inr (e, l) ]
]

early-drops : (w : Frail) (r n a : ℕ) → IsEarly w r n a → is_dropped r n a (length (kept_at w a).events) ≡ false
early-drops w r n a (inl f) = drop-other r n a (length (kept_at w a).events) f
early-drops w r n a (inr m) = subst (λ a. is_dropped r n a (length (kept_at w a).events) ≡ false) (sym m.0) (drop-early r n r (length (kept_at w r).events) m.1)

module _ (g : Grammar) (loads : Bool) where
  -- going back to all events changes nothing
  pub back-all : (r n : ℕ) (k : Kept) → length k.events ≤ n → IsOwn g loads r k → back_kept g loads r n k ≡ k
  back-all r n k l p =
      let e = take_all n k.events l in
      λ i. record { site = (ap (site_run g (empty_site loads r)) e ∙ sym p) i; events = e i }

  -- no later event changes what a site goes back to
  back-after : (r n : ℕ) (k : Kept) (h : SiteEvent) (o : Option Reaction) → n ≤ length k.events → back_kept g loads r n (kept_after k h o) ≡ back_kept g loads r n k
  back-after r n k h None l = refl
  back-after r n k h (Some x) l =
      let e = take-append-le n k.events (h ∷ []) l in
      λ i. record { site = site_run g (empty_site loads r) (e i); events = e i }

  -- what happens elsewhere, or early enough, happens after going back too
  back-stays : (w : Frail) (r n a : ℕ) (h : SiteEvent) (o : Option Reaction) (ps : List Posted) → Own g loads w → r < length w.kept → Reacts g (kept_at w a).site h o → IsEarly w r n a
      → (kept_at (go_back g loads r n w) a ≡ kept_at w a) × (happen (go_back g loads r n w) a h o (back_posted r n ps) ≡ go_back g loads r n (happen w a h o ps))
  back-stays w r n a h o ps p l e c =
      let same = site_same c in
      let drops = early-drops w r n a c in (
        same,
        λ i. record {
          kept = (ap (λ (k : Kept). slice_set (slice_set w.kept r (back_kept g loads r n (kept_at w r))) a (kept_after k h o)) same ∙ sites c) i;
          posted = (ap (λ (k : Kept). back_posted r n ps ++ posts_of a (length k.events) o) same
              ∙ (ap (λ qs. back_posted r n ps ++ qs) (sym (back-sent r n a (length (kept_at w a).events) o drops)) ∙ sym (back-append r n ps (posts_of a (length (kept_at w a).events) o)))) i;
          past = (ap (λ (k : Kept). back_past r n w.past ++ record { role = a; before = length k.events; happening = h } ∷ []) same
              ∙ (ap (λ es. back_past r n w.past ++ es) (sym (past-kept r n (record { role = a; before = length (kept_at w a).events; happening = h })
              drops)) ∙ sym (filter-append (λ (e : Past). not (is_dropped r n e.role e.before)) w.past
              (record { role = a; before = length (kept_at w a).events; happening = h } ∷ [])))) i;
        },
      )
    where
      back-self : length (kept_at w r).events < n → back_kept g loads r n (kept_at w r) ≡ kept_at w r
      back-self m = back-all r n (kept_at w r) (omega arith) (p r l)

      site_same : IsEarly w r n a → kept_at (go_back g loads r n w) a ≡ kept_at w a
      site_same (inl f) = get-set_other (new_kept false a) w.kept r a (back_kept g loads r n (kept_at w r)) (λ e. f (sym e))
      site_same (inr m) = subst (λ a. kept_at (go_back g loads r n w) a ≡ kept_at w a) (sym m.0) (get-set (new_kept false r) w.kept r (back_kept g loads r n (kept_at w r)) l ∙ back-self m.1)

      other : (f : a ≡ r → Never) → kept_at (happen w a h o ps) r ≡ kept_at w r
      other f = get-set_other (new_kept false r) w.kept a r (kept_after (kept_at w a) h o) f

      sites : IsEarly w r n a → slice_set (slice_set w.kept r (back_kept g loads r n (kept_at w r))) a (kept_after (kept_at w a) h o)
          ≡ slice_set (slice_set w.kept a (kept_after (kept_at w a) h o)) r (back_kept g loads r n (kept_at (happen w a h o ps) r))
      sites (inl f) =
          set-swap w.kept r a (back_kept g loads r n (kept_at w r)) (kept_after (kept_at w a) h o) (λ e. f (sym e))
          ∙ ap (λ (k : Kept). slice_set (slice_set w.kept a (kept_after (kept_at w a) h o)) r (back_kept g loads r n k)) (sym (other f))
      sites (inr m) = subst (λ a. (Reacts g (kept_at w a).site h o) → slice_set (slice_set w.kept r (back_kept g loads r n (kept_at w r))) a
          (kept_after (kept_at w a) h o) ≡ slice_set (slice_set w.kept a (kept_after (kept_at w a) h o)) r
          (back_kept g loads r n (kept_at (happen w a h o ps) r)))
          (sym m.0)
          (λ e. set-set w.kept r (back_kept g loads r n (kept_at w r)) (kept_after (kept_at w r) h o)
          ∙ (sym (set-set w.kept r (kept_after (kept_at w r) h o) (kept_after (kept_at w r) h o))
          ∙ ap (λ (k : Kept). slice_set (slice_set w.kept r (kept_after (kept_at w r) h o)) r k)
          (sym (ap (back_kept g loads r n) (get-set (new_kept false r) w.kept r (kept_after (kept_at w r) h o) l)
          ∙ back-all r n (kept_after (kept_at w r) h o) (let z = length-after (kept_at w r) h o in omega (arith, m.1, z)) (own-after g loads r (kept_at w r) h o e (p r l))))))
          e

  -- what happens too late leaves only its mark on the messages
  back-goes : (w : Frail) (r n : ℕ) (h : SiteEvent) (o : Option Reaction) (ps : List Posted) → r < length w.kept → n ≤ length (kept_at w r).events
      → go_back g loads r n (happen w r h o ps) ≡ record (go_back g loads r n w) { posted = back_posted r n ps }
  back-goes w r n h o ps l m =
      let late = drop-late r n (length (kept_at w r).events) m in
      λ i. record {
        kept = (set-set w.kept r (kept_after (kept_at w r) h o) (back_kept g loads r n (kept_at (happen w r h o ps) r))
            ∙ ap (λ (k : Kept). slice_set w.kept r k) (ap (back_kept g loads r n) (get-set (new_kept false r) w.kept r (kept_after (kept_at w r) h o) l) ∙ back-after r n (kept_at w r) h o m)) i;
        posted = (back-append r n ps (posts_of r (length (kept_at w r).events) o)
            ∙ (ap (λ qs. back_posted r n ps ++ qs) (back-none r n r (length (kept_at w r).events) o late) ∙ append-nil (back_posted r n ps))) i;
        past = (filter-append (λ (e : Past). not (is_dropped r n e.role e.before)) w.past (record { role = r; before = length (kept_at w r).events; happening = h } ∷ [])
            ∙ (ap (λ es. back_past r n w.past ++ es) (past-dropped r n (record { role = r; before = length (kept_at w r).events; happening = h }) late) ∙ append-nil (back_past r n w.past))) i;
      }

  -- behind a choice: it is made after going back as well, or it is dropped
  pub chosen-back : (w : Frail) (r n : ℕ) (c : Choice) (a : ℕ) → home g (node_of c) ≡ a → MayCome g (Chooses c) → Own g loads w → r < length w.kept →
      (z : Chosen) → choose g (kept_at w a).site c ≡ z → Replays g (go_back g loads r n w) (go_back g loads r n (chosen_frail w a c z))
  chosen-back w r n c a q ok p l (No b) e = ([], tt, refl)
  chosen-back w r n c a q ok p l (Did x) e = go (early_or_late w r n a)
    where
      step-on : (k : Kept) → k ≡ kept_at w a → (b : Frail) → kept_at b a ≡ k → frail_step g b (Chooses c) ≡ happen b a (Chose c) (Some x) b.posted
      step-on k s b t =
          subst (λ h. chosen_frail b h c (choose g (kept_at b h).site c) ≡ happen b a (Chose c) (Some x) b.posted) (sym q)
          (ap (chosen_frail b a c) (ap (λ (k : Kept). choose g k.site c) (t ∙ s) ∙ e))

      go : IsEarly w r n a ⊎ ((a ≡ r) × (n ≤ length (kept_at w r).events)) → Replays g (go_back g loads r n w) (go_back g loads r n (happen w a (Chose c) (Some x) w.posted))
      go (inl early) =
          let z = back-stays w r n a (Chose c) (Some x) w.posted p l (chosen-reacts g (kept_at w a).site c x e) early in
          (Chooses c ∷ [], (ok, tt), step-on (kept_at w a) refl (go_back g loads r n w) z.0 ∙ z.1)
      go (inr (h, late)) =
          ([], tt, subst (λ a. go_back g loads r n w ≡ go_back g loads r n (happen w a (Chose c) (Some x) w.posted)) (sym h) (sym (back-goes w r n (Chose c) (Some x) w.posted l late)))

  -- behind a delivery: it is made after going back as well, or only its mark is dropped
  pub delivered-back : (w : Frail) (r n k : ℕ) (p : Posted) → slice_get w.posted k ≡ Some p → Own g loads w → r < length w.kept → is_dropped r n p.from p.event ≡ false
      → Replays g (go_back g loads r n w) (go_back g loads r n (delivered_frail g w k (Some p)))
  delivered-back w r n k p e own l f = go (early_or_late w r n p.message.to)
    where
      go : IsEarly w r n p.message.to ⊎ ((p.message.to ≡ r) × (n ≤ length (kept_at w r).events)) → Replays g (go_back g loads r n w) (go_back g loads r n (delivered_frail g w k (Some p)))
      go (inl early) =
          let (j, u) = place r n w.posted k p (length (kept_at w p.message.to).events) e f in
          let z = back-stays w r n p.message.to (Got p.message) (reaction_of (receive g (kept_at w p.message.to).site p.message))
          (slice_set w.posted k (with_delivery (length (kept_at w p.message.to).events) p)) own l
          (got-reacts g (kept_at w p.message.to).site p.message (receive g (kept_at w p.message.to).site p.message) refl) early in (
            Delivers j ∷ [],
            (tt, tt),
            ap (delivered_frail g (go_back g loads r n w) j) u.0
                ∙ (ap (λ (K : Kept). happen (go_back g loads r n w) p.message.to (Got p.message) (reaction_of (receive g K.site p.message))
                (slice_set (back_posted r n w.posted) j (with_delivery (length K.events) (back_post r n p)))) z.0
                ∙ (ap (λ ps. happen (go_back g loads r n w) p.message.to (Got p.message) (reaction_of (receive g (kept_at w p.message.to).site p.message)) ps)
                (ap (λ (q : Posted). slice_set (back_posted r n w.posted) j q) (sym (noted-stays r n (length (kept_at w p.message.to).events) p (early-drops w r n p.message.to early))) ∙ sym u.1)
                ∙ z.1)),
          )
      go (inr (h, late)) =
          let (j, u) = place r n w.posted k p (length (kept_at w r).events) e f in
          let same : back_posted r n (slice_set w.posted k (with_delivery (length (kept_at w r).events) p)) ≡ back_posted r n w.posted =
          u.1 ∙ (ap (λ (q : Posted). slice_set (back_posted r n w.posted) j q) (noted-goes r n (length (kept_at w r).events) p
          (subst (λ a. is_dropped r n a (length (kept_at w r).events) ≡ true) (sym h) (drop-late r n (length (kept_at w r).events) late)))
          ∙ set-get (back_posted r n w.posted) j (back_post r n p) u.0) in (
            [],
            tt,
            subst (λ a. go_back g loads r n w ≡ go_back g loads r n (happen w a (Got p.message) (reaction_of (receive g (kept_at w a).site p.message))
                (slice_set w.posted k (with_delivery (length (kept_at w a).events) p)))) (sym h)
                (sym (back-goes w r n (Got p.message) (reaction_of (receive g (kept_at w r).site p.message)) (slice_set w.posted k (with_delivery (length (kept_at w r).events) p)) l late
                ∙ ap (λ ps. record (go_back g loads r n w) { posted = ps }) same)),
          )
