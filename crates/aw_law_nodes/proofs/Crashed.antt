-- A world with crashes is a world without them, of the events that remain.
use Rattle.std.specs.Prelude.{slice_get, slice_set, ◌⊎◌}
use Rattle.std.proofs.Common.{◌≡◌, ℕ, zero, suc, ◌<◌, ◌≤◌, Bool, true, false, List, [], ◌∷◌, ◌++◌, length, Option, Some, None, refl, sym, ap, ◌∙◌, subst, inl, inr, arith}
use Rattle.aw_list.specs.Members.{Member}
use Rattle.aw_list.proofs.Members.{never, member_left}
use Rattle.aw_list.proofs.Everyday.{length-slice_set as length-set}
use Rattle.aw_term.specs.Choices.{Choice}
use Rattle.aw_term.specs.Rules.{Grammar}
use Rattle.aw_term.specs.WellFormed.{Each}
use Rattle.aw_term.proofs.Eaches.{each_append}
use Rattle.aw_law_sites.specs.Choosing.{Chosen, No, Did, choose}
use Rattle.aw_law_sites.specs.Homes.{home}
use Rattle.aw_law_sites.specs.Reacting.{receive}
use Rattle.aw_law_sites.specs.SiteEvents.{SiteEvent, Chose, Got}
use Rattle.aw_law_sites.specs.Sites.{Reaction}
use Rattle.aw_law_sites.specs.Worlds.{node_of, Move, Chooses, Delivers}
use Rattle.aw_law_worlds.specs.Laws.{MayCome}
use Rattle.aw_law_nodes.specs.Crashes.{Kept, Posted, Frail, new_kept, kept_at, start_at, kept_after, posts_of, happen, chosen_frail, reaction_of}
use Rattle.aw_law_nodes.specs.Crashes.{with_delivery, delivered_frail, frail_step, is_dropped, go_back, MayGoBack, FrailEvent, Happens, GoesBack}
use Rattle.aw_law_nodes.specs.Crashes.{frail_run, AreAllowed}
use Rattle.aw_law_nodes.proofs.ListParts.{nil-left, set-same}
use Rattle.aw_law_nodes.proofs.GoingBack.{back-all, chosen-back, delivered-back}
use Rattle.aw_law_nodes.proofs.OwnEvents.{empty-size, plain_run, plain-append, Replays, Own, step-own, start-kept, start-own}

pub set-member : {A : Type 0} (xs : List A) (k : ℕ) (p v : A) → slice_get xs k ≡ Some p → Member v (slice_set xs k v)
set-member [] k p v e = absurd cc
set-member (x ∷ xs) zero p v e = inl refl
set-member (x ∷ xs) (suc k) p v e = inr (set-member xs k p v e)

pub set-members : {A : Type 0} (xs : List A) (k : ℕ) (p v q : A) → slice_get xs k ≡ Some p → Member q xs → Member q (slice_set xs k v) ⊎ (q ≡ p)
set-members [] k p v q e m = never m
set-members (x ∷ xs) zero p v q e (inl m) = inr cc
set-members (x ∷ xs) zero p v q e (inr m) = inl (inr m)
set-members (x ∷ xs) (suc k) p v q e (inl m) = inl (inl m)
set-members (x ∷ xs) (suc k) p v q e (inr m) = elim (set-members xs k p v q e m) [ inl i ↦ inl (inr i) | inr i ↦ inr i ]

-- who may go back after an event might before it
happen-before : (w : Frail) (r n a : ℕ) (h : SiteEvent) (o : Option Reaction) (ps : List Posted) → MayGoBack r n (happen w a h o ps) →
    (r < length w.kept) × ((p : Posted) → Member p ps → is_dropped r n p.from p.event ≡ true → p.deliveries ≡ [])
happen-before w r n a h o ps (l, f) =
    let z = length-set w.kept a (kept_after (kept_at w a) h o) in
    (omega (arith, z, l), λ p m d. f p (member_left p ps (posts_of a (length (kept_at w a).events) o) m) d)

-- a message that is just delivered is not dropped
not-dropped : (w : Frail) (r n a : ℕ) (h : SiteEvent) (o : Option Reaction) (k c : ℕ) (p : Posted) → slice_get w.posted k ≡ Some p →
    MayGoBack r n (happen w a h o (slice_set w.posted k (with_delivery c p))) → is_dropped r n p.from p.event ≡ false
not-dropped w r n a h o k c p e M = go (is_dropped r n p.from p.event) refl
  where
    go : (b : Bool) → is_dropped r n p.from p.event ≡ b → is_dropped r n p.from p.event ≡ false
    go true d = never (nil-left p.deliveries c ((happen-before w r n a h o (slice_set w.posted k (with_delivery c p)) M).1 (with_delivery c p) (set-member w.posted k p (with_delivery c p) e) d))
    go false d = d

chosen-before : (w : Frail) (r n a : ℕ) (c : Choice) (z : Chosen) → MayGoBack r n (chosen_frail w a c z) → MayGoBack r n w
chosen-before w r n a c (No b) M = M
chosen-before w r n a c (Did x) M = happen-before w r n a (Chose c) (Some x) w.posted M

module _ (g : Grammar) where
  delivered-before : (w : Frail) (r n k : ℕ) (o : Option Posted) → slice_get w.posted k ≡ o → MayGoBack r n (delivered_frail g w k o) → MayGoBack r n w
  delivered-before w r n k None e M = M
  delivered-before w r n k (Some p) e M =
      let z = happen-before w r n p.message.to (Got p.message) (reaction_of (receive g (kept_at w p.message.to).site p.message))
      (slice_set w.posted k (with_delivery (length (kept_at w p.message.to).events) p)) M in
      let f = not-dropped w r n p.message.to (Got p.message) (reaction_of (receive g (kept_at w p.message.to).site p.message)) k (length (kept_at w p.message.to).events) p e M in (
        z.0,
        λ q m d. elim (set-members w.posted k p (with_delivery (length (kept_at w p.message.to).events) p) q e m) [
          | inl i ↦ z.1 q i d
          | inr i ↦ (let y : is_dropped r n p.from p.event ≡ true = subst (λ (q : Posted). is_dropped r n q.from q.event ≡ true) i d in absurd cc)
        ],
      )

  step-before : (w : Frail) (r n : ℕ) (e : Move) → MayGoBack r n (frail_step g w e) → MayGoBack r n w
  step-before w r n (Chooses c) M = chosen-before w r n (home g (node_of c)) c (choose g (kept_at w (home g (node_of c))).site c) M
  step-before w r n (Delivers k) M = delivered-before w r n k (slice_get w.posted k) refl M

  run-before : (w : Frail) (r n : ℕ) (es : List Move) → MayGoBack r n (plain_run g w es) → MayGoBack r n w
  run-before w r n [] M = M
  run-before w r n (e ∷ es) M = step-before w r n e (run-before (frail_step g w e) r n es M)

  module _ (loads : Bool) where
    -- going back and one event
    deliver-back : (w : Frail) (r n k : ℕ) (o : Option Posted) → slice_get w.posted k ≡ o → Own g loads w → MayGoBack r n (delivered_frail g w k o) →
        Replays g (go_back g loads r n w) (go_back g loads r n (delivered_frail g w k o))
    deliver-back w r n k None e own M = ([], tt, refl)
    deliver-back w r n k (Some p) e own M =
        delivered-back g loads w r n k p e own (delivered-before w r n k (Some p) e M).0
        (not-dropped w r n p.message.to (Got p.message) (reaction_of (receive g (kept_at w p.message.to).site p.message)) k (length (kept_at w p.message.to).events) p e M)

    step-back : (w : Frail) (r n : ℕ) (e : Move) → MayCome g e → Own g loads w → MayGoBack r n (frail_step g w e) → Replays g (go_back g loads r n w) (go_back g loads r n (frail_step g w e))
    step-back w r n (Chooses c) ok p M = chosen-back g loads w r n c (home g (node_of c)) refl ok p (step-before w r n (Chooses c) M).0 (choose g (kept_at w (home g (node_of c))).site c) refl
    step-back w r n (Delivers k) ok p M = deliver-back w r n k (slice_get w.posted k) refl p M

    run-back : (w : Frail) (r n : ℕ) (es : List Move) → Each (MayCome g) es → Own g loads w → MayGoBack r n (plain_run g w es) →
        Replays g (go_back g loads r n w) (go_back g loads r n (plain_run g w es))
    run-back w r n [] k p M = ([], tt, refl)
    run-back w r n (e ∷ es) k p M =
        let (fs, a, q) = step-back w r n e k.0 p (run-before (frail_step g w e) r n es M) in
        let (hs, b, s) = run-back (frail_step g w e) r n es k.1 (step-own g loads w e p) M in
        (fs ++ hs, each_append (MayCome g) fs hs a b, plain-append g (go_back g loads r n w) fs hs ∙ (ap (λ u. plain_run g u hs) q ∙ s))

    -- where nothing happened, going back changes nothing
    start-back : (r n : ℕ) → r < length (start_at g loads).kept → go_back g loads r n (start_at g loads) ≡ start_at g loads
    start-back r n l =
        let z = empty-size loads 0 g.roles in
        let k = start-kept g loads r (omega (arith, z, l)) in
        let e = back-all g loads r n (kept_at (start_at g loads) r) (subst (λ (k : Kept). length k.events ≤ n) (sym k) (omega arith)) (start-own g loads r l) in
        λ i. record (start_at g loads) { kept = (ap (λ (k : Kept). slice_set (start_at g loads).kept r k) e ∙ set-same (new_kept false r) (start_at g loads).kept r) i }

    -- each world with crashes is one without
    pub without : (fs : List Move) → Each (MayCome g) fs → (es : List FrailEvent) → AreAllowed g loads (plain_run g (start_at g loads) fs) es →
        Replays g (start_at g loads) (frail_run g loads (plain_run g (start_at g loads) fs) es)
    without fs k [] h = (fs, k, refl)
    without fs k (Happens e ∷ es) h =
        let q = plain-append g (start_at g loads) fs (e ∷ []) in
        let (hs, a, s) = without (fs ++ e ∷ []) (each_append (MayCome g) fs (e ∷ []) k (h.0, tt)) es (subst (λ u. AreAllowed g loads u es) (sym q) h.1) in
        (hs, a, s ∙ ap (λ u. frail_run g loads u es) q)
    without fs k (GoesBack r n ∷ es) h =
        let (hs, a, s) = run-back (start_at g loads) r n fs k (start-own g loads) h.0 in
        let q = ap (λ u. plain_run g u hs) (sym (start-back r n (run-before (start_at g loads) r n fs h.0).0)) ∙ s in
        let (is, b, t) = without hs a es (subst (λ u. AreAllowed g loads u es) (sym q) h.1) in
        (is, b, t ∙ ap (λ u. frail_run g loads u es) q)
