-- In a world with crashes each site is that of its own events.
use Rattle.std.specs.Prelude.{slice_get, slice_set}
use Rattle.std.proofs.Common.{◌≡◌, ℕ, zero, suc, ◌+◌, ◌<◌, Bool, false, List, [], ◌∷◌, ◌++◌, map, length, Option, Some, None, refl, sym, ap, ◌∙◌, subst, inl, inr, arith}
use Rattle.aw_list.proofs.Everyday.{length-slice_set as length-set}
use Rattle.aw_term.specs.Choices.{Choice}
use Rattle.aw_term.specs.Rules.{Grammar, get, upto}
use Rattle.aw_term.specs.WellFormed.{Each}
use Rattle.aw_apply.specs.Messages.{Message, Received, New, Repeat, Conflict, NotMine, BadName}
use Rattle.aw_law_sites.specs.Choosing.{Chosen, No, Did, choose}
use Rattle.aw_law_sites.specs.Homes.{home}
use Rattle.aw_law_sites.specs.Reacting.{receive}
use Rattle.aw_law_sites.specs.SiteEvents.{SiteEvent, Chose, Got, after_choice, after_message, site_step, site_run}
use Rattle.aw_law_sites.specs.Sites.{Site, Reaction, empty_site}
use Rattle.aw_law_sites.specs.Worlds.{node_of, Move, Chooses, Delivers}
use Rattle.aw_law_worlds.specs.Laws.{MayCome}
use Rattle.aw_law_worlds.proofs.Places.{get-set, get-set_other, same_or_not}
use Rattle.aw_law_nodes.specs.Crashes.{Kept, Posted, Frail, new_kept, kept_at, start_at, kept_after, happen, chosen_frail, reaction_of, with_delivery, delivered_frail, frail_step}

-- sites are those of their own events
events-more : (g : Grammar) (s : Site) (hs : List SiteEvent) (h : SiteEvent) → site_run g s (hs ++ h ∷ []) ≡ site_step g (site_run g s hs) h
events-more g s [] h = refl
events-more g s (i ∷ hs) h = events-more g (site_step g s i) hs h

-- the world in which nothing happened
empty-kept : (loads : Bool) (i n j r : ℕ) → j < n → get (new_kept false r) (map (new_kept loads) (upto i n)) j ≡ new_kept loads (i + j)
empty-kept loads i zero j r l = absurd (omega arith)
empty-kept loads i (suc n) zero r l = let z : i ≡ i + 0 = omega arith in ap (new_kept loads) z
empty-kept loads i (suc n) (suc j) r l = let z : suc i + j ≡ i + suc j = omega arith in empty-kept loads (suc i) n j r (omega arith) ∙ ap (new_kept loads) z

pub empty-size : (loads : Bool) (i n : ℕ) → length {A = Kept} (map (new_kept loads) (upto i n)) ≡ n
empty-size loads i zero = refl
empty-size loads i (suc n) = ap suc (empty-size loads (suc i) n)

module _ (g : Grammar) where
  -- the reaction is that of the site
  abbrev pub Reacts : Site → SiteEvent → Option Reaction → Type 0
  Reacts s h None = Unit {0}
  Reacts s h (Some x) = site_step g s h ≡ x.site

  pub chosen-reacts : (s : Site) (c : Choice) (x : Reaction) → choose g s c ≡ Did x → Reacts s (Chose c) (Some x)
  chosen-reacts s c x e = ap (after_choice s) e

  pub got-reacts : (s : Site) (m : Message) (z : Received Reaction) → receive g s m ≡ z → Reacts s (Got m) (reaction_of z)
  got-reacts s m (New x) e = ap (after_message s) e
  got-reacts s m Repeat e = tt
  got-reacts s m (Conflict a b) e = tt
  got-reacts s m NotMine e = tt
  got-reacts s m BadName e = tt

  -- events without crashes
  abbrev pub plain_run : Frail → List Move → Frail
  plain_run w [] = w
  plain_run w (e ∷ es) = plain_run (frail_step g w e) es

  pub plain-append : (w : Frail) (es fs : List Move) → plain_run w (es ++ fs) ≡ plain_run (plain_run w es) fs
  plain-append w [] fs = refl
  plain-append w (e ∷ es) fs = plain-append (frail_step g w e) es fs

  -- some events without crashes lead from one world to the other
  abbrev pub Replays : Frail → Frail → Type 0
  Replays u v = (es : List Move) × Each (MayCome g) es × (plain_run u es ≡ v)

  -- there are as many sites as before
  chosen-size : (w : Frail) (a : ℕ) (c : Choice) (z : Chosen) → length (chosen_frail w a c z).kept ≡ length w.kept
  chosen-size w a c (No b) = refl
  chosen-size w a c (Did x) = length-set w.kept a (kept_after (kept_at w a) (Chose c) (Some x))

  delivered-size : (w : Frail) (k : ℕ) (o : Option Posted) → length (delivered_frail g w k o).kept ≡ length w.kept
  delivered-size w k None = refl
  delivered-size w k (Some p) = length-set w.kept p.message.to (kept_after (kept_at w p.message.to) (Got p.message) (reaction_of (receive g (kept_at w p.message.to).site p.message)))

  step-size : (w : Frail) (e : Move) → length (frail_step g w e).kept ≡ length w.kept
  step-size w (Chooses c) = chosen-size w (home g (node_of c)) c (choose g (kept_at w (home g (node_of c))).site c)
  step-size w (Delivers k) = delivered-size w k (slice_get w.posted k)

  pub run-size : (w : Frail) (es : List Move) → length (plain_run w es).kept ≡ length w.kept
  run-size w [] = refl
  run-size w (e ∷ es) = run-size (frail_step g w e) es ∙ step-size w e

  module _ (loads : Bool) where
    -- the site of a role is that of its events, and so is each of a world
    abbrev pub IsOwn : ℕ → Kept → Type 0
    IsOwn r k = k.site ≡ site_run g (empty_site loads r) k.events

    abbrev pub Own : Frail → Type 0
    Own w = (r : ℕ) → r < length w.kept → IsOwn r (kept_at w r)

    pub own-after : (r : ℕ) (k : Kept) (h : SiteEvent) (o : Option Reaction) → Reacts k.site h o → IsOwn r k → IsOwn r (kept_after k h o)
    own-after r k h None e p = p
    own-after r k h (Some x) e p = sym (events-more g (empty_site loads r) k.events h ∙ (ap (λ s. site_step g s h) (sym p) ∙ e))

    own-happen : (w : Frail) (r : ℕ) (h : SiteEvent) (o : Option Reaction) (ps : List Posted) → Reacts (kept_at w r).site h o → Own w → Own (happen w r h o ps)
    own-happen w r h o ps e p a l =
        let n = length-set w.kept r (kept_after (kept_at w r) h o) in
        let l' : a < length w.kept = omega (arith, n, l) in
        elim (same_or_not r a) [
          | inl q ↦ subst (λ a. a < length w.kept → IsOwn a (kept_at (happen w r h o ps) a)) q
              (λ l. subst (IsOwn r) (sym (get-set (new_kept false r) w.kept r (kept_after (kept_at w r) h o) l)) (own-after r (kept_at w r) h o e (p r l))) l'
          | inr n ↦ subst (IsOwn a) (sym (get-set_other (new_kept false a) w.kept r a (kept_after (kept_at w r) h o) n)) (p a l')
        ]

    -- sites stay those of their events
    chosen-own : (w : Frail) (a : ℕ) (c : Choice) (z : Chosen) → choose g (kept_at w a).site c ≡ z → Own w → Own (chosen_frail w a c z)
    chosen-own w a c (No b) e p = p
    chosen-own w a c (Did x) e p = own-happen w a (Chose c) (Some x) w.posted (chosen-reacts (kept_at w a).site c x e) p

    delivered-own : (w : Frail) (k : ℕ) (o : Option Posted) → Own w → Own (delivered_frail g w k o)
    delivered-own w k None own = own
    delivered-own w k (Some p) own = own-happen w p.message.to (Got p.message) (reaction_of (receive g (kept_at w p.message.to).site p.message))
        (slice_set w.posted k (with_delivery (length (kept_at w p.message.to).events) p)) (got-reacts (kept_at w p.message.to).site p.message
        (receive g (kept_at w p.message.to).site p.message) refl) own

    pub step-own : (w : Frail) (e : Move) → Own w → Own (frail_step g w e)
    step-own w (Chooses c) p = chosen-own w (home g (node_of c)) c (choose g (kept_at w (home g (node_of c))).site c) refl p
    step-own w (Delivers k) p = delivered-own w k (slice_get w.posted k) p

    pub run-own : (w : Frail) (es : List Move) → Own w → Own (plain_run w es)
    run-own w [] p = p
    run-own w (e ∷ es) p = run-own (frail_step g w e) es (step-own w e p)

    -- at the start nothing has happened at any role
    pub start-kept : (r : ℕ) → r < g.roles → kept_at (start_at g loads) r ≡ new_kept loads r
    start-kept r l = let z : 0 + r ≡ r = omega arith in empty-kept loads 0 g.roles r r l ∙ ap (new_kept loads) z

    pub start-own : Own (start_at g loads)
    start-own r l =
        let z = empty-size loads 0 g.roles in
        subst (IsOwn r) (sym (start-kept r (omega (arith, z, l)))) refl
