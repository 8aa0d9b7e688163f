-- Each event of a node is a choice that was taken, or a message that was new, when it came.
use Rattle.std.specs.Prelude.{take}
use Rattle.std.proofs.Common.{◌≡◌, ℕ, zero, suc, ◌<◌, Bool, List, [], ◌∷◌, ◌++◌, sym, ap, ◌∙◌, subst, inl, inr}
use Rattle.std.proofs.lemmas.List.{append-nil}
use Rattle.aw_term.specs.Rules.{Grammar}
use Rattle.aw_apply.specs.Messages.{New}
use Rattle.aw_law_sites.specs.Choosing.{Did, choose}
use Rattle.aw_law_sites.specs.Reacting.{receive}
use Rattle.aw_law_sites.specs.SiteEvents.{SiteEvent, Chose, Got, site_step, site_run}
use Rattle.aw_law_sites.specs.Sites.{Site, Reaction, empty_site}
use Rattle.aw_law_worlds.proofs.Places.{same_or_not}
use Rattle.aw_law_nodes.specs.Crashes.{Kept, kept_frame}
use Rattle.aw_law_nodes.specs.Nodes.{Frame}
use Rattle.aw_law_nodes.proofs.OwnEvents.{start-kept}
use Rattle.aw_law_system.specs.Systems.{System, node_at, first_system, Act, Asks, Crashes, act, IsAllowed}
use Rattle.aw_law_system.proofs.Acting.{IsSound, asked-here, asked-there, crashed-here, crashed-there}
use Rattle.aw_law_system.proofs.Framing.{Makes, nothing, choosing, getting, makes}

module _ (g : Grammar) where
  -- it is taken, or new
  abbrev pub Comes : Site → SiteEvent → Type 0
  Comes s (Chose c) = (x : Reaction) × (choose g s c ≡ Did x)
  Comes s (Got m) = (x : Reaction) × (receive g s m ≡ New x)

  -- each when it comes
  abbrev pub AllCome : Site → List SiteEvent → Type 0
  AllCome s [] = Unit {0}
  AllCome s (h ∷ hs) = Comes s h × AllCome (site_step g s h) hs

  come-more : (s : Site) (hs : List SiteEvent) (h : SiteEvent) → AllCome s hs → Comes (site_run g s hs) h → AllCome s (hs ++ h ∷ [])
  come-more s [] h a c = (c, tt)
  come-more s (i ∷ hs) h a c = (a.0, come-more (site_step g s i) hs h a.1 c)

  come-take : (n : ℕ) (s : Site) (hs : List SiteEvent) → AllCome s hs → AllCome s (take n hs)
  come-take zero s hs a = tt
  come-take (suc n) s [] a = tt
  come-take (suc n) s (h ∷ hs) a = (a.0, come-take n (site_step g s h) hs a.1)

  -- what a frame adds
  come-frame : (e s : Site) (hs : List SiteEvent) (f : Frame) → s ≡ site_run g e hs → AllCome e hs → Makes g s f → AllCome e (hs ++ kept_frame g s f)
  come-frame e s hs f own a (nothing p q) = subst (AllCome e) (sym (ap (λ is. hs ++ is) p ∙ append-nil hs)) a
  come-frame e s hs f own a (choosing c x i ok at did p q told) = subst (λ is. AllCome e (hs ++ is)) (sym p) (come-more e hs (Chose c) a (subst (λ s. Comes s (Chose c)) own (x, did)))
  come-frame e s hs f own a (getting m x i new p q) = subst (λ is. AllCome e (hs ++ is)) (sym p) (come-more e hs (Got m) a (subst (λ s. Comes s (Got m)) own (x, new)))

  module _ (loads : Bool) where
    -- so is each event of each node
    abbrev pub AllTrue : System → Type 0
    AllTrue s = (r : ℕ) → r < g.roles → AllCome (empty_site loads r) (node_at s r).events

    pub come-first : AllTrue (first_system g loads)
    come-first r l = subst (λ (k : Kept). AllCome (empty_site loads r) k.events) (sym (start-kept g loads r l)) tt

    pub come-act : (s : System) → IsSound g loads s → AllTrue s → (a : Act) → IsAllowed g s a → AllTrue (act g loads s a)
    come-act s S A (Asks r f x) h a m = elim (same_or_not r a) [
      | inl e ↦ subst (λ a. AllCome (empty_site loads a) (node_at (act g loads s (Asks r f x)) a).events) e
          (subst (λ (k : Kept). AllCome (empty_site loads r) k.events) (sym (asked-here g loads s S r f x h.0))
          (come-frame (empty_site loads r) (node_at s r).site (node_at s r).events f (S.own r h.0) (A r h.0) (makes g (node_at s r).site f)))
      | inr n ↦ subst (λ (k : Kept). AllCome (empty_site loads a) k.events) (sym (asked-there g loads s S r f x h.0 a n)) (A a m)
    ]
    come-act s S A (Crashes r n) h a m = elim (same_or_not r a) [
      | inl e ↦ subst (λ a. AllCome (empty_site loads a) (node_at (act g loads s (Crashes r n)) a).events) e
          (subst (λ (k : Kept). AllCome (empty_site loads r) k.events) (sym (crashed-here g loads s S r n h.0 h.1 h.2)) (come-take n (empty_site loads r) (node_at s r).events (A r h.0)))
      | inr d ↦ subst (λ (k : Kept). AllCome (empty_site loads a) k.events) (sym (crashed-there g loads s S r n h.0 h.1 h.2 a d)) (A a m)
    ]
