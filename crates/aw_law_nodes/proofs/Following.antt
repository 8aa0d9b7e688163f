-- The sites after an event, and what a later world has of an earlier one.
use Rattle.std.specs.Prelude.{slice_get, slice_set, not}
use Rattle.std.proofs.Common.{◌≡◌, ℕ, true, false, List, [], ◌∷◌, ◌++◌, map, length, Option, Some, None, refl, sym, subst, inl, inr}
use Rattle.std.proofs.lemmas.Bool.{cases_lt}
use Rattle.std.proofs.lemmas.List.{append-nil}
use Rattle.aw_list.proofs.Everyday.{get-left}
use Rattle.aw_term.specs.Choices.{Choice, Start, Develop, Outcome, Refused, Starts, Takes}
use Rattle.aw_term.specs.Rules.{Grammar, get}
use Rattle.aw_term.specs.Names.{Ref}
use Rattle.aw_apply.specs.Messages.{Message, Received, New, Repeat, Conflict, NotMine, BadName, Kind, Calls, Asks, Tells}
use Rattle.aw_law_sites.specs.Choosing.{Chosen, No, Did, choose, choose_on, outcome}
use Rattle.aw_law_sites.specs.Homes.{home}
use Rattle.aw_law_sites.specs.Reacting.{receive, react}
use Rattle.aw_law_sites.specs.Sites.{Site, Reaction, empty_site}
use Rattle.aw_law_sites.specs.Worlds.{node_of, site_at, with_site, chosen_at, mark_delivered, received_at, deliver_on, Move, Chooses, Delivers, run, World, step}
use Rattle.aw_law_sites.specs.Receiving.{clash, is_repeat, is_mine}
use Rattle.aw_law_sites.specs.ValidNames.{message_ok}
use Rattle.aw_law_worlds.specs.Invariant.{IsSent, IsDelivered}
use Rattle.aw_law_worlds.proofs.Places.{get-set, get-set_other, same_or_not, set-kept}
use Rattle.aw_law_worlds.proofs.Growing.{did-inj, new-of, cond-new}
use Rattle.aw_law_nodes.specs.Nodes.{received, chosen}
use Rattle.aw_law_nodes.proofs.ListParts.{set-same, set-short}

-- the sites after one event are those of its frame
pub took-sites : (w : World) (r : ℕ) (c : Choice) (z : Chosen) → (chosen_at w r c z).world.sites ≡ slice_set w.sites r (chosen (site_at w r) z).site
took-sites w r c (No a) = sym (set-same (empty_site false r) w.sites r)
took-sites w r c (Did x) = refl

pub got-sites : (w : World) (k to : ℕ) (z : Received Reaction) → (received_at w k to z).world.sites ≡ slice_set w.sites to (received (site_at w to) z).site
got-sites w k to (New x) = refl
got-sites w k to Repeat = sym (set-same (empty_site false to) w.sites to)
got-sites w k to (Conflict a b) = sym (set-same (empty_site false to) w.sites to)
got-sites w k to NotMine = sym (set-same (empty_site false to) w.sites to)
got-sites w k to BadName = sym (set-same (empty_site false to) w.sites to)

pub delivered-sites : (g : Grammar) (w : World) (k : ℕ) (m : Message) (o : Option Message) → o ≡ Some m → (deliver_on g w k o).world.sites ≡ slice_set
    w.sites m.to (received (site_at w m.to) (receive g (site_at w m.to) m)).site
delivered-sites g w k m None e = absurd cc
delivered-sites g w k m (Some n) e =
    let p : n ≡ m = cc in
    subst (λ (m : Message). (deliver_on g w k (Some n)).world.sites ≡ slice_set w.sites m.to
    (received (site_at w m.to) (receive g (site_at w m.to) m)).site) p (got-sites w k n.to (receive g (site_at w n.to) n))

-- a later world: what was sent, delivered or put into an outbox is still there
pub record Follows (w v : World) : Type 0 where
  pub sent : (k : ℕ) (m : Message) → IsSent w m k → IsSent v m k
  pub delivered : (k : ℕ) → IsDelivered w k → IsDelivered v k
  pub boxes : (a p : ℕ) (m : Message) → slice_get (site_at w a).outbox p ≡ Some m → slice_get (site_at v a).outbox p ≡ Some m

pub follows-self : (w : World) → Follows w w
follows-self w = record { sent = λ k m e. e; delivered = λ k e. e; boxes = λ a p m e. e }

pub follows-on : (u v w : World) → Follows u v → Follows v w → Follows u w
follows-on u v w p q = record {
  sent = λ k m e. q.sent k m (p.sent k m e);
  delivered = λ k e. q.delivered k (p.delivered k e);
  boxes = λ a i m e. q.boxes a i m (p.boxes a i m e);
}

pub choose_on-boxes : (g : Grammar) (s : Site) (c : Choice) (o : Outcome Ref Ref) (x : Reaction) → choose_on g s c o ≡ Did x → x.site.outbox ≡ s.outbox ++ x.sent
choose_on-boxes g s c (Refused a) x e = absurd cc
choose_on-boxes g s (Start st k) Starts x e = subst (λ (x : Reaction). x.site.outbox ≡ s.outbox ++ x.sent) (did-inj e) (sym (append-nil s.outbox))
choose_on-boxes g s (Develop n r args) Starts x e = absurd cc
choose_on-boxes g s (Start st k) (Takes rule xs) x e = absurd cc
choose_on-boxes g s (Develop n r args) (Takes rule xs) x e = subst (λ (x : Reaction). x.site.outbox ≡ s.outbox ++ x.sent) (did-inj e) refl

pub choose-boxes : (g : Grammar) (s : Site) (c : Choice) (x : Reaction) → choose g s c ≡ Did x → x.site.outbox ≡ s.outbox ++ x.sent
choose-boxes g s c x e = choose_on-boxes g s c (outcome g s c) x e

pub react-boxes : (g : Grammar) (s : Site) (k : Kind) → (react g s k).site.outbox ≡ s.outbox ++ (react g s k).sent
react-boxes g s (Calls c load) = refl
react-boxes g s (Asks r from) = refl
react-boxes g s (Tells e load) = refl

pub receive-boxes : (g : Grammar) (s : Site) (m : Message) (y : Reaction) → receive g s m ≡ New y → y.site.outbox ≡ s.outbox ++ y.sent
receive-boxes g s m y e =
    let a = cond-new (not (message_ok g s.role m)) BadName _ y (λ z. absurd cc) e in
    let b = cond-new (not (is_mine g s.role m)) NotMine _ y (λ z. absurd cc) a in
    subst (λ (y : Reaction). y.site.outbox ≡ s.outbox ++ y.sent) (new-of (clash s m.kind) (is_repeat s m.kind) (react g s m.kind) y b) (react-boxes g s m.kind)

-- the site of a role after one site changed
pub with-boxes : (w : World) (r : ℕ) (x : Reaction) → x.site.outbox ≡ (site_at w r).outbox ++ x.sent → (a p : ℕ) (m : Message) →
    slice_get (site_at w a).outbox p ≡ Some m → slice_get (site_at (with_site w r x) a).outbox p ≡ Some m
with-boxes w r x q a p m e =
    elim (same_or_not r a) [
      | inr n ↦ subst (λ (s : Site). slice_get s.outbox p ≡ Some m) (sym (get-set_other (empty_site false a) w.sites r a x.site n)) e
      | inl h ↦ elim (cases_lt r (length w.sites)) [
        | inl l ↦ (let u : slice_get (site_at w r).outbox p ≡ Some m = subst (λ a. slice_get (site_at w a).outbox p ≡ Some m) (sym h) e in
            let z : slice_get x.site.outbox p ≡ Some m = subst (λ ms. slice_get ms p ≡ Some m) (sym q) (get-left (site_at w r).outbox x.sent p m u) in
            subst (λ a. slice_get (site_at (with_site w r x) a).outbox p ≡ Some m) h (subst (λ (s : Site). slice_get s.outbox p ≡ Some m) (sym (get-set (empty_site false r) w.sites r x.site l)) z))
        | inr l ↦ subst (λ (ss : List Site). slice_get (get (empty_site false a) ss a).outbox p ≡ Some m) (sym (set-short w.sites r x.site l)) e
      ]
    ]

pub took-follows : (g : Grammar) (w : World) (r : ℕ) (c : Choice) (z : Chosen) → choose g (site_at w r) c ≡ z → Follows w (chosen_at w r c z).world
took-follows g w r c (No a) e = follows-self w
took-follows g w r c (Did x) e = record {
  sent = λ k m i. get-left w.messages x.sent k m i;
  delivered = λ k i. get-left w.delivered (map (λ m. false) x.sent) k true i;
  boxes = with-boxes w r x (choose-boxes g (site_at w r) c x e);
}

pub repeat-follows : (w : World) (k : ℕ) → Follows w (mark_delivered k w)
repeat-follows w k = record { sent = λ j m i. i; delivered = λ j i. set-kept w.delivered k j i; boxes = λ a p m i. i }

pub got-follows : (g : Grammar) (w : World) (k : ℕ) (m : Message) (z : Received Reaction) → receive g (site_at w m.to) m ≡ z → Follows w (received_at w k m.to z).world
got-follows g w k m (New x) e = record {
  sent = λ j n i. get-left w.messages x.sent j n i;
  delivered = λ j i. set-kept (w.delivered ++ map (λ m. false) x.sent) k j (get-left w.delivered (map (λ m. false) x.sent) j true i);
  boxes = with-boxes w m.to x (receive-boxes g (site_at w m.to) m x e);
}
got-follows g w k m Repeat e = repeat-follows w k
got-follows g w k m (Conflict a b) e = repeat-follows w k
got-follows g w k m NotMine e = repeat-follows w k
got-follows g w k m BadName e = repeat-follows w k

pub deliver-follows : (g : Grammar) (w : World) (k : ℕ) (o : Option Message) → Follows w (deliver_on g w k o).world
deliver-follows g w k None = follows-self w
deliver-follows g w k (Some m) = got-follows g w k m (receive g (site_at w m.to) m) refl

pub step-follows : (g : Grammar) (w : World) (e : Move) → Follows w (step g w e).world
step-follows g w (Chooses c) = took-follows g w (home g (node_of c)) c (choose g (site_at w (home g (node_of c))) c) refl
step-follows g w (Delivers k) = deliver-follows g w k (slice_get w.messages k)

pub run-follows : (g : Grammar) (w : World) (es : List Move) → Follows w (run g w es)
run-follows g w [] = follows-self w
run-follows g w (e ∷ es) = follows-on w (step g w e).world (run g w (e ∷ es)) (step-follows g w e) (run-follows g (step g w e).world es)
