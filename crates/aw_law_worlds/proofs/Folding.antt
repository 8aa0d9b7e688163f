-- A site of a world is what its own events make of it.
use Rattle.std.specs.Prelude.{nat_eq, slice_get, slice_set}
use Rattle.std.proofs.Common.{Bool, List, None, Option, Some, [], ap, arith, cond, false, length, map, refl, subst, suc, sym, true, zero, ℕ, ◌++◌, ◌+◌, ◌<◌, ◌∙◌, ◌∷◌, ◌≡◌}
use Rattle.std.proofs.lemmas.Bool.{eq-eqb, eqb-true}
use Rattle.aw_list.proofs.Everyday.{length-slice_set as length-set}
use Rattle.aw_term.specs.Choices.{Choice}
use Rattle.aw_term.specs.Rules.{Grammar, get, upto}
use Rattle.aw_accept.proofs.ConfigLemmas.{length-upto}
use Rattle.aw_apply.specs.Messages.{Message, BadName, Conflict, New, NotMine, Received, Repeat}
use Rattle.aw_law_sites.specs.Choosing.{Chosen, Did, No, choose}
use Rattle.aw_law_sites.specs.Homes.{home}
use Rattle.aw_law_sites.specs.Reacting.{receive}
use Rattle.aw_law_sites.specs.SiteEvents.{Chose, Got, SiteEvent, after_choice, after_message, all_events, got, own_events, site_run, site_step}
use Rattle.aw_law_sites.specs.Sites.{Reaction, Site, empty_site}
use Rattle.aw_law_sites.specs.Worlds.{Chooses, Delivers, Move, World, chosen_at, deliver_on, empty_world, node_of, received_at, run, site_at, step, with_site}
use Rattle.aw_law_worlds.specs.Laws.{SiteIsFold}
use Rattle.aw_law_worlds.proofs.Lists.{length-mapped}
use Rattle.aw_law_worlds.proofs.Places.{get-set, get-set_other}

run-append : (g : Grammar) (s : Site) (xs ys : List SiteEvent) → site_run g s (xs ++ ys) ≡ site_run g (site_run g s xs) ys
run-append g s [] ys = refl
run-append g s (x ∷ xs) ys = run-append g (site_step g s x) xs ys

set-site : (w : World) (r a : ℕ) (y : Reaction) → a < length w.sites → (b : Bool) → nat_eq r a ≡ b → site_at (with_site w r y) a ≡ cond b y.site (site_at w a)
set-site w r a y l true e = let p = eqb-true r a e in subst (λ r. get (empty_site false a) (slice_set w.sites r y.site) a ≡ y.site) (sym p) (get-set (empty_site false a) w.sites a y.site l)
set-site w r a y l false e = get-set_other (empty_site false a) w.sites r a y.site (λ p. let z = eq-eqb r a p in absurd cc)

-- the site after one event
chose-on : (g : Grammar) (w : World) (c : Choice) (r a : ℕ) (z : Chosen) → a < length w.sites → (b : Bool) → nat_eq r a ≡ b →
    (r ≡ a → z ≡ choose g (site_at w a) c) → site_at (chosen_at w r c z).world a ≡ site_run g (site_at w a) (cond b (Chose c ∷ []) [])
chose-on g w c r a (No q) l true e f = ap (after_choice (site_at w a)) (f (eqb-true r a e))
chose-on g w c r a (No q) l false e f = refl
chose-on g w c r a (Did y) l true e f = set-site w r a y l true e ∙ ap (after_choice (site_at w a)) (f (eqb-true r a e))
chose-on g w c r a (Did y) l false e f = set-site w r a y l false e

got-on : (g : Grammar) (w : World) (k : ℕ) (m : Message) (a : ℕ) (z : Received Reaction) → a < length w.sites → (b : Bool) → nat_eq m.to a ≡ b →
    (m.to ≡ a → z ≡ receive g (site_at w a) m) → site_at (received_at w k m.to z).world a ≡ site_run g (site_at w a) (cond b (Got m ∷ []) [])
got-on g w k m a (New y) l true e f = set-site w m.to a y l true e ∙ ap (after_message (site_at w a)) (f (eqb-true m.to a e))
got-on g w k m a (New y) l false e f = set-site w m.to a y l false e
got-on g w k m a BadName l true e f = ap (after_message (site_at w a)) (f (eqb-true m.to a e))
got-on g w k m a NotMine l true e f = ap (after_message (site_at w a)) (f (eqb-true m.to a e))
got-on g w k m a (Conflict c d) l true e f = ap (after_message (site_at w a)) (f (eqb-true m.to a e))
got-on g w k m a Repeat l true e f = ap (after_message (site_at w a)) (f (eqb-true m.to a e))
got-on g w k m a BadName l false e f = refl
got-on g w k m a NotMine l false e f = refl
got-on g w k m a (Conflict c d) l false e f = refl
got-on g w k m a Repeat l false e f = refl

deliver-at : (g : Grammar) (w : World) (k a : ℕ) (o : Option Message) → a < length w.sites → site_at (deliver_on g w k o).world a ≡ site_run g (site_at w a) (got o a)
deliver-at g w k a None l = refl
deliver-at g w k a (Some m) l = got-on g w k m a (receive g (site_at w m.to) m) l (nat_eq m.to a) refl (λ p. ap (λ b. receive g (site_at w b) m) p)

step-at : (g : Grammar) (w : World) (a : ℕ) (e : Move) → a < length w.sites → site_at (step g w e).world a ≡ site_run g (site_at w a) (own_events g w a e)
step-at g w a (Chooses c) l = chose-on g w c (home g (node_of c)) a (choose g (site_at w (home g (node_of c))) c) l (nat_eq (home g (node_of c)) a) refl (λ p. ap (λ b. choose g (site_at w b) c) p)
step-at g w a (Delivers k) l = deliver-at g w k a (slice_get w.messages k) l

chose-size : (w : World) (r : ℕ) (c : Choice) (z : Chosen) → length (chosen_at w r c z).world.sites ≡ length w.sites
chose-size w r c (No q) = refl
chose-size w r c (Did y) = length-set w.sites r y.site

got-size : (w : World) (k to : ℕ) (z : Received Reaction) → length (received_at w k to z).world.sites ≡ length w.sites
got-size w k to (New y) = length-set w.sites to y.site
got-size w k to BadName = refl
got-size w k to NotMine = refl
got-size w k to (Conflict c d) = refl
got-size w k to Repeat = refl

deliver-size : (g : Grammar) (w : World) (k : ℕ) (o : Option Message) → length (deliver_on g w k o).world.sites ≡ length w.sites
deliver-size g w k None = refl
deliver-size g w k (Some m) = got-size w k m.to (receive g (site_at w m.to) m)

step-size : (g : Grammar) (w : World) (e : Move) → length (step g w e).world.sites ≡ length w.sites
step-size g w (Chooses c) = chose-size w (home g (node_of c)) c (choose g (site_at w (home g (node_of c))) c)
step-size g w (Delivers k) = deliver-size g w k (slice_get w.messages k)

site_is_run : (g : Grammar) (w : World) (a : ℕ) (es : List Move) → a < length w.sites → site_at (run g w es) a ≡ site_run g (site_at w a) (all_events g w a es)
site_is_run g w a [] l = refl
site_is_run g w a (e ∷ es) l =
    let s = step-size g w e in
    site_is_run g (step g w e).world a es (omega (arith, l, s))
    ∙ (ap (λ s. site_run g s (all_events g (step g w e).world a es)) (step-at g w a e l) ∙ sym (run-append g (site_at w a) (own_events g w a e) (all_events g (step g w e).world a es)))

got-upto : (f : ℕ → Site) (d : Site) (i n j : ℕ) → j < n → get d (map f (upto i n)) j ≡ f (i + j)
got-upto f d i zero j l = absurd (omega (arith, l))
got-upto f d i (suc n) zero l = let z : i ≡ i + 0 = omega arith in ap f z
got-upto f d i (suc n) (suc j) l = let z : suc i + j ≡ i + suc j = omega arith in got-upto f d (suc i) n j (omega (arith, l)) ∙ ap f z

-- every site of a world is the fold of its own events
pub site_is_fold : (g : Grammar) → SiteIsFold g
site_is_fold g loads es a l =
    let n = length-mapped (empty_site loads) (upto 0 g.roles) ∙ length-upto 0 g.roles in
    let z : 0 + a ≡ a = omega arith in
    site_is_run g (empty_world g loads) a es (omega (arith, l, n))
    ∙ ap (λ s. site_run g s (all_events g (empty_world g loads) a es)) (got-upto (empty_site loads) (empty_site false a) 0 g.roles a l ∙ ap (empty_site loads) z)
