-- The run of a world that frames make.
use Rattle.std.specs.Prelude.{not, nat_eq}
use Rattle.std.proofs.lemmas.Option.{slice_get_within}
use Rattle.std.proofs.Common.{◌≡◌, ℕ, ◌<◌, Bool, true, false, cond, List, [], ◌∷◌, ◌++◌, map, length, refl, sym, ap, ◌∙◌, subst, arith, append_assoc}
use Rattle.std.proofs.lemmas.Bool.{eq-eqb}
use Rattle.aw_term.specs.Choices.{Choice, Answer}
use Rattle.aw_term.specs.Names.{Ref}
use Rattle.aw_term.specs.Rules.{Grammar}
use Rattle.aw_term.specs.WellFormed.{Each}
use Rattle.aw_term.proofs.Eaches.{each_append}
use Rattle.aw_base.specs.ChoiceFits.{choice_ok}
use Rattle.aw_apply.specs.Messages.{Message, Received, New, Repeat, Conflict, NotMine, BadName}
use Rattle.aw_law_sites.specs.Choosing.{Chosen, No, Did, answer_to, choose}
use Rattle.aw_law_sites.specs.Homes.{home}
use Rattle.aw_law_sites.specs.Reacting.{receive}
use Rattle.aw_law_sites.specs.Sites.{Site, empty_site, Reaction}
use Rattle.aw_law_sites.specs.Worlds.{node_of, World, site_at, received_at, deliver_on, Move, Delivers, step, run}
use Rattle.aw_law_worlds.specs.Invariant.{IsSent, IsDelivered}
use Rattle.aw_law_worlds.specs.Laws.{MayCome}
use Rattle.aw_law_worlds.proofs.Places.{set-here}
use Rattle.aw_law_worlds.proofs.Settling.{run_both}
use Rattle.aw_law_worlds.proofs.Runs.{length-more}
use Rattle.aw_law_nodes.specs.Couriers.{Visit, choice_frame, asked_at, choice_frames, ChoicesOk}
use Rattle.aw_law_nodes.specs.Nodes.{Frame, Choose, Pull, NotForMe, NotValid, Answers, chosen, Asked, ask, sites_after, happening_of, happenings, ReadAs}
use Rattle.aw_law_nodes.proofs.Mail.{Given}
use Rattle.aw_law_nodes.proofs.Served.{read-append, IsReached, reached-run, reached-mail, Went, chose}
use Rattle.aw_law_nodes.proofs.ListParts.{set-same}

-- frames one behind the other
pub sites-append : (g : Grammar) (ss : List Site) (xs ys : List Asked) → sites_after g ss (xs ++ ys) ≡ sites_after g (sites_after g ss xs) ys
sites-append g ss [] ys = refl
sites-append g ss (x ∷ xs) ys = sites-append g (ask g ss x) xs ys

pub happenings-append : (xs ys : List Asked) → happenings (xs ++ ys) ≡ happenings xs ++ happenings ys
happenings-append [] ys = refl
happenings-append (x ∷ xs) ys = ap (λ hs. happening_of x.frame ++ hs) (happenings-append xs ys) ∙ sym (append_assoc (happening_of x.frame) (happenings xs) (happenings ys))

-- a choice that is valid is answered at its home
choice-response : (a b : Bool) (s : Site) (z : Chosen) → a ≡ true → b ≡ true → (x : Answer Ref)
    × ((cond (not a) (record { site = s; response = NotValid }) (cond (not b) (record { site = s; response = NotForMe }) (chosen s z))).response ≡ Answers x)
choice-response true true s (No c) p q = (c, refl)
choice-response true true s (Did y) p q = (answer_to (Did y), refl)
choice-response true false s z p q = absurd cc
choice-response false b s z p q = absurd cc

-- a delivery leaves its mark
pub marked : (w : World) (k to : ℕ) (z : Received Reaction) → k < length w.delivered → IsDelivered (received_at w k to z).world k
marked w k to (New x) l = set-here (w.delivered ++ map (λ m. false) x.sent) k (let z = length-more w.delivered (map (λ m. false) x.sent) in omega (arith, z, l))
marked w k to Repeat l = set-here w.delivered k l
marked w k to (Conflict a b) l = set-here w.delivered k l
marked w k to NotMine l = set-here w.delivered k l
marked w k to BadName l = set-here w.delivered k l

module _ (g : Grammar) where
  -- frames that were asked, as events of a world
  pub record Ran (w : World) (as_ : List Asked) : Type 0 where
    pub events : List Move
    pub ok : Each (MayCome g) events
    pub read : ReadAs g w (happenings as_) events
    pub sites : (run g w events).sites ≡ sites_after g w.sites as_

  abbrev pub ran-none : (w : World) → Ran w []
  ran-none w = record { events = []; ok = tt; read = tt; sites = refl }

  abbrev pub ran-append : (w : World) (xs : List Asked) (R : Ran w xs) (ys : List Asked) → Ran (run g w R.events) ys → Ran w (xs ++ ys)
  ran-append w xs R ys Q = record {
    events = R.events ++ Q.events;
    ok = each_append (MayCome g) R.events Q.events R.ok Q.ok;
    read = subst (λ hs. ReadAs g w hs (R.events ++ Q.events)) (sym (happenings-append xs ys)) (read-append g w (happenings xs) (happenings ys) R.events Q.events R.read Q.read);
    sites = ap (λ (w : World). w.sites) (run_both g w R.events Q.events) ∙ (Q.sites ∙ (ap (λ ss. sites_after g ss ys) R.sites ∙ sym (sites-append g w.sites xs ys)));
  }

  -- a question changes no site
  pub pull-sites : (w : World) (r p : ℕ) → ask g w.sites (asked_at r (Pull p)) ≡ w.sites
  pull-sites w r p = set-same (empty_site false r) w.sites r

  abbrev pub pull-ran : (w : World) (r p : ℕ) (as_ : List Asked) → Ran w as_ → Ran w (asked_at r (Pull p) ∷ as_)
  pull-ran w r p as_ R = record { events = R.events; ok = R.ok; read = R.read; sites = R.sites ∙ ap (λ ss. sites_after g ss as_) (sym (pull-sites w r p)) }

  module _ (G : Given g) (loads : Bool) where
    abbrev pub ran-on : (w : World) (r : ℕ) (f : Frame) (W : Went g G loads w r f) (as_ : List Asked) → Ran (run g w W.events) as_ → Ran w (record { role = r; frame = f } ∷ as_)
    ran-on w r f W as_ R = record {
      events = W.events ++ R.events;
      ok = each_append (MayCome g) W.events R.events W.ok R.ok;
      read = read-append g w (happening_of f) (happenings as_) W.events R.events W.read R.read;
      sites = ap (λ (w : World). w.sites) (run_both g w W.events R.events) ∙ (R.sites ∙ ap (λ ss. sites_after g ss as_) W.sites);
    }

    made : (w : World) → IsReached g G loads w → (c : Choice) → choice_ok g c ≡ true → Went g G loads w (home g (node_of c)) (Choose c)
    made w R c e =
        let M = reached-mail g G loads w R in
        let (y, q) = choice-response (choice_ok g c) (nat_eq (home g (node_of c)) (site_at w (home g (node_of c))).role)
        (site_at w (home g (node_of c))) (choose g (site_at w (home g (node_of c))) c) e
        (eq-eqb (home g (node_of c)) (site_at w (home g (node_of c))).role (sym (M.roles (home g (node_of c))))) in
        chose g G loads w R (home g (node_of c)) c y q

    all-made : (w : World) → IsReached g G loads w → (cs : List Choice) → Each (λ (c : Choice). choice_ok g c ≡ true) cs → Ran w (map (choice_frame g) cs)
    all-made w R [] k = ran-none w
    all-made w R (c ∷ cs) k =
        let W = made w R c k.0 in
        ran-on w (home g (node_of c)) (Choose c) W (map (choice_frame g) cs) (all-made (run g w W.events) (reached-run g G loads w R W.events W.ok) cs k.1)

    -- the choices before a session
    pub choices-go : (w : World) → IsReached g G loads w → (v : Visit) → ChoicesOk g v → Ran w (choice_frames g v)
    choices-go w R v k = all-made w R v.choices k

    pub delivered-now : (w : World) → IsReached g G loads w → (k : ℕ) (m : Message) → IsSent w m k → IsDelivered (step g w (Delivers k)).world k
    delivered-now w R k m e =
        let M = reached-mail g G loads w R in
        let l : k < length w.delivered = (let z = slice_get_within w.messages k m e in let q = M.marks in omega (arith, z, q)) in
        subst (λ o. IsDelivered (deliver_on g w k o).world k) (sym e) (marked w k m.to (receive g (site_at w m.to) m) l)
