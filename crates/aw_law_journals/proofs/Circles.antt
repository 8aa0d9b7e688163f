-- Journals that make sense alone stop at a message that nobody sends, or wait for each other in a circle.
use Rattle.std.specs.Prelude.{◌⊎◌, slice_get, take}
use Rattle.std.proofs.Common.{◌≡◌, ℕ, zero, suc, ◌<◌, true, List, [], ◌∷◌, length, Some, refl, ap, ◌∙◌, subst, inl, inr, arith}
use Rattle.std.proofs.lemmas.Option.{slice_get_cases}
use Rattle.aw_list.specs.Members.{Member}
use Rattle.aw_list.proofs.Members.{never, member_got, member_place}
use Rattle.aw_term.specs.Choices.{Choice, Taken}
use Rattle.aw_term.specs.Rules.{Grammar, get, upto}
use Rattle.aw_term.specs.Trees.{Never}
use Rattle.aw_term.specs.WellFormed.{Each, Later}
use Rattle.aw_term.proofs.Eaches.{each_map}
use Rattle.aw_accept.proofs.ConfigLemmas.{length-upto, Member-upto}
use Rattle.aw_accept.proofs.Fitting.{each_member}
use Rattle.aw_accept.proofs.Pigeonholes.{pigeon}
use Rattle.aw_typed.specs.Types.{Types}
use Rattle.aw_apply.specs.Messages.{Message, New}
use Rattle.aw_law_sites.specs.Choosing.{Chosen, No, Did, answer_to, choose}
use Rattle.aw_law_sites.specs.Homes.{home}
use Rattle.aw_law_sites.specs.Reacting.{receive}
use Rattle.aw_law_sites.specs.SiteEvents.{SiteEvent, Chose, Got, site_run, site_step}
use Rattle.aw_law_sites.specs.Sites.{Site, Reaction, empty_site}
use Rattle.aw_law_sites.specs.Worlds.{World, Answered, Chooses, Delivers, Move, chosen_at, node_of, received_at, site_at, world_after}
use Rattle.aw_law_worlds.specs.Invariant.{sender}
use Rattle.aw_law_worlds.specs.Laws.{SiteIsFold}
use Rattle.aw_law_nodes.proofs.Mail.{Given}
use Rattle.aw_law_journals.specs.Circles.{IsOwn, MakesSense, WaitsFor, LeadsTo, waits, further, StopsAtForgeryOrCircle}
use Rattle.aw_law_journals.specs.Journals.{journal_at, IsReach, IsSound, NobodySends}
use Rattle.aw_law_journals.specs.Laws.{Cause}
use Rattle.aw_law_journals.proofs.Causes.{messages_have_causes}
use Rattle.aw_law_journals.proofs.Coming.{came-mail, came-site, deliver-reply}
use Rattle.aw_law_journals.proofs.Reaching.{firsts-came}

-- the event of a place makes sense behind those before it
abbrev SoundHere : Grammar → Site → SiteEvent → Type 0
SoundHere g s (Chose c) = answer_to (choose g s c) ≡ Taken
SoundHere g s (Got m) = (x : Reaction) × (receive g s m ≡ New x)

sound-first : (g : Grammar) (s : Site) (e x : SiteEvent) (es : List SiteEvent) → IsSound g s (e ∷ es) → e ≡ x → SoundHere g s x
sound-first g s (Chose c) x es h p = subst (SoundHere g s) p h.0
sound-first g s (Got m) x es h p = subst (SoundHere g s) p h.0

sound-rest : (g : Grammar) (s : Site) (e : SiteEvent) (es : List SiteEvent) → IsSound g s (e ∷ es) → IsSound g (site_step g s e) es
sound-rest g s (Chose c) es h = h.1
sound-rest g s (Got m) es h = h.1

sound-at : (g : Grammar) (s : Site) (es : List SiteEvent) (n : ℕ) (x : SiteEvent) → IsSound g s es → slice_get es n ≡ Some x → SoundHere g (site_run g s (take n es)) x
sound-at g s [] n x h q = absurd cc
sound-at g s (e ∷ es) zero x h q = sound-first g s e x es h cc
sound-at g s (e ∷ es) (suc n) x h q = sound-at g (site_step g s e) es n x (sound-rest g s e es h) q

chosen-answer : (w : World) (a : ℕ) (c : Choice) (z : Chosen) → (chosen_at w a c z).reply ≡ Answered (answer_to z)
chosen-answer w a c (No x) = refl
chosen-answer w a c (Did x) = refl

-- a role whose journal has an event is among the roles of the journals
has-journal : (js : List (List SiteEvent)) (r n : ℕ) → n < length (journal_at js r) → r < length js
has-journal [] r n l = absurd (omega (arith, l))
has-journal (j ∷ js) zero n l = omega arith
has-journal (j ∷ js) (suc r) n l = let z = has-journal js r n l in omega (arith, z)

module _ (t : Types) (g : Grammar) (given : Given g) (fold : SiteIsFold g) (js : List (List SiteEvent)) (ns : List ℕ) (es : List Move)
    (R : IsReach t g js ns es) (sense : (r : ℕ) → MakesSense t g js r) where
  abbrev w : World
  w = world_after g true es

  -- what came at a role
  abbrev done : ℕ → List SiteEvent
  done r = take (get 0 ns r) (journal_at js r)

  abbrev Next : ℕ → SiteEvent → Type 0
  Next r x = slice_get (journal_at js r) (get 0 ns r) ≡ Some x

  own : (r : ℕ) (x : SiteEvent) → Next r x → IsOwn t g r x
  own r x q = each_member (IsOwn t g r) (journal_at js r) x (sense r).0 (member_got (journal_at js r) (get 0 ns r) x q)

  sound : (r : ℕ) (x : SiteEvent) → Next r x → SoundHere g (site_run g (empty_site true r) (done r)) x
  sound r x q = sound-at g (empty_site true r) (journal_at js r) (get 0 ns r) x (sense r).1 q

  site-there : (r : ℕ) → r < g.roles → site_at w r ≡ site_run g (empty_site true r) (done r)
  site-there r l = came-site t g given fold done es (firsts-came t g js ns es R.joint) r l

  -- a choice that makes sense alone is allowed in the world, and so is a message that was sent
  no-choice : (r : ℕ) (c : Choice) → Next r (Chose c) → Never
  no-choice r c q =
      let (ok, fits, here) = own r (Chose c) q in
      let l : r < g.roles = subst (λ h. h < g.roles) here (given.homes c (given.good c ok)) in
      let site : site_at w (home g (node_of c)) ≡ site_run g (empty_site true r) (done r) = ap (site_at w) here ∙ site-there r l in
      let taken = ap (λ s. answer_to (choose g s c)) site ∙ sound r (Chose c) q in
      R.ended r (Chose c) (Chooses c) q
      (refl, ok, fits, here, chosen-answer w (home g (node_of c)) c (choose g (site_at w (home g (node_of c))) c) ∙ ap (λ a. Answered a) taken)

  no-sent : (r : ℕ) (m : Message) → Next r (Got m) → Member m w.messages → Never
  no-sent r m q i =
      let here : m.to ≡ r = own r (Got m) q in
      let (k, inside, p) = member_place w.messages m i in
      let l : r < g.roles = subst (λ a. a < g.roles) here ((came-mail t g given fold done es (firsts-came t g js ns es R.joint)).within m i) in
      let site : site_at w m.to ≡ site_run g (empty_site true r) (done r) = ap (site_at w) here ∙ site-there r l in
      let (x, new) = sound r (Got m) q in
      R.ended r (Got m) (Delivers k) q
      (here, p, deliver-reply g w k m p ∙ ap (λ z. (received_at w k m.to z).reply) (ap (λ s. receive g s m) site ∙ new))

  abbrev IsStuck : ℕ → Type 0
  IsStuck r = get 0 ns r < length (journal_at js r)

  abbrev Forged : Type 0
  Forged = (a : ℕ) × (m : Message) × (slice_get (journal_at js a) (get 0 ns a) ≡ Some (Got m)) × NobodySends g js m

  -- a journal that does not fit whole stops at a forged message, or waits for one that does not fit whole either
  abbrev Stops : ℕ → Type 0
  Stops r = Forged ⊎ ((b : ℕ) × WaitsFor g js ns r b × IsStuck b)

  caused : (r : ℕ) (m : Message) → Next r (Got m) → Cause g js ns w m → Stops r
  caused r m q (inl i) = never (no-sent r m q i)
  caused r m q (inr (inl nobody)) = inl (r, m, q, nobody)
  caused r m q (inr (inr (n, later, within, sends))) =
      let W : WaitsFor g js ns r (sender g m.kind) = record { message = m; next = q; from = refl; place = n; later = later; within = within; sends = sends } in
      inr (sender g m.kind, W, omega (arith, later, within))

  stops-at : (r : ℕ) (x : SiteEvent) → Next r x → Stops r
  stops-at r (Chose c) q = never (no-choice r c q)
  stops-at r (Got m) q = caused r m q (messages_have_causes t g given fold js ns es R r m q)

  stops : (r : ℕ) → IsStuck r → Stops r
  stops r l = elim (slice_get_cases (journal_at js r) (get 0 ns r)).1 [ inl (x, inside, q, same) ↦ stops-at r x q | inr (past, none) ↦ absurd (omega (arith, l, past)) ]

  -- so many journals, each of which leads to those behind it
  record Path (n r : ℕ) : Type 0 where
    roles : List ℕ
    many : length roles ≡ n
    led : Each (LeadsTo g js ns r) roles
    ordered : Later (LeadsTo g js ns) roles
    stuck : Each IsStuck roles

  path-on : (n r b : ℕ) → WaitsFor g js ns r b → IsStuck b → Path n b → Path (suc n) r
  path-on n r b W l P = record {
    roles = b ∷ P.roles;
    many = ap suc P.many;
    led = (waits W, each_map (LeadsTo g js ns b) (LeadsTo g js ns r) P.roles (λ c L. further W L) P.led);
    ordered = (P.led, P.ordered);
    stuck = (l, P.stuck);
  }

  path : (n r : ℕ) → IsStuck r → Forged ⊎ Path n r
  path zero r l = inr (record { roles = []; many = refl; led = tt; ordered = tt; stuck = tt })
  path (suc n) r l = elim (stops r l) [
    | inl f ↦ inl f
    | inr (b, W, k) ↦ elim (path n b k) [ inl f ↦ inl f | inr P ↦ inr (path-on n r b W k P) ]
  ]

  among : (r : ℕ) → IsStuck r → Member r (upto 0 (length js))
  among r l = let z = has-journal js r (get 0 ns r) l in Member-upto 0 (length js) r (omega arith) (omega (arith, z))

  comes-round : (r : ℕ) → Path (suc (length js)) r → (a : ℕ) × LeadsTo g js ns a a
  comes-round r P =
      let many = P.many in
      let roles = length-upto 0 (length js) in
      pigeon (LeadsTo g js ns) (upto 0 (length js)) P.roles (each_map IsStuck (λ r. Member r (upto 0 (length js))) P.roles among P.stuck) P.ordered (omega (arith, many, roles))

  pub forgery-or-circle : (r : ℕ) → IsStuck r → Forged ⊎ ((a : ℕ) × LeadsTo g js ns a a)
  forgery-or-circle r l = elim (path (suc (length js)) r l) [ inl f ↦ inl f | inr P ↦ inr (comes-round r P) ]

pub stops_at_forgery_or_circle : (t : Types) (g : Grammar) → Given g → SiteIsFold g → StopsAtForgeryOrCircle t g
stops_at_forgery_or_circle t g given fold js ns es R sense r l = forgery-or-circle t g given fold js ns es R sense r l
