-- Events that come one by one: what each site then holds, and that an event fits wherever its site is the same and its sender has sent as much.
use Rattle.std.specs.Prelude.{nat_eq}
use Rattle.std.proofs.Common.{◌≡◌, ℕ, ◌<◌, ◌≤◌, Bool, true, false, cond, List, [], ◌∷◌, ◌++◌, length, refl, sym, ap, ◌∙◌, subst, inl, inr, append_assoc, arith}
use Rattle.std.proofs.lemmas.Bool.{cases_lt}
use Rattle.aw_list.specs.Members.{Member}
use Rattle.aw_list.proofs.Members.{never, member_left, member_got}
use Rattle.aw_term.specs.Choices.{Choice, Taken}
use Rattle.aw_term.specs.Rules.{Grammar}
use Rattle.aw_term.specs.WellFormed.{Each}
use Rattle.aw_base.specs.ChoiceFits.{choice_ok}
use Rattle.aw_typed.specs.Types.{Types}
use Rattle.aw_apply.specs.Messages.{Message, Received, New, Repeat, Conflict, NotMine, BadName}
use Rattle.aw_law_sites.specs.Choosing.{Chosen, No, Did, choose}
use Rattle.aw_law_sites.specs.Homes.{home}
use Rattle.aw_law_sites.specs.Reacting.{receive}
use Rattle.aw_law_sites.specs.SiteEvents.{SiteEvent, Chose, Got, after_choice, after_message, site_step, site_run, got, own_events, all_events}
use Rattle.aw_law_sites.specs.Sites.{Site, Reaction, empty_site}
use Rattle.aw_law_sites.specs.Worlds.{World, empty_world, site_at, node_of, Answered, IsNew, Move, Chooses, Delivers, chosen_at, received_at, deliver_on, step, run, MayCome, world_after}
use Rattle.aw_law_worlds.specs.Invariant.{IsSent, sender}
use Rattle.aw_law_worlds.specs.Laws.{SiteIsFold}
use Rattle.aw_law_worlds.proofs.Places.{member-get}
use Rattle.aw_law_nodes.proofs.Following.{choose-boxes, receive-boxes}
use Rattle.aw_law_nodes.proofs.KeptNodes.{events-append}
use Rattle.aw_law_nodes.proofs.ListParts.{get-short}
use Rattle.aw_law_nodes.proofs.Mail.{Mail, Given}
use Rattle.aw_law_journals.specs.Journals.{Entry, of_role, Fits, AllFit}

pub of-role-cons : (r : ℕ) (x : Entry) (xs : List Entry) → of_role r (x ∷ xs) ≡ of_role r (x ∷ []) ++ of_role r xs
of-role-cons r x xs = go (nat_eq x.role r)
  where
    go : (b : Bool) → cond b (x.event ∷ of_role r xs) (of_role r xs) ≡ cond b (x.event ∷ []) [] ++ of_role r xs
    go true = refl
    go false = refl

pub of-role-append : (r : ℕ) (xs ys : List Entry) → of_role r (xs ++ ys) ≡ of_role r xs ++ of_role r ys
of-role-append r [] ys = refl
of-role-append r (x ∷ xs) ys =
    of-role-cons r x (xs ++ ys)
    ∙ (ap (λ zs. of_role r (x ∷ []) ++ zs) (of-role-append r xs ys)
    ∙ (sym (append_assoc (of_role r (x ∷ [])) (of_role r xs) (of_role r ys)) ∙ ap (λ zs. zs ++ of_role r ys) (sym (of-role-cons r x xs))))

-- what a site sent stays in its outbox
chosen-box : (g : Grammar) (s : Site) (c : Choice) (z : Chosen) (m : Message) → choose g s c ≡ z → Member m s.outbox → Member m (after_choice s z).outbox
chosen-box g s c (No a) m e i = i
chosen-box g s c (Did x) m e i = subst (λ ms. Member m ms) (sym (choose-boxes g s c x e)) (member_left m s.outbox x.sent i)

got-box : (g : Grammar) (s : Site) (n : Message) (z : Received Reaction) (m : Message) → receive g s n ≡ z → Member m s.outbox → Member m (after_message s z).outbox
got-box g s n (New x) m e i = subst (λ ms. Member m ms) (sym (receive-boxes g s n x e)) (member_left m s.outbox x.sent i)
got-box g s n Repeat m e i = i
got-box g s n (Conflict a b) m e i = i
got-box g s n NotMine m e i = i
got-box g s n BadName m e i = i

step-box : (g : Grammar) (s : Site) (e : SiteEvent) (m : Message) → Member m s.outbox → Member m (site_step g s e).outbox
step-box g s (Chose c) m i = chosen-box g s c (choose g s c) m refl i
step-box g s (Got n) m i = got-box g s n (receive g s n) m refl i

pub run-box : (g : Grammar) (s : Site) (es : List SiteEvent) (m : Message) → Member m s.outbox → Member m (site_run g s es).outbox
run-box g s [] m i = i
run-box g s (e ∷ es) m i = run-box g (site_step g s e) es m (step-box g s e m i)

pub more-box : (g : Grammar) (s : Site) (es fs : List SiteEvent) (m : Message) → Member m (site_run g s es).outbox → Member m (site_run g s (es ++ fs)).outbox
more-box g s es fs m i = subst (λ (s : Site). Member m s.outbox) (sym (events-append g s es fs)) (run-box g (site_run g s es) fs m i)

-- replies depend on the one site alone
chosen-reply : (w v : World) (r s : ℕ) (c : Choice) (z : Chosen) → (chosen_at w r c z).reply ≡ (chosen_at v s c z).reply
chosen-reply w v r s c (No a) = refl
chosen-reply w v r s c (Did x) = refl

got-reply : (w v : World) (j k a b : ℕ) (z : Received Reaction) → (received_at w j a z).reply ≡ (received_at v k b z).reply
got-reply w v j k a b (New x) = refl
got-reply w v j k a b Repeat = refl
got-reply w v j k a b (Conflict c d) = refl
got-reply w v j k a b NotMine = refl
got-reply w v j k a b BadName = refl

pub deliver-reply : (g : Grammar) (w : World) (k : ℕ) (m : Message) → IsSent w m k → (step g w (Delivers k)).reply ≡ (received_at w k m.to (receive g (site_at w m.to) m)).reply
deliver-reply g w k m e = ap (λ o. (deliver_on g w k o).reply) e

module _ (t : Types) (g : Grammar) where
  -- a move that fits may come, and is one event of its role
  pub fits-may : (w : World) (a : ℕ) (x : SiteEvent) (e : Move) → Fits t g w a x e → MayCome g e
  fits-may w a (Chose c) (Chooses d) f = subst (λ c. choice_ok g c ≡ true) f.0 f.1
  fits-may w a (Got m) (Delivers k) f = tt
  fits-may w a (Chose c) (Delivers k) f = never f
  fits-may w a (Got m) (Chooses d) f = never f

  fits-own : (w : World) (a r : ℕ) (x : SiteEvent) (e : Move) → Fits t g w a x e → own_events g w r e ≡ cond (nat_eq a r) (x ∷ []) []
  fits-own w a r (Chose c) (Chooses d) f =
      subst (λ d. cond (nat_eq (home g (node_of d)) r) (Chose d ∷ []) [] ≡ cond (nat_eq a r) (Chose c ∷ []) []) f.0 (ap (λ h. cond (nat_eq h r) (Chose c ∷ []) []) f.3)
  fits-own w a r (Got m) (Delivers k) f = ap (λ o. got o r) f.1 ∙ ap (λ h. cond (nat_eq h r) (Got m ∷ []) []) f.0
  fits-own w a r (Chose c) (Delivers k) f = never f
  fits-own w a r (Got m) (Chooses d) f = never f

  pub all-may : (w : World) (xs : List Entry) (es : List Move) → AllFit t g w xs es → Each (MayCome g) es
  all-may w [] [] f = tt
  all-may w (x ∷ xs) (e ∷ es) f = (fits-may w x.role x.event e f.0, all-may (step g w e).world xs es f.1)
  all-may w [] (e ∷ es) f = never f
  all-may w (x ∷ xs) [] f = never f

  pub all-own : (w : World) (xs : List Entry) (es : List Move) → AllFit t g w xs es → (r : ℕ) → all_events g w r es ≡ of_role r xs
  all-own w [] [] f r = refl
  all-own w (x ∷ xs) (e ∷ es) f r =
      let here = fits-own w x.role r x.event e f.0 in
      let later = all-own (step g w e).world xs es f.1 r in
      (λ i. here i ++ later i) ∙ sym (of-role-cons r x xs)
  all-own w [] (e ∷ es) f r = never f
  all-own w (x ∷ xs) [] f r = never f

  all-more : (w : World) (xs : List Entry) (es : List Move) (x : Entry) (e : Move) → AllFit t g w xs es → Fits t g (run g w es) x.role x.event e → AllFit t g w (xs ++ x ∷ []) (es ++ e ∷ [])
  all-more w [] [] x e f h = (h, tt)
  all-more w (y ∷ ys) (d ∷ ds) x e f h = (f.0, all-more (step g w d).world ys ds x e f.1 h)
  all-more w [] (d ∷ ds) x e f h = never f
  all-more w (y ∷ ys) [] x e f h = never f

  -- these events of each role came, by these moves
  abbrev pub Came : (ℕ → List SiteEvent) → List Move → Type 0
  Came done es = (xs : List Entry) × ((r : ℕ) → of_role r xs ≡ done r) × AllFit t g (empty_world g true) xs es

  pub came-none : Came (λ r. []) []
  came-none = ([], λ r. refl, tt)

  pub came-as : (done gone : ℕ → List SiteEvent) (es : List Move) → ((r : ℕ) → done r ≡ gone r) → Came done es → Came gone es
  came-as done gone es e c = (c.0, λ r. c.1 r ∙ e r, c.2)

  -- one more
  pub came-more : (done : ℕ → List SiteEvent) (es : List Move) (x : Entry) (e : Move) → Came done es → Fits t g (world_after g true es) x.role x.event e
      → Came (λ r. done r ++ of_role r (x ∷ [])) (es ++ e ∷ [])
  came-more done es x e c f = (
    c.0 ++ x ∷ [],
    λ r. of-role-append r c.0 (x ∷ []) ∙ ap (λ zs. zs ++ of_role r (x ∷ [])) (c.1 r),
    all-more (empty_world g true) c.0 es x e c.2 f,
  )

  module _ (given : Given g) (fold : SiteIsFold g) where
    pub came-mail : (done : ℕ → List SiteEvent) (es : List Move) → Came done es → Mail g (world_after g true es)
    came-mail done es c = given.mail true es (all-may (empty_world g true) c.0 es c.2)

    -- each site is what its events made of it
    pub came-site : (done : ℕ → List SiteEvent) (es : List Move) → Came done es → (r : ℕ) → r < g.roles → site_at (world_after g true es) r ≡ site_run g (empty_site true r) (done r)
    came-site done es c r l = fold true es r l ∙ ap (site_run g (empty_site true r)) (all-own (empty_world g true) c.0 es c.2 r ∙ c.1 r)

    -- an event is one of a declared role
    pub fits-role : (done : ℕ → List SiteEvent) (es : List Move) → Came done es → (a : ℕ) (x : SiteEvent) (e : Move) → Fits t g (world_after g true es) a x e → a < g.roles
    fits-role done es c a (Chose d) (Chooses b) f = subst (λ h. h < g.roles) f.3 (given.homes d f.1)
    fits-role done es c a (Got m) (Delivers k) f = subst (λ h. h < g.roles) f.0 ((came-mail done es c).within m (member_got (world_after g true es).messages k m f.1))
    fits-role done es c a (Chose d) (Delivers k) f = never f
    fits-role done es c a (Got m) (Chooses b) f = never f

    -- a message that was sent stands in the outbox of a declared role
    sent-role : (w : World) → Mail g w → (b : ℕ) (m : Message) → Member m (site_at w b).outbox → b < g.roles
    sent-role w M b m i =
        elim (cases_lt b g.roles) [
          | inl l ↦ l
          | inr l ↦ (let n = M.sites in
              let l' : length w.sites ≤ b = omega (arith, l, n) in
              never (subst (λ (s : Site). Member m s.outbox) (get-short (empty_site false b) w.sites b l') i))
        ]

    -- it is sent by the events of its sender
    pub sent-by : (done : ℕ → List SiteEvent) (es : List Move) → Came done es → (m : Message) → Member m (world_after g true es).messages
        → (sender g m.kind < g.roles) × Member m (site_run g (empty_site true (sender g m.kind)) (done (sender g m.kind))).outbox
    sent-by done es c m i =
        let M = came-mail done es c in
        let box = M.boxed m i in
        let l = sent-role (world_after g true es) M (sender g m.kind) m box in
        (l, subst (λ (s : Site). Member m s.outbox) (came-site done es c (sender g m.kind) l) box)

    -- and where its sender has these events and perhaps more it is sent too
    pub sent-there : (gone : ℕ → List SiteEvent) (fs : List Move) → Came gone fs → (b : ℕ) → b < g.roles → (front more : List SiteEvent) → gone b ≡ front ++ more → (m : Message)
        → Member m (site_run g (empty_site true b) front).outbox → Member m (world_after g true fs).messages
    sent-there gone fs c b l front more p m i =
        let j = more-box g (empty_site true b) front more m i in
        let k = subst (λ hs. Member m (site_run g (empty_site true b) hs).outbox) (sym p) j in
        ((came-mail gone fs c).boxes b m (subst (λ (s : Site). Member m s.outbox) (sym (came-site gone fs c b l)) k)).0

    same-site : (done gone : ℕ → List SiteEvent) (es fs : List Move) → Came done es → Came gone fs → (a : ℕ) → a < g.roles → done a ≡ gone a →
        site_at (world_after g true es) a ≡ site_at (world_after g true fs) a
    same-site done gone es fs c d a l p = came-site done es c a l ∙ (ap (site_run g (empty_site true a)) p ∙ sym (came-site gone fs d a l))

    -- an event that fits in the one world fits in the other, where its role has had the same events and each role as many or more
    pub fits-there : (done gone : ℕ → List SiteEvent) (es fs : List Move) → Came done es → Came gone fs → ((r : ℕ) → (more : List SiteEvent) × (gone r ≡ done r ++ more))
        → (a : ℕ) (x : SiteEvent) (e : Move) → done a ≡ gone a → Fits t g (world_after g true es) a x e → (d : Move) × Fits t g (world_after g true fs) a x d
    fits-there done gone es fs c d more a (Chose x) (Chooses y) p f =
        let w = world_after g true es in
        let v = world_after g true fs in
        let h = home g (node_of x) in
        let same = same-site done gone es fs c d a (fits-role done es c a (Chose x) (Chooses y) f) p in
        let same' : site_at w h ≡ site_at v h = subst (λ a. site_at w a ≡ site_at v a) (sym f.3) same in
        let reply : (step g v (Chooses x)).reply ≡ Answered Taken = chosen-reply v w h h x (choose g (site_at v h) x) ∙ (ap (λ s. (chosen_at w h x (choose g s x)).reply) (sym same') ∙ f.4) in
        (Chooses x, (refl, f.1, f.2, f.3, reply))
    fits-there done gone es fs c d more a (Got m) (Delivers k) p f =
        let w = world_after g true es in
        let v = world_after g true fs in
        let same = same-site done gone es fs c d a (fits-role done es c a (Got m) (Delivers k) f) p in
        let same' : site_at w m.to ≡ site_at v m.to = subst (λ a. site_at w a ≡ site_at v a) (sym f.0) same in
        let (l, box) = sent-by done es c m (member_got w.messages k m f.1) in
        let b = sender g m.kind in
        let (rest, q) = more b in
        let (n, s) = member-get v.messages m (sent-there gone fs d b l (done b) rest q m box) in
        let reply : (step g v (Delivers n)).reply ≡ IsNew =
        deliver-reply g v n m s ∙ (got-reply v w n k m.to m.to (receive g (site_at v m.to) m)
        ∙ (ap (λ s. (received_at w k m.to (receive g s m)).reply) (sym same') ∙ (sym (deliver-reply g w k m f.1) ∙ f.2))) in
        (Delivers n, (f.0, s, reply))
    fits-there done gone es fs c d more a (Chose x) (Delivers k) p f = never f
    fits-there done gone es fs c d more a (Got m) (Chooses y) p f = never f
