-- In every world sites learn and ask for what their own tasks lead to alone.
use Rattle.std.specs.Prelude.{slice_get, ◌⊎◌}
use Rattle.std.proofs.Common.{◌≡◌, ℕ, zero, suc, ◌+◌, ◌<◌, Bool, true, false, List, [], ◌∷◌, ◌++◌, map, length, Option, Some, None, refl, sym, ap, ◌∙◌, subst, inl, inr, arith}
use Rattle.std.proofs.lemmas.Option.{slice_get_within}
use Rattle.aw_list.specs.Members.{Member}
use Rattle.aw_list.proofs.Members.{never, member_got, member_split}
use Rattle.aw_list.proofs.Everyday.{get-left}
use Rattle.aw_term.specs.Choices.{Choice}
use Rattle.aw_term.specs.Names.{Ref}
use Rattle.aw_term.specs.Rules.{Grammar, get, upto}
use Rattle.aw_term.specs.Trees.{Never}
use Rattle.aw_term.specs.WellFormed.{Each}
use Rattle.aw_term.proofs.Eaches.{each_append}
use Rattle.aw_store.specs.Equations.{Equation, find, mentions}
use Rattle.aw_apply.specs.Messages.{Kind, Calls, Asks, Tells, Message, Received, BadName, NotMine, Conflict, Repeat, New, carried}
use Rattle.aw_law_sites.specs.Choosing.{Chosen, No, Did, choose}
use Rattle.aw_law_sites.specs.Homes.{home}
use Rattle.aw_law_sites.specs.Joint.{Joint}
use Rattle.aw_law_sites.specs.Reacting.{receive}
use Rattle.aw_law_sites.specs.Sites.{Site, Reaction, empty_site}
use Rattle.aw_law_sites.specs.Worlds.{World, empty_world, site_at, node_of, with_site, Move, Chooses, Delivers, chosen_at, mark_delivered, received_at, deliver_on, step, run, MayCome, world_after}
use Rattle.aw_law_worlds.specs.Invariant.{IsDelivered, IsInvariant, IsSent, sender}
use Rattle.aw_law_worlds.specs.Laws.{HomesAreRoles, InvariantHolds}
use Rattle.aw_law_worlds.proofs.Learning.{find-member}
use Rattle.aw_law_worlds.proofs.Places.{get-set, get-set_other, same_or_not, set-here}
use Rattle.aw_law_worlds.proofs.Settling.{run_both}
use Rattle.aw_law_worlds.proofs.Runs.{length-more}
use Rattle.aw_law_learning.specs.Learning.{IsLedTo, OfficesAskTheirOwn, OfficesLearnTheirOwn}
use Rattle.aw_law_learning.proofs.Leading.{Chain, ComesFine, IsSentFrom, Learnt, NewWatch, choose-learns, led-grown, led-mentioned, receive-learns}

module _ (g : Grammar) where
  -- what holds of each message
  abbrev Fine : World → Message → Kind → Type 0
  Fine w m (Calls c load) = Chain c.inherited load
  Fine w m (Asks r from) = (site_at w from).asked r ≡ true
  Fine w m (Tells e load) = ((site_at w m.to).asked e.left ≡ true) × Chain (mentions e.body) load

  abbrev KnowsOwn : ℕ → Site → Type 0
  KnowsOwn a s = (e : Equation) → Member e s.equations → (home g e.left.node ≡ a) ⊎ IsLedTo g s e.left

  abbrev AsksOwn : Site → Type 0
  AsksOwn s = (r : Ref) → s.asked r ≡ true → IsLedTo g s r

  -- and of each site
  record Learns (w : World) : Type 0 where
    equations : (a : ℕ) → KnowsOwn a (site_at w a)
    asked : (a : ℕ) → AsksOwn (site_at w a)
    watchers : (a : ℕ) (r : Ref) (to : ℕ) → (site_at w a).watches r to ≡ true → (site_at w to).asked r ≡ true
    messages : (m : Message) → Member m w.messages → Fine w m m.kind

  -- one site reacts
  module _ (w : World) (A : Learns w) (a : ℕ) (x : Reaction) (new : Ref → ℕ → Type 0) (here : a < length w.sites) (role : (site_at w a).role ≡ a) (L : Learnt g (site_at w a) x new)
      (watched : (r : Ref) (to : ℕ) → new r to → (site_at w to).asked r ≡ true) where
    abbrev W : World
    W = with_site w a x

    there : site_at W a ≡ x.site
    there = get-set (empty_site false a) w.sites a x.site here

    cases : (b : ℕ) → ((a ≡ b) × (site_at W b ≡ x.site)) ⊎ (site_at W b ≡ site_at w b)
    cases b = elim (same_or_not a b) [ inl p ↦ inl (p, subst (λ b. site_at W b ≡ x.site) p there) | inr n ↦ inr (get-set_other (empty_site false b) w.sites a b x.site n) ]

    grows : (b : ℕ) (r : Ref) → (site_at w b).asked r ≡ true → (site_at W b).asked r ≡ true
    grows b r m = elim (cases b) [
      | inl c ↦ subst (λ (s : Site). s.asked r ≡ true) (sym c.1) (L.asks r (subst (λ b. (site_at w b).asked r ≡ true) (sym c.0) m))
      | inr e ↦ subst (λ (s : Site). s.asked r ≡ true) (sym e) m
    ]

    knows : KnowsOwn a x.site
    knows e m = elim (L.equations e m) [
      | inl i ↦ elim (A.equations a e i) [ inl p ↦ inl p | inr l ↦ inr (led-grown g (site_at w a) x.site L.grown l) ]
      | inr i ↦ elim i [ inl p ↦ inl (p ∙ role) | inr l ↦ inr l ]
    ]

    asks : AsksOwn x.site
    asks r m = elim (L.asked r m) [ inl i ↦ led-grown g (site_at w a) x.site L.grown (A.asked a r i) | inr l ↦ l ]

    watches : (b : ℕ) (r : Ref) (to : ℕ) → (site_at W b).watches r to ≡ true → (site_at W to).asked r ≡ true
    watches b r to m = elim (cases b) [
      | inl c ↦ elim (L.watchers r to (subst (λ (s : Site). s.watches r to ≡ true) c.1 m)) [ inl i ↦ grows to r (A.watchers a r to i) | inr n ↦ grows to r (watched r to n) ]
      | inr e ↦ grows to r (A.watchers b r to (subst (λ (s : Site). s.watches r to ≡ true) e m))
    ]

    old-fine : (m : Message) (k : Kind) → Fine w m k → Fine W m k
    old-fine m (Calls c load) f = f
    old-fine m (Asks r from) f = grows from r f
    old-fine m (Tells e load) f = (grows m.to e.left f.0, f.1)

    new-fine : (m : Message) (k : Kind) → IsSentFrom g x.site m k → Fine W m k
    new-fine m (Calls c load) f = f
    new-fine m (Asks r from) f =
        let p : from ≡ a = f.0 ∙ (L.grown.role ∙ role) in
        subst (λ b. (site_at W b).asked r ≡ true) (sym p) (subst (λ (s : Site). s.asked r ≡ true) (sym there) f.1)
    new-fine m (Tells e load) f = (watches a e.left m.to (subst (λ (s : Site). s.watches e.left m.to ≡ true) (sym there) f.0), f.1)

    reacts : Learns W
    reacts = record {
      equations = λ b. elim (cases b) [ inl c ↦ subst (KnowsOwn b) (sym c.1) (subst (λ b. KnowsOwn b x.site) c.0 knows) | inr e ↦ subst (KnowsOwn b) (sym e) (A.equations b) ];
      asked = λ b. elim (cases b) [ inl c ↦ subst AsksOwn (sym c.1) asks | inr e ↦ subst AsksOwn (sym e) (A.asked b) ];
      watchers = watches;
      messages = λ m i. elim (member_split m w.messages x.sent i) [ inl j ↦ old-fine m m.kind (A.messages m j) | inr j ↦ new-fine m m.kind (L.sent m j) ];
    }

  -- nothing happened yet
  empty-all : (P : ℕ → Site → Type 0) → ((a : ℕ) (b : Bool) → P a (empty_site b a)) → (loads : Bool) (a : ℕ) → P a (site_at (empty_world g loads) a)
  empty-all P f loads a = go 0 g.roles a (let z : 0 + a ≡ a = omega arith in z)
    where
      go : (i n j : ℕ) → i + j ≡ a → P a (get (empty_site false a) (map (empty_site loads) (upto i n)) j)
      go i zero j e = f a false
      go i (suc n) zero e = let z : i ≡ a = omega (arith, e) in subst (λ k. P a (empty_site loads k)) (sym z) (f a loads)
      go i (suc n) (suc j) e = go (suc i) n j (omega (arith, e))

  begins : (loads : Bool) → Learns (empty_world g loads)
  begins loads = record {
    equations = empty-all (λ a s. KnowsOwn a s) (λ a b e m. never m) loads;
    asked = empty-all (λ a s. AsksOwn s) (λ a b r m. absurd cc) loads;
    watchers = λ a r to m. never (empty-all (λ a s. (r : Ref) (to : ℕ) → s.watches r to ≡ true → Never) (λ a b r to m. absurd cc) loads a r to m);
    messages = λ m i. never i;
  }

  module _ (invariant : InvariantHolds g) (homes : HomesAreRoles g) (loads : Bool) where
    module _ (es : List Move) (may : Each (MayCome g) es) where
      abbrev w : World
      w = world_after g loads es

      abbrev I : (x : Joint) × IsInvariant g loads w x
      I = invariant loads es may

      chosen-learns : Learns w → (c : Choice) → MayCome g (Chooses c) → (z : Chosen) → choose g (site_at w (home g (node_of c))) c ≡ z → Learns (chosen_at w (home g (node_of c)) c z).world
      chosen-learns A c k (No q) e = A
      chosen-learns A c k (Did x) e =
          let a = home g (node_of c) in
          let l = homes c k in
          let n = I.1.sites in
          let role = I.1.roles a in
          let R = reacts w A a x (λ r to. Never) (omega (arith, l, n)) role (choose-learns g (site_at w a) c (sym role) x e) (λ r to n. never n) in
          record { equations = R.equations; asked = R.asked; watchers = R.watchers; messages = R.messages }

      -- after the delivery of a new message its equations are here
      module _ (k : ℕ) (m : Message) (e : slice_get w.messages k ≡ Some m) (x : Reaction) (q : receive g (site_at w m.to) m ≡ New x) where
        abbrev V : World
        V = mark_delivered k (with_site w m.to x)

        as-after : world_after g loads (es ++ Delivers k ∷ []) ≡ V
        as-after = run_both g (empty_world g loads) es (Delivers k ∷ []) ∙ (ap (λ o. (deliver_on g w k o).world) e ∙ ap (λ z. (received_at w k m.to z).world) q)

        within : m.to < length w.sites
        within = let l = I.1.addressed m (member_got w.messages k m e) in let n = I.1.sites in omega (arith, l, n)

        has : (d : Equation) → Member d (carried m.kind) → Member d x.site.equations
        has d i =
            let (y, J) = subst (λ v. (y : Joint) × IsInvariant g loads v y) as-after (invariant loads (es ++ Delivers k ∷ []) (each_append (MayCome g) es (Delivers k ∷ []) may (tt, tt))) in
            let sent : IsSent V m k = get-left w.messages x.sent k m e in
            let marks = I.1.marks in
            let inside = slice_get_within w.messages k m e in
            let more = length-more w.delivered (map (λ m. false) x.sent) in
            let came : IsDelivered V k = set-here (w.delivered ++ map (λ m. false) x.sent) k (omega (arith, marks, inside, more)) in
            let known = J.known (sender g m.kind) d.left d.body (J.sender_has k m sent d i) in
            let found : find (site_at V m.to).equations d.left ≡ Some d.body = elim (same_or_not (home g d.left.node) m.to) [
              | inl p ↦ subst (λ b. find (site_at V b).equations d.left ≡ Some d.body) p (J.homes d.left d.body known)
              | inr n ↦ (J.brought m.to d.left d.body n).1 (k, m, sent, came, refl, i)
            ] in
            let there : site_at V m.to ≡ x.site = get-set (empty_site false m.to) w.sites m.to x.site within in
            find-member x.site.equations d.left d.body (subst (λ (s : Site). find s.equations d.left ≡ Some d.body) there found)

        fine-here : Learns w → (k : Kind) → Fine w m k → ComesFine g (site_at w m.to) k
        fine-here A (Calls c load) f = f
        fine-here A (Asks r from) f = tt
        fine-here A (Tells d load) f = (A.asked m.to d.left f.0, f.1)

        watch-new : (k : Kind) → Fine w m k → (r : Ref) (to : ℕ) → NewWatch g k r to → (site_at w to).asked r ≡ true
        watch-new (Calls c load) f r to n = never n
        watch-new (Asks q from) f r to n = (λ i. (site_at w (n.1 i)).asked (n.0 i)) ∙ f
        watch-new (Tells d load) f r to n = never n

        new-learns : Learns w → Learns V
        new-learns A =
            let f = A.messages m (member_got w.messages k m e) in
            let R = reacts w A m.to x (NewWatch g m.kind) within (I.1.roles m.to) (receive-learns g (site_at w m.to) m x q (fine-here A m.kind f) has) (watch-new m.kind f) in
            record { equations = R.equations; asked = R.asked; watchers = R.watchers; messages = R.messages }

      marked-learns : Learns w → (k : ℕ) → Learns (mark_delivered k w)
      marked-learns A k = record { equations = A.equations; asked = A.asked; watchers = A.watchers; messages = A.messages }

      received-learns : Learns w → (k : ℕ) (m : Message) → slice_get w.messages k ≡ Some m → (z : Received Reaction) → receive g (site_at w m.to) m ≡ z → Learns (received_at w k m.to z).world
      received-learns A k m e (New x) q = new-learns k m e x q A
      received-learns A k m e Repeat q = marked-learns A k
      received-learns A k m e (Conflict a b) q = marked-learns A k
      received-learns A k m e NotMine q = marked-learns A k
      received-learns A k m e BadName q = marked-learns A k

      delivered-learns : Learns w → (k : ℕ) (o : Option Message) → slice_get w.messages k ≡ o → Learns (deliver_on g w k o).world
      delivered-learns A k None e = A
      delivered-learns A k (Some m) e = received-learns A k m e (receive g (site_at w m.to) m) refl

      step-learns : Learns w → (e : Move) → MayCome g e → Learns (step g w e).world
      step-learns A (Chooses c) k = chosen-learns A c k (choose g (site_at w (home g (node_of c))) c) refl
      step-learns A (Delivers k) u = delivered-learns A k (slice_get w.messages k) refl

    run-learns : (done : List Move) → Each (MayCome g) done → Learns (world_after g loads done) → (es : List Move) → Each (MayCome g) es → Learns (run g (world_after g loads done) es)
    run-learns done before A [] may = A
    run-learns done before A (e ∷ es) may =
        let p : world_after g loads (done ++ e ∷ []) ≡ (step g (world_after g loads done) e).world = run_both g (empty_world g loads) done (e ∷ []) in
        let next = run-learns (done ++ e ∷ []) (each_append (MayCome g) done (e ∷ []) before (may.0, tt)) (subst Learns (sym p) (step-learns done before A e may.0)) es may.1 in
        subst (λ v. Learns (run g v es)) p next

    all-learns : (es : List Move) → Each (MayCome g) es → Learns (world_after g loads es)
    all-learns es may = run-learns [] tt (begins loads) es may

  pub learn_their_own : InvariantHolds g → HomesAreRoles g → OfficesLearnTheirOwn g
  learn_their_own invariant homes loads es may a r b e foreign =
      let A = all-learns invariant homes loads es may in
      let s = site_at (world_after g loads es) a in
      elim (A.equations a (record { left = r; body = b }) (find-member s.equations r b e)) [ inl p ↦ never (foreign p) | inr l ↦ (l, led-mentioned g s l) ]

  pub ask_their_own : InvariantHolds g → HomesAreRoles g → OfficesAskTheirOwn g
  ask_their_own invariant homes loads es may a r m =
      let A = all-learns invariant homes loads es may in
      let l = A.asked a r m in
      (l, led-mentioned g (site_at (world_after g loads es) a) l)
