-- One site changes and the others stay: the invariant is kept.
use Rattle.std.specs.Prelude.{slice_get, ◌⊎◌}
use Rattle.std.proofs.Common.{Bool, List, Some, [], arith, false, inl, inr, length, refl, subst, suc, sym, zero, ℕ, ◌++◌, ◌<◌, ◌∙◌, ◌∷◌, ◌≡◌, ◌≤◌, true}
use Rattle.aw_list.specs.Members.{Member}
use Rattle.aw_list.proofs.Members.{member_got, member_left, member_right, member_split, never}
use Rattle.aw_list.proofs.Everyday.{get-left}
use Rattle.aw_term.specs.Configs.{Done}
use Rattle.aw_term.specs.Names.{Node, Ref, below}
use Rattle.aw_term.specs.Rules.{Grammar}
use Rattle.aw_term.specs.Trees.{Never}
use Rattle.aw_term.specs.WellFormed.{Later}
use Rattle.aw_term.specs.Held.{Held}
use Rattle.aw_store.specs.Equations.{Body, Equation, find}
use Rattle.aw_apply.specs.Made.{Call}
use Rattle.aw_apply.specs.Messages.{Asks, Calls, Kind, Message, Tells}
use Rattle.aw_law_sites.specs.Joint.{Joint, called_held}
use Rattle.aw_law_sites.specs.Asking.{ask_message}
use Rattle.aw_law_sites.specs.Homes.{home}
use Rattle.aw_law_sites.specs.Sites.{Site}
use Rattle.aw_law_worlds.specs.Laws.{StaysIn}
use Rattle.aw_law_worlds.specs.Invariant.{IsBrought, sender}
use Rattle.aw_law_worlds.specs.Mentioned.{IsMentioned}
use Rattle.aw_law_worlds.proofs.Lists.{each_by, later_both}
use Rattle.aw_law_worlds.proofs.Parts.{Apart, Carries, Effect, HeldBefore, HoldsAll, Inv, IsCalled, IsLight, IsTold, Is_held, Mark, Sends_own, Settled, Sound}
use Rattle.aw_law_worlds.proofs.Places.{same_or_not}

pub get-append : {A : Type 0} (xs ys : List A) (k : ℕ) (x : A) → slice_get (xs ++ ys) k ≡ Some x → (slice_get xs k ≡ Some x) ⊎ (Member x ys × (length xs ≤ k))
get-append [] ys k x e = inr (member_got ys k x e, omega arith)
get-append (z ∷ xs) ys zero x e = inl e
get-append (z ∷ xs) ys (suc k) x e = elim (get-append xs ys k x e) [ inl a ↦ inl a | inr a ↦ inr (a.0, omega (arith, a.1)) ]

pub told-left : (e : Equation) (b : ℕ) (M N : List Message) → IsTold e b M → IsTold e b (M ++ N)
told-left e b M N (l, m) = (l, member_left _ M N m)

pub told-right : (e : Equation) (b : ℕ) (M N : List Message) → IsTold e b N → IsTold e b (M ++ N)
told-right e b M N (l, m) = (l, member_right _ M N m)

-- equations stay, and a held node stays as it is, or is developed
pub record Grows (S S' : ℕ → Site) : Type 0 where
  pub equations : (a : ℕ) (r : Ref) (b : Body) → find (S a).equations r ≡ Some b → find (S' a).equations r ≡ Some b
  pub held : (a : ℕ) (h : Held) → Member h (S a).held → StaysIn h (S' a).held

-- what stays twice
stays_in : (h : Held) (ks ls : List Held) → ((k : Held) → Member k ks → StaysIn k ls) → StaysIn h ks → StaysIn h ls
stays_in h ks ls f (inl m) = f h m
stays_in h ks ls f (inr (p, r, args, m)) = elim (f (record h { state = Done r args }) m) [ inl i ↦ inr (p, r, args, i) | inr z ↦ (let e = z.0 in absurd cc) ]

pub grows_on : (S S' T : ℕ → Site) → Grows S S' → Grows S' T → Grows S T
grows_on S S' T G H = record {
  equations = λ a r b f. H.equations a r b (G.equations a r b f);
  held = λ a h m. stays_in h (S' a).held (T a).held (H.held a) (G.held a h m);
}

module _ (g : Grammar) (loads : Bool) where
  -- what a message that role a sends is about
  abbrev pub NewSound : ℕ → Site → Joint → ℕ → Kind → Type 0
  NewSound a s x to (Calls c load) = (to ≡ home g c.node) × ((p : Node) × (r : ℕ) × (k : ℕ) × (c.node ≡ below p r k) × (home g p ≡ to → Never)) × Member (called_held c) x.held × Carries g x to load
  NewSound a s x to (Asks r b) = (to ≡ home g r.node) × (to ≡ b → Never) × (b ≡ a) × (s.asked r ≡ true)
  NewSound a s x to (Tells e load) = (home g e.left.node ≡ a) × (s.watches e.left to ≡ true) × Carries g x to (e ∷ load)

  pub record Change (S : ℕ → Site) (M : List Message) (x : Joint) (a : ℕ) (s : Site) (sent : List Message) (y : Joint) (now : ℕ → Type 0) : Type 0 where
    pub role : s.role ≡ a
    pub within : a < g.roles
    pub ordered : Later HeldBefore s.held
    pub flag : loads ≡ false → s.loads ≡ false
    pub parts : (e : Equation) → Member e s.equations → Member e y.equations
    pub whole_kept : (e : Equation) → Member e x.equations → Member e y.equations
    pub find_kept : (r : Ref) (b : Body) → find (S a).equations r ≡ Some b → find s.equations r ≡ Some b
    pub homes : (r : Ref) (b : Body) → find y.equations r ≡ Some b → ((home g r.node ≡ a) × (find s.equations r ≡ Some b)) ⊎ (find x.equations r ≡ Some b)
    pub held : (h : Held) → Member h s.held → Member h y.held × (home g h.node ≡ a)
    pub held_other : (h : Held) → (home g h.node ≡ a → Never) → Member h x.held → Member h y.held
    pub held_kept : (h : Held) → Member h (S a).held → (h' : Held) × Member h' s.held × (h'.node ≡ h.node) × (h'.sort ≡ h.sort) × (h'.inherited ≡ h.inherited)
    pub stay : (h : Held) → Member h (S a).held → StaysIn h s.held
    pub call_kept : (c : Call) → Member (called_held c) x.held → Member (called_held c) y.held ⊎ ((home g c.node ≡ a) × Is_held c s.held)
    pub inherited_kept : (h : Held) → Member h x.held → (h' : Held) × Member h' y.held × (h'.inherited ≡ h.inherited)
    pub called : (h : Held) → Member h y.held → ((home g h.node ≡ a) × Member h s.held) ⊎ (IsCalled g h sent ⊎ (Member h x.held × (Member h (S a).held → Member h s.held)))
    pub settled : (r : Ref) → IsMentioned r s.equations s.held → Settled g s r
    pub asked_kept : (r : Ref) → ((S a).asked r ≡ true) → (s.asked r ≡ true)
    pub asked : (r : Ref) → (s.asked r ≡ true) → ((S a).asked r ≡ true) ⊎ (Member (ask_message g a r) sent × IsMentioned r y.equations y.held)
    pub watched_kept : (r : Ref) (to : ℕ) → ((S a).watches r to ≡ true) → (s.watches r to ≡ true)
    pub watched : (r : Ref) (to : ℕ) → (s.watches r to ≡ true) → ((S a).watches r to ≡ true) ⊎ ((home g r.node ≡ a) × ((S to).asked r ≡ true))
    pub tells : (r : Ref) (to : ℕ) (b : Body) → (s.watches r to ≡ true) → find s.equations r ≡ Some b → IsTold (record { left = r; body = b }) to M ⊎ IsTold (record { left = r; body = b }) to sent
    pub foreign : (r : Ref) (b : Body) → find s.equations r ≡ Some b → (home g r.node ≡ a) ⊎ ((find (S a).equations r ≡ Some b) ⊎ IsBrought now M a r b)
    pub away : (m : Message) → Member m sent → m.to ≡ a → Never
    pub sound : (m : Message) → Member m sent → NewSound a s y m.to m.kind
    pub light : loads ≡ false → (m : Message) → Member m sent → IsLight m.kind
    pub senders : (m : Message) → Member m sent → Sends_own g m.kind
    pub outbox : s.outbox ≡ (S a).outbox ++ sent
    pub from_here : (m : Message) → Member m sent → sender g m.kind ≡ a
    pub no_mark : (m : Message) → Member m sent → Mark loads (S m.to) m.kind → Never
    pub not_sent : (m n : Message) → Member m M → Member n sent → Apart m n
    pub apart : Later Apart sent
    pub now_before : (k : ℕ) → now k → k < length M
    pub now_effect : (k : ℕ) (m : Message) → now k → slice_get M k ≡ Some m → (m.to ≡ a) × Effect s m.kind
    pub back : (k : ℕ) (m : Message) → slice_get M k ≡ Some m → m.to ≡ a → Mark loads s m.kind → Mark loads (S a) m.kind ⊎ now k

  module _ (S S' : ℕ → Site) (a : ℕ) (other : (b : ℕ) → (a ≡ b → Never) → S' b ≡ S b) (M sent : List Message) (D D' now : ℕ → Type 0) (x y : Joint)
      (from_new : (k : ℕ) → D' k → D k ⊎ now k) (to_new : (k : ℕ) → D k ⊎ now k → D' k)
      (I : Inv g loads S M D x) (C : Change S M x a (S' a) sent y now) where
    by_role : (P : ℕ → Site → Type 0) → P a (S' a) → ((b : ℕ) → (a ≡ b → Never) → P b (S b)) → (b : ℕ) → P b (S' b)
    by_role P p q b = elim (same_or_not a b) [ inl e ↦ subst (λ b. P b (S' b)) e p | inr n ↦ subst (P b) (sym (other b n)) (q b n) ]

    find_on : (b : ℕ) (r : Ref) (c : Body) → find (S b).equations r ≡ Some c → find (S' b).equations r ≡ Some c
    find_on b r c = by_role (λ b s. find (S b).equations r ≡ Some c → find s.equations r ≡ Some c) (C.find_kept r c) (λ b n e. e) b

    asked_on : (b : ℕ) (r : Ref) → ((S b).asked r ≡ true) → ((S' b).asked r ≡ true)
    asked_on b r = by_role (λ b s. ((S b).asked r ≡ true) → (s.asked r ≡ true)) (C.asked_kept r) (λ b n e. e) b

    watch_on : (b : ℕ) (r : Ref) (to : ℕ) → ((S b).watches r to ≡ true) → ((S' b).watches r to ≡ true)
    watch_on b r to = by_role (λ b s. ((S b).watches r to ≡ true) → (s.watches r to ≡ true)) (C.watched_kept r to) (λ b n e. e) b

    is_held_kept : (c : Call) → Is_held c (S a).held → Is_held c (S' a).held
    is_held_kept c (h, m, n, so, i) = let (h', m', n', so', i') = C.held_kept h m in (h', m', n' ∙ n, so' ∙ so, i' ∙ i)

    is_held_on : (b : ℕ) (c : Call) → Is_held c (S b).held → Is_held c (S' b).held
    is_held_on b c = by_role (λ b s. Is_held c (S b).held → Is_held c s.held) (is_held_kept c) (λ b n e. e) b

    all_on : (b : ℕ) (es : List Equation) → HoldsAll (S b).equations es → HoldsAll (S' b).equations es
    all_on b es h = each_by (λ (e : Equation). find (S b).equations e.left ≡ Some e.body) (λ (e : Equation). find (S' b).equations e.left ≡ Some e.body) (λ e f. find_on b e.left e.body f) es h

    effect_on : (b : ℕ) (k : Kind) → Effect (S b) k → Effect (S' b) k
    effect_on b (Calls c load) (h, l) = (is_held_on b c h, all_on b load l)
    effect_on b (Asks r i) m = watch_on b r i m
    effect_on b (Tells e load) l = all_on b (e ∷ load) l

    mention_on : (r : Ref) → IsMentioned r x.equations x.held → IsMentioned r y.equations y.held
    mention_on r (inl (e, m, n)) = inl (e, C.whole_kept e m, n)
    mention_on r (inr (h, m, n)) = let (h', m', i) = C.inherited_kept h m in inr (h', m', subst (Member r) (sym i) n)

    carries_on : (to : ℕ) (es : List Equation) → Carries g x to es → Carries g y to es
    carries_on to es c = each_by (λ (e : Equation). Member e x.equations × (home g e.left.node ≡ to → Never)) (λ (e : Equation). Member e y.equations
        × (home g e.left.node ≡ to → Never)) (λ e p. (C.whole_kept e p.0, p.1)) es c

    sound_on : (to : ℕ) (k : Kind) → Sound g S x to k → Sound g S' y to k
    sound_on to (Calls c load) (e, p, inl m, cs) =
        (e, p, elim (C.call_kept c m) [ inl z ↦ inl z | inr z ↦ inr (subst (λ b. Is_held c (S' b).held) (sym z.0 ∙ sym e) z.1) ], carries_on to load cs)
    sound_on to (Calls c load) (e, p, inr h, cs) = (e, p, inr (is_held_on to c h), carries_on to load cs)
    sound_on to (Asks r b) (e, n, m) = (e, n, asked_on b r m)
    sound_on to (Tells e load) (w, cs) = (watch_on (home g e.left.node) e.left to w, carries_on to (e ∷ load) cs)

    sound_new : (to : ℕ) (k : Kind) → NewSound a (S' a) y to k → Sound g S' y to k
    sound_new to (Calls c load) (e, p, m, cs) = (e, p, inl m, cs)
    sound_new to (Asks r b) (e, n, ba, m) = (e, n, subst (λ b. ((S' b).asked r ≡ true)) (sym ba) m)
    sound_new to (Tells e load) (h, w, cs) = (subst (λ b. ((S' b).watches e.left to ≡ true)) (sym h) w, cs)

    called_left : (h : Held) → IsCalled g h M → IsCalled g h (M ++ sent)
    called_left h (l, m) = (l, member_left _ M sent m)

    brought_on : (E : ℕ → Type 0) → ((k : ℕ) → E k → D' k) → (b : ℕ) (r : Ref) (c : Body) → IsBrought E M b r c → IsBrought D' (M ++ sent) b r c
    brought_on E f b r c (k, m, e, d, t, i) = (k, m, get-left M sent k m e, f k d, t, i)

    effect_old : (k : ℕ) (m : Message) → slice_get M k ≡ Some m → (D' k → Effect (S' m.to) m.kind) × (Mark loads (S' m.to) m.kind → D' k)
    effect_old k m e = (
      (λ d. elim (from_new k d) [
        | inl o ↦ effect_on m.to m.kind ((I.effect k m e).0 o)
        | inr n ↦ (let (t, f) = C.now_effect k m n e in subst (λ b. Effect (S' b) m.kind) (sym t) f)
      ]),
      by_role (λ b s. m.to ≡ b → Mark loads s m.kind → D' k)
          (λ t f. elim (C.back k m e t f) [ inl o ↦ to_new k (inl ((I.effect k m e).1 (subst (λ b. Mark loads (S b) m.kind) (sym t) o))) | inr n ↦ to_new k (inr n) ])
          (λ b n t f. to_new k (inl ((I.effect k m e).1 (subst (λ b. Mark loads (S b) m.kind) (sym t) f)))) m.to refl,
    )

    before_new : (k : ℕ) → D' k → k < length M
    before_new k d = elim (from_new k d) [ inl o ↦ I.before k o | inr n ↦ C.now_before k n ]

    effect_new : (k : ℕ) (m : Message) → Member m sent → length M ≤ k → (D' k → Effect (S' m.to) m.kind) × (Mark loads (S' m.to) m.kind → D' k)
    effect_new k m i l = (
      (λ d. let z = before_new k d in absurd (omega (arith, z, l))),
      (λ f. never (C.no_mark m i (subst (λ s. Mark loads s m.kind) (other m.to (λ e. C.away m i (sym e))) f))),
    )

    length-left : (n : ℕ) (xs ys : List Message) → n < length xs → n < length (xs ++ ys)
    length-left n [] ys l = absurd (omega arith)
    length-left zero (z ∷ xs) ys l = omega arith
    length-left (suc n) (z ∷ xs) ys l = let i = length-left n xs ys (omega arith) in omega (arith, i)

    pub kept : Inv g loads S' (M ++ sent) D' y
    kept = record {
      roles = by_role (λ b s. s.role ≡ b) C.role (λ b n. I.roles b);
      ordered = by_role (λ b s. Later HeldBefore s.held) C.ordered (λ b n. I.ordered b);
      flags = by_role (λ b s. loads ≡ false → s.loads ≡ false) C.flag (λ b n. I.flags b);
      parts = by_role (λ b s. (e : Equation) → Member e s.equations → Member e y.equations) C.parts (λ b n e m. C.whole_kept e (I.parts b e m));
      homes = λ r b e. elim (C.homes r b e) [ inl z ↦ subst (λ c. find (S' c).equations r ≡ Some b) (sym z.0) z.1 | inr z ↦ find_on (home g r.node) r b (I.homes r b z) ];
      held = by_role (λ b s. (h : Held) → Member h s.held → Member h y.held × (home g h.node ≡ b)) C.held
          (λ b n h m. let (o, e) = I.held b h m in (C.held_other h (λ q. n (sym q ∙ e)) o, e));
      called = λ h m. elim (C.called h m) [
        | inl z ↦ inl (subst (λ b. Member h (S' b).held) (sym z.0) z.1)
        | inr z ↦ elim z [
          | inl c ↦ inr (c.0, member_right _ M sent c.1)
          | inr o ↦ elim (I.called h o.0) [
            | inl i ↦ inl (by_role (λ b s. Member h (S b).held → Member h s.held) o.1 (λ b n m. m) (home g h.node) i)
            | inr i ↦ inr (called_left h i)
          ]
        ]
      ];
      settled = by_role (λ b s. (r : Ref) → IsMentioned r s.equations s.held → Settled g s r) C.settled (λ b n. I.settled b);
      asked = by_role (λ b s. (r : Ref) → (s.asked r ≡ true) → Member (ask_message g b r) (M ++ sent) × IsMentioned r y.equations y.held)
          (λ r m. elim (C.asked r m) [ inl o ↦ (let (p, q) = I.asked a r o in (member_left _ M sent p, mention_on r q)) | inr n ↦ (member_right _ M sent n.0, n.1) ])
          (λ b n r m. let (p, q) = I.asked b r m in (member_left _ M sent p, mention_on r q));
      range = by_role (λ b s. (r : Ref) → (s.asked r ≡ true) → b < g.roles) (λ r m. C.within) (λ b n. I.range b);
      watched = by_role (λ b s. (r : Ref) (to : ℕ) → (s.watches r to ≡ true) → (home g r.node ≡ b) × ((S' to).asked r ≡ true))
          (λ r to m. elim (C.watched r to m) [ inl o ↦ (let (p, q) = I.watched a r to o in (p, asked_on to r q)) | inr n ↦ (n.0, asked_on to r n.1) ])
          (λ b n r to m. let (p, q) = I.watched b r to m in (p, asked_on to r q));
      tells = by_role (λ b s. (r : Ref) (to : ℕ) (c : Body) → (s.watches r to ≡ true) → find s.equations r ≡ Some c → IsTold (record { left = r; body = c }) to (M ++ sent))
          (λ r to c m e. elim (C.tells r to c m e) [ inl o ↦ told-left _ to M sent o | inr n ↦ told-right _ to M sent n ])
          (λ b n r to c m e. told-left _ to M sent (I.tells b r to c m e));
      foreign = by_role (λ b s. (r : Ref) (c : Body) → find s.equations r ≡ Some c → (home g r.node ≡ b) ⊎ IsBrought D' (M ++ sent) b r c)
          (λ r c e. elim (C.foreign r c e) [
            | inl h ↦ inl h
            | inr z ↦ elim z [
              | inl o ↦ elim (I.foreign a r c o) [ inl h ↦ inl h | inr i ↦ inr (brought_on D (λ k d. to_new k (inl d)) a r c i) ]
              | inr i ↦ inr (brought_on now (λ k d. to_new k (inr d)) a r c i)
            ]
          ])
          (λ b n r c e. elim (I.foreign b r c e) [ inl h ↦ inl h | inr i ↦ inr (brought_on D (λ k d. to_new k (inl d)) b r c i) ]);
      sound = λ m i. elim (member_split m M sent i) [ inl o ↦ sound_on m.to m.kind (I.sound m o) | inr n ↦ sound_new m.to m.kind (C.sound m n) ];
      effect = λ k m e. elim (get-append M sent k m e) [ inl o ↦ effect_old k m o | inr n ↦ effect_new k m n.0 n.1 ];
      light = λ f m i. elim (member_split m M sent i) [ inl o ↦ I.light f m o | inr n ↦ C.light f m n ];
      senders = λ m i. elim (member_split m M sent i) [ inl o ↦ I.senders m o | inr n ↦ C.senders m n ];
      boxes = by_role (λ b s. (m : Message) → Member m s.outbox → Member m (M ++ sent) × (sender g m.kind ≡ b))
          (λ m i. elim (member_split m (S a).outbox sent (subst (Member m) C.outbox i)) [
            | inl o ↦ (let (p, q) = I.boxes a m o in (member_left m M sent p, q))
            | inr n ↦ (member_right m M sent n, C.from_here m n)
          ])
          (λ b n m i. let (p, q) = I.boxes b m i in (member_left m M sent p, q));
      boxed = λ m i. elim (member_split m M sent i) [
        | inl o ↦ by_role (λ b s. Member m (S b).outbox → Member m s.outbox) (λ j. subst (Member m) (sym C.outbox) (member_left m (S a).outbox sent j)) (λ b n j. j) (sender g m.kind) (I.boxed m o)
        | inr n ↦ subst (λ b. Member m (S' b).outbox) (sym (C.from_here m n)) (subst (Member m) (sym C.outbox) (member_right m (S a).outbox sent n))
      ];
      before = λ k d. length-left k M sent (before_new k d);
      apart = later_both Apart M sent I.apart C.apart (λ m n i j. C.not_sent m n i j);
    }

    pub grown : Grows S S'
    grown = record {
      equations = find_on;
      held = by_role (λ b s. (h : Held) → Member h (S b).held → StaysIn h s.held) C.stay (λ b n h m. inl m);
    }
