-- A question that is new: what the site answers.
use Rattle.std.specs.Prelude.{nat_eq, slice_get, ◌&&◌, ◌⊎◌}
use Rattle.std.proofs.Common.{Bool, List, None, Option, Some, [], ap, cond, false, inl, inr, length, refl, subst, suc, sym, true, zero, ℕ, ◌++◌, ◌<◌, ◌∙◌, ◌∷◌, ◌≡◌}
use Rattle.std.proofs.lemmas.Bool.{and_from, and_parts, eq-eqb, eqb-true, or_cases, or_left, or_right}
use Rattle.std.proofs.lemmas.Option.{same_Some, slice_get_within}
use Rattle.aw_list.specs.Members.{Member}
use Rattle.aw_list.proofs.Members.{member_got, never}
use Rattle.aw_term.specs.Names.{Ref, ref_eq}
use Rattle.aw_term.specs.Rules.{Grammar}
use Rattle.aw_term.specs.Trees.{Never}
use Rattle.aw_term.specs.WellFormed.{Each, Later}
use Rattle.aw_term.proofs.RefTests.{ref_eq-self, ref_eq-true}
use Rattle.aw_accept.proofs.Fitting.{each_member}
use Rattle.aw_store.specs.Equations.{Body, Equation, find, mentions}
use Rattle.aw_apply.specs.Messages.{Asks, Calls, Kind, Message, Tells, carried}
use Rattle.aw_law_sites.specs.Joint.{Joint}
use Rattle.aw_law_sites.proofs.Lists.{each_of}
use Rattle.aw_law_sites.specs.Homes.{home}
use Rattle.aw_law_sites.specs.Loads.{Given, given_on, load_of, may_give, next_given, walk}
use Rattle.aw_law_sites.specs.Sites.{Site}
use Rattle.aw_law_sites.specs.Telling.{tell, tell_back, watches_too}
use Rattle.aw_law_worlds.specs.Invariant.{IsBrought, sender}
use Rattle.aw_law_worlds.proofs.Changes.{Change, NewSound}
use Rattle.aw_law_worlds.proofs.Learning.{find-member}
use Rattle.aw_law_worlds.proofs.Parts.{Apart, Carries, Effect, Inv, IsLight, IsTold, Kin, KindKin, Mark, Sends_own, Sound}

given_cases : (g : Grammar) (s : Site) (t : Bool) (r : Ref) (o : Option Body) (rs : List Ref) (q : Option Given) (d : Given) →
    (t ≡ true → home g r.node ≡ s.role) → find s.equations r ≡ o → (q ≡ Some d → (find s.equations d.equation.left ≡ Some d.equation.body)
    × (home g d.equation.left.node ≡ s.role))
    → given_on t r o rs q ≡ Some d → (find s.equations d.equation.left ≡ Some d.equation.body) × (home g d.equation.left.node ≡ s.role)
given_cases g s true r (Some b) rs q d h f i e =
    let p = ap (λ (d : Given). d.equation) (same_Some _ _ e) in
    subst (λ (e : Equation). (find s.equations e.left ≡ Some e.body) × (home g e.left.node ≡ s.role)) p (f, h refl)
given_cases g s true r None rs q d h f i e = i e
given_cases g s false r o rs q d h f i e = i e

next-own : (g : Grammar) (s : Site) (seen rs : List Ref) (d : Given) → next_given g s seen rs ≡ Some d →
    (find s.equations d.equation.left ≡ Some d.equation.body) × (home g d.equation.left.node ≡ s.role)
next-own g s seen [] d e = absurd cc
next-own g s seen (r ∷ rs) d e =
    given_cases g s (may_give g s seen r) r (find s.equations r) rs (next_given g s seen rs) d
    (λ t. eqb-true (home g r.node) s.role (and_parts _ _ t).0) refl (next-own g s seen rs d) e

walk_cases : (n : ℕ) (g : Grammar) (s : Site) (seen rs : List Ref) (e : Equation) (o : Option Given) → next_given g s seen rs ≡ o
    → ((seen rs : List Ref) → Member e (walk n g s seen rs) → (find s.equations e.left ≡ Some e.body) × (home g e.left.node ≡ s.role))
    → Member e (elim o [ None ↦ [] | Some d ↦ d.equation ∷ walk n g s (d.equation.left ∷ seen) (mentions d.equation.body ++ d.rest) ]) →
    (find s.equations e.left ≡ Some e.body) × (home g e.left.node ≡ s.role)
walk_cases n g s seen rs e None q f i = never i
walk_cases n g s seen rs e (Some d) q f (inl p) = subst (λ (e : Equation). (find s.equations e.left ≡ Some e.body) × (home g e.left.node ≡ s.role)) (sym p) (next-own g s seen rs d q)
walk_cases n g s seen rs e (Some d) q f (inr i) = f (d.equation.left ∷ seen) (mentions d.equation.body ++ d.rest) i

walk-own : (n : ℕ) (g : Grammar) (s : Site) (seen rs : List Ref) (e : Equation) → Member e (walk n g s seen rs) → (find s.equations e.left ≡ Some e.body) × (home g e.left.node ≡ s.role)
walk-own zero g s seen rs e m = never m
walk-own (suc n) g s seen rs e m = walk_cases n g s seen rs e (next_given g s seen rs) refl (λ seen rs. walk-own n g s seen rs e) m

load_cases : (b : Bool) (g : Grammar) (s : Site) (seen rs : List Ref) (e : Equation) → Member e (cond b (walk 64 g s seen rs) []) →
    (find s.equations e.left ≡ Some e.body) × (home g e.left.node ≡ s.role)
load_cases true g s seen rs e m = walk-own 64 g s seen rs e m
load_cases false g s seen rs e m = never m

pub load-own : (g : Grammar) (s : Site) (seen rs : List Ref) (e : Equation) → Member e (load_of g s seen rs) → (find s.equations e.left ≡ Some e.body) × (home g e.left.node ≡ s.role)
load-own g s seen rs e m = load_cases s.loads g s seen rs e m

pub load-none : (g : Grammar) (s : Site) (seen rs : List Ref) → s.loads ≡ false → load_of g s seen rs ≡ []
load-none g s seen rs e = ap (λ b. cond b (walk 64 g s seen rs) []) e

-- what is carried from here is known, and of another home than the one it is for
pub carries-own : (g : Grammar) (s : Site) (x : Joint) (a to : ℕ) → s.role ≡ a → (to ≡ a → Never) →
    ((e : Equation) → Member e s.equations → Member e x.equations) → (es : List Equation) →
    ((e : Equation) → Member e es → (find s.equations e.left ≡ Some e.body) × (home g e.left.node ≡ s.role)) → Carries g x to es
carries-own g s x a to er n sub es f =
    each_of (λ (e : Equation). Member e x.equations × (home g e.left.node ≡ to → Never)) es
    (λ e m. let (p, q) = f e m in (sub e (find-member s.equations e.left e.body p), λ h. n (sym h ∙ (q ∙ er))))

pub own-sent : (g : Grammar) (s : Site) (h : ℕ) → s.role ≡ h → (es : List Equation) →
    ((e : Equation) → Member e es → (find s.equations e.left ≡ Some e.body) × (home g e.left.node ≡ s.role)) →
    Each (λ (e : Equation). home g e.left.node ≡ h) es
own-sent g s h er es f = each_of (λ (e : Equation). home g e.left.node ≡ h) es (λ e m. (f e m).1 ∙ er)

-- two places of one message
pub one-place : (M : List Message) → Later Apart M → (j k : ℕ) (n m : Message) → slice_get M j ≡ Some n → slice_get M k ≡ Some m → Kin n m → Kin m n → j ≡ k
one-place [] l j k n m e f p q = absurd cc
one-place (z ∷ M) l zero zero n m e f p q = refl
one-place (z ∷ M) l zero (suc k) n m e f p q = never (each_member (Apart z) M m l.0 (member_got M k m f) (subst (λ (z : Message). Kin z m) (sym (same_Some _ _ e)) p))
one-place (z ∷ M) l (suc j) zero n m e f p q = never (each_member (Apart z) M n l.0 (member_got M j n e) (subst (λ (z : Message). Kin z n) (sym (same_Some _ _ f)) q))
one-place (z ∷ M) l (suc j) (suc k) n m e f p q = ap suc (one-place M l.1 j k n m e f p q)

back-told : (g : Grammar) (s : Site) (o : Option Body) (r : Ref) (from : ℕ) (b : Body) → o ≡ Some b → IsTold (record { left = r; body = b }) from (tell_back g s o r from)
back-told g s None r from b e = absurd cc
back-told g s (Some c) r from b e =
    let p : c ≡ b = same_Some _ _ e in
    subst (λ b. IsTold (record { left = r; body = b }) from (tell_back g s (Some c) r from)) p (load_of g s (r ∷ []) (mentions c), inl refl)

back-case : (g : Grammar) (s : Site) (o : Option Body) (r : Ref) (from : ℕ) (n : Message) → Member n (tell_back g s o r from) → (b : Body)
    × (o ≡ Some b) × (n ≡ tell g s (record { left = r; body = b }) from)
back-case g s None r from n m = never m
back-case g s (Some b) r from n (inl e) = (b, refl, e)
back-case g s (Some b) r from n (inr m) = never m

back-apart : (g : Grammar) (s : Site) (o : Option Body) (r : Ref) (from : ℕ) → Later Apart (tell_back g s o r from)
back-apart g s None r from = tt
back-apart g s (Some b) r from = (tt, tt)

module _ (g : Grammar) (loads : Bool) (S : ℕ → Site) (M : List Message) (D : ℕ → Type 0) (x : Joint) (I : Inv g loads S M D x) where
  -- without loads, what is brought is told
  light_told : (m : Message) (k : Kind) (e : Equation) → IsLight k → Sound g S x m.to k → Member e (carried k) → ((S (home g e.left.node)).watches e.left m.to ≡ true)
  light_told m (Calls c load) e l s i = never (subst (Member e) l i)
  light_told m (Asks r b) e l s i = never i
  light_told m (Tells f load) e l s (inl p) = subst (λ (e : Equation). ((S (home g e.left.node)).watches e.left m.to ≡ true)) (sym p) s.0
  light_told m (Tells f load) e l s (inr i) = never (subst (Member e) l i)

  pub brought_told : loads ≡ false → (b : ℕ) (r : Ref) (c : Body) → IsBrought D M b r c → ((S (home g r.node)).watches r b ≡ true)
  brought_told f b r c (k, m, e, d, t, i) =
      let mm = member_got M k m e in
      subst (λ b. ((S (home g r.node)).watches r b ≡ true)) t (light_told m m.kind (record { left = r; body = c }) (I.light f m mm) (I.sound m mm) i)

  kin_told : (m : Message) (k : Kind) (e : Equation) (load : List Equation) (to : ℕ) → m.to ≡ to → KindKin k (Tells e load) → Sound g S x m.to k → ((S (home g e.left.node)).watches e.left to ≡ true)
  kin_told m (Calls c l) e load to t z s = never z
  kin_told m (Asks r b) e load to t z s = never z
  kin_told m (Tells f l) e load to t z s = subst (λ b. ((S (home g e.left.node)).watches e.left b ≡ true)) t (subst (λ (r : Ref). ((S (home g r.node)).watches r m.to ≡ true)) z s.0)

  -- a Tell that was sent is for a watcher
  pub sent_told : (m n : Message) (e : Equation) (load : List Equation) (to : ℕ) → Member m M → n ≡ record { to = to; kind = Tells e load } →
      Kin m n → ((S (home g e.left.node)).watches e.left to ≡ true)
  sent_told m n e load to i p k =
      let k' = subst (λ n. Kin m n) p k in
      kin_told m m.kind e load to k'.0 k'.1 (I.sound m i)

  module _ (a k : ℕ) (m : Message) (at : slice_get M k ≡ Some m) (to : m.to ≡ a) (within : a < g.roles) (r : Ref) (from : ℕ) (is : m.kind ≡ Asks r from) (not_yet : (S a).watches r from ≡ false) where
    abbrev pub s' : Site
    s' = record (S a) { watches = watches_too (S a).watches r from; outbox = (S a).outbox ++ tell_back g (S a) (find (S a).equations r) r from }

    abbrev pub sent : List Message
    sent = tell_back g (S a) (find (S a).equations r) r from

    about : Sound g S x m.to (Asks r from)
    about = subst (λ k. Sound g S x m.to k) is (I.sound m (member_got M k m at))

    here : home g r.node ≡ a
    here = sym about.0 ∙ to

    elsewhere : from ≡ a → Never
    elsewhere e = about.1 (to ∙ sym e)

    no_watch : ((S (home g r.node)).watches r from ≡ true) → Never
    no_watch i = let z = subst (λ b. ((S b).watches r from ≡ true)) here i in absurd cc

    new_case : (n : Message) → Member n sent → (b : Body) × (find (S a).equations r ≡ Some b) × (n ≡ tell g (S a) (record { left = r; body = b }) from)
    new_case n i = back-case g (S a) (find (S a).equations r) r from n i

    watch_cases : (q : Ref) (to : ℕ) → (s'.watches q to ≡ true) → ((S a).watches q to ≡ true) ⊎ ((q ≡ r) × (to ≡ from))
    watch_cases q to i = elim (or_cases (ref_eq r q && nat_eq from to) ((S a).watches q to) i) [
      | inl e ↦ inr (let (p, z) = and_parts _ _ e in (sym (ref_eq-true r q p), sym (eqb-true from to z)))
      | inr o ↦ inl o
    ]

    now_watching : s'.watches r from ≡ true
    now_watching = or_left _ ((S a).watches r from) (and_from _ _ (ref_eq-self r) (eq-eqb from from refl))

    back_kind : (j : ℕ) (n : Message) (q : Kind) → n.kind ≡ q → slice_get M j ≡ Some n → n.to ≡ a → Mark loads s' q → Mark loads (S a) q ⊎ (j ≡ k)
    back_kind j n (Calls c l) e f t i = inl i
    back_kind j n (Tells e' l) e f t i = inl i
    back_kind j n (Asks r' b') e f t i =
        elim (watch_cases r' b' i) [
          | inl o ↦ inl o
          | inr p ↦ (let (u, v) = p in
              inr (one-place M I.apart j k n m f at
              (t ∙ sym to, subst (λ k. KindKin k m.kind) (sym e) (subst (λ k. KindKin (Asks r' b') k) (sym is) (u, v)))
              (to ∙ sym t, subst (λ k. KindKin m.kind k) (sym e) (subst (λ k. KindKin k (Asks r' b')) (sym is) (sym u, sym v)))))
        ]

    pub answering : Change g loads S M x a s' sent x (λ j. j ≡ k)
    answering = record {
      role = I.roles a;
      within = within;
      ordered = I.ordered a;
      flag = I.flags a;
      parts = I.parts a;
      whole_kept = λ e n. n;
      find_kept = λ r b f. f;
      homes = λ r b e. inr e;
      held = I.held a;
      held_other = λ h n i. i;
      held_kept = λ h n. (h, n, refl, refl, refl);
      stay = λ h n. inl n;
      call_kept = λ c n. inl n;
      inherited_kept = λ h n. (h, n, refl);
      called = λ h n. inr (inr (n, λ i. i));
      settled = I.settled a;
      asked_kept = λ r n. n;
      asked = λ r n. inl n;
      watched_kept = λ q to n. or_right _ ((S a).watches q to) n;
      watched = λ q to n. elim (watch_cases q to n) [ inl o ↦ inl o | inr p ↦ inr (ap (λ q. home g q.node) p.0 ∙ here, (λ i. (S (p.1 i)).asked (p.0 i)) ∙ about.2) ];
      tells = λ q to b n f. elim (watch_cases q to n) [
        | inl o ↦ inl (I.tells a q to b o f)
        | inr p ↦ inr (subst (λ q. IsTold (record { left = q; body = b }) to sent) (sym p.0)
            (subst (λ to. IsTold (record { left = r; body = b }) to sent) (sym p.1) (back-told g (S a) (find (S a).equations r) r from b
            (ap (find (S a).equations) (sym p.0) ∙ f))))
      ];
      foreign = λ r b f. inr (inl f);
      away = λ n i e. let (b, f, p) = new_case n i in elsewhere (sym (ap (λ (m : Message). m.to) p) ∙ e);
      sound = λ n i. let (b, f, p) = new_case n i in
          subst (λ (n : Message). NewSound g loads a s' x n.to n.kind) (sym p) (
            here,
            now_watching,
            carries-own g (S a) x a from (I.roles a) elsewhere (I.parts a) (record { left = r; body = b } ∷ load_of g (S a) (r ∷ []) (mentions b))
                (λ e j. elim j [
                  | inl q ↦ subst (λ (e : Equation). (find (S a).equations e.left ≡ Some e.body) × (home g e.left.node ≡ (S a).role)) (sym q) (f, here ∙ sym (I.roles a))
                  | inr j ↦ load-own g (S a) (r ∷ []) (mentions b) e j
                ]),
          );
      light = λ l n i. let (b, f, p) = new_case n i in subst (λ (n : Message). IsLight n.kind) (sym p) (load-none g (S a) (r ∷ []) (mentions b) (I.flags a l));
      outbox = refl;
      from_here = λ n i. let (b, f, p) = new_case n i in ap (λ (n : Message). sender g n.kind) p ∙ here;
      senders = λ n i. let (b, f, p) = new_case n i in subst (λ (n : Message). Sends_own g n.kind) (sym p)
          (refl, own-sent g (S a) (home g r.node) (I.roles a ∙ sym here) (load_of g (S a) (r ∷ []) (mentions b)) (load-own g (S a) (r ∷ []) (mentions b)));
      no_mark = λ n i. let (b, f, p) = new_case n i in
          subst (λ (n : Message). Mark loads (S n.to) n.kind → Never) (sym p)
          (λ z. elim (I.foreign from r z.1.0 z.1.1) [ inl h ↦ elsewhere (sym h ∙ here) | inr q ↦ no_watch (brought_told z.0 from r z.1.0 q) ]);
      not_sent = λ n o i j q. let (b, f, p) = new_case o j in no_watch (sent_told n o (record { left = r; body = b }) _ from i p q);
      apart = back-apart g (S a) (find (S a).equations r) r from;
      now_before = λ j e. subst (λ j. j < length M) (sym e) (slice_get_within M k m at);
      now_effect = λ j n e q. let p : m ≡ n = same_Some _ _ (sym at ∙ (ap (slice_get M) (sym e) ∙ q)) in
          (ap (λ (m : Message). m.to) (sym p) ∙ to, subst (λ k. Effect s' k) (sym is ∙ ap (λ (m : Message). m.kind) p) (now_watching));
      back = λ j n f t i. back_kind j n n.kind refl f t i;
    }
