-- A call or a tell that is new: what the site learns.
use Rattle.std.specs.Prelude.{slice_get, ◌⊎◌}
use Rattle.std.proofs.Common.{Bool, List, None, Option, Some, [], ap, cond, false, inl, inr, length, refl, subst, sym, true, ℕ, ◌<◌, ◌∙◌, ◌∷◌, ◌≡◌}
use Rattle.std.proofs.lemmas.Option.{same_Some, slice_get_within}
use Rattle.aw_list.specs.Members.{Member}
use Rattle.aw_list.proofs.Members.{member_left, member_right, member_split, never}
use Rattle.aw_term.specs.Names.{Ref, ref_eq}
use Rattle.aw_term.specs.Rules.{Grammar}
use Rattle.aw_term.specs.Trees.{Never}
use Rattle.aw_term.specs.WellFormed.{Each, Later}
use Rattle.aw_term.specs.Held.{Held}
use Rattle.aw_term.proofs.RefTests.{ref_eq-self, ref_eq-true}
use Rattle.aw_accept.proofs.Fitting.{each_member}
use Rattle.aw_store.specs.Equations.{Body, Equation, Map, find, mentions}
use Rattle.aw_store.proofs.MoreEquations.{find-left_more, find-right_more}
use Rattle.aw_apply.specs.Messages.{Message, carried}
use Rattle.aw_law_sites.specs.Joint.{Joint}
use Rattle.aw_law_sites.specs.Asking.{all_mentions, asking}
use Rattle.aw_law_sites.specs.Homes.{home}
use Rattle.aw_law_sites.specs.Receiving.{add_all, add_on}
use Rattle.aw_law_sites.specs.Sites.{Site}
use Rattle.aw_law_worlds.specs.Invariant.{sender}
use Rattle.aw_law_worlds.specs.Mentioned.{IsMentioned}
use Rattle.aw_law_worlds.proofs.AskingLemmas.{ask_case, asked_cases, asked_more, asks, asks_apart, asks_away, asks_no_mark, asks_not_sent, asks_sound, settles}
use Rattle.aw_law_worlds.proofs.Changes.{Change}
use Rattle.aw_law_worlds.proofs.Parts.{Effect, HeldBefore, HoldsAll, Inv, IsLight, Mark, Sends_own}

-- each member is found: lefts differ
abbrev pub Keyed : Map → Type 0
Keyed k = (e : Equation) → Member e k → find k e.left ≡ Some e.body

find_one : (e : Equation) → find (e ∷ []) e.left ≡ Some e.body
find_one e = ap (λ b. cond b (Some e.body) None) (ref_eq-self e.left)

found_cases : (b : Bool) (r : Ref) (e : Equation) (es : Map) (c : Body) → ref_eq r e.left ≡ b →
    (find es r ≡ Some c → Member (record { left = r; body = c }) es) → cond b (Some e.body) (find es r) ≡ Some c →
    Member (record { left = r; body = c }) (e ∷ es)
found_cases true r e es c p f q = let z = ref_eq-true r e.left p in let y : e.body ≡ c = same_Some _ _ q in inl (λ i. record { left = z i; body = sym y i })
found_cases false r e es c p f q = inr (f q)

-- what is found is a member
pub find-member : (k : Map) (r : Ref) (b : Body) → find k r ≡ Some b → Member (record { left = r; body = b }) k
find-member [] r b e = absurd cc
find-member (q ∷ k) r b e = found_cases (ref_eq r q.left) r q k b refl (find-member k r b) e

there_cases : (b : Bool) (r : Ref) (e : Equation) (es : Map) → ref_eq r e.left ≡ b → ((r ≡ e.left) ⊎ ((c : Body) × (find es r ≡ Some c))) → (c : Body) × (cond b (Some e.body) (find es r) ≡ Some c)
there_cases true r e es p f = (e.body, refl)
there_cases false r e es p (inr f) = f
there_cases false r e es p (inl q) = let z = subst (λ s. ref_eq r s ≡ true) q (ref_eq-self r) in absurd cc

pub member-found : (k : Map) (e : Equation) → Member e k → (c : Body) × (find k e.left ≡ Some c)
member-found [] e m = never m
member-found (q ∷ k) e (inl p) = there_cases (ref_eq e.left q.left) e.left q k refl (inl (ap (λ (e : Equation). e.left) p))
member-found (q ∷ k) e (inr m) = there_cases (ref_eq e.left q.left) e.left q k refl (inr (member-found k e m))

on_cases : (o : Option Body) (k : Map) (e q : Equation) → Member q (add_on o k e) → Member q k ⊎ (q ≡ e)
on_cases None k e q m = elim (member_split q k (e ∷ []) m) [ inl a ↦ inl a | inr a ↦ elim a [ inl p ↦ inr p | inr n ↦ never n ] ]
on_cases (Some b) k e q m = inl m

pub add-member : (k : Map) (es : List Equation) (q : Equation) → Member q (add_all k es) → Member q k ⊎ Member q es
add-member k [] q m = inl m
add-member k (e ∷ es) q m = elim (add-member (add_on (find k e.left) k e) es q m) [
  | inl a ↦ elim (on_cases (find k e.left) k e q a) [ inl b ↦ inl b | inr b ↦ inr (inl b) ]
  | inr a ↦ inr (inr a)
]

on_kept : (o : Option Body) (k : Map) (e : Equation) (r : Ref) (b : Body) → find k r ≡ Some b → find (add_on o k e) r ≡ Some b
on_kept None k e r b f = find-left_more k (e ∷ []) r b f
on_kept (Some c) k e r b f = f

pub add-kept : (k : Map) (es : List Equation) (r : Ref) (b : Body) → find k r ≡ Some b → find (add_all k es) r ≡ Some b
add-kept k [] r b f = f
add-kept k (e ∷ es) r b f = add-kept (add_on (find k e.left) k e) es r b (on_kept (find k e.left) k e r b f)

on_holds : (x : Map) → Keyed x → (k : Map) → ((e : Equation) → Member e k → Member e x) → (e : Equation) → Member e x → (o : Option Body) → find k e.left ≡ o → find (add_on o k e) e.left ≡ Some e.body
on_holds x kx k sub e m None f = find-right_more k (e ∷ []) e.left f ∙ find_one e
on_holds x kx k sub e m (Some b) f =
    let p = kx (record { left = e.left; body = b }) (sub _ (find-member k e.left b f)) in
    f ∙ (sym p ∙ kx e m)

pub add-holds : (x : Map) → Keyed x → (k : Map) → ((e : Equation) → Member e k → Member e x) → (es : List Equation) → Each (λ e. Member e x) es → HoldsAll (add_all k es) es
add-holds x kx k sub [] m = tt
add-holds x kx k sub (e ∷ es) m =
    let k1 = add_on (find k e.left) k e in (
      add-kept (add_on (find k e.left) k e) es e.left e.body (on_holds x kx k sub e m.0 (find k e.left) refl),
      add-holds x kx (add_on (find k e.left) k e) (λ q n. elim (on_cases (find k e.left) k e q n) [ inl a ↦ sub q a | inr a ↦ subst (λ q. Member q x) (sym a) m.0 ]) es m.1,
    )

pub mentions-of : (r : Ref) (es : List Equation) (e : Equation) → Member e es → Member r (mentions e.body) → Member r (all_mentions es)
mentions-of r [] e m n = never m
mentions-of r (x ∷ es) e (inl p) n = member_left r (mentions x.body) (all_mentions es) (subst (λ (e : Equation). Member r (mentions e.body)) p n)
mentions-of r (x ∷ es) e (inr m) n = member_right r (mentions x.body) (all_mentions es) (mentions-of r es e m n)

pub of-mentions : (r : Ref) (es : List Equation) → Member r (all_mentions es) → (e : Equation) × Member e es × Member r (mentions e.body)
of-mentions r [] m = never m
of-mentions r (x ∷ es) m = elim (member_split r (mentions x.body) (all_mentions es) m) [
  | inl a ↦ (x, inl refl, a)
  | inr a ↦ (let (e, b, c) = of-mentions r es a in (e, inr b, c))
]

module _ (g : Grammar) (loads : Bool) (S : ℕ → Site) (M : List Message) (D : ℕ → Type 0) (x : Joint) (I : Inv g loads S M D x) (keyed : Keyed x.equations)
    (a k : ℕ) (m : Message) (at : slice_get M k ≡ Some m) (to : m.to ≡ a) (within : a < g.roles)
    (H : List Held) (es : List Equation) (rs : List Ref)
    (in_order_ : Later HeldBefore H)
    (held_in : (h : Held) → Member h H → Member h x.held × (home g h.node ≡ a))
    (held_kept : (h : Held) → Member h (S a).held → Member h H)
    (held_mentions : (h : Held) (r : Ref) → Member h H → Member r h.inherited → Member h (S a).held ⊎ Member r rs)
    (carries : Each (λ (e : Equation). Member e x.equations × (home g e.left.node ≡ a → Never)) es)
    (brings : (e : Equation) → Member e es → Member e (carried m.kind))
    (es_mentions : (e : Equation) (r : Ref) → Member e es → Member r (mentions e.body) → Member r rs)
    (rs_mentioned : (r : Ref) → Member r rs → IsMentioned r x.equations x.held)
  where
    abbrev pub s1 : Site
    s1 = record (S a) { held = H; equations = add_all (S a).equations es }

    abbrev pub R : Site
    R = (asking g s1 [] rs).site

    abbrev pub out : List Message
    out = asks g loads S M D x I a s1 rs (I.roles a) refl

    find-cases : (r : Ref) (b : Body) → find (add_all (S a).equations es) r ≡ Some b → (find (S a).equations r ≡ Some b) ⊎ Member (record { left = r; body = b }) es
    find-cases r b f = go (find (S a).equations r) refl
      where
        go : (o : Option Body) → find (S a).equations r ≡ o → (find (S a).equations r ≡ Some b) ⊎ Member (record { left = r; body = b }) es
        go (Some c) q = inl (q ∙ (sym (add-kept (S a).equations es r c q) ∙ f))
        go None q = elim (add-member (S a).equations es (record { left = r; body = b }) (find-member _ r b f)) [
          | inl n ↦ (let (c, z) = member-found (S a).equations (record { left = r; body = b }) n in absurd cc)
          | inr n ↦ inr n
        ]

    pub learned : (back : (j : ℕ) (n : Message) → slice_get M j ≡ Some n → n.to ≡ a → Mark loads R n.kind → Mark loads (S a) n.kind ⊎ (j ≡ k))
        → Effect R m.kind → Change g loads S M x a R out x (λ j. j ≡ k)
    learned back effect = record {
      role = I.roles a;
      within = within;
      ordered = in_order_;
      flag = I.flags a;
      parts = λ e n. elim (add-member (S a).equations es e n)
          [ inl o ↦ I.parts a e o | inr o ↦ (each_member (λ (e : Equation). Member e x.equations × (home g e.left.node ≡ a → Never)) es e carries o).0 ];
      whole_kept = λ e n. n;
      find_kept = λ r b f. add-kept (S a).equations es r b f;
      homes = λ r b e. inr e;
      held = held_in;
      held_other = λ h n i. i;
      held_kept = λ h n. (h, held_kept h n, refl, refl, refl);
      stay = λ h n. inl (held_kept h n);
      call_kept = λ c n. inl n;
      inherited_kept = λ h n. (h, n, refl);
      called = λ h n. inr (inr (n, held_kept h));
      settled = λ r n. settles g loads S M D x I a s1 rs (I.roles a) refl [] (add-kept (S a).equations es) r (elim n [
        | inl e ↦ elim (add-member (S a).equations es e.0 e.1) [ inl o ↦ inl (inl (e.0, o, e.2)) | inr o ↦ inr (es_mentions e.0 r o e.2) ]
        | inr h ↦ elim (held_mentions h.0 r h.1 h.2) [ inl o ↦ inl (inr (h.0, o, h.2)) | inr o ↦ inr o ]
      ]);
      asked_kept = asked_more g loads S M D x I a s1 rs (I.roles a) refl [];
      asked = λ r n. elim (asked_cases g loads S M D x I a s1 rs (I.roles a) refl [] r n) [ inl o ↦ inl o | inr o ↦ inr (o.0, rs_mentioned r o.1) ];
      watched_kept = λ r to n. n;
      watched = λ r to n. inl n;
      tells = λ r to b n f.
          let (h, q) = I.watched a r to n in
          inl (I.tells a r to b n (subst (λ c. find (S c).equations r ≡ Some b) h
          (I.homes r b (elim (find-cases r b f) [
            | inl o ↦ keyed _ (I.parts a _ (find-member _ r b o))
            | inr o ↦ keyed _ (each_member (λ (e : Equation). Member e x.equations × (home g e.left.node ≡ a → Never)) es _ carries o).0
          ]))));
      foreign = λ r b f. elim (find-cases r b f) [ inl o ↦ inr (inl o) | inr o ↦ inr (inr (k, m, at, refl, to, brings _ o)) ];
      away = asks_away g loads S M D x I a s1 rs (I.roles a) refl;
      sound = asks_sound g loads S M D x I a s1 rs (I.roles a) refl x [];
      light = λ f n i. let (r, mr, q) = ask_case g loads S M D x I a s1 rs (I.roles a) refl n i in subst (λ (n : Message). IsLight n.kind) (sym q) tt;
      outbox = refl;
      from_here = λ n i. let (r, mr, q) = ask_case g loads S M D x I a s1 rs (I.roles a) refl n i in ap (λ (n : Message). sender g n.kind) q;
      senders = λ n i. let (r, mr, q) = ask_case g loads S M D x I a s1 rs (I.roles a) refl n i in subst (λ (n : Message). Sends_own g n.kind) (sym q) tt;
      no_mark = asks_no_mark g loads S M D x I a s1 rs (I.roles a) refl;
      not_sent = asks_not_sent g loads S M D x I a s1 rs (I.roles a) refl;
      apart = asks_apart g loads S M D x I a s1 rs (I.roles a) refl;
      now_before = λ j e. subst (λ j. j < length M) (sym e) (slice_get_within M k m at);
      now_effect = λ j n e q. let p : m ≡ n = same_Some _ _ (sym at ∙ (ap (slice_get M) (sym e) ∙ q)) in (ap (λ (m : Message). m.to) (sym p) ∙ to, subst (λ (m : Message). Effect R m.kind) p effect);
      back = back;
    }
