-- A message that was sent is new or a repeat, and its delivery keeps the invariant.
use Rattle.std.specs.Prelude.{is_some, nat_eq, nat_lt, not, slice_get, ◌&&◌, ◌⊎◌}
use Rattle.std.proofs.Common.{Bool, List, None, Option, Some, [], ap, arith, cond, false, inl, inr, refl, subst, sym, true, ℕ, ◌++◌, ◌<◌, ◌∙◌, ◌∷◌, ◌≡◌}
use Rattle.std.proofs.lemmas.Bool.{and_from, and_parts, eq-eqb, eqb-true, lt-ltb}
use Rattle.std.proofs.lemmas.Option.{same_Some}
use Rattle.aw_list.specs.Members.{Member}
use Rattle.aw_list.proofs.Members.{member_got, member_left, member_right, member_split, never}
use Rattle.aw_term.specs.Names.{Node, Ref, Step, below, node_eq, ref_eq}
use Rattle.aw_term.specs.Rules.{Grammar}
use Rattle.aw_term.specs.Trees.{Never, head_eq}
use Rattle.aw_term.specs.WellFormed.{Each}
use Rattle.aw_term.specs.Held.{Held, held_of, insert_held}
use Rattle.aw_name.specs.SameNodes.{node_self}
use Rattle.aw_term.proofs.RefTests.{ref_eq-self}
use Rattle.aw_term.proofs.HeadTests.{head_eq-self as head-refl}
use Rattle.aw_base.specs.ChoiceFits.{ref_ok}
use Rattle.aw_accept.proofs.Fitting.{each_member}
use Rattle.aw_store.specs.Equations.{Body, Equation, Is, Map, Same, find, mentions}
use Rattle.aw_apply.specs.Made.{Call}
use Rattle.aw_apply.specs.Messages.{Asks, Calls, Kind, Message, Tells, carried, BadName, New, NotMine, Repeat, Clash, OfNode, OfReference}
use Rattle.aw_law_sites.specs.Joint.{Joint, called_held}
use Rattle.aw_law_sites.proofs.AnyOrders.{Member-insert_held, Member-inserted_held, held_of-found}
use Rattle.aw_law_sites.specs.Asking.{all_mentions, asking}
use Rattle.aw_law_sites.specs.Homes.{front, has_steps, home, parent}
use Rattle.aw_law_sites.specs.Reacting.{add_held, react, receive, received_on}
use Rattle.aw_law_sites.specs.Receiving.{about_ok, add_all, add_on, all_held, body_eq, call_clash, clash, clash_on, first_clash, is_repeat, none_mine, refs_eq}
use Rattle.aw_law_sites.specs.Sites.{Reaction, Site}
use Rattle.aw_law_sites.specs.ValidNames.{body_ok, call_ok, equation_ok, equations_ok, names_ok, origin_ok, refs_ok}
use Rattle.aw_law_worlds.specs.Invariant.{IsValid}
use Rattle.aw_law_worlds.specs.Mentioned.{IsMentioned}
use Rattle.aw_law_worlds.proofs.Answering.{answering, one-place}
use Rattle.aw_law_worlds.proofs.Changes.{Change}
use Rattle.aw_law_worlds.proofs.HeldOrdering.{insert-ordered}
use Rattle.aw_law_worlds.proofs.Learning.{Keyed, add-holds, add-kept, add-member, find-member, learned, member-found, mentions-of, of-mentions}
use Rattle.aw_law_worlds.proofs.Lists.{each_by}
use Rattle.aw_law_worlds.proofs.Parts.{Carries, Effect, HoldsAll, Inv, IsLight, Is_held, KindKin, Mark, Sound}

pub refs-refl : (rs : List Ref) → refs_eq rs rs ≡ true
refs-refl [] = refl
refs-refl (r ∷ rs) = and_from (ref_eq r r) (refs_eq rs rs) (ref_eq-self r) (refs-refl rs)

body-refl : (b : Body) → body_eq b b ≡ true
body-refl (Same r) = ref_eq-self r
body-refl (Is h rs) = and_from (head_eq h h) (refs_eq rs rs) (head-refl h) (refs-refl rs)

-- known equations do not clash
clash_cases : (o : Option Body) (b : Body) (r : Option Clash) → ((a : Body) → o ≡ Some a → a ≡ b) → r ≡ None → clash_on o b r ≡ None
clash_cases None b r f e = e
clash_cases (Some a) b r f e = ap (λ t. cond t r (Some (record { kept = OfReference a; came = OfReference b }))) (subst (λ c. body_eq a c ≡ true) (f a refl) (body-refl a)) ∙ e

on-known : (x k : Map) (e : Equation) (o : Option Body) → ((e : Equation) → Member e k → Member e x) → Member e x → (q : Equation) → Member q (add_on o k e) → Member q x
on-known x k e None sub m q n = elim (member_split q k (e ∷ []) n) [ inl a ↦ sub q a | inr a ↦ elim a [ inl p ↦ subst (λ q. Member q x) (sym p) m | inr z ↦ never z ] ]
on-known x k e (Some b) sub m q n = sub q n

no-clash : (x : Map) → Keyed x → (k : Map) → ((e : Equation) → Member e k → Member e x) → (es : List Equation) → Each (λ e. Member e x) es → first_clash k es ≡ None
no-clash x kx k sub [] m = refl
no-clash x kx k sub (e ∷ es) m =
    clash_cases (find k e.left) e.body _ (λ a f. same_Some _ _ (sym (kx (record { left = e.left; body = a }) (sub _ (find-member k e.left a f))) ∙ kx e m.0))
    (no-clash x kx (add_on (find k e.left) k e) (on-known x k e (find k e.left) sub m.0) es m.1)

-- all held, and known: held with this content
some_cases : (x k : Map) → Keyed x → ((e : Equation) → Member e k → Member e x) → (e : Equation) → Member e x → (o : Option Body) → find k e.left ≡ o → is_some o ≡ true → find k e.left ≡ Some e.body
some_cases x k kx sub e m None f t = absurd cc
some_cases x k kx sub e m (Some a) f t = f ∙ (sym (kx (record { left = e.left; body = a }) (sub _ (find-member k e.left a f))) ∙ kx e m)

held-holds : (x : Map) → Keyed x → (k : Map) → ((e : Equation) → Member e k → Member e x) → (es : List Equation) → Each (λ e. Member e x) es → all_held k es ≡ true → HoldsAll k es
held-holds x kx k sub [] m t = tt
held-holds x kx k sub (e ∷ es) m t =
    let (p, q) = and_parts (is_some (find k e.left)) (all_held k es) t in
    (some_cases x k kx sub e m.0 (find k e.left) refl p, held-holds x kx k sub es m.1 q)

holds-held : (k : Map) (es : List Equation) → HoldsAll k es → all_held k es ≡ true
holds-held k [] h = refl
holds-held k (e ∷ es) h = and_from (is_some (find k e.left)) (all_held k es) (ap is_some h.0) (holds-held k es h.1)

-- no node of this name
none_cases : (b : Bool) (q : Held) (o : Option Held) → cond b (Some q) o ≡ None → (b ≡ false) × (o ≡ None)
none_cases true q o e = absurd cc
none_cases false q o e = (refl, e)

pub held_of-none : (n : Node) (hs : List Held) → held_of n hs ≡ None → (h : Held) → Member h hs → h.node ≡ n → Never
held_of-none n [] e h m f = never m
held_of-none n (q ∷ qs) e h m f =
    let (a, b) = none_cases (node_eq n q.node) q (held_of n qs) e in
    elim m [
      | inl x ↦ (let z : node_eq n n ≡ false = subst (λ k. node_eq n k ≡ false) (sym (ap (λ (h : Held). h.node) x) ∙ f) a in let y = node_self n in absurd cc)
      | inr x ↦ held_of-none n qs b h x f
    ]

pub front-end : (xs : List Step) (s : Step) → front (xs ++ s ∷ []) ≡ xs
front-end [] s = refl
front-end (x ∷ []) s = refl
front-end (x ∷ y ∷ xs) s = ap (λ ys. x ∷ ys) (front-end (y ∷ xs) s)

pub parent-below : (n : Node) (r k : ℕ) → parent (below n r k) ≡ n
parent-below n r k = let e = front-end n.steps (record { rule = r; child = k }) in λ i. record { start = n.start; case = n.case; steps = e i }

pub has-end : (xs : List Step) (s : Step) → has_steps (xs ++ s ∷ []) ≡ true
has-end [] s = refl
has-end (x ∷ xs) s = refl

pub not-eq : (a b : ℕ) → (a ≡ b → Never) → not (nat_eq a b) ≡ true
not-eq a b n = go (nat_eq a b) refl
  where
    go : (t : Bool) → nat_eq a b ≡ t → not t ≡ true
    go true e = never (n (eqb-true a b e))
    go false e = refl

pub each-ok : (g : Grammar) (es : List Equation) → ((e : Equation) → Member e es → equation_ok g e ≡ true) → equations_ok g es ≡ true
each-ok g [] f = refl
each-ok g (e ∷ es) f = and_from (equation_ok g e) (equations_ok g es) (f e (inl refl)) (each-ok g es (λ e m. f e (inr m)))

each-away : (g : Grammar) (a : ℕ) (es : List Equation) → ((e : Equation) → Member e es → home g e.left.node ≡ a → Never) → none_mine g a es ≡ true
each-away g a [] f = refl
each-away g a (e ∷ es) f = and_from (not (nat_eq (home g e.left.node) a)) (none_mine g a es) (not-eq _ a (f e (inl refl))) (each-away g a es (λ e m. f e (inr m)))

ref-ok : (g : Grammar) (r : Ref) (rs : List Ref) → Member r rs → refs_ok g rs ≡ true → ref_ok g r ≡ true
ref-ok g r [] m e = never m
ref-ok g r (s ∷ rs) (inl p) e = subst (λ r. ref_ok g r ≡ true) (sym p) (and_parts (ref_ok g s) (refs_ok g rs) e).0
ref-ok g r (s ∷ rs) (inr m) e = ref-ok g r rs m (and_parts (ref_ok g s) (refs_ok g rs) e).1

body-ok : (g : Grammar) (r : Ref) (b : Body) → Member r (mentions b) → body_ok g b ≡ true → ref_ok g r ≡ true
body-ok g r (Same s) (inl p) e = subst (λ r. ref_ok g r ≡ true) (sym p) e
body-ok g r (Same s) (inr m) e = never m
body-ok g r (Is h rs) m e = ref-ok g r rs m (and_parts _ (refs_ok g rs) e).1

pub mention-ok : (g : Grammar) (x : Joint) → IsValid g x → (r : Ref) → IsMentioned r x.equations x.held → ref_ok g r ≡ true
mention-ok g x v r (inl (e, m, n)) = body-ok g r e.body n (and_parts (ref_ok g e.left) (body_ok g e.body) (v.equations e m)).1
mention-ok g x v r (inr (h, m, n)) = ref-ok g r h.inherited n (and_parts _ _ (v.held h m)).1

accept-true : (b : Bool) (x : Reaction) → b ≡ true → received_on None b x ≡ Repeat
accept-true b x e = ap (λ b. received_on None b x) e

accept-false : (b : Bool) (x : Reaction) → b ≡ false → received_on None b x ≡ New x
accept-false b x e = ap (λ b. received_on None b x) e

bool-cases : (b : Bool) → (b ≡ true) ⊎ (b ≡ false)
bool-cases true = inl refl
bool-cases false = inr refl

module _ (g : Grammar) (loads : Bool) (S : ℕ → Site) (M : List Message) (D : ℕ → Type 0) (x : Joint) (I : Inv g loads S M D x)
    (keyed : Keyed x.equations) (one : (h h' : Held) → Member h x.held → Member h' x.held → h.node ≡ h'.node → h ≡ h') (valid : IsValid g x)
    (a k : ℕ) (m : Message) (at : slice_get M k ≡ Some m) (to : m.to ≡ a) (within : a < g.roles) where
  about : (q : Kind) → m.kind ≡ q → Sound g S x a q
  about q e = subst (λ a. Sound g S x a q) to (subst (λ q. Sound g S x m.to q) e (I.sound m (member_got M k m at)))

  sub : (e : Equation) → Member e (S a).equations → Member e x.equations
  sub = I.parts a

  known : (es : List Equation) → Carries g x a es → Each (λ e. Member e x.equations) es
  known es c = each_by (λ (e : Equation). Member e x.equations × (home g e.left.node ≡ a → Never)) (λ e. Member e x.equations) (λ e p. p.0) es c

  known-at : (es : List Equation) → Carries g x a es → (e : Equation) → Member e es → Member e x.equations
  known-at es c e i = (each_member (λ (e : Equation). Member e x.equations × (home g e.left.node ≡ a → Never)) es e c i).0

  away-at : (es : List Equation) → Carries g x a es → (e : Equation) → Member e es → home g e.left.node ≡ a → Never
  away-at es c e i = (each_member (λ (e : Equation). Member e x.equations × (home g e.left.node ≡ a → Never)) es e c i).1

  -- the called node is known with this content
  called-known : (c : Call) → (Member (called_held c) x.held ⊎ Is_held c (S a).held) → (h : Held) × Member h x.held × (h.node ≡ c.node) × (h.inherited ≡ c.inherited)
  called-known c (inl i) = (called_held c, i, refl, refl)
  called-known c (inr (h, i, n, so, q)) = (h, (I.held a h i).0, n, q)

  called-ok : (c : Call) → (Member (called_held c) x.held ⊎ Is_held c (S a).held) → call_ok g c ≡ true
  called-ok c z =
      let (h, i, n, q) = called-known c z in
      subst (λ n. call_ok g (record { node = n; sort = c.sort; inherited = c.inherited }) ≡ true) n
      (subst (λ is'. call_ok g (record { node = h.node; sort = c.sort; inherited = is' }) ≡ true) q (valid.held h i))

  names : (q : Kind) → Sound g S x a q → names_ok g q ≡ true
  names (Calls c load) (t, p, z, cs) = and_from (call_ok g c) (equations_ok g load) (called-ok c z) (each-ok g load (λ e i. valid.equations e (known-at load cs e i)))
  names (Asks r from) (t, n, i) = and_from (ref_ok g r) (nat_lt from g.roles) (mention-ok g x valid r (I.asked from r i).1) (lt-ltb from g.roles (I.range from r i))
  names (Tells e load) (w, cs) = and_from (equation_ok g e) (equations_ok g load) (valid.equations e cs.0.0) (each-ok g load (λ q i. valid.equations q (known-at load cs.1 q i)))

  origin : (q : Kind) → Sound g S x a q → origin_ok g (S a).role q ≡ true
  origin (Calls c load) (t, (p, r, i, e, n), z, cs) =
      subst (λ nd. (has_steps nd.steps && not (nat_eq (home g (parent nd)) (S a).role)) ≡ true) (sym e)
      (and_from _ _ (has-end p.steps (record { rule = r; child = i }))
      (not-eq (home g (parent (below p r i))) (S a).role (λ q. n (ap (home g) (sym (parent-below p r i)) ∙ (q ∙ I.roles a)))))
  origin (Asks r from) (t, n, i) = not-eq from (S a).role (λ q. n (sym (I.roles a) ∙ sym q))
  origin (Tells e load) z = refl

  about-ok : (q : Kind) → Sound g S x a q → about_ok g (S a).role q ≡ true
  about-ok (Calls c load) (t, p, z, cs) = and_from _ _ (eq-eqb (home g c.node) (S a).role (sym t ∙ sym (I.roles a)))
      (subst (λ b. none_mine g b load ≡ true) (sym (I.roles a)) (each-away g a load (away-at load cs)))
  about-ok (Asks r from) (t, n, i) = eq-eqb (home g r.node) (S a).role (sym t ∙ sym (I.roles a))
  about-ok (Tells e load) (w, cs) = subst (λ b. none_mine g b (e ∷ load) ≡ true) (sym (I.roles a)) (each-away g a (e ∷ load) (away-at (e ∷ load) cs))

  call-clash : (c : Call) (o : Option Held) (r : Option Clash) → held_of c.node (S a).held ≡ o → (Member (called_held c) x.held ⊎ Is_held c (S a).held) → r ≡ None → call_clash o c r ≡ None
  call-clash c None r f z e = e
  call-clash c (Some h) r f z e =
      let (i, n) = held_of-found c.node (S a).held h f in
      let (h', i', n', q') = called-known c z in
      let p = one h h' (I.held a h i).0 i' (n ∙ sym n') in
      let q = ap (λ (h : Held). h.inherited) p ∙ q' in
      ap (λ t. cond t r (Some (record { kept = OfNode h.inherited; came = OfNode c.inherited }))) (subst (λ rs. refs_eq h.inherited rs ≡ true) q (refs-refl h.inherited)) ∙ e

  no_clash : (q : Kind) → Sound g S x a q → clash (S a) q ≡ None
  no_clash (Calls c load) (t, p, z, cs) = call-clash c (held_of c.node (S a).held) _ refl z (no-clash x.equations keyed (S a).equations sub load (known load cs))
  no_clash (Asks r from) z = refl
  no_clash (Tells e load) (w, cs) = no-clash x.equations keyed (S a).equations sub (e ∷ load) (known (e ∷ load) cs)

  -- the answer is decided by whether it is a repeat
  answer : receive g (S a) m ≡ received_on None (is_repeat (S a) m.kind) (react g (S a) m.kind)
  answer =
      let s = about m.kind refl in
      let p = and_from _ _ (lt-ltb m.to g.roles (omega (arith, within, to))) (and_from _ _ (names m.kind s) (origin m.kind s)) in
      let q = and_from _ _ (eq-eqb m.to (S a).role (to ∙ sym (I.roles a))) (about-ok m.kind s) in
      let r = no_clash m.kind s in
      λ i. cond (not (p i)) BadName (cond (not (q i)) NotMine (received_on (r i) (is_repeat (S a) m.kind) (react g (S a) m.kind)))

  is-held : (c : Call) (o : Option Held) → held_of c.node (S a).held ≡ o → is_some o ≡ true → (Member (called_held c) x.held ⊎ Is_held c (S a).held) → Is_held c (S a).held
  is-held c None f t z = absurd cc
  is-held c (Some h) f t (inr z) = z
  is-held c (Some h) f t (inl z) =
      let (i, n) = held_of-found c.node (S a).held h f in
      let p = one h (called_held c) (I.held a h i).0 z n in
      (h, i, n, ap (λ (h : Held). h.sort) p, ap (λ (h : Held). h.inherited) p)

  repeat-effect : (q : Kind) → Sound g S x a q → is_repeat (S a) q ≡ true → Effect (S a) q
  repeat-effect (Calls c load) (t, p, z, cs) e =
      let (u, v) = and_parts _ _ e in
      (is-held c (held_of c.node (S a).held) refl u z, held-holds x.equations keyed (S a).equations sub load (known load cs) v)
  repeat-effect (Asks r from) z e = e
  repeat-effect (Tells q load) (w, cs) e = held-holds x.equations keyed (S a).equations sub (q ∷ load) (known (q ∷ load) cs) e

  -- what is new was not delivered
  effect-repeat : (c : Call) (load : List Equation) → Effect (S a) (Calls c load) → is_repeat (S a) (Calls c load) ≡ true
  effect-repeat c load ((h, i, n, so, q), hs) = and_from _ _ (some_held (held_of c.node (S a).held) refl) (holds-held (S a).equations load hs)
    where
      some_held : (o : Option Held) → held_of c.node (S a).held ≡ o → is_some o ≡ true
      some_held None f = never (held_of-none c.node (S a).held f h i n)
      some_held (Some u) f = refl

  new-call : (c : Call) (load : List Equation) → m.kind ≡ Calls c load → is_repeat (S a) (Calls c load) ≡ false → (o : Option Held) → held_of c.node (S a).held ≡ o → o ≡ None
  new-call c load e f None h = refl
  new-call c load e f (Some u) h =
      let (i, n) = held_of-found c.node (S a).held u h in
      let d = (I.effect k m at).1 (subst (λ b. Mark loads (S b) m.kind) (sym to) (subst (λ q. Mark loads (S a) q) (sym e) (u, i, n))) in
      let t = effect-repeat c load (subst (λ q. Effect (S a) q) e (subst (λ b. Effect (S b) m.kind) to ((I.effect k m at).0 d))) in
      absurd cc

  same-place : (j : ℕ) (n : Message) → slice_get M j ≡ Some n → n.to ≡ a → (q r : Kind) → n.kind ≡ q → m.kind ≡ r → KindKin q r → KindKin r q → j ≡ k
  same-place j n f t q r e e' z w =
      one-place M I.apart j k n m f at
      (t ∙ sym to, subst (λ k. KindKin k m.kind) (sym e) (subst (λ k. KindKin q k) (sym e') z))
      (to ∙ sym t, subst (λ k. KindKin m.kind k) (sym e) (subst (λ k. KindKin k q) (sym e') w))

  load-light : loads ≡ false → (c : Call) (load : List Equation) → m.kind ≡ Calls c load → load ≡ []
  load-light f c load e = subst IsLight e (I.light f m (member_got M k m at))

  tell-light : loads ≡ false → (q : Equation) (load : List Equation) → m.kind ≡ Tells q load → load ≡ []
  tell-light f q load e = subst IsLight e (I.light f m (member_got M k m at))

  abbrev Goes : Kind → Type 0
  Goes q = Change g loads S M x a (react g (S a) q).site (react g (S a) q).sent x (λ j. j ≡ k)

  module _ (c : Call) (load : List Equation) (e : m.kind ≡ Calls c load) (gone : held_of c.node (S a).held ≡ None) where
    sd : Sound g S x a (Calls c load)
    sd = about (Calls c load) e

    abbrev H : List Held
    H = insert_held (called_held c) (S a).held

    abbrev rs : List Ref
    rs = c.inherited ++ all_mentions load

    there : Member (called_held c) x.held
    there = elim sd.2 [ inl i ↦ i | inr z ↦ never (held_of-none c.node (S a).held gone z.0 z.1 z.2) ]

    call_back : (j : ℕ) (n : Message) (q : Kind) → n.kind ≡ q → slice_get M j ≡ Some n → n.to ≡ a →
        Mark loads (asking g (record (S a) { held = H; equations = add_all (S a).equations load }) [] rs).site q → Mark loads (S a) q ⊎ (j ≡ k)
    call_back j n (Calls c' l) p f t (h, i, w) =
        elim (Member-insert_held h (called_held c) (S a).held i) [
          | inl z ↦ (let u = ap (λ (h : Held). h.node) z in inr (same-place j n f t (Calls c' l) (Calls c load) p e (sym w ∙ u) (sym u ∙ w)))
          | inr o ↦ inl (h, o, w)
        ]
    call_back j n (Asks r b) p f t i = inl i
    call_back j n (Tells q l) p f t (lf, (b, w)) =
        inl (lf, (b, subst (λ es. find (add_all (S a).equations es) q.left ≡ Some b) (load-light lf c load e) w))

    new_call : Change g loads S M x a (asking g (record (S a) { held = H; equations = add_all (S a).equations load }) [] rs).site
        (asking g (record (S a) { held = H; equations = add_all (S a).equations load }) [] rs).sent x (λ j. j ≡ k)
    new_call = learned g loads S M D x I keyed a k m at to within H load rs
        (insert-ordered (called_held c) (S a).held (λ p m e. held_of-none c.node (S a).held gone p m (sym e)) (I.ordered a))
        (λ h i. elim (Member-insert_held h (called_held c) (S a).held i) [ inl z ↦ subst (λ (h : Held). Member h x.held × (home g h.node ≡ a)) (sym z) (there, sym sd.0) | inr o ↦ I.held a h o ])
        (λ h i. Member-inserted_held h (called_held c) (S a).held (inr i))
        (λ h r i n. elim (Member-insert_held h (called_held c) (S a).held i)
        [ inl z ↦ inr (member_left r c.inherited (all_mentions load) (subst (λ (h : Held). Member r h.inherited) z n)) | inr o ↦ inl o ])
        sd.3
        (λ q i. subst (λ k. Member q (carried k)) (sym e) i)
        (λ q r i n. member_right r c.inherited (all_mentions load) (mentions-of r load q i n))
        (λ r i. elim (member_split r c.inherited (all_mentions load) i) [
          | inl o ↦ inr (called_held c, there, o)
          | inr o ↦ (let (q, j, n) =
              of-mentions r load o in inl (q, known-at load sd.3 q j, n))
        ])
        (λ j n f t i. call_back_to j n f t i)
        (subst (λ k. Effect (asking g (record (S a) { held = H; equations = add_all (S a).equations load }) [] rs).site k) (sym e)
        ((called_held c, Member-inserted_held (called_held c) (called_held c) (S a).held (inl refl), refl, refl, refl), add-holds x.equations keyed (S a).equations sub load (known load sd.3)))
      where
        call_back_to : (j : ℕ) (n : Message) → slice_get M j ≡ Some n → n.to ≡ a →
            Mark loads (asking g (record (S a) { held = H; equations = add_all (S a).equations load }) [] rs).site n.kind → Mark loads (S a) n.kind ⊎ (j ≡ k)
        call_back_to j n f t i = call_back j n n.kind refl f t i

  module _ (q : Equation) (load : List Equation) (e : m.kind ≡ Tells q load) where
    td : Sound g S x a (Tells q load)
    td = about (Tells q load) e

    abbrev T : Site
    T = (asking g (record (S a) { equations = add_all (S a).equations (q ∷ load) }) [] (all_mentions (q ∷ load))).site

    tell_cases : (u : Equation) (b : Body) → load ≡ [] → find (add_all (S a).equations (q ∷ load)) u.left ≡ Some b → (find (S a).equations u.left ≡ Some b) ⊎ (u.left ≡ q.left)
    tell_cases u b l w = go (find (S a).equations u.left) refl
      where
        go : (o : Option Body) → find (S a).equations u.left ≡ o → (find (S a).equations u.left ≡ Some b) ⊎ (u.left ≡ q.left)
        go (Some c) p = inl (p ∙ (sym (add-kept (S a).equations (q ∷ load) u.left c p) ∙ w))
        go None p =
            elim (add-member (S a).equations (q ∷ load) (record { left = u.left; body = b }) (find-member _ u.left b w)) [
              | inl n ↦ (let (c, z) = member-found (S a).equations (record { left = u.left; body = b }) n in absurd cc)
              | inr n ↦ elim n [ inl z ↦ inr (ap (λ (e : Equation). e.left) z) | inr z ↦ never (subst (Member (record { left = u.left; body = b })) l z) ]
            ]

    tell_back_to : (j : ℕ) (n : Message) (r : Kind) → n.kind ≡ r → slice_get M j ≡ Some n → n.to ≡ a → Mark loads T r → Mark loads (S a) r ⊎ (j ≡ k)
    tell_back_to j n (Calls c' l) p f t i = inl i
    tell_back_to j n (Asks r b) p f t i = inl i
    tell_back_to j n (Tells u l) p f t (lf, (b, w)) =
        elim (tell_cases u b (tell-light lf q load e) w) [
          | inl o ↦ inl (lf, (b, o))
          | inr z ↦ inr (same-place j n f t (Tells u l) (Tells q load) p e z (sym z))
        ]

    new_tell : Goes (Tells q load)
    new_tell = learned g loads S M D x I keyed a k m at to within (S a).held (q ∷ load) (all_mentions (q ∷ load)) (I.ordered a)
        (I.held a) (λ h i. i) (λ h r i n. inl i) td.1
        (λ u i. subst (λ k. Member u (carried k)) (sym e) i)
        (λ u r i n. mentions-of r (q ∷ load) u i n)
        (λ r i. let (u, j, n) = of-mentions r (q ∷ load) i in inl (u, known-at (q ∷ load) td.1 u j, n))
        (λ j n f t i. tell_back_to j n n.kind refl f t i)
        (subst (λ k. Effect T k) (sym e) (add-holds x.equations keyed (S a).equations sub (q ∷ load) (known (q ∷ load) td.1)))

  new : (q : Kind) → m.kind ≡ q → is_repeat (S a) q ≡ false → Goes q
  new (Calls c load) e f =
      let gone = new-call c load e f (held_of c.node (S a).held) refl in
      subst (λ o. Change g loads S M x a (asking g (record (S a) { held = add_held o c (S a).held; equations = add_all (S a).equations load }) []
      (c.inherited ++ all_mentions load)).site
      (asking g (record (S a) { held = add_held o c (S a).held; equations = add_all (S a).equations load }) []
      (c.inherited ++ all_mentions load)).sent x (λ j. j ≡ k))
      (sym gone) (new_call c load e gone)
  new (Asks r from) e f = answering g loads S M D x I a k m at to within r from e f
  new (Tells q load) e f = new_tell q load e

  pub received : ((receive g (S a) m ≡ New (react g (S a) m.kind)) × Goes m.kind) ⊎ ((receive g (S a) m ≡ Repeat) × Effect (S a) m.kind)
  received = elim (bool-cases (is_repeat (S a) m.kind)) [
    | inl t ↦ inr (answer ∙ accept-true _ _ t, repeat-effect m.kind (about m.kind refl) t)
    | inr f ↦ inl (answer ∙ accept-false _ _ f, new m.kind refl f)
  ]

  known-repeat : (q : Kind) → Effect (S a) q → is_repeat (S a) q ≡ true
  known-repeat (Calls c load) f = effect-repeat c load f
  known-repeat (Asks r from) f = f
  known-repeat (Tells e load) f = holds-held (S a).equations (e ∷ load) f

  -- what a delivered message has left makes it a repeat
  pub repeats : Effect (S a) m.kind → receive g (S a) m ≡ Repeat
  repeats f = answer ∙ accept-true (is_repeat (S a) m.kind) (react g (S a) m.kind) (known-repeat m.kind f)
