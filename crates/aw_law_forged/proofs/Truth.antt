-- What a site knows of others, and which messages it takes in.
use Rattle.std.specs.Prelude.{◌⊎◌, ◌&&◌, nat_eq, nat_lt, not, slice_get}
use Rattle.std.proofs.Common.{◌≡◌, ℕ, ◌<◌, Bool, true, false, cond, List, [], ◌∷◌, ◌++◌, Option, Some, None, refl, sym, ap, ◌∙◌, subst, inl, inr}
use Rattle.std.proofs.lemmas.Bool.{and_from, eq-eqb, eqb-true, lt-ltb}
use Rattle.std.proofs.lemmas.Option.{same_Some}
use Rattle.aw_list.specs.Members.{Member}
use Rattle.aw_list.proofs.Members.{member_split, never}
use Rattle.aw_term.specs.Artifacts.{Words}
use Rattle.aw_term.specs.Held.{Held, held_of}
use Rattle.aw_term.specs.Names.{Ref, ref_eq}
use Rattle.aw_term.specs.Rules.{Grammar}
use Rattle.aw_term.specs.Trees.{Head, Con, Num, Text, Never, head_eq, nats_eq}
use Rattle.aw_term.specs.WellFormed.{Each, IsWellFormed}
use Rattle.aw_term.proofs.Eaches.{each_map}
use Rattle.aw_term.proofs.RefTests.{ref_eq-self}
use Rattle.aw_accept.proofs.Fitting.{each_member}
use Rattle.aw_store.specs.Equations.{Body, Equation, Is, Map, Same, find}
use Rattle.aw_apply.specs.Made.{Call, Making}
use Rattle.aw_apply.specs.Messages.{Kind, Calls, Asks, Tells, Message, Clash, OfNode, OfReference, carried, BadName, NotMine}
use Rattle.aw_law_sites.specs.Homes.{has_steps, home, parent}
use Rattle.aw_law_sites.specs.Reacting.{react, receive, received_on}
use Rattle.aw_law_sites.specs.Receiving.{about_ok, add_on, body_eq, call_clash, clash, clash_on, first_clash, is_mine, is_repeat, none_mine, refs_eq}
use Rattle.aw_law_sites.specs.SiteEvents.{SiteEvent, Chose, Got}
use Rattle.aw_law_sites.specs.Sites.{Site, Reaction}
use Rattle.aw_law_sites.specs.ValidNames.{message_ok, names_ok, origin_ok}
use Rattle.aw_law_sites.proofs.AnyOrders.{held_of-found}
use Rattle.aw_law_worlds.specs.Invariant.{as_call, calls_at, equation}
use Rattle.aw_law_worlds.proofs.Delivering.{not-eq}
use Rattle.aw_law_worlds.proofs.Learning.{find-member}
use Rattle.aw_law_worlds.proofs.Lists.{Member-filtered}
use Rattle.aw_law_worlds.proofs.Places.{member-get, same_or_not}
use Rattle.aw_law_forged.specs.Forged.{IsAtHome, IsOwnWord, SameKind, SameWord, calls_in, equations_in}
use Rattle.aw_law_forged.specs.Told.{ChildrenAreCalled, EquationsAreBrought, IsConflict, IsSent, IsTakenIn, IsToldTruth, MayHappen, SentIsValid, TruthAgrees, TruthIsTakenIn, WasNew, made_at, site_of}
use Rattle.aw_law_forged.proofs.Bringing.{Traced, traced}
use Rattle.aw_law_forged.proofs.Names.{About, Fits, named}
use Rattle.aw_law_forged.proofs.Once.{says_once}
use Rattle.aw_law_forged.proofs.OwnEquations.{own_equations_are_made}
use Rattle.aw_law_forged.proofs.OwnWords.{sent_is_own_word}
use Rattle.aw_law_forged.proofs.Sending.{sent-has}

-- ---- the same content does not clash

nats-refl : (xs : List ℕ) → nats_eq xs xs ≡ true
nats-refl [] = refl
nats-refl (x ∷ xs) = and_from (nat_eq x x) (nats_eq xs xs) (eq-eqb x x refl) (nats-refl xs)

head-refl : (h : Head) → head_eq h h ≡ true
head-refl (Con c) = eq-eqb c c refl
head-refl (Num n) = eq-eqb n n refl
head-refl (Text t) = nats-refl t

refs-refl : (rs : List Ref) → refs_eq rs rs ≡ true
refs-refl [] = refl
refs-refl (r ∷ rs) = and_from (ref_eq r r) (refs_eq rs rs) (ref_eq-self r) (refs-refl rs)

body-refl : (b : Body) → body_eq b b ≡ true
body-refl (Same r) = ref_eq-self r
body-refl (Is h rs) = and_from (head_eq h h) (refs_eq rs rs) (head-refl h) (refs-refl rs)

body-fits : (o : Option Body) (b : Body) (r : Option Clash) → ((a : Body) → o ≡ Some a → a ≡ b) → r ≡ None → clash_on o b r ≡ None
body-fits None b r f e = e
body-fits (Some a) b r f e = ap (λ t. cond t r (Some (record { kept = OfReference a; came = OfReference b }))) (subst (λ c. body_eq a c ≡ true) (f a refl) (body-refl a)) ∙ e

call-fits : (o : Option Held) (c : Call) (r : Option Clash) → ((h : Held) → o ≡ Some h → h.inherited ≡ c.inherited) → r ≡ None → call_clash o c r ≡ None
call-fits None c r f e = e
call-fits (Some h) c r f e =
    ap (λ t. cond t r (Some (record { kept = OfNode h.inherited; came = OfNode c.inherited }))) (subst (λ rs. refs_eq h.inherited rs ≡ true) (f h refl) (refs-refl h.inherited)) ∙ e

-- a member of a list with one more
split-last : (k : Map) (e q : Equation) → Member q (k ++ e ∷ []) → Member q k ⊎ (q ≡ e)
split-last k e q i = elim (member_split q k (e ∷ []) i) [ inl j ↦ inl j | inr j ↦ elim j [ inl p ↦ inr p | inr z ↦ never z ] ]

-- equations that agree with F, where what is held of their references does
module _ (F : Ref → Option Body) (Of : Ref → Type 0) where
  abbrev Agrees : List Equation → Type 0
  Agrees k = (e : Equation) → Member e k → Of e.left → F e.left ≡ Some e.body

  on-agrees : (k : Map) (e : Equation) (o : Option Body) → Agrees k → F e.left ≡ Some e.body → Agrees (add_on o k e)
  on-agrees k e None a f q i w = elim (split-last k e q i) [ inl j ↦ a q j w | inr p ↦ subst (λ (q : Equation). F q.left ≡ Some q.body) (sym p) f ]
  on-agrees k e (Some b) a f q i w = a q i w

  no-clash : (k : Map) (es : List Equation) → Agrees k → ((e : Equation) → Member e es → Of e.left × (F e.left ≡ Some e.body)) → first_clash k es ≡ None
  no-clash k [] a h = refl
  no-clash k (e ∷ es) a h =
      let (o, f) = h e (inl refl) in
      body-fits (find k e.left) e.body _ (λ b q. same_Some _ _ (sym (a (record { left = e.left; body = b }) (find-member k e.left b q) o) ∙ f))
      (no-clash (add_on (find k e.left) k e) es (on-agrees k e (find k e.left) a f) (λ e i. h e (inr i)))

-- ---- what happened at all roles

module _ (g : Grammar) (loads : Bool) (es : ℕ → List SiteEvent) (home_is : (a : ℕ) → Each (IsAtHome g a) (es a)) where
  abbrev K : ℕ → Site
  K a = site_of g loads es a

  abbrev IsTrue_at : Ref → Body → Type 0
  IsTrue_at r x = find (K (home g r.node)).equations r ≡ Some x

  trace : (a : ℕ) → Traced g loads a (es a) (K a) (made_at g loads es a)
  trace a = traced g loads a (es a) (home_is a)

  -- what a workspace sent it holds of its own
  carried-made : (a : ℕ) (ms : List Making) (k : Kind) → IsOwnWord a ms k → (e : Equation) → Member e (carried k) → Member e (equations_in ms)
  carried-made a ms (Calls c load) h e j = each_member (λ (e : Equation). Member e (equations_in ms)) load e h.1 j
  carried-made a ms (Asks r from) h e j = never j
  carried-made a ms (Tells q load) h e j = each_member (λ (e : Equation). Member e (equations_in ms)) (q ∷ load) e h j

  carried-home : (a : ℕ) (m : Message) → Member m (K a).outbox → (e : Equation) → Member e (carried m.kind) → home g e.left.node ≡ a
  carried-home a m i e j =
      let there = carried-made a (made_at g loads es a) m.kind (sent_is_own_word g loads a (es a) (home_is a) m i) e j in
      let own = subst (λ xs. Member e xs) (sym (own_equations_are_made g loads a (es a) (home_is a))) there in
      eqb-true (home g e.left.node) a (Member-filtered (λ (e : Equation). nat_eq (home g e.left.node) a) e (K a).equations own).1

  sent-true : (a : ℕ) (m : Message) → Member m (K a).outbox → (e : Equation) → Member e (carried m.kind) → IsTrue_at e.left e.body
  sent-true a m i e j = subst (λ a. find (K a).equations e.left ≡ Some e.body) (sym (carried-home a m i e j)) (sent-has g loads a (es a) (home_is a) m i e j)

  call-made : (a to : ℕ) (c : Call) (load : List Equation) → Member (calls_at to c load) (K a).outbox → Member c (calls_in (made_at g loads es a))
  call-made a to c load i = (sent_is_own_word g loads a (es a) (home_is a) (calls_at to c load) i).0

  call-home : (a to : ℕ) (c : Call) (load : List Equation) → Member (calls_at to c load) (K a).outbox → home g (parent c.node) ≡ a
  call-home a to c load i = (trace a).parents c (call-made a to c load i)

  -- ---- what a site knows

  pub brought : (b : ℕ) (r : Ref) (x : Body) → (home g r.node ≡ b → Never) → find (K b).equations r ≡ Some x
      → (m : Message) × WasNew g loads b (es b) m × Member (equation r x) (carried m.kind) × (IsSent g loads es m → IsTrue_at r x)
  brought b r x n f =
      let (m, w, i) = (trace b).equations (equation r x) (find-member (K b).equations r x f) n in
      (m, w, i, λ s. sent-true s.0 m s.2 (equation r x) i)

  pub called : (b : ℕ) (h : Held) → Member h (K b).held → has_steps h.node.steps ≡ true
      → ((home g (parent h.node) ≡ b) × Member (as_call h) (calls_in (made_at g loads es b)))
      ⊎ ((m : Message) × WasNew g loads b (es b) m × (IsSent g loads es m → Member (as_call h) (calls_in (made_at g loads es (home g (parent h.node))))))
  called b h i w = elim ((trace b).nodes h i w) [
    | inl z ↦ inl z
    | inr z ↦ inr (
      calls_at b (as_call h) z.0,
      z.1,
      λ s.
          subst (λ a. Member (as_call h) (calls_in (made_at g loads es a))) (sym (call-home s.0 b (as_call h) z.0 s.2)) (call-made s.0 b (as_call h) z.0 s.2),
    )
  ]

  pub agrees : (b : ℕ) → IsToldTruth g loads es b
      → ((r : Ref) (x : Body) → find (K b).equations r ≡ Some x → IsTrue_at r x)
      × ((h : Held) → Member h (K b).held → has_steps h.node.steps ≡ true → Member (as_call h) (calls_in (made_at g loads es (home g (parent h.node)))))
  agrees b told = (
    λ r x f. elim (same_or_not (home g r.node) b) [
      | inl p ↦ subst (λ a. find (K a).equations r ≡ Some x) (sym p) f
      | inr n ↦ (let (m, w, i, t) = brought b r x n f in t (told m w))
    ],
    λ h i w. elim (called b h i w) [ inl z ↦ subst (λ a. Member (as_call h) (calls_in (made_at g loads es a))) (sym z.0) z.1 | inr z ↦ z.2 (told z.0 z.1) ],
  )

pub equations_are_brought : (g : Grammar) → EquationsAreBrought g
equations_are_brought g loads es h = brought g loads es h

pub children_are_called : (g : Grammar) → ChildrenAreCalled g
children_are_called g loads es h = called g loads es h

pub truth_agrees : (g : Grammar) → TruthAgrees g
truth_agrees g loads es h = agrees g loads es h

-- ---- which messages it takes in

-- an event that may happen is at home
at-home : (g : Grammar) (role : ℕ) (e : SiteEvent) → MayHappen g role e → IsAtHome g role e
at-home g role (Chose c) h = h.0
at-home g role (Got m) h = tt

none-of : (g : Grammar) (role : ℕ) (es : List Equation) → ((e : Equation) → Member e es → home g e.left.node ≡ role → Never) → none_mine g role es ≡ true
none-of g role [] f = refl
none-of g role (e ∷ es) f = and_from (not (nat_eq (home g e.left.node) role)) (none_mine g role es) (not-eq _ role (f e (inl refl))) (none-of g role es (λ e i. f e (inr i)))

calls-inj : (c d : Call) (l k : List Equation) → Calls c l ≡ Calls d k → c ≡ d
calls-inj c d l k e = cc

kind-inj : (m n : Message) → m ≡ n → m.kind ≡ n.kind
kind-inj m n e = ap (λ (m : Message). m.kind) e

weigh : (o : Option Clash) (r : Bool) (x : Reaction) → IsTakenIn (received_on o r x) ⊎ IsConflict (received_on o r x)
weigh (Some c) r x = inr (c.kept, c.came, refl)
weigh None true x = inl (inl refl)
weigh None false x = inl (inr (x, refl))

take : (o : Option Clash) (r : Bool) (x : Reaction) → o ≡ None → IsTakenIn (received_on o r x)
take (Some c) r x e = absurd cc
take None true x e = inl refl
take None false x e = inr (x, refl)

module _ (w : Words) (g : Grammar) (formed : IsWellFormed w g) (loads : Bool) (es : ℕ → List SiteEvent) (may : (a : ℕ) → Each (MayHappen g a) (es a)) where
  home_is : (a : ℕ) → Each (IsAtHome g a) (es a)
  home_is a = each_map (MayHappen g a) (IsAtHome g a) (es a) (at-home g a) (may a)

  abbrev S : ℕ → Site
  S a = site_of g loads es a

  module _ (m : Message) (a : ℕ) (l : a < g.roles) (i : Member m (S a).outbox) where
    fits : Fits g a m
    fits = (named w g formed a l loads (es a) (may a)).sent m i

    to-role : (S m.to).role ≡ m.to
    to-role = (trace g loads es home_is m.to).is

    away-at : (e : Equation) → Member e (carried m.kind) → home g e.left.node ≡ m.to → Never
    away-at e j p = fits.away (sym p ∙ fits.own e j)

    origin : (k : Kind) → About g a m.to k → origin_ok g m.to k ≡ true
    origin (Calls c load) h = and_from (has_steps c.node.steps) (not (nat_eq (home g (parent c.node)) m.to)) h.1 (not-eq (home g (parent c.node)) m.to (λ p. fits.away (sym p ∙ h.2)))
    origin (Asks r from) h = not-eq from m.to (λ p. fits.away (sym p ∙ h.1))
    origin (Tells e load) h = refl

    mine : (k : Kind) → About g a m.to k → ((e : Equation) → Member e (carried k) → home g e.left.node ≡ m.to → Never) → about_ok g m.to k ≡ true
    mine (Calls c load) h f = and_from (nat_eq (home g c.node) m.to) (none_mine g m.to load) (eq-eqb (home g c.node) m.to (sym h.0)) (none-of g m.to load f)
    mine (Asks r from) h f = eq-eqb (home g r.node) m.to (sym h.0)
    mine (Tells e load) h f = none-of g m.to (e ∷ load) f

    -- the answer is decided by what is held
    answer : receive g (S m.to) m ≡ received_on (clash (S m.to) m.kind) (is_repeat (S m.to) m.kind) (react g (S m.to) m.kind)
    answer =
        let p = subst (λ b. message_ok g b m ≡ true) (sym to-role)
        (and_from (nat_lt m.to g.roles) (names_ok g m.kind && origin_ok g m.to m.kind) (lt-ltb m.to g.roles fits.within)
        (and_from (names_ok g m.kind) (origin_ok g m.to m.kind) fits.names (origin m.kind fits.about))) in
        let q = subst (λ b. is_mine g b m ≡ true) (sym to-role) (and_from (nat_eq m.to m.to) (about_ok g m.to m.kind) (eq-eqb m.to m.to refl) (mine m.kind fits.about away-at)) in
        λ i. cond (not (p i)) BadName (cond (not (q i)) NotMine (received_on (clash (S m.to) m.kind) (is_repeat (S m.to) m.kind) (react g (S m.to) m.kind)))

    valid : IsTakenIn (receive g (S m.to) m) ⊎ IsConflict (receive g (S m.to) m)
    valid = subst (λ x. IsTakenIn x ⊎ IsConflict x) (sym answer) (weigh (clash (S m.to) m.kind) (is_repeat (S m.to) m.kind) (react g (S m.to) m.kind))

    module _ (told : IsToldTruth g loads es m.to) where
      abbrev F : Ref → Option Body
      F r = find (S (home g r.node)).equations r

      abbrev Of : Ref → Type 0
      Of r = home g r.node ≡ m.to → Never

      held-agrees : Agrees F Of (S m.to).equations
      held-agrees e j n =
          let (o, v, k) = (trace g loads es home_is m.to).equations e j n in
          let s = told o v in
          sent-true g loads es home_is s.0 o s.2 e k

      fitting : (ls : List Equation) → ((e : Equation) → Member e ls → Member e (carried m.kind)) → first_clash (S m.to).equations ls ≡ None
      fitting ls f = no-clash F Of (S m.to).equations ls held-agrees (λ e j. (away-at e (f e j), sent-true g loads es home_is a m i e (f e j)))

      -- a node that is held was called with this message
      same-call : (c : Call) (load : List Equation) → m.kind ≡ Calls c load → (h : Held) → held_of c.node (S m.to).held ≡ Some h → h.inherited ≡ c.inherited
      same-call c load k h f =
          let (j, n) = held_of-found c.node (S m.to).held h f in
          let about : About g a m.to (Calls c load) = subst (λ k. About g a m.to k) k fits.about in
          let w = subst (λ n. has_steps n.steps ≡ true) (sym n) about.1 in
          elim ((trace g loads es home_is m.to).nodes h j w) [
            | inl z ↦ never (fits.away (sym z.0 ∙ (ap (λ n. home g (parent n)) n ∙ about.2)))
            | inr z ↦ (let s = told (calls_at m.to (as_call h) z.0) z.1 in
                let p : s.0 ≡ a = sym (call-home g loads es home_is s.0 m.to (as_call h) z.0 s.2) ∙ (ap (λ n. home g (parent n)) n ∙ about.2) in
                one-call c load k h n z.0 (subst (λ a. Member (calls_at m.to (as_call h) z.0) (S a).outbox) p s.2))
          ]
        where
          one-call : (c : Call) (load : List Equation) → m.kind ≡ Calls c load → (h : Held) → h.node ≡ c.node → (other : List Equation)
              → Member (calls_at m.to (as_call h) other) (S a).outbox → h.inherited ≡ c.inherited
          one-call c load k h n other u =
              let (x, e) = member-get (S a).outbox m i in
              let (y, f) = member-get (S a).outbox (calls_at m.to (as_call h) other) u in
              let word : SameWord m (calls_at m.to (as_call h) other) = (refl, subst (λ k. SameKind k (Calls (as_call h) other)) (sym k) (sym n)) in
              let at = says_once g loads a (es a) (home_is a) x y m (calls_at m.to (as_call h) other) e f word in
              let same : m ≡ calls_at m.to (as_call h) other = same_Some _ _ (sym e ∙ (ap (slice_get (S a).outbox) at ∙ f)) in
              ap (λ (c : Call). c.inherited) (sym (calls-inj c (as_call h) load other (sym k ∙ kind-inj m (calls_at m.to (as_call h) other) same)))

      no-conflict : (k : Kind) → m.kind ≡ k → clash (S m.to) k ≡ None
      no-conflict (Calls c load) k = call-fits (held_of c.node (S m.to).held) c _ (same-call c load k) (fitting load (λ e j. subst (λ k. Member e (carried k)) (sym k) j))
      no-conflict (Asks r from) k = refl
      no-conflict (Tells e load) k = fitting (e ∷ load) (λ q j. subst (λ k. Member q (carried k)) (sym k) j)

      taken-in : IsTakenIn (receive g (S m.to) m)
      taken-in = subst IsTakenIn (sym answer) (take (clash (S m.to) m.kind) (is_repeat (S m.to) m.kind) (react g (S m.to) m.kind) (no-conflict m.kind refl))

pub sent_is_valid : (w : Words) (g : Grammar) → IsWellFormed w g → SentIsValid g
sent_is_valid w g formed loads es may m s = valid w g formed loads es may m s.0 s.1 s.2

pub truth_is_taken_in : (w : Words) (g : Grammar) → IsWellFormed w g → TruthIsTakenIn g
truth_is_taken_in w g formed loads es may m s told = taken-in w g formed loads es may m s.0 s.1 s.2 told
