-- The test of messages is exact, and finds the number with which one was sent.
use Rattle.std.specs.Prelude.{slice_get, nat_eq, ◌&&◌, ◌⊎◌}
use Rattle.std.proofs.Common.{◌≡◌, ℕ, suc, ◌+◌, Bool, true, false, cond, List, [], ◌∷◌, Some, None, refl, sym, ap, subst, inl, inr, arith, eqb-true, eq-eqb}
use Rattle.std.proofs.lemmas.Bool.{and_parts, and_from}
use Rattle.std.proofs.lemmas.Option.{same_Some}
use Rattle.aw_list.specs.Members.{Member}
use Rattle.aw_name.specs.SameNodes.{node_Decides}
use Rattle.aw_term.specs.Names.{Ref, node_eq, ref_eq}
use Rattle.aw_term.specs.Trees.{Never, head_eq}
use Rattle.aw_term.proofs.HeadTests.{head_eq-true, head_eq-self}
use Rattle.aw_term.proofs.RefTests.{ref_eq-true, ref_eq-self}
use Rattle.aw_store.specs.Equations.{Body, Same, Is, Equation}
use Rattle.aw_apply.specs.Made.{Call}
use Rattle.aw_apply.specs.Messages.{Kind, Calls, Asks, Tells, Message}
use Rattle.aw_law_sites.specs.Receiving.{refs_eq, body_eq}
use Rattle.aw_law_journals.specs.SameMessages.{equation_eq, load_eq, call_eq, kind_eq, message_eq, number_of}

refs-true : (rs ss : List Ref) → refs_eq rs ss ≡ true → rs ≡ ss
refs-true [] [] e = refl
refs-true [] (s ∷ ss) e = absurd cc
refs-true (r ∷ rs) [] e = absurd cc
refs-true (r ∷ rs) (s ∷ ss) e =
    let (a, b) = and_parts (ref_eq r s) (refs_eq rs ss) e in
    let p = ref_eq-true r s a in
    let q = refs-true rs ss b in
    λ i. p i ∷ q i

refs-self : (rs : List Ref) → refs_eq rs rs ≡ true
refs-self [] = refl
refs-self (r ∷ rs) = and_from (ref_eq r r) (refs_eq rs rs) (ref_eq-self r) (refs-self rs)

body-true : (a b : Body) → body_eq a b ≡ true → a ≡ b
body-true (Same r) (Same s) e = ap Same (ref_eq-true r s e)
body-true (Same r) (Is k ss) e = absurd cc
body-true (Is h rs) (Same s) e = absurd cc
body-true (Is h rs) (Is k ss) e =
    let (a, b) = and_parts (head_eq h k) (refs_eq rs ss) e in
    let p = head_eq-true h k a in
    let q = refs-true rs ss b in
    λ i. Is (p i) (q i)

body-self : (b : Body) → body_eq b b ≡ true
body-self (Same r) = ref_eq-self r
body-self (Is h rs) = and_from (head_eq h h) (refs_eq rs rs) (head_eq-self h) (refs-self rs)

equation-true : (e f : Equation) → equation_eq e f ≡ true → e ≡ f
equation-true e f t =
    let (a, b) = and_parts (ref_eq e.left f.left) (body_eq e.body f.body) t in
    let p = ref_eq-true e.left f.left a in
    let q = body-true e.body f.body b in
    λ i. record { left = p i; body = q i }

equation-self : (e : Equation) → equation_eq e e ≡ true
equation-self e = and_from (ref_eq e.left e.left) (body_eq e.body e.body) (ref_eq-self e.left) (body-self e.body)

load-true : (es fs : List Equation) → load_eq es fs ≡ true → es ≡ fs
load-true [] [] t = refl
load-true [] (f ∷ fs) t = absurd cc
load-true (e ∷ es) [] t = absurd cc
load-true (e ∷ es) (f ∷ fs) t =
    let (a, b) = and_parts (equation_eq e f) (load_eq es fs) t in
    let p = equation-true e f a in
    let q = load-true es fs b in
    λ i. p i ∷ q i

load-self : (es : List Equation) → load_eq es es ≡ true
load-self [] = refl
load-self (e ∷ es) = and_from (equation_eq e e) (load_eq es es) (equation-self e) (load-self es)

call-true : (c d : Call) → call_eq c d ≡ true → c ≡ d
call-true c d t =
    let (a, b) = and_parts (node_eq c.node d.node) (nat_eq c.sort d.sort && refs_eq c.inherited d.inherited) t in
    let (s, r) = and_parts (nat_eq c.sort d.sort) (refs_eq c.inherited d.inherited) b in
    let p = (node_Decides c.node d.node).0 a in
    let q = eqb-true c.sort d.sort s in
    let u = refs-true c.inherited d.inherited r in
    λ i. record { node = p i; sort = q i; inherited = u i }

call-self : (c : Call) → call_eq c c ≡ true
call-self c =
    and_from (node_eq c.node c.node) (nat_eq c.sort c.sort && refs_eq c.inherited c.inherited) ((node_Decides c.node c.node).1 refl)
    (and_from (nat_eq c.sort c.sort) (refs_eq c.inherited c.inherited) (eq-eqb c.sort c.sort refl) (refs-self c.inherited))

kind-true : (a b : Kind) → kind_eq a b ≡ true → a ≡ b
kind-true (Calls c load) (Calls d other) t =
    let (a, b) = and_parts (call_eq c d) (load_eq load other) t in
    let p = call-true c d a in
    let q = load-true load other b in
    λ i. Calls (p i) (q i)
kind-true (Asks r from) (Asks s role) t =
    let (a, b) = and_parts (ref_eq r s) (nat_eq from role) t in
    let p = ref_eq-true r s a in
    let q = eqb-true from role b in
    λ i. Asks (p i) (q i)
kind-true (Tells e load) (Tells f other) t =
    let (a, b) = and_parts (equation_eq e f) (load_eq load other) t in
    let p = equation-true e f a in
    let q = load-true load other b in
    λ i. Tells (p i) (q i)
kind-true (Calls c load) (Asks s role) t = absurd cc
kind-true (Calls c load) (Tells f other) t = absurd cc
kind-true (Asks r from) (Calls d other) t = absurd cc
kind-true (Asks r from) (Tells f other) t = absurd cc
kind-true (Tells e load) (Calls d other) t = absurd cc
kind-true (Tells e load) (Asks s role) t = absurd cc

kind-self : (k : Kind) → kind_eq k k ≡ true
kind-self (Calls c load) = and_from (call_eq c c) (load_eq load load) (call-self c) (load-self load)
kind-self (Asks r from) = and_from (ref_eq r r) (nat_eq from from) (ref_eq-self r) (eq-eqb from from refl)
kind-self (Tells e load) = and_from (equation_eq e e) (load_eq load load) (equation-self e) (load-self load)

pub message-true : (m n : Message) → message_eq m n ≡ true → m ≡ n
message-true m n t =
    let (a, b) = and_parts (nat_eq m.to n.to) (kind_eq m.kind n.kind) t in
    let p = eqb-true m.to n.to a in
    let q = kind-true m.kind n.kind b in
    λ i. record { to = p i; kind = q i }

pub message-self : (m : Message) → message_eq m m ≡ true
message-self m = and_from (nat_eq m.to m.to) (kind_eq m.kind m.kind) (eq-eqb m.to m.to refl) (kind-self m.kind)

-- the number is one with which it was sent
found-at : (i : ℕ) (m n : Message) (ms : List Message) (k : ℕ) (b : Bool) → message_eq m n ≡ b → cond b (Some i) (number_of (suc i) m ms) ≡ Some k
    → (number_of (suc i) m ms ≡ Some k → (j : ℕ) × (k ≡ suc i + j) × (slice_get ms j ≡ Some m)) → (j : ℕ) × (k ≡ i + j) × (slice_get (n ∷ ms) j ≡ Some m)
found-at i m n ms k true t e f = let p : i ≡ k = same_Some _ _ e in (0, omega (arith, p), ap Some (sym (message-true m n t)))
found-at i m n ms k false t e f = let (j, p, g) = f e in (suc j, omega (arith, p), g)

pub number-found : (i : ℕ) (m : Message) (ms : List Message) (k : ℕ) → number_of i m ms ≡ Some k → (j : ℕ) × (k ≡ i + j) × (slice_get ms j ≡ Some m)
number-found i m [] k e = absurd cc
number-found i m (n ∷ ms) k e = found-at i m n ms k (message_eq m n) refl e (number-found (suc i) m ms k)

not-one : (m n : Message) → message_eq m n ≡ false → m ≡ n → Never
not-one m n t p = let z : message_eq m n ≡ true = subst (λ n. message_eq m n ≡ true) p (message-self m) in absurd cc

none-at : (i : ℕ) (m n : Message) (ms : List Message) (b : Bool) → message_eq m n ≡ b → cond b (Some i) (number_of (suc i) m ms) ≡ None → (number_of (suc i) m ms ≡ None → Member m ms → Never)
    → Member m (n ∷ ms) → Never
none-at i m n ms true t e f x = absurd cc
none-at i m n ms false t e f (inl p) = not-one m n t p
none-at i m n ms false t e f (inr y) = f e y

-- without one it was not sent
pub number-none : (i : ℕ) (m : Message) (ms : List Message) → number_of i m ms ≡ None → Member m ms → Never
number-none i m [] e x = x
number-none i m (n ∷ ms) e x = none-at i m n ms (message_eq m n) refl e (number-none (suc i) m ms) x

one-or : (m n : Message) (ms : List Message) (b : Bool) → message_eq m n ≡ b → Member m ms ⊎ (Member m ms → Never) → Member m (n ∷ ms) ⊎ (Member m (n ∷ ms) → Never)
one-or m n ms true t s = inl (inl (message-true m n t))
one-or m n ms false t (inl y) = inl (inr y)
one-or m n ms false t (inr f) = inr (λ x. elim x [ inl p ↦ not-one m n t p | inr y ↦ f y ])

-- either it was sent or it was not
pub sent_or_not : (m : Message) (ms : List Message) → Member m ms ⊎ (Member m ms → Never)
sent_or_not m [] = inr (λ x. x)
sent_or_not m (n ∷ ms) = one-or m n ms (message_eq m n) refl (sent_or_not m ms)
