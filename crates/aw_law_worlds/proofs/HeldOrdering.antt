-- Held nodes in order.
use Rattle.std.specs.Prelude.{nat_eq, ◌⊎◌}
use Rattle.std.proofs.Common.{Bool, List, [], ap, cond, false, inl, inr, map, refl, subst, sym, true, ℕ, ◌∙◌, ◌∷◌, ◌≡◌}
use Rattle.aw_list.specs.Members.{Member}
use Rattle.aw_list.proofs.Members.{never}
use Rattle.aw_term.specs.Configs.{State}
use Rattle.aw_term.specs.Names.{Node, node_lt}
use Rattle.aw_term.specs.Rules.{Grammar}
use Rattle.aw_term.specs.Trees.{Never}
use Rattle.aw_term.specs.WellFormed.{Each, Later}
use Rattle.aw_term.specs.Held.{Held, insert_all, insert_held, mark}
use Rattle.aw_term.proofs.NodeOrder.{node-no, node-trans, node-tri}
use Rattle.aw_accept.proofs.Fitting.{each_member}
use Rattle.aw_apply.specs.Made.{Call}
use Rattle.aw_law_sites.specs.Joint.{called_held}
use Rattle.aw_law_sites.proofs.AnyOrders.{Member-all_held, Member-insert_all, Member-insert_held, marked}
use Rattle.aw_law_sites.proofs.Lists.{each_of}
use Rattle.aw_law_sites.specs.Homes.{home}
use Rattle.aw_law_sites.specs.Sites.{Site}
use Rattle.aw_law_sites.specs.Telling.{calls_in}
use Rattle.aw_law_sites.specs.Worlds.{gather}
use Rattle.aw_law_worlds.proofs.Lists.{each_by}
use Rattle.aw_law_worlds.proofs.Parts.{HeldBefore}

order_cases : (b : Bool) (r q : Held) (qs zs : List Held) → node_lt r.node q.node ≡ b → (r.node ≡ q.node → Never) → Later HeldBefore (q ∷ qs) →
    Later HeldBefore zs → Each (λ z. (z ≡ r) ⊎ Member z qs) zs → Later HeldBefore (cond b (r ∷ q ∷ qs) (q ∷ zs))
order_cases true r q qs zs e n o oz z = ((e, each_by (HeldBefore q) (HeldBefore r) (λ x h. node-trans r.node q.node x.node e h) qs o.0), o)
order_cases false r q qs zs e n o oz z =
    let after : node_lt q.node r.node ≡ true = elim (node-tri r.node q.node) [ inl x ↦ absurd cc | inr x ↦ elim x [ inl y ↦ never (n y) | inr y ↦ y ] ] in
    (each_by (λ z. (z ≡ r) ⊎ Member z qs) (HeldBefore q) (λ x h. elim h [ inl a ↦ subst (λ x. HeldBefore q x) (sym a) after | inr m ↦ each_member (HeldBefore q) qs x o.0 m ]) zs z, oz)

pub insert-ordered : (r : Held) (c : List Held) → ((p : Held) → Member p c → r.node ≡ p.node → Never) → Later HeldBefore c → Later HeldBefore (insert_held r c)
insert-ordered r [] f o = (tt, tt)
insert-ordered r (q ∷ qs) f o =
    order_cases (node_lt r.node q.node) r q qs (insert_held r qs) refl (f q (inl refl)) o (insert-ordered r qs (λ p m. f p (inr m)) o.1)
    (each_of (λ z. (z ≡ r) ⊎ Member z qs) (insert_held r qs) (λ z m. Member-insert_held z r qs m))

pub all-ordered : (rs c : List Held) → Later (λ (a b : Held). a.node ≡ b.node → Never) rs → ((r : Held) → Member r rs → (p : Held) → Member p c →
    r.node ≡ p.node → Never) → Later HeldBefore c → Later HeldBefore (insert_all rs c)
all-ordered [] c l f o = o
all-ordered (r ∷ rs) c l f o =
    all-ordered rs (insert_held r c) l.1
    (λ x m p mp e. elim (Member-insert_held p r c mp) [
      | inl a ↦ each_member (λ (b : Held). r.node ≡ b.node → Never) rs x l.0 m
          (sym (ap (λ (r : Held). r.node) a) ∙ sym e)
      | inr a ↦ f x (inr m) p a e
    ])
    (insert-ordered r c (λ p m. f r (inl refl) p m) o)

pub mark-ordered : (n : Node) (st : State) (hs : List Held) → Later HeldBefore hs → Later HeldBefore (map (mark n st) hs)
mark-ordered n st [] o = tt
mark-ordered n st (h ∷ hs) o = (each hs o.0, mark-ordered n st hs o.1)
  where
    each : (ks : List Held) → Each (HeldBefore h) ks → Each (HeldBefore (mark n st h)) (map (mark n st) ks)
    each [] e = tt
    each (k ∷ ks) e = (
      let a = (marked n st h).0 in let b = (marked n st k).0 in subst (λ m. node_lt m (mark n st k).node ≡ true) (sym a)
          (subst (λ m. node_lt h.node m ≡ true) (sym b) e.0),
      each ks e.1,
    )

-- those in order differ
pub ordered-differ : (hs : List Held) → Later HeldBefore hs → Later (λ (a b : Held). a.node ≡ b.node → Never) hs
ordered-differ [] o = tt
ordered-differ (h ∷ hs) o = (each_by (HeldBefore h) (λ (b : Held). h.node ≡ b.node → Never) (λ b e p. node-no h.node (subst (λ m. node_lt h.node m ≡ true) (sym p) e)) hs o.0, ordered-differ hs o.1)

own_cases : (t : Bool) (g : Grammar) (role : ℕ) (c : Call) (cs : List Call) → Each (λ (h : Held). c.node ≡ h.node → Never) (calls_in g role cs) →
    Later (λ (a b : Held). a.node ≡ b.node → Never) (calls_in g role cs) → Later (λ (a b : Held). a.node ≡ b.node → Never)
    (cond t (called_held c ∷ calls_in g role cs) (calls_in g role cs))
own_cases true g role c cs e l = (e, l)
own_cases false g role c cs e l = l

pub own-differ : (g : Grammar) (role : ℕ) (cs : List Call) → ((h : Held) → (cs : List Call) → Member h (calls_in g role cs) → (d : Call) × Member d cs
    × (h ≡ called_held d)) → Later (λ (c d : Call). c.node ≡ d.node → Never) cs → Later (λ (a b : Held). a.node ≡ b.node → Never) (calls_in g role cs)
own-differ g role [] f l = tt
own-differ g role (c ∷ cs) f l =
    own_cases (nat_eq (home g c.node) role) g role c cs
    (each_of (λ (h : Held). c.node ≡ h.node → Never) (calls_in g role cs) (λ h m e. let (d, i, p) = f h cs m in
    each_member (λ (d : Call). c.node ≡ d.node → Never) cs d l.0 i (e ∙ ap (λ (h : Held). h.node) p)))
    (own-differ g role cs f l.1)

-- two lists in order with the same members are one
pub same_held : (c d : List Held) → Later HeldBefore c → Later HeldBefore d → ((p : Held) → Member p c → Member p d) → ((q : Held) → Member q d → Member q c) → c ≡ d
same_held [] [] o u f g = refl
same_held [] (q ∷ d) o u f g = never (g q (inl refl))
same_held (p ∷ c) [] o u f g = never (f p (inl refl))
same_held (p ∷ c) (q ∷ d) o u f g =
    let e : p ≡ q = heads (f p (inl refl)) (g q (inl refl)) in
    let t = same_held c d o.1 u.1
    (λ x m. tail_of x q d (f x (inr m)) (λ xq. node-no p.node (subst (λ (r : Held). node_lt p.node r.node ≡ true) (xq ∙ sym e) (each_member (HeldBefore p) c x o.0 m))))
    (λ y m. tail_of y p c (g y (inr m)) (λ yp. node-no q.node (subst (λ (r : Held). node_lt q.node r.node ≡ true) (yp ∙ e) (each_member (HeldBefore q) d y u.0 m)))) in
    λ i. e i ∷ t i
  where
    tail_of : (y q : Held) (d : List Held) → Member y (q ∷ d) → (y ≡ q → Never) → Member y d
    tail_of y q d (inl a) n = never (n a)
    tail_of y q d (inr a) n = a

    heads : Member p (q ∷ d) → Member q (p ∷ c) → p ≡ q
    heads (inl a) h = a
    heads (inr a) (inl b) = sym b
    heads (inr a) (inr b) = never (node-no p.node (node-trans p.node q.node p.node (each_member (HeldBefore p) c q o.0 b) (each_member (HeldBefore q) d p u.0 a)))

-- all nodes of some sites
pub gather-member : (ss : List Site) (h : Held) → Member h (gather ss) → (s : Site) × Member s ss × Member h s.held
gather-member [] h m = never m
gather-member (s ∷ ss) h m = elim (Member-insert_all h s.held (gather ss) m) [
  | inl o ↦ (s, inl refl, o)
  | inr o ↦ (let (t, i, j) = gather-member ss h o in (t, inr i, j))
]

pub gather-there : (ss : List Site) (s : Site) (h : Held) → Member s ss → Member h s.held → Member h (gather ss)
gather-there [] s h i m = never i
gather-there (t ∷ ss) s h (inl p) m = Member-all_held h t.held (gather ss) (inl (subst (λ (s : Site). Member h s.held) p m))
gather-there (t ∷ ss) s h (inr i) m = Member-all_held h t.held (gather ss) (inr (gather-there ss s h i m))

pub gather-ordered : (ss : List Site) → ((s : Site) → Member s ss → Later HeldBefore s.held) → Later (λ (s t : Site). (h k : Held) → Member h s.held →
    Member k t.held → h.node ≡ k.node → Never) ss → Later HeldBefore (gather ss)
gather-ordered [] f l = tt
gather-ordered (s ∷ ss) f l =
    all-ordered s.held (gather ss) (ordered-differ s.held (f s (inl refl)))
    (λ r m p mp e. let (t, i, j) = gather-member ss p mp in each_member (λ t. (h k : Held) → Member h s.held → Member k t.held → h.node ≡ k.node → Never) ss t l.0 i r p m j e)
    (gather-ordered ss (λ t i. f t (inr i)) l.1)
