-- Lists that keep the strict order of nodes.
use Rattle.std.proofs.Common.{◌≡◌, Bool, true, false, cond, [], ◌∷◌, refl, sym, ◌∙◌, subst, inl, inr}
use Rattle.std.specs.Prelude.{◌⊎◌}
use Rattle.aw_list.specs.Members.{Member}
use Rattle.aw_list.proofs.Members.{never}
use Rattle.aw_term.specs.Trees.{Never}
use Rattle.aw_term.specs.Names.{node_lt}
use Rattle.aw_term.specs.Configs.{Row, Config, insert_row}
use Rattle.aw_term.specs.WellFormed.{Each, Later}
use Rattle.aw_accept.proofs.ConfigLemmas.{Member-insert_row}
use Rattle.aw_law_sites.proofs.Lists.{each_of}
use Rattle.aw_accept.proofs.Fitting.{each_member}
use Rattle.aw_term.proofs.Eaches.{each_map}
use Rattle.aw_term.proofs.NodeOrder.{node-no, node-trans, node-tri}

-- rows in order
abbrev pub Before : Row → Row → Type 0
Before p q = node_lt p.node q.node ≡ true

abbrev pub IsInOrder : Config → Type 0
IsInOrder c = Later Before c

order_cases : (b : Bool) (r q : Row) (qs zs : Config) → node_lt r.node q.node ≡ b → (r.node ≡ q.node → Never) → IsInOrder (q ∷ qs) → IsInOrder zs →
    Each (λ z. (z ≡ r) ⊎ Member z qs) zs → IsInOrder (cond b (r ∷ q ∷ qs) (q ∷ zs))
order_cases true r q qs zs e n o oz z = ((e, each_map (Before q) (Before r) qs (λ x h. node-trans r.node q.node x.node e h) o.0), o)
order_cases false r q qs zs e n o oz z =
    let after : node_lt q.node r.node ≡ true = elim (node-tri r.node q.node) [ inl x ↦ absurd cc | inr x ↦ elim x [ inl y ↦ never (n y) | inr y ↦ y ] ] in
    (each_map (λ z. (z ≡ r) ⊎ Member z qs) (Before q) zs (λ x h. elim h [ inl a ↦ subst (λ x. Before q x) (sym a) after | inr m ↦ each_member (Before q) qs x o.0 m ]) z, oz)

pub insert-in_order : (r : Row) (c : Config) → ((p : Row) → Member p c → r.node ≡ p.node → Never) → IsInOrder c → IsInOrder (insert_row r c)
insert-in_order r [] f o = (tt, tt)
insert-in_order r (q ∷ qs) f o =
    order_cases (node_lt r.node q.node) r q qs (insert_row r qs) refl (f q (inl refl)) o (insert-in_order r qs (λ p m. f p (inr m)) o.1)
    (each_of (λ z. (z ≡ r) ⊎ Member z qs) (insert_row r qs) (λ z m. Member-insert_row z r qs m))

-- two lists in order with the same rows are one
pub same_rows : (c d : Config) → IsInOrder c → IsInOrder d → ((p : Row) → Member p c → (q : Row) × Member q d × (p ≡ q)) → ((q : Row) → Member q d → (p : Row) × Member p c × (p ≡ q)) → c ≡ d
same_rows [] [] o u f g = refl
same_rows [] (q ∷ d) o u f g = never (g q (inl refl)).1
same_rows (p ∷ c) [] o u f g = never (f p (inl refl)).1
same_rows (p ∷ c) (q ∷ d) o u f g =
    let e : p ≡ q = heads (f p (inl refl)) (g q (inl refl)) in
    let t = same_rows c d o.1 u.1
    (λ x m. let (y, my, xy) = f x (inr m) in (
      y,
      tail_of x y q d my xy (λ yq. node-no p.node (subst (λ (r : Row). node_lt p.node r.node ≡ true) (xy ∙ (yq ∙ sym e))
          (each_member (Before p) c x o.0 m))),
      xy,
    ))
    (λ y m. let (x, mx, xy) = g y (inr m) in (
      x,
      tail_of y x p c mx (sym xy) (λ xp. node-no q.node (subst (λ (r : Row). node_lt q.node r.node ≡ true) (sym xy ∙ (xp ∙ e))
          (each_member (Before q) d y u.0 m))),
      xy,
    )) in
    λ i. e i ∷ t i
  where
    tail_of : (x y q : Row) (d : Config) → Member y (q ∷ d) → x ≡ y → (y ≡ q → Never) → Member y d
    tail_of x y q d (inl a) xy n = never (n a)
    tail_of x y q d (inr a) xy n = a

    heads : ((y : Row) × Member y (q ∷ d) × (p ≡ y)) → ((x : Row) × Member x (p ∷ c) × (x ≡ q)) → p ≡ q
    heads (y, inl a, py) h = py ∙ a
    heads (y, inr a, py) (x, inl b, xq) = sym b ∙ xq
    heads (y, inr a, py) (x, inr b, xq) =
        let up : node_lt q.node p.node ≡ true = subst (λ (r : Row). node_lt q.node r.node ≡ true) (sym py) (each_member (Before q) d y u.0 a) in
        let down : node_lt p.node q.node ≡ true = subst (λ (r : Row). node_lt p.node r.node ≡ true) xq (each_member (Before p) c x o.0 b) in
        never (node-no p.node (node-trans p.node q.node p.node down up))
