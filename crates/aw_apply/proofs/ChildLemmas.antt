-- The children of a taken rule, one after the other.
use Rattle.std.proofs.Common.{◌≡◌, ℕ, zero, suc, ◌+◌, ◌<◌, ◌≤◌, List, [], ◌∷◌, ◌++◌, length, map, drop, get_or, refl, ap, sym, ◌∙◌, arith, append_assoc}
use Rattle.std.proofs.lemmas.List.{at_drop_more, map-append}
use Rattle.aw_term.specs.Names.{Node, Ref, below, result}
use Rattle.aw_term.specs.Rules.{upto}
use Rattle.aw_term.specs.Rules as R
use Rattle.aw_term.specs.WellFormed.{symbols_of, child_symbols}
use Rattle.aw_term.specs.Views.{term_of}
use Rattle.aw_term.proofs.Joined.{upto_end}
use Rattle.aw_grammar.specs.declared.rule.Sort.{Sort}
use Rattle.aw_grammar.specs.declared.rule.Child.{Child}
use Rattle.aw_grammar.specs.GrammarView.{child_of}
use Rattle.aw_store.specs.Equations.{Equation}
use Rattle.aw_apply.specs.Made.{Laid, lay_list, lay_children, child_refs}
use Rattle.aw_apply.specs.MadeView.{with_one, as_children, laid_behind}
use Rattle.aw_apply.specs.declared.making.MadeChild.{MadeChild}
use Rattle.aw_apply.proofs.LayLemmas.{joined, before, joined-one, lay_list-next}

-- one result more
pub results_more : (n : Node) (old base : List Ref) (j : ℕ) → old ≡ base ++ map (result n) (upto 1 j) → old ++ result n (j + 1) ∷ [] ≡ base ++ map (result n) (upto 1 (j + 1))
results_more n old base j e =
    let step : j + 1 ≡ suc j = omega arith in
    let last : 1 + j ≡ j + 1 = omega arith in
    ap (λ xs. xs ++ result n (j + 1) ∷ []) e
    ∙ append_assoc base (map (result n) (upto 1 j)) (result n (j + 1) ∷ [])
    ∙ ap (λ xs. base ++ xs) (ap (λ m. map (result n) (upto 1 j) ++ result n m ∷ []) (sym last) ∙ sym (map-append (result n) (upto 1 j) ((1 + j) ∷ []))
    ∙ ap (map (result n)) (sym (upto_end 1 j) ∙ ap (upto 1) (sym step)))

-- The nodes of a rule's children: one node more
pub nodes_more : (n : Node) (r j : ℕ) (xs : List Node) → xs ≡ map (below n r) (upto 1 j) → xs ++ below n r (j + 1) ∷ [] ≡ map (below n r) (upto 1 (j + 1))
nodes_more n r j xs e =
    let step : j + 1 ≡ suc j = omega arith in
    let last : 1 + j ≡ j + 1 = omega arith in
    ap (λ ys. ys ++ below n r (j + 1) ∷ []) e
    ∙ ap (λ m. map (below n r) (upto 1 j) ++ below n r m ∷ []) (sym last)
    ∙ sym (map-append (below n r) (upto 1 j) ((1 + j) ∷ []))
    ∙ ap (map (below n r)) (sym (upto_end 1 j) ∙ ap (upto 1) (sym step))

node_from : (n : Node) (r m k i : ℕ) (x : Node) → i < k → x ≡ get_or (map (below n r) (upto m k)) i x → x ≡ below n r (m + i)
node_from n r m zero i x l e = absurd (omega (arith, l))
node_from n r m (suc k) zero x l e = e ∙ ap (below n r) (omega arith)
node_from n r m (suc k) (suc i) x l e = node_from n r (suc m) k i x (omega (arith, l)) e ∙ ap (below n r) (omega arith)

nodes_from-length : (n : Node) (r m k : ℕ) → length (map (below n r) (upto m k)) ≡ k
nodes_from-length n r m zero = refl
nodes_from-length n r m (suc k) = ap suc (nodes_from-length n r (suc m) k)

-- the node of a child, by its place
pub node_at : (n : Node) (r k i : ℕ) (x : Node) (nodes : List Node) → nodes ≡ map (below n r) (upto 1 k) → i < k → x ≡ get_or nodes i x → x ≡ below n r (i + 1)
node_at n r k i x nodes w l e = node_from n r 1 k i x l (e ∙ ap (λ ys. get_or ys i x) w) ∙ ap (below n r) (omega arith)

pub within_nodes : (n : Node) (r k i : ℕ) (nodes : List Node) → nodes ≡ map (below n r) (upto 1 k) → i < k → i < length nodes
within_nodes n r k i nodes w l = omega (arith, l, ap length w, nodes_from-length n r 1 k)

-- the results of one child more
pub refs_more : (n : Node) (r : ℕ) (sorts : List Sort) (cs : List Child) (i : ℕ) (x : Child) (at : Node) (old new base : List Ref) → i < length cs → x ≡ get_or cs i x → at ≡ below n r (i + 1) →
    new ≡ old ++ map (result at) (upto 1 (child_of sorts x).outs) →
    old ++ child_refs n r (i + 1) (map (child_of sorts) (drop i cs)) ≡ base →
    new ++ child_refs n r (i + 1 + 1) (map (child_of sorts) (drop (i + 1) cs)) ≡ base
refs_more n r sorts cs i x at old new base l e f g w =
    let step : i + 1 + 1 ≡ suc (i + 1) = omega arith in
    let rest = map (child_of sorts) (drop (i + 1) cs) in
    let outs = (child_of sorts x).outs in
    ap (λ m. new ++ child_refs n r m rest) step
    ∙ ap (λ ys. ys ++ child_refs n r (suc (i + 1)) rest) (g ∙ ap (λ z. old ++ map (result z) (upto 1 outs)) f)
    ∙ append_assoc old (map (result (below n r (i + 1))) (upto 1 outs)) (child_refs n r (suc (i + 1)) rest)
    ∙ ap (λ ys. old ++ child_refs n r (i + 1) (map (child_of sorts) ys)) (sym (at_drop_more (λ ys. ys) cs i x l ∙ ap (λ y. y ∷ drop (i + 1) cs) (sym e)))
    ∙ w

-- the symbols of the children from a place on
pub child_more : (sorts : List Sort) (cs : List Child) (i : ℕ) (x : Child) → i < length cs → x ≡ get_or cs i x →
    child_symbols (map (child_of sorts) (drop i cs)) ≡ symbols_of (map term_of x.args) + child_symbols (map (child_of sorts) (drop (i + 1) cs))
child_more sorts cs i x l e = ap (λ ys. child_symbols (map (child_of sorts) ys)) (at_drop_more (λ ys. ys) cs i x l ∙ ap (λ y. y ∷ drop (i + 1) cs) (sym e))

pub symbols_apart : (s t : List Sort) (cs : List Child) → child_symbols (map (child_of s) cs) ≡ child_symbols (map (child_of t) cs)
symbols_apart s t [] = refl
symbols_apart s t (c ∷ cs) = ap (λ m. symbols_of (map term_of c.args) + m) (symbols_apart s t cs)

-- a child whose inherited values were laid down
abbrev pub child_at : Node → Laid (List Ref) → Laid MadeChild
child_at n l = record { roots = record { node = n; inherited = l.roots }; equations = l.equations; next = l.next }

-- one more child
pub one_called : (old new : List Equation) (cs ds : List MadeChild) (k m : ℕ) (node low : Node) (roots : List Ref) (next : ℕ) (l : Laid (List Ref)) →
    node ≡ low → record { roots = roots; equations = new; next = next } ≡ laid_behind old l →
    ds ≡ cs ++ record { node = node; inherited = roots } ∷ [] → m ≡ next → record { roots = ds; equations = new; next = m } ≡ with_one
    (record { roots = cs; equations = old; next = k }) (child_at low l)
one_called old new cs ds k m node low roots next l en el ed em =
    λ i. record {
      roots = (ed ∙ ap (λ z. cs ++ record { node = z; inherited = roots } ∷ []) en ∙ ap (λ (z : Laid (List Ref)). cs ++ record { node = low; inherited = z.roots } ∷ []) el) i;
      equations = (el i).equations;
      next = (em ∙ ap (λ (z : Laid (List Ref)). z.next) el) i;
    }

abbrev values_at : Node → (ℕ → Ref) → ℕ → Child → Laid (List Ref)
values_at n f k c = lay_list n f k (map term_of c.args)

children_more : (n : Node) (r : ℕ) (f : ℕ → Ref) (m k : ℕ) (sorts : List Sort) (cs : List Child) (i : ℕ) (x : Child) → i < length cs → x ≡ get_or cs i x →
    as_children (lay_children n r f m k (map (child_of sorts) (drop i cs))) ≡ before (child_at (below n r m) (values_at n f k x))
    (as_children (lay_children n r f (suc m) (values_at n f k x).next (map (child_of sorts) (drop (i + 1) cs))))
children_more n r f m k sorts cs i x l e = ap (λ ys. as_children (lay_children n r f m k (map (child_of sorts) ys))) (at_drop_more (λ ys. ys) cs i x l ∙ ap (λ y. y ∷ drop (i + 1) cs) (sym e))

-- one more child was laid down, and the rest follows it
pub called_more : (n : Node) (r : ℕ) (f : ℕ → Ref) (m : ℕ) (sorts : List Sort) (cs : List Child) (i : ℕ) (x : Child) (a b : Laid (List MadeChild))
    (one : Laid MadeChild) (whole : Laid (List MadeChild)) → i < length cs → x ≡ get_or cs i x →
    one ≡ child_at (below n r m) (lay_list n f a.next (map term_of x.args)) → b ≡ with_one a one →
    joined a (as_children (lay_children n r f m a.next (map (child_of sorts) (drop i cs)))) ≡ whole →
    joined b (as_children (lay_children n r f (suc m) b.next (map (child_of sorts) (drop (i + 1) cs)))) ≡ whole
called_more n r f m sorts cs i x a b one whole l e o p w =
    let both : b ≡ with_one a (child_at (below n r m) (values_at n f a.next x)) = p ∙ ap (with_one a) o in
    ap (λ (z : Laid (List MadeChild)). joined z (as_children (lay_children n r f (suc m) z.next (map (child_of sorts) (drop (i + 1) cs))))) both
    ∙ joined-one a (child_at (below n r m) (values_at n f a.next x)) _
    ∙ ap (joined a) (sym (children_more n r f m a.next sorts cs i x l e))
    ∙ w

pub called_next : (n : Node) (r : ℕ) (f : ℕ → Ref) (m : ℕ) (x : Child) (a b : Laid (List MadeChild)) (one : Laid MadeChild) →
    one ≡ child_at (below n r m) (lay_list n f a.next (map term_of x.args)) → b ≡ with_one a one → b.next ≤ a.next + symbols_of (map term_of x.args)
called_next n r f m x a b one o p = omega (arith, ap (λ (z : Laid (List MadeChild)). z.next) p, ap (λ (z : Laid MadeChild). z.next) o, lay_list-next n f a.next (map term_of x.args))

pub children-next : (n : Node) (r : ℕ) (f : ℕ → Ref) (m k : ℕ) (cs : List R.Child) → (lay_children n r f m k cs).next ≤ k + child_symbols cs
children-next n r f m k [] = omega arith
children-next n r f m k (c ∷ cs) = omega (arith, lay_list-next n f k c.args, children-next n r f (suc m) (lay_list n f k c.args).next cs)
