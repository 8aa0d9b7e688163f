-- Matching through the views.
use Rattle.std.proofs.Common.{◌≡◌, ℕ, suc, ◌+◌, ◌<◌, ◌≤◌, cond, Bool, true, false, List, [], ◌∷◌, ◌++◌, length, map, drop, get_or, sym, ap, ◌∙◌, refl, arith, append_assoc, append-nil, eq-eqb, subst}
use Rattle.std.specs.Prelude.{nat_eq, nat_le, ◌&&◌, zero}
use Rattle.std.proofs.lemmas.Bool.{and_parts, ne_eqb}
use Rattle.std.proofs.lemmas.List.{at_drop_more, map-append, length-map}
use Rattle.aw_term.specs.Trees as P
use Rattle.aw_term.specs.Trees.{Leaf, Made, Nil, More, count, join}
use Rattle.aw_term.specs.Names.{Ref}
use Rattle.aw_term.specs.Rules.{Value}
use Rattle.aw_term.specs.Matching.{Matched, Yes, Waits, Differs, Circle, and_then, under, match, match_parts}
use Rattle.aw_term.specs.WellFormed.{symbols, all_symbols, nesting, all_nesting}
use Rattle.aw_term.specs.Views.{pattern_of}
use Rattle.aw_term.specs.declared.term.Pattern.{Pattern}
use Rattle.aw_term.specs.declared.term.Pattern as pattern
use Rattle.aw_term.proofs.ViewLemmas.{pattern_con}
use Rattle.aw_term.proofs.Joined.{count_join}
use Rattle.std.specs.declared.vec.Vec.{Vec}
use Rattle.std.specs.declared.rc.Rc.{Rc}
use Rattle.std.specs.declared.alloc.Global.{Global}
use Rattle.aw_term.specs.Limits.{most_parts}
use Rattle.aw_plain_rows.specs.declared.tree.Tree.{Tree}
use Rattle.aw_plain_rows.specs.declared.tree.Tree as tree
use Rattle.aw_plain_rows.specs.TreeView.{value_of, value_under, values_of}
use Rattle.aw_plain.specs.MatchView.{behind}
use Rattle.aw_plain.specs.Narrow.{is_narrow, are_narrow}
use Rattle.aw_plain_rows.proofs.ViewLemmas.{value_parts}

abbrev pub M : Type 0
M = Matched Value Ref

con_case : (c d : ℕ) (ps : List Pattern) (us : List Value) (b : Bool) → nat_eq (length ps) (length us) ≡ b → c ≡ d →
    match (pattern_of (pattern.Con c ps)) (Made (P.Con d) (join us)) ≡ cond b (match_parts 1 (join (map pattern_of ps)) (join us)) (Differs [])
con_case c d ps us b l e =
    ap (λ p. match p (Made (P.Con d) (join us))) (pattern_con c ps)
    ∙ ap (λ x. cond (x && nat_eq (count (join (map pattern_of ps))) (count (join us))) (match_parts 1 (join (map pattern_of ps)) (join us)) (Differs [])) (eq-eqb c d e)
    ∙ ap (λ n. cond (nat_eq n (count (join us))) (match_parts 1 (join (map pattern_of ps)) (join us)) (Differs [])) (count_join (map pattern_of ps) ∙ length-map ps pattern_of)
    ∙ ap (λ n. cond (nat_eq (length ps) n) (match_parts 1 (join (map pattern_of ps)) (join us)) (Differs [])) (count_join us)
    ∙ ap (λ x. cond x (match_parts 1 (join (map pattern_of ps)) (join us)) (Differs [])) l

pub parts_of : (d : ℕ) (w : Bool) (ts : Rc (Vec Tree Global) Global) (t : Tree) (xs us : List Tree) → t ≡ tree.Con d w ts → xs ≡ ts.value.items →
    values_of us ≡ map (value_under w) xs → value_of t ≡ Made (P.Con d) (join (values_of us))
parts_of d w ts t xs us e i v = value_parts t d w ts xs e i ∙ ap (λ vs. Made (P.Con d) (join vs)) (sym v)

-- the same constructor with as many parts
pub con_match : (c d : ℕ) (ps : List Pattern) (us : List Tree) (p : Pattern) (t : Tree) → p ≡ pattern.Con c ps → value_of t ≡ Made (P.Con d)
    (join (values_of us)) → c ≡ d → length ps ≡ length us → match (pattern_of p) (value_of t) ≡ match_parts 1 (join (map pattern_of ps))
    (join (map value_of us))
con_match c d ps us p t ep et e l =
    ap (λ q. match (pattern_of q) (value_of t)) ep ∙ ap (match (pattern_of (pattern.Con c ps))) et
    ∙ con_case c d ps (values_of us) true (eq-eqb _ _ (l ∙ sym (length-map us value_of))) e

-- the same constructor with another number of parts
pub con_long : (c d : ℕ) (ps : List Pattern) (us : List Tree) (p : Pattern) (t : Tree) → p ≡ pattern.Con c ps → value_of t ≡ Made (P.Con d)
    (join (values_of us)) → c ≡ d → (length ps ≡ length us → ⊥) → match (pattern_of p) (value_of t) ≡ Differs []
con_long c d ps us p t ep et e l =
    ap (λ q. match (pattern_of q) (value_of t)) ep ∙ ap (match (pattern_of (pattern.Con c ps))) et
    ∙ con_case c d ps (values_of us) false (ne_eqb _ _ (λ h. l (h ∙ length-map us value_of))) e

abbrev nowhere : M
nowhere = Differs []

pub behind_here : (q : List ℕ) → Differs q ≡ behind q nowhere
behind_here q = ap Differs (sym (append-nil q))

assoc : (a b : List Value) (m : M) → and_then (Yes (a ++ b)) m ≡ and_then (Yes a) (and_then (Yes b) m)
assoc a b (Yes xs) = ap Yes (append_assoc a b xs)
assoc a b (Waits r) = refl
assoc a b (Differs p) = refl
assoc a b (Circle r) = refl

-- one part behind a path, and then the others
behind_parts : (q : List ℕ) (n : ℕ) (a b : M) → behind q (and_then (under n a) b) ≡ and_then (behind (q ++ n ∷ []) a) (behind q b)
behind_parts q n (Yes xs) (Yes ys) = refl
behind_parts q n (Yes xs) (Waits r) = refl
behind_parts q n (Yes xs) (Differs p) = refl
behind_parts q n (Yes xs) (Circle r) = refl
behind_parts q n (Waits r) b = refl
behind_parts q n (Differs p) b = ap Differs (sym (append_assoc q (n ∷ []) p))
behind_parts q n (Circle r) b = refl

abbrev pub from : ℕ → ℕ → List Pattern → List Tree → M
from n i ps ts = match_parts n (join (map pattern_of (drop i ps))) (join (map value_of (drop i ts)))

from_more : (n i : ℕ) (ps : List Pattern) (ts : List Tree) (p : Pattern) (t : Tree) → i < length ps → i < length ts → p ≡ get_or ps i p →
    t ≡ get_or ts i t → from n i ps ts ≡ and_then (under n (match (pattern_of p) (value_of t))) (from (suc n) (i + 1) ps ts)
from_more n i ps ts p t lp lt ep et =
    at_drop_more (λ qs. match_parts n (join (map pattern_of qs)) (join (map value_of (drop i ts)))) ps i p lp
    ∙ at_drop_more (λ us. match_parts n (join (map pattern_of (get_or ps i p ∷ drop (i + 1) ps))) (join (map value_of us))) ts i t lt
    ∙ ap (λ q. and_then (under n (match (pattern_of q) (value_of (get_or ts i t)))) (from (suc n) (i + 1) ps ts)) (sym ep)
    ∙ ap (λ u. and_then (under n (match (pattern_of p) (value_of u))) (from (suc n) (i + 1) ps ts)) (sym et)

-- one more part has given this
pub one_more : (q : List ℕ) (n i : ℕ) (ps : List Pattern) (ts : List Tree) (p : Pattern) (t : Tree) (xs : List Value) (m whole : M) → i < length ps →
    i < length ts → p ≡ get_or ps i p → t ≡ get_or ts i t → m ≡ behind (q ++ n ∷ []) (match (pattern_of p) (value_of t)) →
    and_then (Yes xs) (behind q (from n i ps ts)) ≡ whole → and_then (Yes xs) (and_then m (behind q (from (suc n) (i + 1) ps ts))) ≡ whole
one_more q n i ps ts p t xs m whole lp lt ep et em w =
    ap (λ z. and_then (Yes xs) (and_then z (behind q (from (suc n) (i + 1) ps ts)))) em
    ∙ ap (and_then (Yes xs)) (sym (ap (behind q) (from_more n i ps ts p t lp lt ep et) ∙ behind_parts q n _ _)) ∙ w

pub more_taken : (xs : List Tree) (ys : List Tree) (m : M) → and_then (Yes (values_of (xs ++ ys))) m ≡ and_then (Yes (values_of xs)) (and_then (Yes (values_of ys)) m)
more_taken xs ys m = ap (λ zs. and_then (Yes zs) m) (map-append value_of xs ys) ∙ assoc (values_of xs) (values_of ys) m

pub narrow_at : (ps : List Pattern) (i : ℕ) (p : Pattern) → i < length ps → p ≡ get_or ps i p → are_narrow (join (map pattern_of ps)) ≡ true → is_narrow (pattern_of p) ≡ true
narrow_at [] i p l e w = absurd (omega arith)
narrow_at (q ∷ ps) zero p l e w = subst (λ z. is_narrow (pattern_of z) ≡ true) (sym e) (and_parts _ _ w).0
narrow_at (q ∷ ps) (suc i) p l e w = narrow_at ps i p (omega arith) e (and_parts (is_narrow (pattern_of q)) _ w).1

narrow_con : (c : ℕ) (ps : List Pattern) → is_narrow (pattern_of (pattern.Con c ps)) ≡ true → (length ps ≤ most_parts) × (are_narrow (join (map pattern_of ps)) ≡ true)
narrow_con c ps w =
    let v : (nat_le (count (join (map pattern_of ps))) most_parts && are_narrow (join (map pattern_of ps))) ≡ true = sym (ap is_narrow (pattern_con c ps)) ∙ w in
    let (l, r) = and_parts (nat_le (count (join (map pattern_of ps))) most_parts) _ v in
    (grind (arith, l, count_join (map pattern_of ps), length-map ps pattern_of), r)

pub narrow_parts : (qs ps : List Pattern) (p : Pattern) (c : ℕ) → qs ≡ ps → p ≡ pattern.Con c ps → is_narrow (pattern_of p) ≡ true → are_narrow (join (map pattern_of qs)) ≡ true
narrow_parts qs ps p c e i w = subst (λ zs. are_narrow (join (map pattern_of zs)) ≡ true) (sym e) (narrow_con c ps (subst (λ z. is_narrow (pattern_of z) ≡ true) i w)).1

pub few_parts : (qs ps : List Pattern) (p : Pattern) (c : ℕ) → qs ≡ ps → p ≡ pattern.Con c ps → is_narrow (pattern_of p) ≡ true → length qs ≤ most_parts
few_parts qs ps p c e i w = omega (arith, ap length e, (narrow_con c ps (subst (λ z. is_narrow (pattern_of z) ≡ true) i w)).0)

pub symbols_con : (qs ps : List Pattern) (p : Pattern) (c : ℕ) → qs ≡ ps → p ≡ pattern.Con c ps → symbols (pattern_of p) ≡ 1 + all_symbols (join (map pattern_of qs))
symbols_con qs ps p c e i = ap (λ z. symbols (pattern_of z)) i ∙ ap symbols (pattern_con c ps) ∙ omega (arith, ap (λ zs. all_symbols (join (map pattern_of zs))) e)

pub nesting_con : (qs ps : List Pattern) (p : Pattern) (c : ℕ) → qs ≡ ps → p ≡ pattern.Con c ps → nesting (pattern_of p) ≡ 1 + all_nesting (join (map pattern_of qs))
nesting_con qs ps p c e i = ap (λ z. nesting (pattern_of z)) i ∙ ap nesting (pattern_con c ps) ∙ omega (arith, ap (λ zs. all_nesting (join (map pattern_of zs))) e)
