-- Laying down one thing after the other.
use Rattle.std.proofs.Common.{◌≡◌, ℕ, zero, suc, ◌+◌, ◌<◌, ◌≤◌, List, [], ◌∷◌, ◌++◌, length, map, drop, get_or, refl, ap, sym, ◌∙◌, arith, append_assoc, append-nil}
use Rattle.std.specs.Prelude.{Result, Ok, Err, IfOk, OnOk}
use Rattle.std.proofs.Math.ListN.{set}
use Rattle.std.proofs.lemmas.List.{at_drop_more}
use Rattle.aw_term.specs.Trees as P
use Rattle.aw_term.specs.Trees.{Head, Tree, Leaf, Made, Trees, Nil, More, join}
use Rattle.aw_term.specs.Names.{Node, Ref, part}
use Rattle.aw_term.specs.Rules.{get}
use Rattle.aw_term.specs.WellFormed.{symbols, all_symbols, symbols_of}
use Rattle.aw_term.specs.Views.{ground_of, term_of}
use Rattle.aw_term.specs.declared.term.Expr as expr
use Rattle.aw_term.specs.declared.ground.Ground as grounds
use Rattle.aw_term.proofs.Joined.{symbols_join}
use Rattle.aw_term.proofs.ViewLemmas.{ground_con, term_con}
use Rattle.aw_store.specs.Equations.{Body, Is, Equation}
use Rattle.aw_store.specs.EquationView.{body_of, equation_of}
use Rattle.aw_store.specs.declared.equation.Equation as declared_equation
use Rattle.aw_store.specs.declared.equation.Body as declared_body
use Rattle.aw_apply.specs.Made.{Laid, lay, lays, lay_list}
use Rattle.aw_apply.specs.MadeView.{lone, with_one, laid_behind, with_body}

-- what holds where anything is given leads to something else
pub if_given : {T E : Type 0} {P Q : T → Type 0} (r : Result T E) → ((x : T) → P x → Q x) → IfOk r P → IfOk r Q
if_given (Ok x) then p = then x p
if_given (Err e) then p = tt

pub on_given : {T E P Q : Type 0} (r : Result T E) → (P → Q) → OnOk r P → OnOk r Q
on_given (Ok x) then p = then p
on_given (Err e) then p = tt

pub on_both : {T E P Q R : Type 0} (r : Result T E) → (P → Q → R) → OnOk r P → OnOk r Q → OnOk r R
on_both (Ok x) then p q = then p q
on_both (Err e) then p q = tt

-- these, and then those
abbrev pub joined : {A : Type 0} → Laid (List A) → Laid (List A) → Laid (List A)
joined a b = record { roots = a.roots ++ b.roots; equations = a.equations ++ b.equations; next = b.next }

abbrev pub before : {A : Type 0} → Laid A → Laid (List A) → Laid (List A)
before x b = record { roots = x.roots ∷ b.roots; equations = x.equations ++ b.equations; next = b.next }

pub joined-one : {A : Type 0} (a : Laid (List A)) (x : Laid A) (b : Laid (List A)) → joined (with_one a x) b ≡ joined a (before x b)
joined-one a x b =
    let r = append_assoc a.roots (x.roots ∷ []) b.roots in
    let e = append_assoc a.equations x.equations b.equations in
    λ i. record { roots = r i; equations = e i; next = b.next }

pub lay_list-join : {L : Type 0} (n : Node) (f : L → Ref) (k : ℕ) (ts : List (Tree L)) → lays n f k (join ts) ≡ lay_list n f k ts
lay_list-join n f k [] = refl
lay_list-join n f k (t ∷ ts) = ap (before (lay n f k t)) (lay_list-join n f (lay n f k t).next ts)

-- a lone symbol takes one part number, a leaf none
mutual
  pub lay-next : {L : Type 0} (n : Node) (f : L → Ref) (k : ℕ) (t : Tree L) → (lay n f k t).next ≤ k + symbols t
  lay-next n f k (Leaf x) = omega arith
  lay-next n f k (Made h ts) = omega (arith, lays-next n f (suc k) ts)

  pub lays-next : {L : Type 0} (n : Node) (f : L → Ref) (k : ℕ) (ts : Trees L) → (lays n f k ts).next ≤ k + all_symbols ts
  lays-next n f k Nil = omega arith
  lays-next n f k (More t ts) = omega (arith, lay-next n f k t, lays-next n f (lay n f k t).next ts)

pub lay_list-next : {L : Type 0} (n : Node) (f : L → Ref) (k : ℕ) (ts : List (Tree L)) → (lay_list n f k ts).next ≤ k + symbols_of ts
lay_list-next n f k [] = omega arith
lay_list-next n f k (t ∷ ts) = omega (arith, lay-next n f k t, lay_list-next n f (lay n f k t).next ts)

-- the rest of a list of things, from a place on
pub list_more : {X L : Type 0} (n : Node) (f : L → Ref) (g : X → Tree L) (xs : List X) (i : ℕ) (x : X) (k : ℕ) → i < length xs → x ≡ get_or xs i x →
    lay_list n f k (map g (drop i xs)) ≡ before (lay n f k (g x)) (lay_list n f (lay n f k (g x)).next (map g (drop (i + 1) xs)))
list_more n f g xs i x k l e = ap (λ ys. lay_list n f k (map g ys)) (at_drop_more (λ ys. ys) xs i x l ∙ ap (λ y. y ∷ drop (i + 1) xs) (sym e))

pub symbols_more : {X L : Type 0} (g : X → Tree L) (xs : List X) (i : ℕ) (x : X) → i < length xs → x ≡ get_or xs i x →
    symbols_of (map g (drop i xs)) ≡ symbols (g x) + symbols_of (map g (drop (i + 1) xs))
symbols_more g xs i x l e = ap (λ ys. symbols_of (map g ys)) (at_drop_more (λ ys. ys) xs i x l ∙ ap (λ y. y ∷ drop (i + 1) xs) (sym e))

-- one more was laid down, the rest follows it, and the part numbers go on
pub laid_more : {X L : Type 0} (n : Node) (f : L → Ref) (g : X → Tree L) (xs : List X) (i : ℕ) (x : X) (a b : Laid (List Ref)) (one : Laid Ref)
    (whole : Laid (List Ref)) (most : ℕ) → i < length xs → x ≡ get_or xs i x →
    one ≡ lay n f a.next (g x) → b ≡ with_one a one →
    (joined a (lay_list n f a.next (map g (drop i xs))) ≡ whole) × (a.next + symbols_of (map g (drop i xs)) ≤ most) →
    (joined b (lay_list n f b.next (map g (drop (i + 1) xs))) ≡ whole) × (b.next + symbols_of (map g (drop (i + 1) xs)) ≤ most)
laid_more n f g xs i x a b one whole most l e o m w =
    let both : b ≡ with_one a (lay n f a.next (g x)) = m ∙ ap (with_one a) o in (
      ap (λ z. joined z (lay_list n f z.next (map g (drop (i + 1) xs)))) both
          ∙ joined-one a (lay n f a.next (g x)) _
          ∙ ap (joined a) (sym (list_more n f g xs i x a.next l e))
          ∙ w.0,
      omega (arith, w.1, symbols_more g xs i x l e, ap (λ (z : Laid (List Ref)). z.next) both, lay-next n f a.next (g x)),
    )

pub symbols_within : {X L : Type 0} (g : X → Tree L) (xs : List X) (i : ℕ) (x : X) → i < length xs → x ≡ get_or xs i x → symbols (g x) ≤ symbols_of (map g xs)
symbols_within g [] i x l e = absurd (omega (arith, l))
symbols_within g (y ∷ ys) zero x l e = omega (arith, ap (λ z. symbols (g z)) e)
symbols_within g (y ∷ ys) (suc i) x l e = omega (arith, symbols_within g ys i x (omega (arith, l)) e)

-- a symbol over what was laid down for its parts
abbrev pub head_over : Node → ℕ → Body → List Equation → ℕ → Laid Ref
head_over n k body parts next = record { roots = part n k; equations = record { left = part n k; body = body } ∷ parts; next = next }

pub symbol_laid : {L : Type 0} (n : Node) (f : L → Ref) (k : ℕ) (h : Head) (body : Body) (ts : List (Tree L)) (all : Laid (List Ref)) (t : Tree L) →
    all ≡ lay_list n f (k + 1) ts → body ≡ Is h all.roots → t ≡ Made h (join ts) →
    head_over n k body all.equations all.next ≡ lay n f k t
symbol_laid n f k h body ts all t ea eb et =
    let one : k + 1 ≡ suc k = omega arith in
    let same : all ≡ lays n f (suc k) (join ts) = ea ∙ ap (λ m. lay_list n f m ts) one ∙ sym (lay_list-join n f (suc k) ts) in
    ap (λ b. head_over n k b all.equations all.next) eb
    ∙ ap (λ (a : Laid (List Ref)). head_over n k (Is h a.roots) a.equations a.next) same
    ∙ ap (lay n f k) (sym et)

-- a body that is written at a place, through the view
pub body_set : (es : List declared_equation.Equation) (i : ℕ) (d : declared_equation.Equation) (b : declared_body.Body) → i < length es →
    map equation_of (set es i (record { left = (get_or es i d).left; body = b })) ≡ with_body i (body_of b) (map equation_of es)
body_set [] i d b l = absurd (omega (arith, l))
body_set (e ∷ es) zero d b l = refl
body_set (e ∷ es) (suc i) d b l = ap (λ z. equation_of e ∷ z) (body_set es i d b (omega (arith, l)))

-- the body is written behind what stood before it
body_written : (old : List Equation) (e : Equation) (b : Body) (es : List Equation) → with_body (length old) b (old ++ e ∷ es) ≡ old ++ record { left = e.left; body = b } ∷ es
body_written [] e b es = refl
body_written (x ∷ old) e b es = ap (λ z. x ∷ z) (body_written old e b es)

-- a place was kept, the parts were laid down behind it, and then the body was written
pub written : (old mid new : List Equation) (at : ℕ) (e : Equation) (b : Body) (parts : List Equation) → at ≡ length old → mid ≡ old ++ e ∷ [] →
    new ≡ with_body at b (mid ++ parts) → new ≡ old ++ record { left = e.left; body = b } ∷ parts
written old mid new at e b parts ea em en =
    en
    ∙ ap (λ i. with_body i b (mid ++ parts)) ea
    ∙ ap (with_body (length old) b) (ap (λ z. z ++ parts) em ∙ append_assoc old (e ∷ []) parts)
    ∙ body_written old e b parts

-- one root more, and all equations so far
abbrev so_far : List Ref → List Equation → ℕ → Laid (List Ref)
so_far rs es k = record { roots = rs; equations = es; next = k }

pub one_more : (es new : List Equation) (rs ss : List Ref) (m next : ℕ) (p q : Ref) → p ≡ q → new ≡ es → ss ≡ rs ++ p ∷ [] → m ≡ next → so_far ss new m ≡ so_far (rs ++ q ∷ []) es next
one_more es new rs ss m next p q ep en er em = λ i. so_far ((er ∙ ap (λ z. rs ++ z ∷ []) ep) i) (en i) (em i)

-- a symbol without parts takes one part number
pub lone_laid : {L : Type 0} (n : Node) (f : L → Ref) (k : ℕ) (h : Head) (t : Tree L) → t ≡ Made h Nil → lone n k (Is h []) ≡ lay n f k t
lone_laid n f k h t e = let one : k + 1 ≡ suc k = omega arith in ap (head_over n k (Is h []) []) one ∙ ap (lay n f k) (sym e)

-- a variable takes none
pub leaf_laid : {L : Type 0} (n : Node) (f : L → Ref) (k : ℕ) (x : L) (t : Tree L) (es : List Equation) (rs ss : List Ref) (m : ℕ) → t ≡ Leaf x → ss ≡ rs ++ f x ∷ [] → m ≡ k →
    record { roots = ss; equations = es; next = m } ≡ with_one (record { roots = rs; equations = es; next = k }) (lay n f k t)
leaf_laid n f k x t es rs ss m e er em =
    let none : es ≡ es ++ [] = sym (append-nil es) in
    let whole : record { roots = ss; equations = es; next = m } ≡ with_one (record { roots = rs; equations = es; next = k }) (lay n f k (Leaf x)) =
    λ i. record { roots = er i; equations = none i; next = em i } in
    whole ∙ ap (λ z. with_one (record { roots = rs; equations = es; next = k }) (lay n f k z)) (sym e)

-- a constructor whose place was kept, over its parts, stands behind what was laid down before
pub con_laid : {L : Type 0} (n : Node) (f : L → Ref) (k : ℕ) (h : Head) (ts : List (Tree L)) (t : Tree L) (old mid : List Equation) (at : ℕ) (place : Body) (inner a b : Laid (List Ref)) →
    at ≡ length old → mid ≡ old ++ record { left = part n k; body = place } ∷ [] → inner ≡ laid_behind mid (lay_list n f (k + 1) ts) → t ≡ Made h (join ts) → a.equations ≡ old →
    b ≡ record { roots = a.roots ++ part n k ∷ []; equations = with_body at (Is h inner.roots) inner.equations; next = inner.next } → b ≡ with_one a (lay n f k t)
con_laid n f k h ts t old mid at place inner a b ea em el et eo eb =
    let l = lay_list n f (k + 1) ts in
    let w = written old mid (with_body at (Is h inner.roots) inner.equations) at (record { left = part n k; body = place }) (Is h l.roots) l.equations
    ea em (ap (λ (z : Laid (List Ref)). with_body at (Is h z.roots) z.equations) el) in
    let whole : record { roots = a.roots ++ part n k ∷ []; equations = with_body at (Is h inner.roots) inner.equations; next = inner.next } ≡ with_one
    a (head_over n k (Is h l.roots) l.equations l.next) =
    λ i. record { roots = a.roots ++ part n k ∷ []; equations = (w ∙ ap (λ z. z ++ record { left = part n k; body = Is h l.roots } ∷ l.equations) (sym eo)) i; next = (el i).next } in
    eb ∙ whole ∙ ap (with_one a) (symbol_laid n f k h (Is h l.roots) ts l t refl refl et)

pub ground_term : (qs ps : List grounds.Ground) (g : grounds.Ground) (c : ℕ) → qs ≡ ps → g ≡ grounds.Con c ps → ground_of g ≡ Made (P.Con c) (join (map ground_of qs))
ground_term qs ps g c e i = ap ground_of i ∙ ground_con c ps ∙ ap (λ zs. Made (P.Con c) (join (map ground_of zs))) (sym e)

pub expr_term : (qs ps : List expr.Expr) (t : expr.Expr) (c : ℕ) → qs ≡ ps → t ≡ expr.Con c ps → term_of t ≡ Made (P.Con c) (join (map term_of qs))
expr_term qs ps t c e i = ap term_of i ∙ term_con c ps ∙ ap (λ zs. Made (P.Con c) (join (map term_of zs))) (sym e)

-- the symbols of a constructor
pub symbols_over : {L : Type 0} (h : Head) (ts : List (Tree L)) (t : Tree L) → t ≡ Made h (join ts) → symbols t ≡ suc (symbols_of ts)
symbols_over h ts t e = ap symbols e ∙ ap suc (symbols_join ts)

pub got_at : {A : Type 0} (d : A) (xs : List A) (i : ℕ) (x : A) → i < length xs → x ≡ get_or xs i x → x ≡ get d xs i
got_at d [] i x l e = absurd (omega (arith, l))
got_at d (y ∷ ys) zero x l e = e
got_at d (y ∷ ys) (suc i) x l e = got_at d ys i x (omega (arith, l)) e

pub past_all : {A : Type 0} (d : A) (xs : List A) (i : ℕ) → length xs ≤ i → d ≡ get d xs i
past_all d [] i l = refl
past_all d (y ∷ ys) zero l = absurd (omega (arith, l))
past_all d (y ∷ ys) (suc i) l = past_all d ys i (omega (arith, l))
