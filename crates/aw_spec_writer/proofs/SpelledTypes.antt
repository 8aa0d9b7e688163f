-- The lines of types, shapes, carries and dependences can be spelled.
use Rattle.std.proofs.Common.{◌≡◌, ℕ, zero, suc, ◌+◌, ◌<◌, ◌≤◌, ◌^◌, slice_get, refl, ap, subst, List, [], ◌∷◌, ◌++◌, length, map, Option, Some, None, arith}
use Rattle.aw_term.specs.Rules.{get}
use Rattle.aw_term.specs.WellFormed.{Each, SortFits}
use Rattle.aw_term.proofs.Eaches.{each_append, each_get}
use Rattle.aw_grammar.specs.declared.rule.Con as decl
use Rattle.aw_grammar.specs.declared.rule.Sort.{Sort}
use Rattle.aw_grammar.specs.GrammarView.{sort_of}
use Rattle.aw_grammar.specs.Declarations.{Declarations, con_names, sort_names}
use Rattle.aw_base.specs.declared.declared.Triple.{Triple}
use Rattle.aw_typed.specs.declared.data.Shape.{Shape}
use Rattle.aw_typed.specs.declared.data.Carry.{Carry}
use Rattle.aw_spec.specs.Lines.{TypeLine}
use Rattle.aw_spec.specs.TypeLines.{type_names}
use Rattle.aw_spec.specs.TypesFit.{Alongside, ShapeFits, CarryFits, IsOfSort, counts_in, TypesFit}
use Rattle.aw_spec.specs.Reading.{Spec}
use Rattle.aw_spec.proofs.TypeSteps.{mapped_at, some_within}
use Rattle.aw_spec_writer.specs.SpecLines.{type_lines, shape_line, shape_lines, carry_line, carry_lines, depends_line, typing_lines}
use Rattle.aw_spec_writer.proofs.SaysTerms.{IsName, IsSpelledLine}
use Rattle.aw_spec_writer.proofs.Declaring.{named_below}

types_spelled : (names : List (List ℕ)) → Each IsName names → Each IsSpelledLine (map (λ name. TypeLine name) names)
types_spelled [] h = tt
types_spelled (n ∷ names) h = (h.0, types_spelled names h.1)

names_spelled : (all : List (List ℕ)) (is : List ℕ) (n : ℕ) → Each IsName all → n ≤ length all → Each (λ t. t < n) is → Each IsName (map (get [] all) is)
names_spelled all [] n names le less = tt
names_spelled all (i ∷ is) n names le less = (each_get IsName [] all i names (omega (arith, less.0, le)), names_spelled all is n names le less.1)

shape_spelled : (all : List (List ℕ)) (n arity : ℕ) (con : List ℕ) (o : Option Shape) → Each IsName all → n ≤ length all → IsName con → ShapeFits n arity o → Each IsSpelledLine (shape_line all con o)
shape_spelled all n arity con None names le named fit = tt
shape_spelled all n arity con (Some x) names le named fit = ((named, names_spelled all x.parts n names le fit.2, each_get IsName [] all x.own names (omega (arith, fit.1, le))), tt)

shapes_spelled : (all : List (List ℕ)) (n : ℕ) (os : List (Option Shape)) (cons : List decl.Con) → Each IsName all → n ≤ length all →
    Each IsName (map (λ (c : decl.Con). c.name) cons) → Alongside (ShapeFits n) (map (λ (c : decl.Con). c.arity) cons) os →
    Each IsSpelledLine (shape_lines all os cons)
shapes_spelled all n [] cons names le named fit = tt
shapes_spelled all n (o ∷ os) [] names le named fit = tt
shapes_spelled all n (o ∷ os) (c ∷ cons) names le named fit =
    each_append IsSpelledLine (shape_line all c.name o) (shape_lines all os cons) (shape_spelled all n c.arity c.name o names le named.0 fit.0) (shapes_spelled all n os cons names le named.1 fit.1)

carry_spelled : (all : List (List ℕ)) (n : ℕ) (counts : ℕ × ℕ) (sort : List ℕ) (o : Option Carry) → Each IsName all → n ≤ length all → IsName sort →
    CarryFits n counts o → Each IsSpelledLine (carry_line all sort o)
carry_spelled all n counts sort None names le named fit = tt
carry_spelled all n counts sort (Some k) names le named fit = ((named, names_spelled all k.takes n names le fit.2, names_spelled all k.gives n names le fit.3), tt)

carries_spelled : (all : List (List ℕ)) (n : ℕ) (os : List (Option Carry)) (sorts : List Sort) → Each IsName all → n ≤ length all →
    Each IsName (map (λ (s : Sort). s.name) sorts) → Alongside (CarryFits n) (map (λ (s : Sort). (s.takes, s.gives)) sorts) os →
    Each IsSpelledLine (carry_lines all os sorts)
carries_spelled all n [] sorts names le named fit = tt
carries_spelled all n (o ∷ os) [] names le named fit = tt
carries_spelled all n (o ∷ os) (s ∷ sorts) names le named fit =
    each_append IsSpelledLine (carry_line all s.name o) (carry_lines all os sorts) (carry_spelled all n (s.takes, s.gives) s.name o names le named.0
    fit.0) (carries_spelled all n os sorts names le named.1 fit.1)

-- a sort has few inherited values and few results
few_counts : (roles : ℕ) (sorts : List Sort) (i : ℕ) (s : Sort) → Each (λ (t : Sort). SortFits roles (sort_of t)) sorts → slice_get sorts i ≡ Some s → (s.takes ≤ 8) × (s.gives ≤ 8)
few_counts roles [] i s fits e = cc
few_counts roles (t ∷ sorts) zero s fits e =
    let same : t ≡ s = cc in subst (λ (u : Sort). (u.takes ≤ 8) × (u.gives ≤ 8)) same (fits.0.few_takes, fits.0.few_gives)
few_counts roles (t ∷ sorts) (suc i) s fits e = few_counts roles sorts i s fits.1 e

depends_spelled : (d : Declarations) (ds : List Triple) → Each IsName (sort_names d) → Each (λ (t : Sort). SortFits (length d.roles) (sort_of t))
    d.sorts → Each (IsOfSort (counts_in d)) ds → Each IsSpelledLine (map (depends_line (sort_names d)) ds)
depends_spelled d [] names fits declared = tt
depends_spelled d (x ∷ ds) names fits declared =
    let found = declared.0 in
    let from = mapped_at (λ (c : Sort). (c.takes, c.gives)) d.sorts x.sort found.0 found.1 in
    let few = few_counts (length d.roles) d.sorts x.sort from.0 fits from.1 in
    let takes : from.0.takes ≡ found.0.0 = ap (λ (c : ℕ × ℕ). c.0) from.2 in
    let gives : from.0.gives ≡ found.0.1 = ap (λ (c : ℕ × ℕ). c.1) from.2 in
    let small : (n : ℕ) → n ≤ 8 → n < 2 ^ 64 = λ n h. omega (arith, h) in (
      (
        each_get IsName [] (sort_names d) x.sort names (named_below d.sorts x.sort (some_within d.sorts x.sort from.0 from.1)),
        small x.i (omega (arith, few.0, takes, found.3)),
        small x.j (omega (arith, few.1, gives, found.5)),
      ),
      depends_spelled d ds names fits declared.1,
    )

pub typing_spelled : (s : Spec) → Each IsName (con_names s.declared) → Each IsName (sort_names s.declared) →
    Each (λ (t : Sort). SortFits (length s.declared.roles) (sort_of t)) s.declared.sorts → TypesFit s → Each IsSpelledLine (typing_lines s)
typing_spelled s cons sorts fits types =
    let d = s.declared in
    let t = s.types in
    let all = type_names t in
    let n = 2 + length t.names in
    let names : Each IsName all = (refl, (refl, types.named)) in
    let le : n ≤ length all = omega arith in
    let shape = shape_lines all t.shapes d.cons in
    let carry = carry_lines all t.carries d.sorts in
    let depends = map (depends_line (sort_names d)) s.depends in
    each_append IsSpelledLine (type_lines t) (shape ++ (carry ++ depends)) (types_spelled t.names types.named)
    (each_append IsSpelledLine shape (carry ++ depends) (shapes_spelled all n t.shapes d.cons names le cons types.shapes)
    (each_append IsSpelledLine carry depends (carries_spelled all n t.carries d.sorts names le sorts types.carries)
    (depends_spelled d s.depends sorts fits types.depends)))
