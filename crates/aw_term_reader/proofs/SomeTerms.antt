-- A list that begins with a term has one term or more.
use Rattle.std.proofs.Common.{◌≡◌, ℕ, true, false, cond, List, [], ◌∷◌, ◌++◌, Option, Some, ap, subst, nat_eq}
use Rattle.aw_term.specs.Trees as P
use Rattle.aw_grammar.specs.Written.{Written, Word, Apply, Literal, side_by_side}
use Rattle.aw_term_reader.specs.Lexemes.{Lexeme, Name, Number, Node, Quoted, Mark}
use Rattle.aw_term_reader.specs.Terms.{Expected, TermOrEnd, TermOnly, CommaOrEnd, BehindName, Opened, Reading, Read, On, AtEnd, Misplaced, with_term}
use Rattle.aw_term_reader.specs.Terms.{with_opened, closed, at_term, at_comma, at_start, behind_name, read_one, go_on, read_terms, nothing_read}

abbrev pub IsNonempty : List Written → Type 0
IsNonempty [] = P.Never
IsNonempty (t ∷ ts) = Unit {0}

-- nothing is read yet only where a term has to come
abbrev IsStarted : List Opened → List Written → Expected → Type 0
IsStarted (o ∷ os) terms e = Unit {0}
IsStarted [] terms TermOnly = Unit {0}
IsStarted [] terms (BehindName name) = Unit {0}
IsStarted [] terms TermOrEnd = IsNonempty terms
IsStarted [] terms CommaOrEnd = IsNonempty terms

abbrev Comes : Read → Type 0
Comes (On r) = IsStarted r.opened r.terms r.expected
Comes (AtEnd ts) = IsNonempty ts
Comes Misplaced = Unit {0}

pub some_more : (ts : List Written) (t : Written) → IsNonempty (ts ++ t ∷ [])
some_more [] t = tt
some_more (u ∷ us) t = tt

last_started : (os : List Opened) (ts : List Written) (t : Written) → IsStarted os (ts ++ t ∷ []) CommaOrEnd
last_started [] ts t = some_more ts t
last_started (o ∷ os) ts t = tt

only_started : (os : List Opened) (ts : List Written) → IsStarted os ts TermOnly
only_started [] ts = tt
only_started (o ∷ os) ts = tt

name_started : (os : List Opened) (ts : List Written) (n : List ℕ) → IsStarted os ts (BehindName n)
name_started [] ts n = tt
name_started (o ∷ os) ts n = tt

closes : (close : ℕ) (os : List Opened) (terms : List Written) (mark : ℕ) → IsStarted os terms CommaOrEnd → Comes (closed close os terms mark)
closes close [] terms mark s = elim (nat_eq mark close) as (λ b. Comes (cond b (AtEnd terms) Misplaced)) [ true ↦ s | false ↦ tt ]
closes close (o ∷ os) terms mark s =
    elim (nat_eq mark 41) as (λ b. Comes (cond b (On (record { opened = os; terms = o.before ++ Apply o.name (side_by_side terms) ∷ []; expected = CommaOrEnd })) Misplaced)) [
      | true ↦ last_started os o.before (Apply o.name (side_by_side terms))
      | false ↦ tt
    ]

term_step : (r : Reading) (l : Lexeme) → Comes (at_term r l)
term_step r (Name n) = name_started r.opened r.terms n
term_step r (Number n) = last_started r.opened r.terms (Literal (P.Num n))
term_step r (Quoted t) = last_started r.opened r.terms (Literal (P.Text t))
term_step r (Node n) = tt
term_step r (Mark m) = tt

comma_step : (close : ℕ) (r : Reading) (l : Lexeme) → IsStarted r.opened r.terms CommaOrEnd → Comes (at_comma close r l)
comma_step close r (Mark m) s =
    elim (nat_eq m 44) as (λ b. Comes (cond b (On (record r { expected = TermOnly })) (closed close r.opened r.terms m)))
    [ true ↦ only_started r.opened r.terms | false ↦ closes close r.opened r.terms m s ]
comma_step close r (Name n) s = tt
comma_step close r (Number n) s = tt
comma_step close r (Quoted t) s = tt
comma_step close r (Node n) s = tt

as_comma : (os : List Opened) (terms : List Written) → IsStarted os terms TermOrEnd → IsStarted os terms CommaOrEnd
as_comma [] terms s = s
as_comma (o ∷ os) terms s = tt

start_step : (close : ℕ) (r : Reading) (l : Lexeme) → IsStarted r.opened r.terms TermOrEnd → Comes (at_start close r l)
start_step close r (Mark m) s = closes close r.opened r.terms m (as_comma r.opened r.terms s)
start_step close r (Name n) s = term_step r (Name n)
start_step close r (Number n) s = term_step r (Number n)
start_step close r (Quoted t) s = term_step r (Quoted t)
start_step close r (Node n) s = tt

name_step : (close : ℕ) (r : Reading) (name : List ℕ) (l : Lexeme) → Comes (behind_name close r name l)
name_step close r name (Mark m) =
    elim (nat_eq m 40) as (λ b. Comes (cond b (On (with_opened r name)) (at_comma close (with_term r (Word name)) (Mark m)))) [
      | true ↦ tt
      | false ↦ comma_step close (with_term r (Word name)) (Mark m) (last_started r.opened r.terms (Word name))
    ]
name_step close r name (Name n) = tt
name_step close r name (Number n) = tt
name_step close r name (Quoted t) = tt
name_step close r name (Node n) = tt

one_step : (close : ℕ) (r : Reading) (e : Expected) (l : Lexeme) → IsStarted r.opened r.terms e → Comes (read_one close r e l)
one_step close r TermOrEnd l s = start_step close r l s
one_step close r TermOnly l s = term_step r l
one_step close r CommaOrEnd l s = comma_step close r l s
one_step close r (BehindName name) l s = name_step close r name l

from_step : (x : Read) (ls : List Lexeme) (more : Reading → Option (List Written × List Lexeme)) (ts : List Written) (rest : List Lexeme) → Comes x →
    ((s : Reading) → IsStarted s.opened s.terms s.expected → more s ≡ Some (ts, rest) → IsNonempty ts) → go_on x more ls ≡ Some (ts, rest) → IsNonempty ts
from_step (On s) ls more ts rest comes later e = later s comes e
from_step (AtEnd us) ls more ts rest comes later e =
    let pair : ◌≡◌ {A = List Written × List Lexeme} (us, ls) (ts, rest) = cc in
    subst IsNonempty (ap (λ (p : List Written × List Lexeme). p.0) pair) comes
from_step Misplaced ls more ts rest comes later e = cc

from_started : (close : ℕ) (ls : List Lexeme) (r : Reading) (ts : List Written) (rest : List Lexeme) → IsStarted r.opened r.terms r.expected → read_terms close r ls ≡ Some (ts, rest) → IsNonempty ts
from_started close [] r ts rest s e = cc
from_started close (l ∷ ls) r ts rest s e =
    from_step (read_one close r r.expected l) ls (λ next. read_terms close next ls) ts rest (one_step close r r.expected l s) (λ next f h. from_started close ls next ts rest f h) e

pub some_terms : (close : ℕ) (ls : List Lexeme) (ts : List Written) (rest : List Lexeme) → read_terms close (nothing_read TermOnly) ls ≡ Some (ts, rest) → IsNonempty ts
some_terms close ls ts rest e = from_started close ls (nothing_read TermOnly) ts rest tt e
