-- What was read is spelled so.
use Rattle.std.proofs.Common.{◌≡◌, ℕ, Bool, true, false, cond, List, [], ◌∷◌, ◌++◌, Some, refl, sym, ap, ◌∙◌, append_assoc, append-nil}
use Rattle.std.specs.Prelude.{nat_eq}
use Rattle.std.proofs.lemmas.Bool.{eqb-true}
use Rattle.aw_term.specs.Trees as P
use Rattle.aw_grammar.specs.Written.{Written, Word, Apply, Literal, side_by_side}
use Rattle.aw_term_reader.specs.Lexemes.{Lexeme, Name, Number, Node, Quoted, Mark}
use Rattle.aw_term_reader.specs.Terms.{Expected, TermOrEnd, TermOnly, CommaOrEnd, BehindName, Opened, Reading, Read, On, AtEnd, Misplaced, spelling}
use Rattle.aw_term_reader.specs.Terms.{spellings, spellings_behind, closed, at_term, at_comma, at_start, behind_name, read_one, go_on, read_terms}
use Rattle.aw_term_reader.specs.Terms.{nothing_read, terms_up_to}
use Rattle.aw_term_reader.proofs.SomeTerms.{IsNonempty, some_more}

-- terms with a comma behind each
abbrev comma_each : List Written → List Lexeme
comma_each [] = []
comma_each (t ∷ ts) = spelling t ++ Mark 44 ∷ comma_each ts

-- constructors that are open
abbrev opens : List Opened → List Lexeme
opens [] = []
opens (o ∷ os) = opens os ++ (comma_each o.before ++ Name o.name ∷ Mark 40 ∷ [])

abbrev inner : List Written → Expected → List Lexeme
inner ts TermOrEnd = []
inner ts TermOnly = comma_each ts
inner ts CommaOrEnd = spellings (side_by_side ts)
inner ts (BehindName name) = comma_each ts ++ Name name ∷ []

-- the lexemes that were read
abbrev so_far : Reading → List Lexeme
so_far r = opens r.opened ++ inner r.terms r.expected

abbrev Fits : List Written → Expected → Type 0
Fits ts TermOrEnd = ts ≡ []
Fits ts TermOnly = Unit {0}
Fits ts CommaOrEnd = IsNonempty ts
Fits ts (BehindName name) = Unit {0}

-- what a lexeme may do
abbrev Steps : ℕ → Reading → Lexeme → Read → Type 0
Steps close r l (On s) = (so_far s ≡ so_far r ++ l ∷ []) × Fits s.terms s.expected
Steps close r l (AtEnd ts) = (so_far r ≡ spellings (side_by_side ts)) × (l ≡ Mark close)
Steps close r l Misplaced = Unit {0}

behind_last : (us : List Written) (t : Written) → spellings_behind (side_by_side (us ++ t ∷ [])) ≡ Mark 44 ∷ (comma_each us ++ spelling t)
behind_last [] t = ap (λ ls. Mark 44 ∷ ls) (append-nil (spelling t))
behind_last (u ∷ us) t = ap (λ ls. Mark 44 ∷ (spelling u ++ ls)) (behind_last us t) ∙ ap (λ ls. Mark 44 ∷ ls) (sym (append_assoc (spelling u) (Mark 44 ∷ comma_each us) (spelling t)))

-- one more term
last : (ts : List Written) (t : Written) → spellings (side_by_side (ts ++ t ∷ [])) ≡ comma_each ts ++ spelling t
last [] t = append-nil (spelling t)
last (u ∷ us) t = ap (λ ls. spelling u ++ ls) (behind_last us t) ∙ sym (append_assoc (spelling u) (Mark 44 ∷ comma_each us) (spelling t))

behind_comma : (us : List Written) → spellings_behind (side_by_side us) ++ Mark 44 ∷ [] ≡ Mark 44 ∷ comma_each us
behind_comma [] = refl
behind_comma (u ∷ us) = ap (λ ls. Mark 44 ∷ ls) (append_assoc (spelling u) (spellings_behind (side_by_side us)) (Mark 44 ∷ []) ∙ ap (λ ls. spelling u ++ ls) (behind_comma us))

-- a comma behind some terms
comma : (ts : List Written) → IsNonempty ts → spellings (side_by_side ts) ++ Mark 44 ∷ [] ≡ comma_each ts
comma [] s = elim s [ ]
comma (u ∷ us) s = append_assoc (spelling u) (spellings_behind (side_by_side us)) (Mark 44 ∷ []) ∙ ap (λ ls. spelling u ++ ls) (behind_comma us)

-- a closing mark
closes : (close : ℕ) (r : Reading) (os : List Opened) (terms : List Written) (mark : ℕ) → so_far r ≡ opens os ++ spellings (side_by_side terms) → Steps close r (Mark mark) (closed close os terms mark)
closes close r [] terms mark e = by_test (nat_eq mark close) refl
  where
    by_test : (b : Bool) → nat_eq mark close ≡ b → Steps close r (Mark mark) (cond b (AtEnd terms) Misplaced)
    by_test true h = (e, ap Mark (eqb-true mark close h))
    by_test false h = tt
closes close r (o ∷ os) terms mark e = by_test (nat_eq mark 41) refl
  where
    by_test : (b : Bool) → nat_eq mark 41 ≡ b → Steps close r (Mark mark)
        (cond b (On (record { opened = os; terms = o.before ++ Apply o.name (side_by_side terms) ∷ []; expected = CommaOrEnd })) Misplaced)
    by_test true h = (
      ap (λ ls. opens os ++ ls) (last o.before (Apply o.name (side_by_side terms)))
          ∙ sym (ap (λ m. so_far r ++ Mark m ∷ []) (eqb-true mark 41 h) ∙ ap (λ ls. ls ++ Mark 41 ∷ []) e
          ∙ simp append_assoc),
      some_more o.before (Apply o.name (side_by_side terms)),
    )
    by_test false h = tt

with_last : (close : ℕ) (r : Reading) (l : Lexeme) (os : List Opened) (terms : List Written) (t : Written) → so_far r ++ l ∷ [] ≡ opens os ++ (comma_each terms ++ spelling t) →
    Steps close r l (On (record { opened = os; terms = terms ++ t ∷ []; expected = CommaOrEnd }))
with_last close r l os terms t e = (ap (λ ls. opens os ++ ls) (last terms t) ∙ sym e, some_more terms t)

-- a term, where one may come
terms_step : (close : ℕ) (r : Reading) (l : Lexeme) → so_far r ≡ opens r.opened ++ comma_each r.terms → Steps close r l (at_term r l)
terms_step close r (Name name) e = (sym (append_assoc (opens r.opened) (comma_each r.terms) (Name name ∷ [])) ∙ ap (λ ls. ls ++ Name name ∷ []) (sym e), tt)
terms_step close r (Number n) e = with_last close r (Number n) r.opened r.terms (Literal (P.Num n)) (ap (λ ls. ls ++ Number n ∷ []) e
    ∙ append_assoc (opens r.opened) (comma_each r.terms) (Number n ∷ []))
terms_step close r (Quoted t) e = with_last close r (Quoted t) r.opened r.terms (Literal (P.Text t)) (ap (λ ls. ls ++ Quoted t ∷ []) e
    ∙ append_assoc (opens r.opened) (comma_each r.terms) (Quoted t ∷ []))
terms_step close r (Node name) e = tt
terms_step close r (Mark mark) e = tt

-- a comma or the end, behind a term
comma_step : (close : ℕ) (r s : Reading) (mark : ℕ) → so_far r ≡ opens s.opened ++ spellings (side_by_side s.terms) → IsNonempty s.terms → Steps close r (Mark mark) (at_comma close s (Mark mark))
comma_step close r s mark e some = by_test (nat_eq mark 44) refl
  where
    by_test : (b : Bool) → nat_eq mark 44 ≡ b → Steps close r (Mark mark) (cond b (On (record s { expected = TermOnly })) (closed close s.opened s.terms mark))
    by_test true h = (
      ap (λ ls. opens s.opened ++ ls) (sym (comma s.terms some))
          ∙ sym (ap (λ m. so_far r ++ Mark m ∷ []) (eqb-true mark 44 h) ∙ ap (λ ls. ls ++ Mark 44 ∷ []) e ∙ append_assoc (opens s.opened) (spellings (side_by_side s.terms)) (Mark 44 ∷ [])),
      tt,
    )
    by_test false h = closes close r s.opened s.terms mark e

named_step : (close : ℕ) (os : List Opened) (terms : List Written) (name : List ℕ) (mark : ℕ) →
    Steps close (record { opened = os; terms = terms; expected = BehindName name }) (Mark mark) (behind_name close (record { opened = os; terms = terms; expected = BehindName name }) name (Mark mark))
named_step close os terms name mark = by_test (nat_eq mark 40) refl
  where
    by_test : (b : Bool) → nat_eq mark 40 ≡ b → Steps close (record { opened = os; terms = terms; expected = BehindName name }) (Mark mark)
        (cond b (On (record { opened = record { name = name; before = terms } ∷ os; terms = []; expected = TermOrEnd }))
        (at_comma close (record { opened = os; terms = terms ++ Word name ∷ []; expected = CommaOrEnd }) (Mark mark)))
    by_test true h = (
      append-nil (opens os ++ (comma_each terms ++ Name name ∷ Mark 40 ∷ []))
          ∙ sym (ap (λ m. (opens os ++ (comma_each terms ++ Name name ∷ [])) ++ Mark m ∷ []) (eqb-true mark 40 h) ∙ simp append_assoc),
      refl,
    )
    by_test false h = comma_step close (record { opened = os; terms = terms; expected = BehindName name }) (record { opened = os; terms = terms ++ Word name ∷ []; expected = CommaOrEnd }) mark
        (ap (λ ls. opens os ++ ls) (sym (last terms (Word name)))) (some_more terms (Word name))

start_step : (close : ℕ) (os : List Opened) (l : Lexeme) → Steps close (record { opened = os; terms = []; expected = TermOrEnd }) l
    (at_start close (record { opened = os; terms = []; expected = TermOrEnd }) l)
start_step close os (Mark mark) = closes close (record { opened = os; terms = []; expected = TermOrEnd }) os [] mark refl
start_step close os (Name name) = terms_step close (record { opened = os; terms = []; expected = TermOrEnd }) (Name name) refl
start_step close os (Number n) = terms_step close (record { opened = os; terms = []; expected = TermOrEnd }) (Number n) refl
start_step close os (Quoted t) = terms_step close (record { opened = os; terms = []; expected = TermOrEnd }) (Quoted t) refl
start_step close os (Node name) = terms_step close (record { opened = os; terms = []; expected = TermOrEnd }) (Node name) refl

one_step : (close : ℕ) (os : List Opened) (terms : List Written) (e : Expected) (l : Lexeme) → Fits terms e →
    Steps close (record { opened = os; terms = terms; expected = e }) l (read_one close (record { opened = os; terms = terms; expected = e }) e l)
one_step close os [] TermOrEnd l f = start_step close os l
one_step close os (t ∷ ts) TermOrEnd l f = absurd (cc)
one_step close os terms TermOnly l f = terms_step close (record { opened = os; terms = terms; expected = TermOnly }) l refl
one_step close os terms CommaOrEnd (Mark mark) f = comma_step close (record { opened = os; terms = terms; expected = CommaOrEnd })
    (record { opened = os; terms = terms; expected = CommaOrEnd }) mark refl f
one_step close os terms CommaOrEnd (Name name) f = tt
one_step close os terms CommaOrEnd (Number n) f = tt
one_step close os terms CommaOrEnd (Quoted t) f = tt
one_step close os terms CommaOrEnd (Node name) f = tt
one_step close os terms (BehindName n) (Mark mark) f = named_step close os terms n mark
one_step close os terms (BehindName n) (Name name) f = tt
one_step close os terms (BehindName n) (Number m) f = tt
one_step close os terms (BehindName n) (Quoted t) f = tt
one_step close os terms (BehindName n) (Node name) f = tt

-- what is read on from a lexeme is spelled so
from_step : (close : ℕ) (r : Reading) (l : Lexeme) (ls : List Lexeme) (x : Read) → Steps close r l x →
    ((s : Reading) → Fits s.terms s.expected → (ts : List Written) (rest : List Lexeme) → read_terms close s ls ≡ Some (ts, rest) → so_far s ++ ls ≡ spellings (side_by_side ts) ++ Mark close ∷ rest) →
    (ts : List Written) (rest : List Lexeme) → go_on x (λ s. read_terms close s ls) ls ≡ Some (ts, rest) → so_far r ++ l ∷ ls ≡ spellings (side_by_side ts) ++ Mark close ∷ rest
from_step close r l ls (On s) steps later ts rest e =
    sym (append_assoc (so_far r) (l ∷ []) ls) ∙ ap (λ us. us ++ ls) (sym steps.0) ∙ later s steps.1 ts rest e
from_step close r l ls (AtEnd us) steps later ts rest e =
    let pair : ◌≡◌ {A = List Written × List Lexeme} (us, ls) (ts, rest) = cc in
    let same : us ≡ ts = ap (λ (p : List Written × List Lexeme). p.0) pair in
    let left : ls ≡ rest = ap (λ (p : List Written × List Lexeme). p.1) pair in
    ap (λ k. k ++ l ∷ ls) steps.0 ∙ ap (λ vs. spellings (side_by_side vs) ++ l ∷ ls) same ∙ ap (λ k. spellings (side_by_side ts) ++ k ∷ ls) steps.1
    ∙ ap (λ vs. spellings (side_by_side ts) ++ Mark close ∷ vs) left
from_step close r l ls Misplaced steps later ts rest e = absurd (cc)

sound : (close : ℕ) (ls : List Lexeme) (r : Reading) → Fits r.terms r.expected → (ts : List Written) (rest : List Lexeme) →
    read_terms close r ls ≡ Some (ts, rest) → so_far r ++ ls ≡ spellings (side_by_side ts) ++ Mark close ∷ rest
sound close [] r f ts rest e = absurd (cc)
sound close (l ∷ ls) r f ts rest e = from_step close r l ls (read_one close r r.expected l) (one_step close r.opened r.terms r.expected l f) (λ s g us left h. sound close ls s g us left h) ts rest e

pub spelled_if_read : (close : ℕ) (ls : List Lexeme) (ts : List Written) (rest : List Lexeme) → terms_up_to close ls ≡ Some (ts, rest) → ls ≡ spellings (side_by_side ts) ++ Mark close ∷ rest
spelled_if_read close ls ts rest e = sound close ls (nothing_read TermOrEnd) refl ts rest e

-- the same where the list has one term or more
pub some_spelled_if_read : (close : ℕ) (ls : List Lexeme) (ts : List Written) (rest : List Lexeme) → read_terms close (nothing_read TermOnly)
    ls ≡ Some (ts, rest) → ls ≡ spellings (side_by_side ts) ++ Mark close ∷ rest
some_spelled_if_read close ls ts rest e = sound close ls (nothing_read TermOnly) tt ts rest e
