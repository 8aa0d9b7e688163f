-- What is read from tokens: names are names, and texts are contents.
use Rattle.std.proofs.Common.{◌≡◌, ℕ, true, false, cond, List, [], ◌∷◌, ◌++◌, Option, None, Some, unwrap_or, IfSome, refl, ap, subst, nat_eq}
use Rattle.std.proofs.lemmas.Bool.{and_parts, and_from}
use Rattle.aw_spelling.specs.Spelling.{is_name, is_content, unquoted}
use Rattle.aw_spelling.proofs.Quotes.{unquoted_is_content}
use Rattle.aw_lex.specs.declared.token.Token.{Token}
use Rattle.aw_lex.specs.declared.token.TokenKind.{TokenKind}
use Rattle.aw_lex.specs.declared.token.TokenKind.TheVariants as kinds
use Rattle.aw_lex.specs.Tokens.{AreSlices, Spells}
use Rattle.aw_term.specs.Trees as P
use Rattle.aw_term.specs.WellFormed.{Each}
use Rattle.aw_grammar.specs.Written.{Written, Word, Apply, Literal, side_by_side}
use Rattle.aw_grammar.specs.Terms.{has_contents, parts_have_contents, all_have_contents}
use Rattle.aw_grammar.proofs.Contents.{contents_append}
use Rattle.aw_term_reader.specs.Lexemes.{Lexeme, Name, Number, Node, Quoted, Mark, said, slice, lexemes}
use Rattle.aw_term_reader.specs.Terms.{Expected, TermOrEnd, TermOnly, CommaOrEnd, BehindName, Opened, Reading, Read, On, AtEnd, Misplaced, with_term}
use Rattle.aw_term_reader.specs.Terms.{with_opened, closed, at_term, at_comma, at_start, behind_name, read_one, go_on, read_terms, nothing_read}
use Rattle.aw_term_reader.specs.Sound.{IsSound, IsSoundBehind}

content_or_empty : (o : Option (List ℕ)) → IfSome o (λ c. is_content c ≡ true) → is_content (unwrap_or o []) ≡ true
content_or_empty None h = refl
content_or_empty (Some c) h = h

said_sound : (kind : TokenKind) (bytes : List ℕ) → Spells kind bytes → IsSound (said kind bytes)
said_sound kinds.Name bytes h = h
said_sound kinds.Number bytes h = tt
said_sound kinds.Node bytes h = tt
said_sound kinds.Text bytes h = content_or_empty (unquoted bytes) (unquoted_is_content bytes)
said_sound (kinds.Mark b) bytes h = tt

pub tokens_are_sound : (line : List ℕ) (from : ℕ) (tokens : List Token) → AreSlices line from tokens → Each IsSound (lexemes line tokens)
tokens_are_sound line from [] h = tt
tokens_are_sound line from (t ∷ ts) h = (said_sound t.kind (slice line t) h.3, tokens_are_sound line t.end ts h.4)

parts_of_list : (ts : List Written) → all_have_contents ts ≡ true → parts_have_contents (side_by_side ts) ≡ true
parts_of_list [] h = refl
parts_of_list (t ∷ ts) h = let (first, rest) = and_parts _ _ h in and_from _ _ first (parts_of_list ts rest)

with_last : (ts : List Written) (t : Written) → all_have_contents ts ≡ true → has_contents t ≡ true → all_have_contents (ts ++ t ∷ []) ≡ true
with_last ts t h k = contents_append ts (t ∷ []) h (and_from (has_contents t) true k refl)

abbrev OpenFine : Opened → Type 0
OpenFine o = all_have_contents o.before ≡ true

-- the terms read so far have contents
abbrev IsFine : Reading → Type 0
IsFine r = Each OpenFine r.opened × ((all_have_contents r.terms ≡ true) × IsSoundBehind r.expected)

abbrev ReadsFine : Read → Type 0
ReadsFine (On r) = IsFine r
ReadsFine (AtEnd ts) = all_have_contents ts ≡ true
ReadsFine Misplaced = Unit {0}

closes : (close : ℕ) (os : List Opened) (terms : List Written) (mark : ℕ) → Each OpenFine os → all_have_contents terms ≡ true → ReadsFine (closed close os terms mark)
closes close [] terms mark fine h = elim (nat_eq mark close) as (λ b. ReadsFine (cond b (AtEnd terms) Misplaced)) [ true ↦ h | false ↦ tt ]
closes close (o ∷ os) terms mark fine h =
    elim (nat_eq mark 41) as (λ b. ReadsFine (cond b (On (record { opened = os; terms = o.before ++ Apply o.name (side_by_side terms) ∷ []; expected = CommaOrEnd })) Misplaced)) [
      | true ↦ (fine.1, (with_last o.before (Apply o.name (side_by_side terms)) fine.0 (parts_of_list terms h), tt))
      | false ↦ tt
    ]

term_step : (r : Reading) (l : Lexeme) → IsSound l → IsFine r → ReadsFine (at_term r l)
term_step r (Name n) s fine = (fine.0, (fine.1.0, s))
term_step r (Number n) s fine = (fine.0, (with_last r.terms (Literal (P.Num n)) fine.1.0 refl, tt))
term_step r (Quoted t) s fine = (fine.0, (with_last r.terms (Literal (P.Text t)) fine.1.0 s, tt))
term_step r (Node n) s fine = tt
term_step r (Mark m) s fine = tt

comma_step : (close : ℕ) (r : Reading) (l : Lexeme) → IsFine r → ReadsFine (at_comma close r l)
comma_step close r (Mark m) fine =
    elim (nat_eq m 44) as (λ b. ReadsFine (cond b (On (record r { expected = TermOnly })) (closed close r.opened r.terms m)))
    [ true ↦ (fine.0, (fine.1.0, tt)) | false ↦ closes close r.opened r.terms m fine.0 fine.1.0 ]
comma_step close r (Name n) fine = tt
comma_step close r (Number n) fine = tt
comma_step close r (Quoted t) fine = tt
comma_step close r (Node n) fine = tt

start_step : (close : ℕ) (r : Reading) (l : Lexeme) → IsSound l → IsFine r → ReadsFine (at_start close r l)
start_step close r (Mark m) s fine = closes close r.opened r.terms m fine.0 fine.1.0
start_step close r (Name n) s fine = term_step r (Name n) s fine
start_step close r (Number n) s fine = term_step r (Number n) s fine
start_step close r (Quoted t) s fine = term_step r (Quoted t) s fine
start_step close r (Node n) s fine = tt

name_step : (close : ℕ) (r : Reading) (name : List ℕ) (l : Lexeme) → is_name name ≡ true → IsFine r → ReadsFine (behind_name close r name l)
name_step close r name (Mark m) named fine =
    elim (nat_eq m 40) as (λ b. ReadsFine (cond b (On (with_opened r name)) (at_comma close (with_term r (Word name)) (Mark m)))) [
      | true ↦ ((fine.1.0, fine.0), (refl, tt))
      | false ↦ comma_step close (with_term r (Word name)) (Mark m) (fine.0, (with_last r.terms (Word name) fine.1.0 named, tt))
    ]
name_step close r name (Name n) named fine = tt
name_step close r name (Number n) named fine = tt
name_step close r name (Quoted t) named fine = tt
name_step close r name (Node n) named fine = tt

one_step : (close : ℕ) (r : Reading) (e : Expected) (l : Lexeme) → IsSoundBehind e → IsSound l → IsFine r → ReadsFine (read_one close r e l)
one_step close r TermOrEnd l b s fine = start_step close r l s fine
one_step close r TermOnly l b s fine = term_step r l s fine
one_step close r CommaOrEnd l b s fine = comma_step close r l fine
one_step close r (BehindName name) l b s fine = name_step close r name l b fine

from_step : (x : Read) (ls : List Lexeme) (more : Reading → Option (List Written × List Lexeme)) (ts : List Written) (rest : List Lexeme) → ReadsFine x →
    ((s : Reading) → IsFine s → more s ≡ Some (ts, rest) → all_have_contents ts ≡ true) → go_on x more ls ≡ Some (ts, rest) → all_have_contents ts ≡ true
from_step (On s) ls more ts rest fine later e = later s fine e
from_step (AtEnd us) ls more ts rest fine later e =
    let pair : ◌≡◌ {A = List Written × List Lexeme} (us, ls) (ts, rest) = cc in
    subst (λ us. all_have_contents us ≡ true) (ap (λ (p : List Written × List Lexeme). p.0) pair) fine
from_step Misplaced ls more ts rest fine later e = cc

fine_terms : (close : ℕ) (ls : List Lexeme) (r : Reading) (ts : List Written) (rest : List Lexeme) → Each IsSound ls → IsFine r → read_terms close r ls ≡ Some (ts, rest) → all_have_contents ts ≡ true
fine_terms close [] r ts rest s fine e = cc
fine_terms close (l ∷ ls) r ts rest s fine e =
    from_step (read_one close r r.expected l) ls (λ next. read_terms close next ls) ts rest (one_step close r r.expected l fine.1.1 s.0 fine) (λ next f h. fine_terms close ls next ts rest s.1 f h) e

pub texts_are_contents : (close : ℕ) (expected : Expected) (ls : List Lexeme) (ts : List Written) (rest : List Lexeme) → IsSoundBehind expected →
    Each IsSound ls → read_terms close (nothing_read expected) ls ≡ Some (ts, rest) → all_have_contents ts ≡ true
texts_are_contents close expected ls ts rest b s e = fine_terms close ls (nothing_read expected) ts rest s (tt, (refl, b)) e
