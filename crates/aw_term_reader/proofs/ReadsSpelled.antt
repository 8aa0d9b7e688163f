-- Spelled terms are read as they were.
use Rattle.std.proofs.Common.{◌≡◌, ◌≢◌, ℕ, cond, List, [], ◌∷◌, ◌++◌, Some, refl, sym, ap, ◌∙◌, append_assoc, append-nil, arith}
use Rattle.std.proofs.lemmas.Bool.{ne_eqb, eq-eqb}
use Rattle.aw_term.specs.Trees as P
use Rattle.aw_grammar.specs.Written.{Written, Word, Apply, Literal, Writtens, Empty, Then, side_by_side}
use Rattle.aw_term_reader.specs.Lexemes.{Lexeme, Name, Number, Node, Quoted, Mark}
use Rattle.aw_term_reader.specs.Terms.{Expected, TermOrEnd, TermOnly, CommaOrEnd, BehindName, Opened, Reading, On, AtEnd, Misplaced, spelling}
use Rattle.aw_term_reader.specs.Terms.{spellings, spellings_behind, closed, at_comma, go_on, read_terms, terms_up_to}
use Rattle.aw_term_reader.specs.Laws.{IsWritten, AreWritten}

-- what may follow a term: a mark, but not `(`
abbrev Follows : List Lexeme → Type 0
Follows [] = P.Never
Follows (Mark m ∷ ls) = m ≢ 40
Follows (l ∷ ls) = P.Never

-- a term may come next
abbrev Awaits : Expected → Type 0
Awaits TermOrEnd = Unit {0}
Awaits TermOnly = Unit {0}
Awaits CommaOrEnd = P.Never
Awaits (BehindName name) = P.Never

abbrev state : List Opened → List Written → Expected → Reading
state opened terms expected = record { opened = opened; terms = terms; expected = expected }

-- behind a bare name a following mark does what it does behind a term
follow : (close : ℕ) (os : List Opened) (terms : List Written) (name : List ℕ) (ls : List Lexeme) → Follows ls →
    read_terms close (state os terms (BehindName name)) ls ≡ read_terms close (state os (terms ++ Word name ∷ []) CommaOrEnd) ls
follow close os terms name [] f = elim f [ ]
follow close os terms name (Mark m ∷ ls) f =
    ap (λ b. go_on (cond b (On (state (record { name = name; before = terms } ∷ os) [] TermOrEnd))
    (at_comma close (state os (terms ++ Word name ∷ []) CommaOrEnd) (Mark m))) (λ s. read_terms close s ls) ls) (ne_eqb m 40 f)
follow close os terms name (Name n ∷ ls) f = elim f [ ]
follow close os terms name (Number n ∷ ls) f = elim f [ ]
follow close os terms name (Node n ∷ ls) f = elim f [ ]
follow close os terms name (Quoted t ∷ ls) f = elim f [ ]

end_is_none : ◌≢◌ {A = ℕ} 41 40
end_is_none = λ e. omega (arith, e)

end_is_no_comma : ◌≢◌ {A = ℕ} 41 44
end_is_no_comma = λ e. omega (arith, e)

behind_follows : (ts : Writtens) (m : ℕ) (ls : List Lexeme) → m ≢ 40 → Follows (spellings_behind ts ++ Mark m ∷ ls)
behind_follows Empty m ls h = h
behind_follows (Then t ts) m ls h = λ e. omega (arith, e)

-- a list of terms as a list again
abbrev listed : Writtens → List Written
listed Empty = []
listed (Then t ts) = t ∷ listed ts

side_by_side-listed : (ts : Writtens) → side_by_side (listed ts) ≡ ts
side_by_side-listed Empty = refl
side_by_side-listed (Then t ts) = ap (Then t) (side_by_side-listed ts)

listed-side_by_side : (ts : List Written) → listed (side_by_side ts) ≡ ts
listed-side_by_side [] = refl
listed-side_by_side (t ∷ ts) = ap (λ us. t ∷ us) (listed-side_by_side ts)

-- the parts of a constructor are read, and it is a term
applied : (close : ℕ) (name : List ℕ) (parts : Writtens) (os : List Opened) (terms : List Written) (ls : List Lexeme) →
    read_terms close (state (record { name = name; before = terms } ∷ os) [] TermOrEnd) (spellings parts ++ Mark 41 ∷ ls)
    ≡ go_on (closed close (record { name = name; before = terms } ∷ os) (listed parts) 41) (λ s. read_terms close s ls) ls →
    read_terms close (state (record { name = name; before = terms } ∷ os) [] TermOrEnd) ((spellings parts ++ Mark 41 ∷ []) ++ ls) ≡ read_terms close
    (state os (terms ++ Apply name parts ∷ []) CommaOrEnd) ls
applied close name parts os terms ls h =
    ap (read_terms close (state (record { name = name; before = terms } ∷ os) [] TermOrEnd)) (append_assoc (spellings parts) (Mark 41 ∷ []) ls)
    ∙ h
    ∙ ap (λ ts. read_terms close (state os (terms ++ Apply name ts ∷ []) CommaOrEnd) ls) (side_by_side-listed parts)

mutual
  one : (close : ℕ) (t : Written) → IsWritten t → (os : List Opened) (terms : List Written) (e : Expected) (ls : List Lexeme) → Awaits e → Follows ls →
      read_terms close (state os terms e) (spelling t ++ ls) ≡ read_terms close (state os (terms ++ t ∷ []) CommaOrEnd) ls
  one close (Word name) w os terms TermOrEnd ls a f = follow close os terms name ls f
  one close (Word name) w os terms TermOnly ls a f = follow close os terms name ls f
  one close (Word name) w os terms CommaOrEnd ls a f = elim a [ ]
  one close (Word name) w os terms (BehindName n) ls a f = elim a [ ]
  one close (Literal (P.Con c)) w os terms e ls a f = elim w [ ]
  one close (Literal (P.Num n)) w os terms TermOrEnd ls a f = refl
  one close (Literal (P.Num n)) w os terms TermOnly ls a f = refl
  one close (Literal (P.Num n)) w os terms CommaOrEnd ls a f = elim a [ ]
  one close (Literal (P.Num n)) w os terms (BehindName m) ls a f = elim a [ ]
  one close (Literal (P.Text t)) w os terms TermOrEnd ls a f = refl
  one close (Literal (P.Text t)) w os terms TermOnly ls a f = refl
  one close (Literal (P.Text t)) w os terms CommaOrEnd ls a f = elim a [ ]
  one close (Literal (P.Text t)) w os terms (BehindName m) ls a f = elim a [ ]
  one close (Apply name parts) w os terms TermOrEnd ls a f = applied close name parts os terms ls (all close parts w (record { name = name; before = terms } ∷ os) 41 ls end_is_none end_is_no_comma)
  one close (Apply name parts) w os terms TermOnly ls a f = applied close name parts os terms ls (all close parts w (record { name = name; before = terms } ∷ os) 41 ls end_is_none end_is_no_comma)
  one close (Apply name parts) w os terms CommaOrEnd ls a f = elim a [ ]
  one close (Apply name parts) w os terms (BehindName n) ls a f = elim a [ ]

  all : (close : ℕ) (ts : Writtens) → AreWritten ts → (os : List Opened) (m : ℕ) (ls : List Lexeme) → m ≢ 40 → m ≢ 44 →
      read_terms close (state os [] TermOrEnd) (spellings ts ++ Mark m ∷ ls) ≡ go_on (closed close os (listed ts) m) (λ s. read_terms close s ls) ls
  all close Empty w os m ls h k = refl
  all close (Then t ts) w os m ls h k =
      ap (read_terms close (state os [] TermOrEnd)) (append_assoc (spelling t) (spellings_behind ts) (Mark m ∷ ls))
      ∙ one close t w.0 os [] TermOrEnd (spellings_behind ts ++ Mark m ∷ ls) tt (behind_follows ts m ls h)
      ∙ behind close ts w.1 os (t ∷ []) m ls h k

  behind : (close : ℕ) (ts : Writtens) → AreWritten ts → (os : List Opened) (terms : List Written) (m : ℕ) (ls : List Lexeme) → m ≢ 40 → m ≢ 44 →
      read_terms close (state os terms CommaOrEnd) (spellings_behind ts ++ Mark m ∷ ls) ≡ go_on (closed close os (terms ++ listed ts) m) (λ s. read_terms close s ls) ls
  behind close Empty w os terms m ls h k =
      ap (λ b. go_on (cond b (On (state os terms TermOnly)) (closed close os terms m)) (λ s. read_terms close s ls) ls) (ne_eqb m 44 k)
      ∙ ap (λ ts. go_on (closed close os ts m) (λ s. read_terms close s ls) ls) (sym (append-nil terms))
  behind close (Then t ts) w os terms m ls h k =
      ap (read_terms close (state os terms TermOnly)) (append_assoc (spelling t) (spellings_behind ts) (Mark m ∷ ls))
      ∙ one close t w.0 os terms TermOnly (spellings_behind ts ++ Mark m ∷ ls) tt (behind_follows ts m ls h)
      ∙ behind close ts w.1 os (terms ++ t ∷ []) m ls h k
      ∙ ap (λ us. go_on (closed close os us m) (λ s. read_terms close s ls) ls) (append_assoc terms (t ∷ []) (listed ts))

pub reads_spelled : (close : ℕ) (ts : List Written) (rest : List Lexeme) → close ≢ 40 → close ≢ 44 → AreWritten (side_by_side ts) →
    terms_up_to close (spellings (side_by_side ts) ++ Mark close ∷ rest) ≡ Some (ts, rest)
reads_spelled close ts rest h k w =
    all close (side_by_side ts) w [] close rest h k
    ∙ ap (λ b. go_on (cond b (AtEnd (listed (side_by_side ts))) Misplaced) (λ s. read_terms close s rest) rest) (eq-eqb close close refl)
    ∙ ap (λ us. Some (us, rest)) (listed-side_by_side ts)
