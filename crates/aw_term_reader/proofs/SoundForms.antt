-- What is read from sound lexemes: names are names, texts are contents, and what is left is sound.
use Rattle.std.proofs.Common.{◌≡◌, ℕ, Bool, true, false, cond, List, [], ◌∷◌, ◌++◌, Some, nat_eq, refl, subst}
use Rattle.std.proofs.lemmas.Option.{same_Some, cond_some}
use Rattle.aw_spelling.specs.Spelling.{is_name}
use Rattle.aw_term.specs.WellFormed.{Each}
use Rattle.aw_term.proofs.Eaches.{each_right}
use Rattle.aw_grammar.specs.Written.{Written, side_by_side}
use Rattle.aw_grammar.specs.Terms.{all_have_contents}
use Rattle.aw_term_reader.specs.Lexemes.{Lexeme, Name, Number, Node, Quoted, Mark}
use Rattle.aw_term_reader.specs.Terms.{TermOrEnd, TermOnly, spellings, terms_up_to, some_terms_up_to}
use Rattle.aw_term_reader.specs.Forms.{name, mark, terms_between, terms_in_braces}
use Rattle.aw_term_reader.specs.Sound.{IsSound}
use Rattle.aw_term_reader.proofs.SoundTerms.{texts_are_contents}
use Rattle.aw_term_reader.proofs.SpelledIfRead.{spelled_if_read, some_spelled_if_read}
use Rattle.aw_term_reader.proofs.Steps.{bound}

abbrev pub AreSound : List Lexeme → Type 0
AreSound ls = Each IsSound ls

pub name_sound : (ls : List Lexeme) (x : List ℕ × List Lexeme) → AreSound ls → name ls ≡ Some x → (is_name x.0 ≡ true) × AreSound x.1
name_sound [] x s e = cc
name_sound (Name n ∷ ls) x s e = subst (λ (y : List ℕ × List Lexeme). (is_name y.0 ≡ true) × AreSound y.1) (same_Some (n, ls) x e) (s.0, s.1)
name_sound (Number n ∷ ls) x s e = cc
name_sound (Node n ∷ ls) x s e = cc
name_sound (Quoted n ∷ ls) x s e = cc
name_sound (Mark n ∷ ls) x s e = cc

pub mark_sound : (byte : ℕ) (ls rest : List Lexeme) → AreSound ls → mark byte ls ≡ Some rest → AreSound rest
mark_sound byte [] rest s e = cc
mark_sound byte (Mark b ∷ ls) rest s e = subst AreSound (cond_some (nat_eq b byte) ls rest e).1 s.1
mark_sound byte (Name n ∷ ls) rest s e = cc
mark_sound byte (Number n ∷ ls) rest s e = cc
mark_sound byte (Node n ∷ ls) rest s e = cc
mark_sound byte (Quoted n ∷ ls) rest s e = cc

abbrev pub TermsSound : List Written × List Lexeme → Type 0
TermsSound x = (all_have_contents x.0 ≡ true) × AreSound x.1

rest_sound : (close : ℕ) (ls : List Lexeme) (ts : List Written) (rest : List Lexeme) → AreSound ls → ls ≡ spellings (side_by_side ts) ++ Mark close ∷ rest → AreSound rest
rest_sound close ls ts rest s e =
    let behind : AreSound (Mark close ∷ rest) = each_right IsSound (spellings (side_by_side ts)) (Mark close ∷ rest) (subst AreSound e s) in behind.1

up_to_sound : (close : ℕ) (ls : List Lexeme) (x : List Written × List Lexeme) → AreSound ls → terms_up_to close ls ≡ Some x → TermsSound x
up_to_sound close ls x s e = (texts_are_contents close TermOrEnd ls x.0 x.1 tt s e, rest_sound close ls x.0 x.1 s (spelled_if_read close ls x.0 x.1 e))

some_up_to_sound : (close : ℕ) (ls : List Lexeme) (x : List Written × List Lexeme) → AreSound ls → some_terms_up_to close ls ≡ Some x → TermsSound x
some_up_to_sound close ls x s e = (texts_are_contents close TermOnly ls x.0 x.1 tt s e, rest_sound close ls x.0 x.1 s (some_spelled_if_read close ls x.0 x.1 e))

pub between_sound : (start close : ℕ) (ls : List Lexeme) (x : List Written × List Lexeme) → AreSound ls → terms_between start close ls ≡ Some x → TermsSound x
between_sound start close ls x s e = bound (mark start ls) (λ inside. terms_up_to close inside) x e (λ inside found next. up_to_sound close inside x (mark_sound start ls inside s found) next)

no_terms : (ls : List Lexeme) (x : List Written × List Lexeme) → AreSound ls → Some ([], ls) ≡ Some x → TermsSound x
no_terms ls x s e = subst TermsSound (same_Some ([], ls) x e) (refl, s)

pub braces_sound : (ls : List Lexeme) (x : List Written × List Lexeme) → AreSound ls → terms_in_braces ls ≡ Some x → TermsSound x
braces_sound [] x s e = no_terms [] x tt e
braces_sound (Mark b ∷ ls) x s e = by_test (nat_eq b 123) e
  where
    by_test : (t : Bool) → cond t (some_terms_up_to 125 ls) (Some ([], Mark b ∷ ls)) ≡ Some x → TermsSound x
    by_test true h = some_up_to_sound 125 ls x s.1 h
    by_test false h = no_terms (Mark b ∷ ls) x s h
braces_sound (Name n ∷ ls) x s e = no_terms (Name n ∷ ls) x s e
braces_sound (Number n ∷ ls) x s e = no_terms (Number n ∷ ls) x s e
braces_sound (Node n ∷ ls) x s e = no_terms (Node n ∷ ls) x s e
braces_sound (Quoted n ∷ ls) x s e = no_terms (Quoted n ∷ ls) x s e
