-- What was read as a line is spelled so.
use Rattle.std.proofs.Common.{◌≡◌, ℕ, Bool, true, false, cond, List, [], ◌∷◌, ◌++◌, Option, None, Some, option_map, codes, nat_eq, refl, sym, ap, ◌∙◌, subst, append_assoc, append-nil}
use Rattle.std.proofs.lemmas.Bool.{eqb-true, and_parts}
use Rattle.std.proofs.lemmas.Option.{same_Some}
use Rattle.aw_term.specs.Trees.{nats_eq}
use Rattle.aw_grammar.specs.Written.{Written, Word, Apply, Literal, WrittenChild, WrittenRule, side_by_side}
use Rattle.aw_term_reader.specs.Lexemes.{Lexeme, Name, Number, Node, Quoted, Mark}
use Rattle.aw_term_reader.specs.Terms.{spellings, terms_up_to, some_terms_up_to, names_of}
use Rattle.aw_term_reader.specs.Forms.{◌>>=◌, name, number, mark, end, only, terms_between, names_between, terms_in_braces, names_in_braces}
use Rattle.aw_term_reader.proofs.ReadForms.{name_is, number_is, mark_is, end_is}
use Rattle.aw_term_reader.proofs.SpelledIfRead.{spelled_if_read, some_spelled_if_read}
use Rattle.aw_term_reader.proofs.SomeTerms.{IsNonempty, some_terms}
use Rattle.aw_term_reader.proofs.Steps.{bound}
use Rattle.aw_spec.specs.Lines.{Line, RoleLine, ConLine, SortLine, StartLine, OfferLine, UseLine, TypeLine, ShapeLine, CarryLine, DependsLine, FreeLine}
use Rattle.aw_spec.specs.Lines.{RuleLine, ScheduleLine, as_words, in_parentheses, in_angles, params_spelling, child_spelling, behind_child}
use Rattle.aw_spec.specs.Lines.{children_spelling, line_spelling}
use Rattle.aw_spec.specs.ReadLine.{child_of, is_semicolon, in_front, pieces, children_of, rest_of_rule, role_line, con_line, sort_line, start_line}
use Rattle.aw_spec.specs.ReadLine.{offer_line, use_line, type_line, shape_line, carry_line, depends_line, rule_line, versioned, schedule_line, by_word}
use Rattle.aw_spec.specs.ReadLine.{line_of}

between_is : (start close : ℕ) (ls : List Lexeme) (x : List Written × List Lexeme) → terms_between start close ls ≡ Some x → ls ≡ Mark start ∷ (spellings (side_by_side x.0) ++ Mark close ∷ x.1)
between_is start close ls x e =
    bound (mark start ls) (λ inside. terms_up_to close inside) x e (λ inside found next.
    mark_is start ls inside found ∙ ap (λ k. Mark start ∷ k) (spelled_if_read close inside x.0 x.1 next))

front_word : (n : List ℕ) (ts : List Written) (o : Option (List (List ℕ))) (ns : List (List ℕ)) →
    ((ms : List (List ℕ)) → o ≡ Some ms → ts ≡ as_words ms) → option_map (λ names. n ∷ names) o ≡ Some ns → Word n ∷ ts ≡ as_words ns
front_word n ts None ns later e = cc
front_word n ts (Some ms) ns later e =
    let same : ◌≡◌ {A = List (List ℕ)} (n ∷ ms) ns = cc in
    ap (λ us. Word n ∷ us) (later ms refl) ∙ ap as_words same

words_are : (ts : List Written) (ns : List (List ℕ)) → names_of ts ≡ Some ns → ts ≡ as_words ns
words_are [] ns e = let same : ◌≡◌ {A = List (List ℕ)} [] ns = cc in ap as_words same
words_are (Word n ∷ ts) ns e = front_word n ts (names_of ts) ns (λ ms h. words_are ts ms h) e
words_are (Apply n us ∷ ts) ns e = cc
words_are (Literal h ∷ ts) ns e = cc

abbrev NamesRead : Type 0
NamesRead = List (List ℕ) × List Lexeme

names_between_is : (start close : ℕ) (ls : List Lexeme) (x : NamesRead) → names_between start close ls ≡ Some x → ls ≡ Mark start ∷ (spellings (side_by_side (as_words x.0)) ++ Mark close ∷ x.1)
names_between_is start close ls x e =
    bound (terms_between start close ls) (λ terms. names_of terms.0 >>= λ names. Some (names, terms.1)) x e (λ terms found next.
    bound (names_of terms.0) (λ names. Some (names, terms.1)) x next (λ names listed last.
    between_is start close ls terms found ∙ ap (λ ts. Mark start ∷ (spellings (side_by_side ts) ++ Mark close ∷ terms.1)) (words_are terms.0 names listed)
    ∙ ap (λ (p : NamesRead). Mark start ∷ (spellings (side_by_side (as_words p.0)) ++ Mark close ∷ p.1)) (same_Some (names, terms.1) x last)))

abbrev TermsRead : Type 0
TermsRead = List Written × List Lexeme

unbraced : (ls : List Lexeme) (terms : TermsRead) (names : List (List ℕ)) → ◌≡◌ {A = TermsRead} ([], ls) terms → terms.0 ≡ as_words names → ls ≡ params_spelling names ++ terms.1
unbraced ls terms [] p h = ap (λ (q : TermsRead). q.1) p
unbraced ls terms (n ∷ ns) p h = let none : [] ≡ terms.0 = ap (λ (q : TermsRead). q.0) p in absurd (nothing (none ∙ h))
  where
    nothing : ◌≡◌ {A = List Written} [] (Word n ∷ as_words ns) → ⊥
    nothing e = cc

braced : (ls : List Lexeme) (terms : TermsRead) (names : List (List ℕ)) → some_terms_up_to 125 ls ≡ Some terms → terms.0 ≡ as_words names → Mark 123 ∷ ls ≡ params_spelling names ++ terms.1
braced ls terms [] e h = elim (subst IsNonempty h (some_terms 125 ls terms.0 terms.1 e)) [ ]
braced ls terms (n ∷ ns) e h =
    ap (λ k. Mark 123 ∷ k)
    (some_spelled_if_read 125 ls terms.0 terms.1 e ∙ ap (λ ts. spellings (side_by_side ts) ++ Mark 125 ∷ terms.1) h
    ∙ sym (append_assoc (spellings (side_by_side (as_words (n ∷ ns)))) (Mark 125 ∷ []) terms.1))

by_brace : (b : ℕ) (ls : List Lexeme) (terms : TermsRead) (names : List (List ℕ)) (t : Bool) → nat_eq b 123 ≡ t → cond t (some_terms_up_to 125 ls)
    (Some ([], Mark b ∷ ls)) ≡ Some terms → terms.0 ≡ as_words names →
    Mark b ∷ ls ≡ params_spelling names ++ terms.1
by_brace b ls terms names true h e w = ap (λ m. Mark m ∷ ls) (eqb-true b 123 h) ∙ braced ls terms names e w
by_brace b ls terms names false h e w = unbraced (Mark b ∷ ls) terms names (same_Some ([], Mark b ∷ ls) terms e) w

braces_front : (ls : List Lexeme) (terms : TermsRead) (names : List (List ℕ)) → terms_in_braces ls ≡ Some terms → terms.0 ≡ as_words names → ls ≡ params_spelling names ++ terms.1
braces_front [] terms names e h = unbraced [] terms names (same_Some ([], []) terms e) h
braces_front (Mark b ∷ ls) terms names e h = by_brace b ls terms names (nat_eq b 123) refl e h
braces_front (Name n ∷ ls) terms names e h = unbraced (Name n ∷ ls) terms names (same_Some ([], Name n ∷ ls) terms e) h
braces_front (Number n ∷ ls) terms names e h = unbraced (Number n ∷ ls) terms names (same_Some ([], Number n ∷ ls) terms e) h
braces_front (Node n ∷ ls) terms names e h = unbraced (Node n ∷ ls) terms names (same_Some ([], Node n ∷ ls) terms e) h
braces_front (Quoted n ∷ ls) terms names e h = unbraced (Quoted n ∷ ls) terms names (same_Some ([], Quoted n ∷ ls) terms e) h

braces_are : (ls : List Lexeme) (x : NamesRead) → names_in_braces ls ≡ Some x → ls ≡ params_spelling x.0 ++ x.1
braces_are ls x e =
    bound (terms_in_braces ls) (λ terms. names_of terms.0 >>= λ names. Some (names, terms.1)) x e (λ terms found next.
    bound (names_of terms.0) (λ names. Some (names, terms.1)) x next (λ names listed last.
    braces_front ls terms names found (words_are terms.0 names listed) ∙ ap (λ (p : NamesRead). params_spelling p.0 ++ p.1) (same_Some (names, terms.1) x last)))

pub parenthesised : (ts : List Written) (rest : List Lexeme) → Mark 40 ∷ (spellings (side_by_side ts) ++ Mark 41 ∷ rest) ≡ in_parentheses ts ++ rest
parenthesised ts rest = ap (λ k. Mark 40 ∷ k) (sym (append_assoc (spellings (side_by_side ts)) (Mark 41 ∷ []) rest))

pub angled : (ts : List Written) (rest : List Lexeme) → Mark 60 ∷ (spellings (side_by_side ts) ++ Mark 62 ∷ rest) ≡ in_angles ts ++ rest
angled ts rest = ap (λ k. Mark 60 ∷ k) (sym (append_assoc (spellings (side_by_side ts)) (Mark 62 ∷ []) rest))

child_is : (ls : List Lexeme) (c : WrittenChild) → child_of ls ≡ Some c → ls ≡ child_spelling c
child_is ls c e =
    bound (name ls) _ c e (λ sort f1 e1. bound (terms_between 40 41 sort.1) _ c e1 (λ args f2 e2. bound (names_between 60 62 args.1) _ c e2 (λ results f3 e3.
    bound (end results.1) _ c e3 (λ done f4 e4.
    let same : ◌≡◌ {A = WrittenChild} (record { sort = sort.0; args = args.0; results = results.0 }) c = cc in
    let angles : args.1 ≡ in_angles (as_words results.0) =
    names_between_is 60 62 args.1 results f3 ∙ angled (as_words results.0) results.1 ∙ ap (λ k. in_angles (as_words results.0) ++ k)
    (end_is results.1 done f4) ∙ append-nil (in_angles (as_words results.0)) in
    name_is ls sort f1 ∙ ap (λ k. Name sort.0 ∷ k) (between_is 40 41 sort.1 args f2 ∙ parenthesised args.0 args.1 ∙ ap (λ k. in_parentheses args.0 ++ k) angles) ∙ ap child_spelling same))))

-- pieces, each behind a `;`
abbrev behind_pieces : List (List Lexeme) → List Lexeme
behind_pieces [] = []
behind_pieces (p ∷ ps) = Mark 59 ∷ (p ++ behind_pieces ps)

front_behind : (l : Lexeme) (ps : List (List Lexeme)) (ls : List Lexeme) → behind_pieces ps ≡ Mark 59 ∷ ls → behind_pieces (in_front l ps) ≡ Mark 59 ∷ l ∷ ls
front_behind l [] ls e = cc
front_behind l (p ∷ ps) ls e = let same : p ++ behind_pieces ps ≡ ls = cc in ap (λ k. Mark 59 ∷ l ∷ k) same

semicolon_is : (l : Lexeme) → is_semicolon l ≡ true → l ≡ Mark 59
semicolon_is (Mark b) h = ap Mark (eqb-true b 59 h)
semicolon_is (Name n) h = cc
semicolon_is (Number n) h = cc
semicolon_is (Node n) h = cc
semicolon_is (Quoted n) h = cc

cut_joins : (l : Lexeme) (ls : List Lexeme) (ps : List (List Lexeme)) (t : Bool) → is_semicolon l ≡ t → behind_pieces ps ≡ Mark 59 ∷ ls →
    behind_pieces (cond t ([] ∷ ps) (in_front l ps)) ≡ Mark 59 ∷ l ∷ ls
cut_joins l ls ps true h e = ap (λ k. Mark 59 ∷ k) (e ∙ ap (λ x. x ∷ ls) (sym (semicolon_is l h)))
cut_joins l ls ps false h e = front_behind l ps ls e

pieces_join : (ls : List Lexeme) → behind_pieces (pieces ls) ≡ Mark 59 ∷ ls
pieces_join [] = refl
pieces_join (l ∷ ls) = cut_joins l ls (pieces ls) (is_semicolon l) refl (pieces_join ls)

children_are : (ps : List (List Lexeme)) (cs : List WrittenChild) → children_of ps ≡ Some cs → behind_pieces ps ≡ behind_child cs
children_are [] cs e = let same : ◌≡◌ {A = List WrittenChild} [] cs = cc in ap behind_child same
children_are (p ∷ ps) cs e =
    bound (child_of p) _ cs e (λ c found e1. bound (children_of ps) _ cs e1 (λ more read e2.
    let same : ◌≡◌ {A = List WrittenChild} (c ∷ more) cs = cc in
    ap (λ k. Mark 59 ∷ (k ++ behind_pieces ps)) (child_is p c found) ∙ ap (λ k. Mark 59 ∷ (child_spelling c ++ k)) (children_are ps more read) ∙ ap behind_child same))

behind_mark : (ls : List Lexeme) (cs : List WrittenChild) → Mark 59 ∷ ls ≡ behind_child cs → Mark 61 ∷ ls ≡ children_spelling cs
behind_mark ls [] e = cc
behind_mark ls (c ∷ cs) e = let same : ls ≡ child_spelling c ++ behind_child cs = cc in ap (λ k. Mark 61 ∷ k) same

by_equals : (b : ℕ) (ls : List Lexeme) (cs : List WrittenChild) (t : Bool) → nat_eq b 61 ≡ t → cond t (children_of (pieces ls)) None ≡ Some cs → Mark b ∷ ls ≡ children_spelling cs
by_equals b ls cs true h e = ap (λ m. Mark m ∷ ls) (eqb-true b 61 h) ∙ behind_mark ls cs (sym (pieces_join ls) ∙ children_are (pieces ls) cs e)
by_equals b ls cs false h e = cc

rest_is : (ls : List Lexeme) (cs : List WrittenChild) → rest_of_rule ls ≡ Some cs → ls ≡ children_spelling cs
rest_is [] cs e = let same : ◌≡◌ {A = List WrittenChild} [] cs = cc in ap children_spelling same
rest_is (Mark b ∷ ls) cs e = by_equals b ls cs (nat_eq b 61) refl e
rest_is (Name n ∷ ls) cs e = cc
rest_is (Number n ∷ ls) cs e = cc
rest_is (Node n ∷ ls) cs e = cc
rest_is (Quoted n ∷ ls) cs e = cc

-- a line that ends behind what was read
at_end : (line l : Line) (front ls : List Lexeme) → front ≡ line_spelling line → only line ls ≡ Some l → front ++ ls ≡ line_spelling l
at_end line l front ls d e = bound (end ls) _ l e (λ done found next. let same : line ≡ l = cc in ap (λ k. front ++ k) (end_is ls done found) ∙ append-nil front ∙ d ∙ ap line_spelling same)

role_is : (ls : List Lexeme) (l : Line) → role_line ls ≡ Some l → Name (codes "role") ∷ ls ≡ line_spelling l
role_is ls l e = bound (name ls) _ l e (λ n found e1. ap (λ k. Name (codes "role") ∷ k) (name_is ls n found) ∙ at_end (RoleLine n.0) l (Name (codes "role") ∷ Name n.0 ∷ []) n.1 refl e1)

con_is : (ls : List Lexeme) (l : Line) → con_line ls ≡ Some l → Name (codes "con") ∷ ls ≡ line_spelling l
con_is ls l e =
    bound (name ls) _ l e (λ n found e1. bound (number n.1) _ l e1 (λ arity read e2.
    ap (λ k. Name (codes "con") ∷ k) (name_is ls n found ∙ ap (λ k. Name n.0 ∷ k) (number_is n.1 arity read)) ∙ at_end (ConLine n.0 arity.0) l
    (Name (codes "con") ∷ Name n.0 ∷ Number arity.0 ∷ []) arity.1 refl e2))

sort_is : (ls : List Lexeme) (l : Line) → sort_line ls ≡ Some l → Name (codes "sort") ∷ ls ≡ line_spelling l
sort_is ls l e =
    bound (name ls) _ l e (λ n f1 e1. bound (name n.1) _ l e1 (λ role f2 e2. bound (number role.1) _ l e2 (λ takes f3 e3. bound (number takes.1) _ l e3 (λ gives f4 e4.
    ap (λ k. Name (codes "sort") ∷ k) (name_is ls n f1 ∙ ap (λ k. Name n.0 ∷ k) (name_is n.1 role f2 ∙ ap (λ k. Name role.0 ∷ k)
    (number_is role.1 takes f3 ∙ ap (λ k. Number takes.0 ∷ k) (number_is takes.1 gives f4))))
    ∙ at_end (SortLine n.0 role.0 takes.0 gives.0) l (Name (codes "sort") ∷ Name n.0 ∷ Name role.0 ∷ Number takes.0 ∷ Number gives.0 ∷ []) gives.1 refl e4))))

start_is : (ls : List Lexeme) (l : Line) → start_line ls ≡ Some l → Name (codes "start") ∷ ls ≡ line_spelling l
start_is ls l e = bound (name ls) _ l e (λ n found e1. ap (λ k. Name (codes "start") ∷ k) (name_is ls n found) ∙ at_end (StartLine n.0) l (Name (codes "start") ∷ Name n.0 ∷ []) n.1 refl e1)

offer_is : (ls : List Lexeme) (l : Line) → offer_line ls ≡ Some l → Name (codes "offer") ∷ ls ≡ line_spelling l
offer_is ls l e = bound (name ls) _ l e (λ n found e1. ap (λ k. Name (codes "offer") ∷ k) (name_is ls n found) ∙ at_end (OfferLine n.0) l (Name (codes "offer") ∷ Name n.0 ∷ []) n.1 refl e1)

use_is : (ls : List Lexeme) (l : Line) → use_line ls ≡ Some l → Name (codes "use") ∷ ls ≡ line_spelling l
use_is ls l e =
    bound (name ls) _ l e (λ n f1 e1. bound (name n.1) _ l e1 (λ sort f2 e2.
    ap (λ k. Name (codes "use") ∷ k) (name_is ls n f1 ∙ ap (λ k. Name n.0 ∷ k) (name_is n.1 sort f2)) ∙ at_end (UseLine n.0 sort.0) l
    (Name (codes "use") ∷ Name n.0 ∷ Name sort.0 ∷ []) sort.1 refl e2))

type_is : (ls : List Lexeme) (l : Line) → type_line ls ≡ Some l → Name (codes "type") ∷ ls ≡ line_spelling l
type_is ls l e = bound (name ls) _ l e (λ n found e1. ap (λ k. Name (codes "type") ∷ k) (name_is ls n found) ∙ at_end (TypeLine n.0) l (Name (codes "type") ∷ Name n.0 ∷ []) n.1 refl e1)

-- names in parentheses, and in angles, before what is left
words_in_parentheses : (ls : List Lexeme) (x : NamesRead) → names_between 40 41 ls ≡ Some x → ls ≡ in_parentheses (as_words x.0) ++ x.1
words_in_parentheses ls x e = names_between_is 40 41 ls x e ∙ parenthesised (as_words x.0) x.1

words_in_angles : (ls : List Lexeme) (x : NamesRead) → names_between 60 62 ls ≡ Some x → ls ≡ in_angles (as_words x.0) ++ x.1
words_in_angles ls x e = names_between_is 60 62 ls x e ∙ angled (as_words x.0) x.1

shape_is : (ls : List Lexeme) (l : Line) → shape_line ls ≡ Some l → Name (codes "shape") ∷ ls ≡ line_spelling l
shape_is ls l e =
    bound (name ls) _ l e (λ con f1 e1. bound (names_between 40 41 con.1) _ l e1 (λ parts f2 e2. bound (name parts.1) _ l e2 (λ own f3 e3.
    bound (end own.1) _ l e3 (λ done ended e4.
    let same : ShapeLine con.0 parts.0 own.0 ≡ l = cc in
    let last = name_is parts.1 own f3 ∙ ap (λ k. Name own.0 ∷ k) (end_is own.1 done ended) in
    ap (λ k. Name (codes "shape") ∷ k) (name_is ls con f1 ∙ ap (λ k. Name con.0 ∷ k) (words_in_parentheses con.1 parts f2
    ∙ ap (λ k. in_parentheses (as_words parts.0) ++ k) last)) ∙ ap line_spelling same))))

carry_is : (ls : List Lexeme) (l : Line) → carry_line ls ≡ Some l → Name (codes "carry") ∷ ls ≡ line_spelling l
carry_is ls l e =
    bound (name ls) _ l e (λ sort f1 e1. bound (names_between 40 41 sort.1) _ l e1 (λ takes f2 e2. bound (names_between 60 62 takes.1) _ l e2 (λ gives f3 e3.
    bound (end gives.1) _ l e3 (λ done ended e4.
    let same : CarryLine sort.0 takes.0 gives.0 ≡ l = cc in
    let last = words_in_angles takes.1 gives f3 ∙ ap (λ k. in_angles (as_words gives.0) ++ k) (end_is gives.1 done ended) ∙ append-nil (in_angles (as_words gives.0)) in
    ap (λ k. Name (codes "carry") ∷ k) (name_is ls sort f1 ∙ ap (λ k. Name sort.0 ∷ k) (words_in_parentheses sort.1 takes f2
    ∙ ap (λ k. in_parentheses (as_words takes.0) ++ k) last)) ∙ ap line_spelling same))))

depends_is : (ls : List Lexeme) (l : Line) → depends_line ls ≡ Some l → Name (codes "depends") ∷ ls ≡ line_spelling l
depends_is ls l e =
    bound (name ls) _ l e (λ sort f1 e1. bound (number sort.1) _ l e1 (λ i f2 e2. bound (number i.1) _ l e2 (λ j f3 e3.
    ap (λ k. Name (codes "depends") ∷ k) (name_is ls sort f1 ∙ ap (λ k. Name sort.0 ∷ k) (number_is sort.1 i f2 ∙ ap (λ k. Number i.0 ∷ k) (number_is i.1 j f3)))
    ∙ at_end (DependsLine sort.0 i.0 j.0) l (Name (codes "depends") ∷ Name sort.0 ∷ Number i.0 ∷ Number j.0 ∷ []) j.1 refl e3)))

rule_is : (ls : List Lexeme) (l : Line) → rule_line ls ≡ Some l → Name (codes "rule") ∷ ls ≡ line_spelling l
rule_is ls l e =
    bound (name ls) _ l e (λ n f1 e1.
    bound (names_in_braces n.1) _ l e1 (λ params f2 e2.
    bound (mark 58 params.1) _ l e2 (λ colon f3 e3.
    bound (name colon) _ l e3 (λ sort f4 e4.
    bound (terms_between 40 41 sort.1) _ l e4 (λ patterns f5 e5.
    bound (terms_between 60 62 patterns.1) _ l e5 (λ results f6 e6.
    bound (rest_of_rule results.1) _ l e6 (λ children f7 e7.
    let rule : WrittenRule = record { name = n.0; params = params.0; sort = sort.0; patterns = patterns.0; results = results.0; children = children } in
    let same : RuleLine rule ≡ l = cc in
    let behind_results = ap (λ k. in_angles results.0 ++ k) (rest_is results.1 children f7) in
    let behind_patterns = ap (λ k. in_parentheses patterns.0 ++ k) (between_is 60 62 patterns.1 results f6 ∙ angled results.0 results.1 ∙ behind_results) in
    let behind_sort = ap (λ k. Name sort.0 ∷ k) (between_is 40 41 sort.1 patterns f5 ∙ parenthesised patterns.0 patterns.1 ∙ behind_patterns) in
    let behind_colon = ap (λ k. Mark 58 ∷ k) (name_is colon sort f4 ∙ behind_sort) in
    let behind_params = ap (λ k. params_spelling params.0 ++ k) (mark_is 58 params.1 colon f3 ∙ behind_colon) in
    ap (λ k. Name (codes "rule") ∷ k) (name_is ls n f1 ∙ ap (λ k. Name n.0 ∷ k) (braces_are n.1 params f2 ∙ behind_params)) ∙ ap line_spelling same)))))))

versioned_is : (v : ℕ) (ls : List Lexeme) (l : Line) (t : Bool) → nat_eq v 2 ≡ t → cond t (only (ScheduleLine true) ls) None ≡ Some l → Name (codes "schedule") ∷ Number v ∷ ls ≡ line_spelling l
versioned_is v ls l true h e =
    ap (λ n. Name (codes "schedule") ∷ Number n ∷ ls) (eqb-true v 2 h) ∙ at_end (ScheduleLine true) l (Name (codes "schedule") ∷ Number 2 ∷ []) ls refl e
versioned_is v ls l false h e = cc

schedule_is : (ls : List Lexeme) (l : Line) → schedule_line ls ≡ Some l → Name (codes "schedule") ∷ ls ≡ line_spelling l
schedule_is [] l e = ap line_spelling (same_Some (ScheduleLine false) l e)
schedule_is (k ∷ ls) l e =
    bound (number (k ∷ ls)) versioned l e (λ v found e1. ap (λ ks. Name (codes "schedule") ∷ ks) (number_is (k ∷ ls) v found) ∙ versioned_is v.0 v.1 l (nat_eq v.0 2) refl e1)

same_word : (v w : List ℕ) → nats_eq v w ≡ true → v ≡ w
same_word [] [] h = refl
same_word [] (y ∷ ys) h = cc
same_word (x ∷ xs) [] h = cc
same_word (x ∷ xs) (y ∷ ys) h = let (first, rest) = and_parts _ _ h in λ i. eqb-true x y first i ∷ same_word xs ys rest i

tested : (w k : List ℕ) (ls : List Lexeme) (x y : Option Line) (l : Line) (t : Bool) → nats_eq w k ≡ t →
    (x ≡ Some l → Name k ∷ ls ≡ line_spelling l) → (y ≡ Some l → Name w ∷ ls ≡ line_spelling l) → cond t x y ≡ Some l → Name w ∷ ls ≡ line_spelling l
tested w k ls x y l true h f g e = ap (λ v. Name v ∷ ls) (same_word w k h) ∙ f e
tested w k ls x y l false h f g e = g e

chosen : (w k : List ℕ) (ls : List Lexeme) (x y : Option Line) (l : Line) → (x ≡ Some l → Name k ∷ ls ≡ line_spelling l) →
    (y ≡ Some l → Name w ∷ ls ≡ line_spelling l) → cond (nats_eq w k) x y ≡ Some l → Name w ∷ ls ≡ line_spelling l
chosen w k ls x y l f g e = tested w k ls x y l (nats_eq w k) refl f g e

word_is : (w : List ℕ) (ls : List Lexeme) (l : Line) → by_word w ls ≡ Some l → Name w ∷ ls ≡ line_spelling l
word_is w ls l =
    chosen w (codes "role") ls (role_line ls) _ l (role_is ls l)
    (chosen w (codes "con") ls (con_line ls) _ l (con_is ls l)
    (chosen w (codes "sort") ls (sort_line ls) _ l (sort_is ls l)
    (chosen w (codes "start") ls (start_line ls) _ l (start_is ls l)
    (chosen w (codes "offer") ls (offer_line ls) _ l (offer_is ls l)
    (chosen w (codes "use") ls (use_line ls) _ l (use_is ls l)
    (chosen w (codes "type") ls (type_line ls) _ l (type_is ls l)
    (chosen w (codes "shape") ls (shape_line ls) _ l (shape_is ls l)
    (chosen w (codes "carry") ls (carry_line ls) _ l (carry_is ls l)
    (chosen w (codes "depends") ls (depends_line ls) _ l (depends_is ls l)
    (chosen w (codes "free") ls (only FreeLine ls) _ l (at_end FreeLine l (Name (codes "free") ∷ []) ls refl)
    (chosen w (codes "rule") ls (rule_line ls) _ l (rule_is ls l)
    (chosen w (codes "schedule") ls (schedule_line ls) None l (schedule_is ls l) (λ e. cc)))))))))))))

pub line_spelled : (ls : List Lexeme) (l : Line) → line_of ls ≡ Some l → ls ≡ line_spelling l
line_spelled ls l e = bound (name ls) _ l e (λ w found e1. name_is ls w found ∙ word_is w.0 w.1 l e1)
