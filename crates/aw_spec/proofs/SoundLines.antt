-- Lines that tokens spell declare names; their words are names, and their texts are contents.
use Rattle.std.proofs.Common.{◌≡◌, ℕ, Bool, true, false, cond, ◌&&◌, List, [], ◌∷◌, ◌++◌, Option, None, Some, option_map, nat_eq, refl, subst}
use Rattle.std.proofs.lemmas.Bool.{and_parts, and_from}
use Rattle.std.proofs.lemmas.Option.{same_Some}
use Rattle.aw_spelling.specs.Spelling.{is_name}
use Rattle.aw_term.specs.WellFormed.{Each}
use Rattle.aw_grammar.specs.Written.{Written, Word, Apply, Literal, WrittenChild, WrittenRule}
use Rattle.aw_grammar.specs.Terms.{all_have_contents, are_names, args_of, results_of, uses_of}
use Rattle.aw_grammar.proofs.Contents.{contents_append}
use Rattle.aw_term_reader.specs.Lexemes.{Lexeme, Name, Number, Node, Quoted, Mark}
use Rattle.aw_term_reader.specs.Terms.{names_of}
use Rattle.aw_term_reader.specs.Forms.{◌>>=◌, name, number, mark, end, only, terms_between, names_between, terms_in_braces, names_in_braces}
use Rattle.aw_term_reader.specs.Sound.{IsSound}
use Rattle.aw_term_reader.proofs.SoundForms.{AreSound, name_sound, mark_sound, TermsSound, between_sound, braces_sound}
use Rattle.aw_term_reader.proofs.Steps.{bound, chosen}
use Rattle.aw_spec.specs.Lines.{Line, RoleLine, ConLine, SortLine, StartLine, OfferLine, UseLine, TypeLine, ShapeLine, CarryLine, DependsLine, FreeLine, RuleLine, ScheduleLine}
use Rattle.aw_spec.specs.Declares.{IsDeclared}
use Rattle.aw_spec.specs.ReadLine.{child_of, is_semicolon, in_front, pieces, children_of, rest_of_rule, role_line, con_line, sort_line, start_line}
use Rattle.aw_spec.specs.ReadLine.{offer_line, use_line, type_line, shape_line, carry_line, depends_line, rule_line, versioned, schedule_line, by_word}
use Rattle.aw_spec.specs.ReadLine.{line_of}

with_name : (n : List ℕ) (ts : List Written) (o : Option (List (List ℕ))) (xs : List (List ℕ)) → names_of ts ≡ o → is_name n ≡ true
    → ((ns : List (List ℕ)) → names_of ts ≡ Some ns → are_names ns ≡ true) → option_map (λ ns. n ∷ ns) o ≡ Some xs → are_names xs ≡ true
with_name n ts None xs found named rest e = cc
with_name n ts (Some ns) xs found named rest e =
    let same : ◌≡◌ {A = List (List ℕ)} (n ∷ ns) xs = cc in subst (λ ys. are_names ys ≡ true) same (λ i. named i && rest ns found i)

-- terms that are names alone
names_named : (ts : List Written) (xs : List (List ℕ)) → all_have_contents ts ≡ true → names_of ts ≡ Some xs → are_names xs ≡ true
names_named [] xs h e =
    let same : ◌≡◌ {A = List (List ℕ)} [] xs = cc in subst (λ ys. are_names ys ≡ true) same refl
names_named (Word n ∷ ts) xs h e =
    let (named, rest) = and_parts _ _ h in
    with_name n ts (names_of ts) xs refl named (λ ns f. names_named ts ns rest f) e
names_named (Apply n us ∷ ts) xs h e = cc
names_named (Literal l ∷ ts) xs h e = cc

abbrev NamesSound : List (List ℕ) × List Lexeme → Type 0
NamesSound x = (are_names x.0 ≡ true) × AreSound x.1

with_names : (terms : List Written × List Lexeme) (x : List (List ℕ) × List Lexeme) → TermsSound terms → (names_of terms.0 >>= λ names. Some (names, terms.1)) ≡ Some x → NamesSound x
with_names terms x s e =
    bound (names_of terms.0) (λ names. Some (names, terms.1)) x e
    (λ names found next. subst NamesSound (same_Some (names, terms.1) x next) (names_named terms.0 names s.0 found, s.1))

names_in_braces_sound : (ls : List Lexeme) (x : List (List ℕ) × List Lexeme) → AreSound ls → names_in_braces ls ≡ Some x → NamesSound x
names_in_braces_sound ls x s e = bound (terms_in_braces ls) (λ terms. names_of terms.0 >>= λ names. Some (names, terms.1)) x e
    (λ terms found next. with_names terms x (braces_sound ls terms s found) next)

names_between_sound : (start close : ℕ) (ls : List Lexeme) (x : List (List ℕ) × List Lexeme) → AreSound ls → names_between start close ls ≡ Some x → NamesSound x
names_between_sound start close ls x s e =
    bound (terms_between start close ls) (λ terms. names_of terms.0 >>= λ names. Some (names, terms.1)) x e (λ terms found next. with_names terms x (between_sound start close ls terms s found) next)

abbrev ChildFine : WrittenChild → Type 0
ChildFine c = (all_have_contents c.args ≡ true) × (are_names c.results ≡ true)

child_fine : (ls : List Lexeme) (c : WrittenChild) → AreSound ls → child_of ls ≡ Some c → ChildFine c
child_fine ls c s e =
    bound (name ls) _ c e (λ sort found e1. bound (terms_between 40 41 sort.1) _ c e1 (λ args read e2. bound (names_between 60 62 args.1) _ c e2 (λ results listed e3.
    bound (end results.1) _ c e3 (λ done ended e4.
    let same : ◌≡◌ {A = WrittenChild} (record { sort = sort.0; args = args.0; results = results.0 }) c = cc in
    let taken = between_sound 40 41 sort.1 args (name_sound ls sort s found).1 read in
    subst ChildFine same (taken.0, (names_between_sound 60 62 args.1 results taken.1 listed).0)))))

front_sound : (l : Lexeme) (ps : List (List Lexeme)) → IsSound l → Each AreSound ps → Each AreSound (in_front l ps)
front_sound l [] s h = ((s, tt), tt)
front_sound l (p ∷ ps) s h = ((s, h.0), h.1)

pieces_sound : (ls : List Lexeme) → AreSound ls → Each AreSound (pieces ls)
pieces_sound [] s = (tt, tt)
pieces_sound (l ∷ ls) s = elim (is_semicolon l) as (λ b. Each AreSound (cond b ([] ∷ pieces ls) (in_front l (pieces ls))))
    [ true ↦ (tt, pieces_sound ls s.1) | false ↦ front_sound l (pieces ls) s.0 (pieces_sound ls s.1) ]

both_named : (xs ys : List (List ℕ)) → are_names xs ≡ true → are_names ys ≡ true → are_names (xs ++ ys) ≡ true
both_named [] ys h k = k
both_named (x ∷ xs) ys h k = let (first, rest) = and_parts _ _ h in and_from _ _ first (both_named xs ys rest k)

abbrev ChildrenFine : List WrittenChild → Type 0
ChildrenFine cs = (all_have_contents (args_of cs) ≡ true) × (are_names (results_of cs) ≡ true)

children_fine : (ps : List (List Lexeme)) (cs : List WrittenChild) → Each AreSound ps → children_of ps ≡ Some cs → ChildrenFine cs
children_fine [] cs s e =
    let same : ◌≡◌ {A = List WrittenChild} [] cs = cc in subst ChildrenFine same (refl, refl)
children_fine (p ∷ ps) cs s e =
    bound (child_of p) _ cs e (λ c found e1. bound (children_of ps) _ cs e1 (λ more read e2.
    let same : ◌≡◌ {A = List WrittenChild} (c ∷ more) cs = cc in
    let first = child_fine p c s.0 found in
    let later = children_fine ps more s.1 read in
    subst ChildrenFine same (contents_append c.args (args_of more) first.0 later.0, both_named c.results (results_of more) first.1 later.1)))

rest_fine : (ls : List Lexeme) (cs : List WrittenChild) → AreSound ls → rest_of_rule ls ≡ Some cs → ChildrenFine cs
rest_fine [] cs s e =
    let same : ◌≡◌ {A = List WrittenChild} [] cs = cc in subst ChildrenFine same (refl, refl)
rest_fine (Mark b ∷ ls) cs s e = by_test (nat_eq b 61) e
  where
    by_test : (t : Bool) → cond t (children_of (pieces ls)) None ≡ Some cs → ChildrenFine cs
    by_test true h = children_fine (pieces ls) cs (pieces_sound ls s.1) h
    by_test false h = cc
rest_fine (Name n ∷ ls) cs s e = cc
rest_fine (Number n ∷ ls) cs s e = cc
rest_fine (Node n ∷ ls) cs s e = cc
rest_fine (Quoted n ∷ ls) cs s e = cc

-- a line that ends behind what was read
at_end : (line l : Line) (ls : List Lexeme) → IsDeclared line → only line ls ≡ Some l → IsDeclared l
at_end line l ls d e = bound (end ls) _ l e (λ done found next. let same : line ≡ l = cc in subst IsDeclared same d)

role_declared : (ls : List Lexeme) (l : Line) → AreSound ls → role_line ls ≡ Some l → IsDeclared l
role_declared ls l s e = bound (name ls) _ l e (λ n found e1. at_end (RoleLine n.0) l n.1 (name_sound ls n s found).0 e1)

con_declared : (ls : List Lexeme) (l : Line) → AreSound ls → con_line ls ≡ Some l → IsDeclared l
con_declared ls l s e = bound (name ls) _ l e (λ n found e1. bound (number n.1) _ l e1 (λ arity read e2. at_end (ConLine n.0 arity.0) l arity.1 (name_sound ls n s found).0 e2))

sort_declared : (ls : List Lexeme) (l : Line) → AreSound ls → sort_line ls ≡ Some l → IsDeclared l
sort_declared ls l s e =
    bound (name ls) _ l e (λ n found e1. bound (name n.1) _ l e1 (λ role f2 e2. bound (number role.1) _ l e2 (λ takes f3 e3. bound (number takes.1) _ l e3 (λ gives f4 e4.
    at_end (SortLine n.0 role.0 takes.0 gives.0) l gives.1 (name_sound ls n s found).0 e4))))

start_declared : (ls : List Lexeme) (l : Line) → start_line ls ≡ Some l → IsDeclared l
start_declared ls l e = bound (name ls) _ l e (λ n found e1. at_end (StartLine n.0) l n.1 tt e1)

offer_declared : (ls : List Lexeme) (l : Line) → offer_line ls ≡ Some l → IsDeclared l
offer_declared ls l e = bound (name ls) _ l e (λ n found e1. at_end (OfferLine n.0) l n.1 tt e1)

use_declared : (ls : List Lexeme) (l : Line) → use_line ls ≡ Some l → IsDeclared l
use_declared ls l e = bound (name ls) _ l e (λ n found e1. bound (name n.1) _ l e1 (λ sort f2 e2. at_end (UseLine n.0 sort.0) l sort.1 tt e2))

type_declared : (ls : List Lexeme) (l : Line) → AreSound ls → type_line ls ≡ Some l → IsDeclared l
type_declared ls l s e = bound (name ls) _ l e (λ n found e1. at_end (TypeLine n.0) l n.1 (name_sound ls n s found).0 e1)

shape_declared : (ls : List Lexeme) (l : Line) → shape_line ls ≡ Some l → IsDeclared l
shape_declared ls l e =
    bound (name ls) _ l e (λ con f1 e1. bound (names_between 40 41 con.1) _ l e1 (λ parts f2 e2. bound (name parts.1) _ l e2 (λ own f3 e3. at_end (ShapeLine con.0 parts.0 own.0) l own.1 tt e3)))

carry_declared : (ls : List Lexeme) (l : Line) → carry_line ls ≡ Some l → IsDeclared l
carry_declared ls l e =
    bound (name ls) _ l e (λ sort f1 e1. bound (names_between 40 41 sort.1) _ l e1 (λ takes f2 e2. bound (names_between 60 62 takes.1) _ l e2
    (λ gives f3 e3. at_end (CarryLine sort.0 takes.0 gives.0) l gives.1 tt e3)))

depends_declared : (ls : List Lexeme) (l : Line) → depends_line ls ≡ Some l → IsDeclared l
depends_declared ls l e =
    bound (name ls) _ l e (λ sort f1 e1. bound (number sort.1) _ l e1 (λ i f2 e2. bound (number i.1) _ l e2 (λ j f3 e3. at_end (DependsLine sort.0 i.0 j.0) l j.1 tt e3)))

rule_declared : (ls : List Lexeme) (l : Line) → AreSound ls → rule_line ls ≡ Some l → IsDeclared l
rule_declared ls l s e =
    bound (name ls) _ l e (λ n f1 e1.
    bound (names_in_braces n.1) _ l e1 (λ params f2 e2.
    bound (mark 58 params.1) _ l e2 (λ colon f3 e3.
    bound (name colon) _ l e3 (λ sort f4 e4.
    bound (terms_between 40 41 sort.1) _ l e4 (λ patterns f5 e5.
    bound (terms_between 60 62 patterns.1) _ l e5 (λ results f6 e6.
    bound (rest_of_rule results.1) _ l e6 (λ children f7 e7.
    let rule : WrittenRule = record { name = n.0; params = params.0; sort = sort.0; patterns = patterns.0; results = results.0; children = children } in
    let same : RuleLine rule ≡ l = cc in
    let first = name_sound ls n s f1 in
    let behind_params = names_in_braces_sound n.1 params first.1 f2 in
    let behind_sort = name_sound colon sort (mark_sound 58 params.1 colon behind_params.1 f3) f4 in
    let pattern = between_sound 40 41 sort.1 patterns behind_sort.1 f5 in
    let result = between_sound 60 62 patterns.1 results pattern.1 f6 in
    let subtasks = rest_fine results.1 children result.1 f7 in
    subst IsDeclared same (
      first.0,
      (
        contents_append patterns.0 (uses_of rule) pattern.0 (contents_append (args_of children) results.0 subtasks.0 result.0),
        both_named params.0 (results_of children) behind_params.0 subtasks.1,
      ),
    ))))))))

schedule_declared : (ls : List Lexeme) (l : Line) → schedule_line ls ≡ Some l → IsDeclared l
schedule_declared [] l e = subst IsDeclared (same_Some (ScheduleLine false) l e) tt
schedule_declared (k ∷ ls) l e =
    bound (number (k ∷ ls)) versioned l e (λ v found e1. chosen (nat_eq v.0 2) (only (ScheduleLine true) v.1) None l (at_end (ScheduleLine true) l v.1 tt) (λ e. cc) e1)

word_declared : (w : List ℕ) (ls : List Lexeme) (l : Line) → AreSound ls → by_word w ls ≡ Some l → IsDeclared l
word_declared w ls l s =
    chosen _ (role_line ls) _ l (role_declared ls l s)
    (chosen _ (con_line ls) _ l (con_declared ls l s)
    (chosen _ (sort_line ls) _ l (sort_declared ls l s)
    (chosen _ (start_line ls) _ l (start_declared ls l)
    (chosen _ (offer_line ls) _ l (offer_declared ls l)
    (chosen _ (use_line ls) _ l (use_declared ls l)
    (chosen _ (type_line ls) _ l (type_declared ls l s)
    (chosen _ (shape_line ls) _ l (shape_declared ls l)
    (chosen _ (carry_line ls) _ l (carry_declared ls l)
    (chosen _ (depends_line ls) _ l (depends_declared ls l)
    (chosen _ (only FreeLine ls) _ l (at_end FreeLine l ls tt)
    (chosen _ (rule_line ls) _ l (rule_declared ls l s)
    (chosen _ (schedule_line ls) None l (schedule_declared ls l) (λ e. cc)))))))))))))

pub line_declared : (ls : List Lexeme) (l : Line) → Each IsSound ls → line_of ls ≡ Some l → IsDeclared l
line_declared ls l s e = bound (name ls) _ l e (λ w found e1. word_declared w.0 w.1 l (name_sound ls w s found).1 e1)
