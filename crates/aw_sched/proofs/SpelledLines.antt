-- What was read as a line is spelled so.
use Rattle.std.proofs.Common.{◌≡◌, ℕ, Bool, true, false, cond, List, [], ◌∷◌, ◌++◌, Option, None, Some, codes, nat_eq, refl, sym, ap, ◌∙◌, append_assoc, append-nil}
use Rattle.std.proofs.lemmas.Bool.{eqb-true, and_parts}
use Rattle.std.proofs.lemmas.Option.{same_Some}
use Rattle.aw_term.specs.Trees.{nats_eq}
use Rattle.aw_grammar.specs.Written.{Written, side_by_side}
use Rattle.aw_term_reader.specs.Lexemes.{Lexeme, Name, Number, Node, Quoted, Mark}
use Rattle.aw_term_reader.specs.Terms.{spellings, some_terms_up_to}
use Rattle.aw_term_reader.specs.Forms.{name, number, node, end, only, terms_in_braces}
use Rattle.aw_term_reader.proofs.ReadForms.{name_is, node_is, number_is, end_is}
use Rattle.aw_term_reader.proofs.SpelledIfRead.{some_spelled_if_read}
use Rattle.aw_term_reader.proofs.SomeTerms.{some_terms}
use Rattle.aw_term_reader.proofs.Steps.{bound}
use Rattle.aw_sched.specs.LineSpelling.{args_spelling, line_spelling}
use Rattle.aw_sched.specs.Lines.{Line, StartLine, ChooseLine, DeliverLine, SettleLine, ListLine, start_line, choose_line, deliver_line, list_line, by_word, line_of}

-- terms that were read, and what is left
abbrev TermsRead : Type 0
TermsRead = List Written × List Lexeme

-- no terms, and nothing was taken
unbraced : (ls : List Lexeme) (args : TermsRead) → ◌≡◌ {A = Option TermsRead} (Some ([], ls)) (Some args) → ls ≡ args_spelling args.0 ++ args.1
unbraced ls args e = ap (λ (p : TermsRead). args_spelling p.0 ++ p.1) (same_Some ([], ls) args e)

-- one term or more behind `{`
braced : (ls : List Lexeme) (ts : List Written) (rest : List Lexeme) → some_terms_up_to 125 ls ≡ Some (ts, rest) → Mark 123 ∷ ls ≡ args_spelling ts ++ rest
braced ls [] rest e = elim (some_terms 125 ls [] rest e) [ ]
braced ls (t ∷ ts) rest e =
    ap (λ k. Mark 123 ∷ k) (some_spelled_if_read 125 ls (t ∷ ts) rest e ∙ sym (append_assoc (spellings (side_by_side (t ∷ ts))) (Mark 125 ∷ []) rest))

by_brace : (b : ℕ) (ls : List Lexeme) (args : TermsRead) (t : Bool) → nat_eq b 123 ≡ t →
    cond t (some_terms_up_to 125 ls) (Some ([], Mark b ∷ ls)) ≡ Some args → Mark b ∷ ls ≡ args_spelling args.0 ++ args.1
by_brace b ls args true h e = ap (λ m. Mark m ∷ ls) (eqb-true b 123 h) ∙ braced ls args.0 args.1 e
by_brace b ls args false h e = unbraced (Mark b ∷ ls) args e

args_are : (ls : List Lexeme) (args : TermsRead) → terms_in_braces ls ≡ Some args → ls ≡ args_spelling args.0 ++ args.1
args_are [] args e = unbraced [] args e
args_are (Mark b ∷ ls) args e = by_brace b ls args (nat_eq b 123) refl e
args_are (Name n ∷ ls) args e = unbraced (Name n ∷ ls) args e
args_are (Number n ∷ ls) args e = unbraced (Number n ∷ ls) args e
args_are (Node n ∷ ls) args e = unbraced (Node n ∷ ls) args e
args_are (Quoted n ∷ ls) args e = unbraced (Quoted n ∷ ls) args e

-- a line that ends behind what was read
at_end : (line l : Line) (front ls : List Lexeme) → front ≡ line_spelling line → only line ls ≡ Some l → front ++ ls ≡ line_spelling l
at_end line l front ls d e = bound (end ls) _ l e (λ done found next. let same : line ≡ l = cc in ap (λ k. front ++ k) (end_is ls done found) ∙ append-nil front ∙ d ∙ ap line_spelling same)

start_is : (ls : List Lexeme) (l : Line) → start_line ls ≡ Some l → Name (codes "start") ∷ ls ≡ line_spelling l
start_is ls l e =
    bound (name ls) _ l e (λ sort f1 e1. bound (number sort.1) _ l e1 (λ case f2 e2.
    ap (λ k. Name (codes "start") ∷ k) (name_is ls sort f1 ∙ ap (λ k. Name sort.0 ∷ k) (number_is sort.1 case f2))
    ∙ at_end (StartLine sort.0 case.0) l (Name (codes "start") ∷ Name sort.0 ∷ Number case.0 ∷ []) case.1 refl e2))

choose_is : (ls : List Lexeme) (l : Line) → choose_line ls ≡ Some l → Name (codes "choose") ∷ ls ≡ line_spelling l
choose_is ls l e =
    bound (node ls) _ l e (λ n f1 e1. bound (name n.1) _ l e1 (λ rule f2 e2. bound (terms_in_braces rule.1) _ l e2 (λ args f3 e3.
    let behind_rule = ap (λ k. Name rule.0 ∷ k) (args_are rule.1 args f3) in
    ap (λ k. Name (codes "choose") ∷ k) (node_is ls n f1 ∙ ap (λ k. Node n.0 ∷ k) (name_is n.1 rule f2 ∙ behind_rule))
    ∙ at_end (ChooseLine n.0 rule.0 args.0) l (Name (codes "choose") ∷ Node n.0 ∷ Name rule.0 ∷ args_spelling args.0) args.1 refl e3)))

deliver_is : (ls : List Lexeme) (l : Line) → deliver_line ls ≡ Some l → Name (codes "deliver") ∷ ls ≡ line_spelling l
deliver_is ls l e =
    bound (number ls) _ l e (λ message found e1.
    ap (λ k. Name (codes "deliver") ∷ k) (number_is ls message found) ∙ at_end (DeliverLine message.0) l (Name (codes "deliver") ∷ Number message.0 ∷ []) message.1 refl e1)

list_is : (ls : List Lexeme) (l : Line) → list_line ls ≡ Some l → Name (codes "list") ∷ ls ≡ line_spelling l
list_is ls l e =
    bound (name ls) _ l e (λ role found e1.
    ap (λ k. Name (codes "list") ∷ k) (name_is ls role found) ∙ at_end (ListLine role.0) l (Name (codes "list") ∷ Name role.0 ∷ []) role.1 refl e1)

same_word : (v w : List ℕ) → nats_eq v w ≡ true → v ≡ w
same_word [] [] h = refl
same_word [] (y ∷ ys) h = cc
same_word (x ∷ xs) [] h = cc
same_word (x ∷ xs) (y ∷ ys) h = let (first, rest) = and_parts _ _ h in λ i. eqb-true x y first i ∷ same_word xs ys rest i

-- what is found behind the word w is spelled as it and these lexemes
abbrev IsSpelled : List ℕ → List Lexeme → Option Line → Type 0
IsSpelled w ls found = (l : Line) → found ≡ Some l → Name w ∷ ls ≡ line_spelling l

tested : (w k : List ℕ) (ls : List Lexeme) (x y : Option Line) (t : Bool) → nats_eq w k ≡ t → IsSpelled k ls x → IsSpelled w ls y → IsSpelled w ls (cond t x y)
tested w k ls x y true h f g = λ l e. ap (λ v. Name v ∷ ls) (same_word w k h) ∙ f l e
tested w k ls x y false h f g = g

chosen : (w k : List ℕ) (ls : List Lexeme) (x y : Option Line) → IsSpelled k ls x → IsSpelled w ls y → IsSpelled w ls (cond (nats_eq w k) x y)
chosen w k ls x y f g = tested w k ls x y (nats_eq w k) refl f g

word_is : (w : List ℕ) (ls : List Lexeme) → IsSpelled w ls (by_word w ls)
word_is w ls =
    chosen w (codes "start") ls (start_line ls) _ (start_is ls)
    (chosen w (codes "choose") ls (choose_line ls) _ (choose_is ls)
    (chosen w (codes "deliver") ls (deliver_line ls) _ (deliver_is ls)
    (chosen w (codes "settle") ls (only SettleLine ls) _ (λ l. at_end SettleLine l (Name (codes "settle") ∷ []) ls refl)
    (chosen w (codes "list") ls (list_line ls) None (list_is ls) (λ l e. cc)))))

pub line_spelled : (ls : List Lexeme) (l : Line) → line_of ls ≡ Some l → ls ≡ line_spelling l
line_spelled [] l e = cc
line_spelled (Name w ∷ ls) l e = word_is w ls l e
line_spelled (Number n ∷ ls) l e = cc
line_spelled (Node n ∷ ls) l e = cc
line_spelled (Quoted n ∷ ls) l e = cc
line_spelled (Mark n ∷ ls) l e = cc
