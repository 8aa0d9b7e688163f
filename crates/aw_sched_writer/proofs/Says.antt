-- The bytes that are written for an event say the lexemes of a line.
use Rattle.std.proofs.Common.{◌≡◌, ℕ, ◌<◌, ◌^◌, refl, sym, ap, true, false, List, [], ◌∷◌, ◌++◌, map, codes, append_assoc, append-nil}
use Rattle.std.specs.Fmt.{decimal}
use Rattle.aw_spelling.specs.Spelling.{node_name}
use Rattle.aw_spelling.proofs.NodeNames.{lacks}
use Rattle.aw_lex.specs.Lines.{passed_over}
use Rattle.aw_term.specs.Rules.{Ground, get}
use Rattle.aw_term.specs.Choices.{Start, Develop}
use Rattle.aw_term.specs.Artifacts.{Words, listed, ground_text, node_text}
use Rattle.aw_term.specs.Trees as P
use Rattle.aw_choice.specs.Events.{Event, Chooses, Delivers, Settles, Lists}
use Rattle.aw_grammar.specs.Written.{Written, Word, Apply, Literal, Writtens, Empty, Then, side_by_side}
use Rattle.aw_term_reader.specs.Lexemes.{Lexeme, Name, Number, Node, Mark}
use Rattle.aw_term_reader.specs.Laws.{IsWritten, AreWritten}
use Rattle.aw_term_reader.specs.Terms.{spellings}
use Rattle.aw_term_reader.proofs.SaysTokens.{Says, moved, says_blank, says_name, says_mark, says_nothing, says_last_name, says_last_number, lexes_node, all_unbroken as both_lack}
use Rattle.aw_sched.specs.LineSpelling.{args_spelling, line_spelling}
use Rattle.aw_sched.specs.Laws.{IsWrittenLine}
use Rattle.aw_sched.specs.Lines.{Line, StartLine, ChooseLine, DeliverLine, SettleLine, ListLine}
use Rattle.aw_spec_writer.specs.LineTexts.{terms_text}
use Rattle.aw_spec_writer.proofs.SaysTerms.{IsName, IsSpelledTerm, AreSpelledParts, AreSpelled, parts_say}
use Rattle.aw_sched_writer.specs.EventTexts.{args_text, event_text}
use Rattle.aw_sched_writer.proofs.Terms.{written_args}

-- the line that is written for an event
abbrev pub line_for : Words → Event → Line
line_for w (Chooses (Start s k)) = StartLine (get [] w.sorts s) k
line_for w (Chooses (Develop n r args)) = ChooseLine (node_text w n) (get [] w.rules r) (written_args w.cons args)
line_for w (Delivers k) = DeliverLine k
line_for w Settles = SettleLine
line_for w (Lists role) = ListLine (get [] w.roles role)

-- what can be spelled is written
mutual
  term_written : (t : Written) → IsSpelledTerm t → IsWritten t
  term_written (Word n) h = tt
  term_written (Apply n ts) h = parts_written ts h.1
  term_written (Literal (P.Con c)) h = elim h [ ]
  term_written (Literal (P.Num n)) h = tt
  term_written (Literal (P.Text t)) h = tt

  parts_written : (ts : Writtens) → AreSpelledParts ts → AreWritten ts
  parts_written Empty h = tt
  parts_written (Then t ts) h = (term_written t h.0, parts_written ts h.1)

-- a node name in front of what is behind it
says_node : (n bs : List ℕ) (ls : List Lexeme) → node_name n ≡ true → lacks 10 n ≡ true → Says (32 ∷ bs) ls → Says (n ++ 32 ∷ bs) (Node n ∷ ls)
says_node n bs ls h whole s = record { lexed = lexes_node n (32 ∷ bs) ls h refl s.lexed; unbroken = both_lack n (32 ∷ bs) whole s.unbroken }

-- a rule with its arguments behind it
rule_says : (w : Words) (rule : List ℕ) (args : List Ground) → IsName rule → AreSpelled (written_args w.cons args) → terms_text (written_args w.cons args) ≡ listed (map (ground_text w) args) →
    Says (rule ++ args_text w args) (Name rule ∷ args_spelling (written_args w.cons args))
rule_says w rule [] h k e = moved (rule ++ []) rule (Name rule ∷ []) (Name rule ∷ []) (append-nil rule) refl (says_last_name rule h)
rule_says w rule (t ∷ ts) h k e =
    let ws = side_by_side (written_args w.cons (t ∷ ts)) in
    let inner = listed (map (ground_text w) (t ∷ ts)) ++ 125 ∷ [] in
    let said = spellings ws ++ Mark 125 ∷ [] in
    says_name rule (32 ∷ 123 ∷ inner) (Mark 123 ∷ said) h refl
    (says_blank (123 ∷ inner) (Mark 123 ∷ said)
    (says_mark 123 inner said refl refl refl
    (moved inner (terms_text (written_args w.cons (t ∷ ts)) ++ 125 ∷ []) said said (ap (λ xs. xs ++ 125 ∷ []) (sym e)) refl
    (parts_say ws (125 ∷ []) (Mark 125 ∷ []) k refl (says_mark 125 [] [] refl refl refl says_nothing)))))

-- names are names, numbers have 64 bits, and arguments are laid out as terms that can be spelled
abbrev pub IsSaid : Words → Event → Type 0
IsSaid w (Chooses (Start s k)) = IsName (get [] w.sorts s) × (k < 2 ^ 64)
IsSaid w (Chooses (Develop n r args)) =
    (node_name (node_text w n) ≡ true) × (lacks 10 (node_text w n) ≡ true) × IsName (get [] w.rules r)
    × AreSpelled (written_args w.cons args) × (terms_text (written_args w.cons args) ≡ listed (map (ground_text w) args))
IsSaid w (Delivers k) = k < 2 ^ 64
IsSaid w Settles = Unit {0}
IsSaid w (Lists role) = IsName (get [] w.roles role)

pub event_says : (w : Words) (e : Event) → IsSaid w e → Says (event_text w e) (line_spelling (line_for w e))
event_says w (Chooses (Start s k)) h =
    let sort = get [] w.sorts s in
    let behind = sort ++ 32 ∷ decimal k in
    let said = Name (codes "start") ∷ Name sort ∷ Number k ∷ [] in
    moved ((codes "start" ++ 32 ∷ behind) ++ []) (codes "start" ++ 32 ∷ behind) said said (append-nil (codes "start" ++ 32 ∷ behind)) refl
    (says_name (codes "start") (32 ∷ behind) (Name sort ∷ Number k ∷ []) refl refl
    (says_blank behind (Name sort ∷ Number k ∷ [])
    (says_name sort (32 ∷ decimal k) (Number k ∷ []) h.0 refl (says_blank (decimal k) (Number k ∷ []) (says_last_number k h.1)))))
event_says w (Chooses (Develop n r args)) h =
    let node = node_text w n in
    let rule = get [] w.rules r in
    let asked = rule ++ args_text w args in
    let said = Name rule ∷ args_spelling (written_args w.cons args) in
    let all = Name (codes "choose") ∷ Node node ∷ said in
    moved (codes "choose " ++ ((node ++ 32 ∷ rule) ++ args_text w args)) (codes "choose " ++ (node ++ 32 ∷ asked)) all all
    (ap (λ xs. codes "choose " ++ xs) (append_assoc node (32 ∷ rule) (args_text w args))) refl
    (says_name (codes "choose") (32 ∷ (node ++ 32 ∷ asked)) (Node node ∷ said) refl refl
    (says_blank (node ++ 32 ∷ asked) (Node node ∷ said)
    (says_node node asked said h.0 h.1 (says_blank asked said (rule_says w rule args h.2 h.3 h.4)))))
event_says w (Delivers k) h =
    says_name (codes "deliver") (32 ∷ decimal k) (Number k ∷ []) refl refl (says_blank (decimal k) (Number k ∷ []) (says_last_number k h))
event_says w Settles h = says_last_name (codes "settle") refl
event_says w (Lists role) h =
    says_name (codes "list") (32 ∷ get [] w.roles role) (Name (get [] w.roles role) ∷ []) refl refl
    (says_blank (get [] w.roles role) (Name (get [] w.roles role) ∷ []) (says_last_name (get [] w.roles role) h))

-- no such line is passed over
pub not_passed : (w : Words) (e : Event) → passed_over (event_text w e) ≡ false
not_passed w (Chooses (Start s k)) = refl
not_passed w (Chooses (Develop n r args)) = refl
not_passed w (Delivers k) = refl
not_passed w Settles = refl
not_passed w (Lists role) = refl

pub line_written : (w : Words) (e : Event) → IsSaid w e → IsWrittenLine (line_for w e)
line_written w (Chooses (Start s k)) h = tt
line_written w (Chooses (Develop n r args)) h = parts_written (side_by_side (written_args w.cons args)) h.3
line_written w (Delivers k) h = tt
line_written w Settles h = tt
line_written w (Lists role) h = tt
