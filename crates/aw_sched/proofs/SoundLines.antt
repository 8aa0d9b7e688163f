-- The texts in the arguments of a line that is read are contents.
use Rattle.std.proofs.Common.{◌≡◌, ℕ, subst, List, [], ◌∷◌, Some, None, codes}
use Rattle.std.proofs.lemmas.Option.{same_Some}
use Rattle.aw_term.specs.Trees.{nats_eq}
use Rattle.aw_term.specs.WellFormed.{Each}
use Rattle.aw_term_reader.specs.Lexemes.{Lexeme, Name, Number, Node, Quoted, Mark}
use Rattle.aw_term_reader.specs.Forms.{name, number, node, only, terms_in_braces}
use Rattle.aw_term_reader.specs.Sound.{IsSound}
use Rattle.aw_term_reader.proofs.SoundForms.{name_sound, braces_sound}
use Rattle.aw_term_reader.proofs.Steps.{bound, chosen}
use Rattle.aw_sched.specs.Lines.{Line, StartLine, ChooseLine, DeliverLine, SettleLine, ListLine, start_line, choice_at, choose_line, deliver_line, list_line, by_word, line_of}
use Rattle.aw_sched.specs.LineSeen.{HasContents}

pub only_is : (x y : Line) (ls : List Lexeme) → only x ls ≡ Some y → x ≡ y
only_is x y [] h = cc
only_is x y (l ∷ ls) h = cc

from_only : (x y : Line) (ls : List Lexeme) → HasContents x → only x ls ≡ Some y → HasContents y
from_only x y ls fine h = subst HasContents (only_is x y ls h) fine

sound_start : (ls : List Lexeme) (line : Line) → start_line ls ≡ Some line → HasContents line
sound_start ls line h = bound (name ls) _ line h (λ sort found e1. bound (number sort.1) _ line e1 (λ case read e2. from_only (StartLine sort.0 case.0) line case.1 tt e2))

sound_deliver : (ls : List Lexeme) (line : Line) → deliver_line ls ≡ Some line → HasContents line
sound_deliver ls line h = bound (number ls) _ line h (λ message found e1. from_only (DeliverLine message.0) line message.1 tt e1)

sound_list : (ls : List Lexeme) (line : Line) → list_line ls ≡ Some line → HasContents line
sound_list ls line h = bound (name ls) _ line h (λ role found e1. from_only (ListLine role.0) line role.1 tt e1)

node_rest : (ls : List Lexeme) (x : List ℕ × List Lexeme) → node ls ≡ Some x → Each IsSound ls → Each IsSound x.1
node_rest [] x h s = cc
node_rest (Node m ∷ ls) x h s = subst (λ (y : List ℕ × List Lexeme). Each IsSound y.1) (same_Some (m, ls) x h) s.1
node_rest (Name m ∷ ls) x h s = cc
node_rest (Number m ∷ ls) x h s = cc
node_rest (Quoted m ∷ ls) x h s = cc
node_rest (Mark m ∷ ls) x h s = cc

pub sound_choice : (n : List ℕ) (ls : List Lexeme) (line : Line) → Each IsSound ls → choice_at n ls ≡ Some line → HasContents line
sound_choice n ls line s h =
    bound (name ls) _ line h (λ rule f2 e2.
    bound (terms_in_braces rule.1) _ line e2 (λ args f3 e3.
    from_only (ChooseLine n rule.0 args.0) line args.1 (braces_sound rule.1 args (name_sound ls rule s f2).1 f3).0 e3))

sound_choose : (ls : List Lexeme) (line : Line) → Each IsSound ls → choose_line ls ≡ Some line → HasContents line
sound_choose ls line s h = bound (node ls) _ line h (λ n f1 e1. sound_choice n.0 n.1 line (node_rest ls n f1 s) e1)

sound_word : (w : List ℕ) (ls : List Lexeme) (line : Line) → Each IsSound ls → by_word w ls ≡ Some line → HasContents line
sound_word w ls line s h =
    chosen (nats_eq w (codes "start")) _ _ line (sound_start ls line)
    (chosen (nats_eq w (codes "choose")) _ _ line (sound_choose ls line s)
    (chosen (nats_eq w (codes "deliver")) _ _ line (sound_deliver ls line)
    (chosen (nats_eq w (codes "settle")) _ _ line (from_only SettleLine line ls tt)
    (chosen (nats_eq w (codes "list")) _ None line (sound_list ls line) (λ e. cc))))) h

pub sound_line : (ls : List Lexeme) (line : Line) → Each IsSound ls → line_of ls ≡ Some line → HasContents line
sound_line [] line s h = cc
sound_line (Name w ∷ ls) line s h = sound_word w ls line s.1 h
sound_line (Node w ∷ ls) line s h = cc
sound_line (Number w ∷ ls) line s h = cc
sound_line (Quoted w ∷ ls) line s h = cc
sound_line (Mark w ∷ ls) line s h = cc
