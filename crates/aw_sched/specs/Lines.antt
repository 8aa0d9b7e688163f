-- The lines of a schedule, and which line lexemes spell.
use Rattle.std.specs.Prelude.{ℕ, List, ◌∷◌, Option, None, codes, if◌then◌else◌}
use Rattle.aw_term.specs.Trees.{nats_eq}
use Rattle.aw_grammar.specs.Written.{Written}
use Rattle.aw_term_reader.specs.Lexemes.{Lexeme, Name}
use Rattle.aw_term_reader.specs.Forms.{◌>>=◌, name, number, node, only, terms_in_braces}

-- a start, a choice, a delivery, the delivery of all messages, or a look at a worklist
pub data Line : Type 0 where
  StartLine : (sort : List ℕ) → (case : ℕ) → Line
  ChooseLine : (node rule : List ℕ) → (args : List Written) → Line
  DeliverLine : (message : ℕ) → Line
  SettleLine : Line
  ListLine : (role : List ℕ) → Line

-- `start SORT CASE`
abbrev pub start_line : List Lexeme → Option Line
start_line ls = do
  sort ← name ls
  case ← number sort.1
  only (StartLine sort.0 case.0) case.1

-- a choice at this node: `RULE`, and then nothing or `{..}`
abbrev pub choice_at : List ℕ → List Lexeme → Option Line
choice_at n ls = do
  rule ← name ls
  args ← terms_in_braces rule.1
  only (ChooseLine n rule.0 args.0) args.1

-- `choose NODE`, and then the choice there
abbrev pub choose_line : List Lexeme → Option Line
choose_line ls = do
  n ← node ls
  choice_at n.0 n.1

-- `deliver MESSAGE`
abbrev pub deliver_line : List Lexeme → Option Line
deliver_line ls = do
  message ← number ls
  only (DeliverLine message.0) message.1

-- `list ROLE`
abbrev pub list_line : List Lexeme → Option Line
list_line ls = do
  role ← name ls
  only (ListLine role.0) role.1

-- the line whose first word is this; a line `settle` has no more than that
abbrev pub by_word : List ℕ → List Lexeme → Option Line
by_word w ls =
    if nats_eq w (codes "start") then start_line ls else
    if nats_eq w (codes "choose") then choose_line ls else
    if nats_eq w (codes "deliver") then deliver_line ls else
    if nats_eq w (codes "settle") then only SettleLine ls else
    if nats_eq w (codes "list") then list_line ls else None

-- the line that these lexemes spell, where they spell one
abbrev pub line_of : List Lexeme → Option Line
line_of (Name w ∷ ls) = by_word w ls
line_of _ = None
