-- Nodes by their names, and choices at them that are read at once.
use Rattle.std.specs.Prelude.{◌≡◌, ℕ, List, ◌++◌}
use Rattle.aw_typed.specs.Types.{Types}
use Rattle.aw_grammar.specs.declared.grammar.Grammar.{Grammar}
use Rattle.aw_grammar.specs.GrammarOf.{declarations_of, grammar_of, words_of}
use Rattle.aw_base.specs.NodeNames.{node_named}
use Rattle.aw_term.specs.Names.{Node}
use Rattle.aw_term_reader.specs.Lexemes.{Lexeme}
use Rattle.aw_sched.specs.Answers.{MayCome, event_seen}
use Rattle.aw_sched.specs.ByteArguments.{Says}
use Rattle.aw_sched.specs.ChoiceFronts.{EndsAtSpace, IsCutChoice}
use Rattle.aw_sched.specs.Events.{is_long}
use Rattle.aw_sched.specs.LineEvents.{SaysNode}
use Rattle.aw_sched.specs.Lines.{choice_at}
use Rattle.aw_sched.specs.Schedules.{by_form, by_type}
use Rattle.aw_sched.specs.declared.event.Event.{Event}
use Rattle.aw_sched.specs.declared.lookup.NodeSaid.TheVariants.{Valid}

-- the text is the name of this node, which is valid
abbrev pub Names : Grammar → List ℕ → Node → Type 0
Names g text node = SaysNode (grammar_of g) (is_long text) (node_named (words_of g) (grammar_of g) text) (Valid node)

-- the bytes are a name of this node, and the rest, which is nothing or begins with a space
pub record StandsAtFront (g : Grammar) (bytes : List ℕ) (node : Node) (rest : List ℕ) : Type 0 where
  pub text : List ℕ
  pub cut : bytes ≡ text ++ rest
  pub ends : EndsAtSpace rest
  pub names : Names g text node

-- the line is `choose `, a name of this node, and the rest
pub record NamesAtFront (g : Grammar) (line : List ℕ) (node : Node) (rest : List ℕ) : Type 0 where
  pub text : List ℕ
  pub cut : IsCutChoice line text rest
  pub names : Names g text node

-- Bytes behind a name of this node, which spell a rule and arguments: they ask for this event.
pub record IsKnownChoice (g : Grammar) (node : Node) (bytes : List ℕ) (event : Event) : Type 0 where
  pub spelled : List Lexeme
  pub says : Says bytes spelled
  pub gives : (t : Types) (text : List ℕ) → Names g text node → by_form t (declarations_of g) (choice_at text spelled) ≡ by_type t (grammar_of g) (event_seen event)
  pub fits : (text : List ℕ) → Names g text node → MayCome (grammar_of g) event
