-- What a line of a schedule asks for, and what is wrong with it.
use Rattle.std.specs.Prelude.{ℕ, Bool, false, ◌||◌, not, List, [], ◌∷◌, length, map, Option, None, Some, slice_get, nat_lt, is_none, unwrap_or}
use Rattle.aw_name_index.specs.Places.{number_of, stands, first_told}
use Rattle.aw_spelling.specs.Spelling.{parts_of_name}
use Rattle.aw_term.specs.Trees.{Num, Made, Nil, bind}
use Rattle.aw_term.specs.Names.{Node, root}
use Rattle.aw_term.specs.Rules.{Ground}
use Rattle.aw_term.specs.Choices.{Start, Develop}
pub use Rattle.aw_choice.specs.Events.{Event, Chooses, Delivers, Settles, Lists}
use Rattle.aw_grammar.specs.Written.{Written}
use Rattle.aw_grammar.specs.Terms.{symbols_in_all, depth_of_all}
use Rattle.aw_term.specs.WellFormed.{leaves_of}
use Rattle.aw_term.specs.Limits.{most_arguments, most_symbols, most_levels}
use Rattle.aw_name.specs.Limits.{most_steps}
use Rattle.aw_grammar.specs.Resolved.{resolved, all_resolved}
use Rattle.aw_grammar.specs.Kinds.{all_known, all_have_arities}
use Rattle.aw_grammar.specs.Declarations.{Declarations, con_names, sort_names, rule_names, grammar_in, words_in}
use Rattle.aw_base.specs.NodeNames.{node_named, is_start}
use Rattle.aw_sched.specs.Lines.{Line, StartLine, ChooseLine, DeliverLine, SettleLine, ListLine}
use Rattle.aw_sched.specs.declared.fault.SchedKind.{SchedKind}
use Rattle.aw_sched.specs.declared.fault.SchedKind.TheVariants.{Limit, Unknown, Arity, NotStart, Name}

-- an argument; its names are those of constructors where there is no fault
-- (a name of no constructor would stand as 0, which does not come of a line without fault)
abbrev pub ground_named : List (List ℕ) → Written → Ground
ground_named cons t = bind (λ x. Made (Num 0) Nil) (resolved cons t)

-- The node that is named. Where none is, which does not come of a line without fault, case 0 of sort 0 stands for it.
abbrev pub node_or_none : Option Node → Node
node_or_none n = unwrap_or n (root 0 0)

-- what a line without fault asks for
abbrev pub event_of : Declarations → Line → Event
event_of d (StartLine sort case) = Chooses (Start (number_of sort (sort_names d)) case)
event_of d (ChooseLine n rule args) = Chooses (Develop (node_or_none (node_named (words_in d) (grammar_in d) n)) (number_of rule (rule_names d)) (map (ground_named (con_names d)) args))
event_of d (DeliverLine message) = Delivers message
event_of d SettleLine = Settles
event_of d (ListLine role) = Lists (number_of role d.roles)

-- these parts of a node name have too many steps among them
abbrev pub has_many : Option (List ℕ × ℕ × List (List ℕ × ℕ)) → Bool
has_many None = false
has_many (Some parts) = nat_lt most_steps (length parts.2)

-- a node name with too many steps
abbrev pub is_long : List ℕ → Bool
is_long n = has_many (parts_of_name n)

-- arguments past their limits
abbrev pub args_are_past : List Written → Bool
args_are_past args = nat_lt most_arguments (length args) || (nat_lt most_symbols (symbols_in_all args) || nat_lt most_levels (depth_of_all args))

-- a name in an argument is not that of a constructor
abbrev pub args_unknown : Declarations → List Written → Bool
args_unknown d args = not (all_known (con_names d) args) || nat_lt 0 (length (leaves_of (all_resolved (con_names d) args)))

-- What is wrong with a line: past a limit; a sort, a rule, a role or a name in an argument is not declared;
-- a constructor in an argument has another number of parts; the sort is no start sort; the node name is not valid.
abbrev pub line_kind : Declarations → Line → Option SchedKind
line_kind d (StartLine sort case) =
    first_told ((not (stands sort (sort_names d)), Unknown) ∷ (not (is_start (slice_get (grammar_in d).sorts (number_of sort (sort_names d)))), NotStart) ∷ [])
line_kind d (ChooseLine n rule args) =
    first_told
    ((args_are_past args || is_long n, Limit)
    ∷ (not (stands rule (rule_names d)) || args_unknown d args, Unknown)
    ∷ (not (all_have_arities d.cons args), Arity)
    ∷ (is_none (node_named (words_in d) (grammar_in d) n), Name)
    ∷ [])
line_kind d (DeliverLine message) = None
line_kind d SettleLine = None
line_kind d (ListLine role) = first_told ((not (stands role d.roles), Unknown) ∷ [])
