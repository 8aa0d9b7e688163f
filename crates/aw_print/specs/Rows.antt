-- What is printed of a node whose values stand in equations, and what its values can be.
use Rattle.std.specs.Prelude.{◌≡◌, ℕ, Bool, true, false, List, [], ◌∷◌, ◌++◌, map, codes, Option, None, Some, Result, slice_get, option_and_then}
use Rattle.aw_list.specs.Members.{Never, Member}
use Rattle.aw_term.specs.Trees.{Head}
use Rattle.aw_term.specs.Names.{Node, Ref, result}
use Rattle.aw_term.specs.Rules.{Value, Grammar, upto, sort_of}
use Rattle.aw_term.specs.Choices.{gives_of}
use Rattle.aw_term.specs.Configs.{State, Pending, Done}
use Rattle.aw_term.specs.Artifacts.{Words, node_text, state_text, row_text}
use Rattle.aw_term.specs.Views.{ground_of}
use Rattle.aw_grammar.specs.declared.grammar.Grammar as made
use Rattle.aw_grammar.specs.GrammarOf.{grammar_of, words_of}
use Rattle.aw_choice.specs.declared.choice.Choice.{Choice}
use Rattle.aw_choice.specs.declared.choice.Choice.TheVariants.{Start, Develop}
use Rattle.aw_store.specs.Equations.{Same, Is, Map, find}
use Rattle.aw_store.specs.Unfold.{Unfolds}
use Rattle.aw_out.specs.Report.{Bounded, Prints}
use Rattle.aw_out.specs.declared.error.PrintFault.{PrintFault}
use Rattle.aw_print.specs.Drafts.{Draft, Whole, then, drafts}

-- a node is open, or done by the development that was chosen
abbrev pub state_of : Option Choice → State
state_of None = Pending
state_of (Some (Start sort case)) = Pending
state_of (Some (Develop node rule args)) = Done rule (map ground_of args)

-- how many results a node has; none where its name is not valid
abbrev pub results_of : Grammar → Node → ℕ
results_of g n = gives_of (option_and_then (slice_get g.sorts) (sort_of g n))

-- the references of a node's results
abbrev pub result_refs : Grammar → Node → List Ref
result_refs g n = map (result n) (upto 1 (results_of g n))

-- `visit#1 admit {"Ada"} (`
abbrev pub opening_of_row : Words → Node → State → List ℕ
opening_of_row w n s = node_text w n ++ (codes " " ++ (state_text w s ++ codes " ("))

-- the values of a node, so many constructors deep, and what stands behind them
abbrev pub values_draft : ℕ → Words → Map → List Ref → List Ref → Draft
values_draft n w k inherited results =
    then (drafts n w k inherited) (then (Whole (codes ") <")) (then (drafts n w k results) (Whole (codes ">\n"))))

-- the values of a node of a grammar, so many constructors deep, and what stands behind them
abbrev pub node_values_draft : ℕ → made.Grammar → Map → Node → List Ref → Draft
node_values_draft n g k node inherited = values_draft n (words_of g) k inherited (result_refs (grammar_of g) node)

-- the line of a node, its values so many constructors deep
abbrev pub row_draft : ℕ → Words → Map → Node → State → List Ref → List Ref → Draft
row_draft n w k node state inherited results = then (Whole (opening_of_row w node state)) (values_draft n w k inherited results)

-- the line of a node of a grammar, its values so many constructors deep
abbrev pub line_draft : ℕ → made.Grammar → Map → Node → Option Choice → List Ref → Draft
line_draft n g k node done inherited = row_draft n (words_of g) k node (state_of done) inherited (result_refs (grammar_of g) node)

-- the line of a node with these values
abbrev pub line_text : Words → Node → State → List Value → List Value → List ℕ
line_text w n s ins outs = row_text w (record { node = n; sort = 0; inherited = ins; results = outs; state = s })

-- each reference has this value
abbrev pub AllUnfold : Map → List Ref → List Value → Type 0
AllUnfold k [] [] = Unit {0}
AllUnfold k (r ∷ rs) (t ∷ ts) = Unfolds k r t × AllUnfold k rs ts
AllUnfold k _ _ = Never

-- The line of a node of a grammar is printed with whatever values its references have.
abbrev pub PrintsLine : made.Grammar → Map → Node → Option Choice → List Ref → Bounded → Bounded → Result Unit PrintFault → Type 0
PrintsLine g k node done inherited old new result =
    (ins outs : List Value) → AllUnfold k inherited ins → AllUnfold k (result_refs (grammar_of g) node) outs → Prints (line_text (words_of g) node (state_of done) ins outs) old new result

-- From the one reference the other is reached through bodies; `true` says that a constructor was among them.
pub data Reaches (k : Map) : Bool → Ref → Ref → Type 0 where
  here : {r : Ref} → Reaches k false r r
  same : {b : Bool} {r s t : Ref} → find k r ≡ Some (Same s) → Reaches k b s t → Reaches k b r t
  part : {b : Bool} {r s t : Ref} {h : Head} {rs : List Ref} → find k r ≡ Some (Is h rs) → Member s rs → Reaches k b s t → Reaches k true r t

-- a reference is reached that reaches itself through a constructor
abbrev pub IsEndless : Map → Ref → Type 0
IsEndless k r = (s : Ref) × (b : Bool) × Reaches k b r s × Reaches k true s s
