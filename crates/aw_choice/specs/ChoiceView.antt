-- Choices and answers as the plain definitions speak of them.
use Rattle.std.specs.Prelude.{ℕ, List, ◌∷◌, map, take, Option, None, Some}
use Rattle.aw_term.specs.Names.{Ref}
use Rattle.aw_term.specs.Choices as Q
use Rattle.aw_term.specs.Artifacts as A
use Rattle.aw_term.specs.Views.{ground_of}
use Rattle.aw_choice.specs.declared.choice.Choice.{Choice}
use Rattle.aw_choice.specs.declared.choice.Choice.TheVariants.{Start, Develop}
use Rattle.aw_choice.specs.declared.choice.Path.{Path}
use Rattle.aw_choice.specs.declared.choice.Place.{Place}
use Rattle.aw_choice.specs.declared.choice.Item.{Item}
use Rattle.aw_choice.specs.declared.choice.Standing.{Standing}
use Rattle.aw_choice.specs.declared.choice.Standing.TheVariants as standing
use Rattle.aw_choice.specs.declared.choice.Answer.{Answer}
use Rattle.aw_choice.specs.declared.choice.Answer.TheVariants.{Known, NotHere, Developed, NotItsRule, Arguments, Waits, Differs, Circle, TooDeep, Taken}

-- a choice of the program, with its arguments as trees
abbrev pub choice_of : Choice → Q.Choice
choice_of (Start sort case) = Q.Start sort case
choice_of (Develop node rule args) = Q.Develop node rule (map ground_of args)

-- the steps of a path, without what pads it
abbrev pub path_of : Path → List ℕ
path_of p = take p.len p.steps

-- the attribute, and then the steps
abbrev pub place_of : Place → List ℕ
place_of p = p.attribute ∷ path_of p.path

-- an answer of the program, with the place of a mismatch as its numbers alone
abbrev pub answer_of : Answer → Q.Answer Ref
answer_of Known = Q.Known
answer_of NotHere = Q.NotHere
answer_of Developed = Q.Developed
answer_of NotItsRule = Q.NotItsRule
answer_of Arguments = Q.Arguments
answer_of (Waits r) = Q.WaitsFor r
answer_of (Differs place) = Q.Mismatch (place_of place)
answer_of (Circle r) = Q.CircleAt r
answer_of TooDeep = Q.TooDeep
answer_of Taken = Q.Taken

-- the answer that a choice would have where the rule is not ready
abbrev pub refusal_of : Standing → Option (Q.Answer Ref)
refusal_of standing.Ready = None
refusal_of (standing.Waits r) = Some (Q.WaitsFor r)
refusal_of (standing.Differs place) = Some (Q.Mismatch (place_of place))
refusal_of (standing.Circle r) = Some (Q.CircleAt r)
refusal_of standing.TooDeep = Some Q.TooDeep

-- an item of a worklist of the program, with the answer that a choice of it would have where it is not ready
abbrev pub item_of : Item → A.Item
item_of i = record { node = i.node; rule = i.rule; refusal = refusal_of i.state }
