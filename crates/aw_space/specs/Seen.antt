-- What a space of the program holds.
use Rattle.std.specs.Prelude.{◌≡◌, ℕ, List, Option}
use Rattle.aw_term.specs.Rules.{Grammar}
use Rattle.aw_term.specs.Choices.{Choice}
use Rattle.aw_grammar.specs.GrammarOf.{grammar_of}
use Rattle.aw_store.specs.Equations.{Equation}
use Rattle.aw_store.specs.declared.facts.Facts.{Ghosts}
use Rattle.aw_space.specs.Costs.{choice_cost, taking_cost}
use Rattle.aw_space.specs.Placings.{called_by}
use Rattle.aw_space.specs.declared.placing.Placing.{Placing}
use Rattle.aw_space.specs.declared.space.Space.{Space}
use Rattle.aw_space.specs.Spaces as P
use Rattle.aw_space.specs.SpaceView.{space_of}

-- its grammar
abbrev pub grammar_in : {F : Type 0} (f : Ghosts F) → Space F f → Grammar
grammar_in f s = grammar_of s.accepted.now.grammar

-- its nodes, its choices and its equations
abbrev pub space_seen : {F : Type 0} (f : Ghosts F) → Space F f → P.Space
space_seen f s = space_of (grammar_of s.accepted.now.grammar) s.held.items s.choices.items (f.map s.facts)

-- the one space is the other after a call, if there is one, and these equations in turn
abbrev pub TakesIn : {F : Type 0} (f : Ghosts F) → Grammar → Option Placing → List Equation → Space F f → Space F f → Type 0
TakesIn f g call es old new = space_seen f new ≡ P.taken_in (called_by g call) es (space_seen f old)

-- what it costs to take in a call, if there is one, and these equations in turn
abbrev pub taking_cost_at : {F : Type 0} (f : Ghosts F) → Grammar → Option Placing → List Equation → Space F f → ℕ
taking_cost_at f g call es s = taking_cost g (called_by g call) es (space_seen f s)

-- what a choice costs
abbrev pub choice_cost_at : {F : Type 0} (f : Ghosts F) → Grammar → Space F f → Choice → ℕ
choice_cost_at f g s c = choice_cost g s.role (space_seen f s) c

-- nodes, choices and equations are as they were
pub record IsUnchanged {F : Type 0} (f : Ghosts F) (old new : Space F f) : Type 0 where
  pub nodes : new.held.items ≡ old.held.items
  pub choices : new.choices.items ≡ old.choices.items
  pub equations : f.map new.facts ≡ f.map old.facts
