-- What one role holds of a case, and what a choice of this role, a call and equations do to it.
use Rattle.std.specs.Prelude.{ℕ, Bool, List, [], ◌∷◌, ◌++◌, map, Option, Some, None, nat_eq, unwrap_or}
use Rattle.aw_term.specs.Names.{Node, Ref}
use Rattle.aw_term.specs.Rules.{Ground, Grammar, sort_of}
use Rattle.aw_term.specs.Configs.{Done}
use Rattle.aw_term.specs.Choices.{Choice, Start, Develop, Outcome, Refused, Starts, Takes}
use Rattle.aw_term.specs.Artifacts.{Item}
use Rattle.aw_term.specs.Held.{Held, insert_held, insert_all, held_of, mark}
use Rattle.aw_store.specs.Equations.{Equation, Map}
use Rattle.aw_apply.specs.Made.{Call, Making, made}
use Rattle.aw_apply.specs.Messages.{Clash}
use Rattle.aw_law_sites.specs.Joint.{root_held, outcome_in}
use Rattle.aw_law_sites.specs.Homes.{home}
use Rattle.aw_law_sites.specs.Telling.{calls_in}
use Rattle.aw_law_sites.specs.Receiving.{add_all, call_clash, first_clash}
use Rattle.aw_law_sites.specs.Reacting.{add_held}
use Rattle.aw_law_sites.specs.Worklists.{site_worklist}

-- held nodes in their order, the choices taken in turn, and all equations that are known here
pub record Space : Type 0 where
  pub held : List Held
  pub choices : List Choice
  pub equations : Map

-- the node is worked on by this role
abbrev pub is_home : Grammar → ℕ → Node → Bool
is_home g role n = nat_eq (home g n) role

-- what a choice leads to here
abbrev pub outcome : Grammar → Space → Choice → Outcome Ref Ref
outcome g s c = outcome_in s.held s.equations g c

-- what a choice makes that leads to this: nothing, unless a rule is taken
abbrev pub making : Choice → Outcome Ref Ref → Making
making (Develop n r args) (Takes rule bound) = made n r rule args bound
making _ _ = record { equations = []; calls = [] }

-- a taken rule: the children of this role are added as pending nodes, the node is done, and the equations are added
abbrev pub develop_space : Grammar → ℕ → Space → Node → ℕ → List Ground → Making → Space
develop_space g role s n r args m = record {
  held = insert_all (calls_in g role m.calls) (map (mark n (Done r args)) s.held);
  choices = s.choices ++ Develop n r args ∷ [];
  equations = s.equations ++ m.equations;
}

-- after a choice that leads to this
abbrev pub space_on : Grammar → ℕ → Space → Choice → Outcome Ref Ref → Space
space_on g role s c (Refused a) = s
space_on g role s (Start t k) Starts = record s { held = insert_held (root_held t k) s.held; choices = s.choices ++ Start t k ∷ [] }
space_on g role s (Start t k) (Takes rule bound) = s
space_on g role s (Develop n r args) Starts = s
space_on g role s (Develop n r args) (Takes rule bound) = develop_space g role s n r args (made n r rule args bound)

-- after a choice: as it was, where the choice is refused
abbrev pub space_after : Grammar → ℕ → Space → Choice → Space
space_after g role s c = space_on g role s c (outcome g s c)

-- the call of a node with these references
-- (sort 0 where its name is not valid, which does not come of a call that may be made)
abbrev pub call_of : Grammar → Node → List Ref → Call
call_of g n rs = record { node = n; sort = unwrap_or (sort_of g n) 0; inherited = rs }

-- after a call, if there is one: its node is added where it is not held
abbrev pub with_call : Option Call → List Held → List Held
with_call None hs = hs
with_call (Some c) hs = add_held (held_of c.node hs) c hs

-- after a call, if there is one, and these equations in turn
abbrev pub taken_in : Option Call → List Equation → Space → Space
taken_in c es s = record s { held = with_call c s.held; equations = add_all s.equations es }

-- the first contradiction between what is held, and a call, if there is one, and these equations in turn
abbrev pub clash_with : Option Call → List Equation → Space → Option Clash
clash_with None es s = first_clash s.equations es
clash_with (Some c) es s = call_clash (held_of c.node s.held) c (first_clash s.equations es)

-- what may be chosen at the open nodes, and how each rule stands there
abbrev pub worklist : Grammar → Space → List Item
worklist g s = site_worklist g s.equations s.held
