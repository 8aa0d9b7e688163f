-- Nodes and equations that may come into a space, and what it costs to take a rule.
use Rattle.std.specs.Prelude.{◌≡◌, ◌<◌, ◌+◌, ℕ, true, List, ◌++◌, length}
use Rattle.aw_term.specs.Rules.{Grammar}
use Rattle.aw_choice.specs.declared.choice.Choice.{Choice}
use Rattle.aw_store.specs.Adding.{AreNew}
use Rattle.aw_store.specs.Equations.{Equation, Map}
use Rattle.aw_store.specs.StoreView.{all_few}
use Rattle.aw_node_list.specs.HeldView.{all_of}
use Rattle.aw_node_list.specs.InOrder.{Lacks, LackEach, insert_in, insert_all_in, done_at}
use Rattle.aw_node_list.specs.declared.held.Held.{Held}
use Rattle.aw_law_sites.specs.Worklists.{site_worklist}
use Rattle.aw_space.specs.Costs.{rules_at, waiting_on_lefts}
use Rattle.aw_space.specs.Openings.{IsOpenable}
use Rattle.aw_space.specs.Sound.{AreHome}
use Rattle.aw_space.specs.Valid.{IsValid}

-- These nodes and equations may stand at this role, and fit the grammar.
pub record Belong (g : Grammar) (role : ℕ) (hs : List Held) (k : Map) : Type 0 where
  pub home : AreHome g role hs k
  pub valid : IsValid g hs k

-- A node that is open and not held may be held beside these.
pub record MayBeHeld (g : Grammar) (role : ℕ) (hs : List Held) (k : Map) (h : Held) : Type 0 where
  pub openable : IsOpenable g h
  pub lacks : Lacks h.node hs
  pub belong : Belong g role (insert_in h hs) k

-- A choice may take a rule on the node at place i that makes these equations, and these open nodes of this role.
pub record MayBeTaken (g : Grammar) (role : ℕ) (hs : List Held) (k : Map) (i : ℕ) (c : Choice) (es : List Equation) (own : List Held) : Type 0 where
  pub at : i < length hs
  pub new : AreNew k es
  pub few : all_few es ≡ true
  pub lacks : LackEach own (done_at c i hs)
  pub belong : Belong g role (insert_all_in own (done_at c i hs)) (k ++ es)

-- how many guards are tested where these nodes are opened, and where these equations are added to what is known
abbrev pub rule_tests : Grammar → List Held → Map → List Equation → List Held → ℕ
rule_tests g hs k es own = rules_at g (all_of g own) + waiting_on_lefts es (site_worklist g k (all_of g hs))
