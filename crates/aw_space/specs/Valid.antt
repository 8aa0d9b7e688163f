-- The names and the values that a space holds fit its grammar.
use Rattle.std.specs.Prelude.{◌≡◌, ℕ, Bool, true, false, ◌&&◌, List, [], ◌∷◌, map, Option, Some, None, nat_eq, slice_get}
use Rattle.aw_term.specs.Names.{Node, node_eq}
use Rattle.aw_term.specs.Rules.{Rule, Grammar, sort_of}
use Rattle.aw_term.specs.Views.{ground_of}
use Rattle.aw_base.specs.ChoiceFits.{args_ok}
use Rattle.aw_choice.specs.declared.choice.Choice.{Choice}
use Rattle.aw_choice.specs.declared.choice.Choice.TheVariants.{Start, Develop}
use Rattle.aw_store.specs.Equations.{Map}
use Rattle.aw_node_list.specs.declared.held.Held.{Held}
use Rattle.aw_law_sites.specs.ValidNames.{refs_ok, equations_ok}

-- the rule is of the sort
abbrev pub is_of_sort : Option Rule → Option ℕ → Bool
is_of_sort (Some rule) (Some sort) = nat_eq rule.sort sort
is_of_sort _ _ = false

-- the node is open, or it was developed by a rule of its sort with arguments within their limits
abbrev pub done_fits : Grammar → Node → Option Choice → Bool
done_fits g n None = true
done_fits g n (Some (Start sort case)) = false
done_fits g n (Some (Develop node rule args)) = node_eq node n && (is_of_sort (slice_get g.rules rule) (sort_of g n) && args_ok g (map ground_of args))

-- its references are valid, and what developed it fits it
abbrev pub held_fits : Grammar → Held → Bool
held_fits g h = refs_ok g h.inherited && done_fits g h.node h.done

-- each of these fits
abbrev pub all_fit : Grammar → List Held → Bool
all_fit g [] = true
all_fit g (h ∷ hs) = held_fits g h && all_fit g hs

-- each node fits, and each equation has valid names, arities and texts
pub record IsValid (g : Grammar) (hs : List Held) (k : Map) : Type 0 where
  pub nodes : all_fit g hs ≡ true
  pub equations : equations_ok g k ≡ true
