-- Whether a node of the program is held, as a plain one.
use Rattle.std.proofs.Common.{◌≡◌, ℕ, List, Option, Some, None, refl, ap, sym}
use Rattle.std.specs.Prelude.{is_some}
use Rattle.aw_term.specs.Names.{Node}
use Rattle.aw_term.specs.Rules.{Grammar}
use Rattle.aw_term.specs.Held as P
use Rattle.aw_node_list.specs.declared.held.Held.{Held}
use Rattle.aw_node_list.specs.HeldView.{all_of}
use Rattle.aw_node_list.specs.InOrder.{place_in}
use Rattle.aw_node_list.proofs.HeldViews.{held_nowhere, held_here}

held_cases : (g : Grammar) (n : Node) (hs : List Held) (o : Option ℕ) → place_in n hs ≡ o → is_some o ≡ is_some (P.held_of n (all_of g hs))
held_cases g n hs None e = sym (ap is_some (held_nowhere g n hs e))
held_cases g n hs (Some i) e = sym (ap is_some (held_here g n hs i e).3)

-- whether a node is held
pub held_view : (g : Grammar) (n : Node) (hs : List Held) → is_some (place_in n hs) ≡ is_some (P.held_of n (all_of g hs))
held_view g n hs = held_cases g n hs (place_in n hs) refl
