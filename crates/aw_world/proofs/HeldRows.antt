-- The line of a held node is the line of each row that is read from it.
use Rattle.std.proofs.Common.{◌≡◌, ℕ, zero, suc, true, List, [], ◌∷◌, Option, Some, None, map, refl, ap, sym, ◌∙◌, subst, slice_get}
use Rattle.std.specs.Prelude.{option_and_then, option_map}
use Rattle.std.proofs.lemmas.Bool.{and_parts}
use Rattle.std.proofs.lemmas.Option.{slice_get-map, same_Some}
use Rattle.aw_term.specs.Names.{Node, Ref, result}
use Rattle.aw_term.specs.Rules.{Value, Grammar, upto, sort_of}
use Rattle.aw_term.specs.Choices.{gives_of}
use Rattle.aw_term.specs.Configs.{Row}
use Rattle.aw_term.specs.Artifacts.{Words, row_text}
use Rattle.aw_term.specs.Held as plain
use Rattle.aw_accept.specs.Acyclic.{gives}
use Rattle.aw_choice.specs.declared.choice.Choice.{Choice}
use Rattle.aw_choice.specs.declared.choice.Choice.TheVariants.{Start, Develop}
use Rattle.aw_store.specs.Equations.{Map}
use Rattle.aw_node_list.specs.declared.held.Held.{Held}
use Rattle.aw_node_list.specs.HeldView as held
use Rattle.aw_node_list.specs.HeldView.{sort_or, held_of, all_of}
use Rattle.aw_law_sites.specs.Laws as joint
use Rattle.aw_law_worlds.specs.ReadRows.{IsRead}
use Rattle.aw_print.specs.Rows as print
use Rattle.aw_print.specs.Rows.{results_of, result_refs, line_text}
use Rattle.aw_law_sites.specs.ValidNames.{takes_as}
use Rattle.aw_space.specs.Valid.{done_fits, held_fits, all_fit}

-- the values of references, told place by place
pub all_unfold : (k : Map) (rs : List Ref) (ts : List Value) → joint.AllUnfold k rs ts → print.AllUnfold k rs ts
all_unfold k [] [] u = tt
all_unfold k [] (t ∷ ts) u = elim u [ ]
all_unfold k (r ∷ rs) [] u = elim u [ ]
all_unfold k (r ∷ rs) (t ∷ ts) u = (u.0, all_unfold k rs ts u.1)

many_cases : (g : Grammar) (o : Option ℕ) (rs : List Ref) → takes_as g o rs ≡ true → gives g (sort_or o) ≡ gives_of (option_and_then (slice_get g.sorts) o)
many_cases g None rs e = absurd cc
many_cases g (Some s) rs e = refl

-- a node with a valid name has as many results as its sort gives
pub many_results : (g : Grammar) (n : Node) (rs : List Ref) → takes_as g (sort_of g n) rs ≡ true → gives g (sort_or (sort_of g n)) ≡ results_of g n
many_results g n rs e = many_cases g (sort_of g n) rs e

-- no node was developed by a start
pub same_state : (g : Grammar) (n : Node) (done : Option Choice) → done_fits g n done ≡ true → print.state_of done ≡ held.state_of done
same_state g n None e = refl
same_state g n (Some (Start sort case)) e = absurd cc
same_state g n (Some (Develop node rule args)) e = refl

module _ (g : Grammar) (k : Map) (h : Held) (q : Row) (named : takes_as g (sort_of g h.node) h.inherited ≡ true) (done : done_fits g h.node h.done ≡ true) (read : IsRead g k (held_of g h) q) where
  -- the same line
  pub same_line : (w : Words) → line_text w h.node (print.state_of h.done) q.inherited q.results ≡ row_text w q
  same_line w = λ i. line_text w (read.node i) ((same_state g h.node h.done done ∙ read.state) i) q.inherited q.results

  -- its inherited values
  pub inherited_unfold : print.AllUnfold k h.inherited q.inherited
  inherited_unfold = all_unfold k h.inherited q.inherited read.inherited

  -- its results
  pub results_unfold : print.AllUnfold k (result_refs g h.node) q.results
  results_unfold =
      subst (λ n. print.AllUnfold k (map (result h.node) (upto 1 n)) q.results) (many_results g h.node h.inherited named)
      (all_unfold k (map (result h.node) (upto 1 (gives g (sort_or (sort_of g h.node))))) q.results read.results)

-- what developed the node at a place fits it
pub done_here : (g : Grammar) (hs : List Held) (i : ℕ) (h : Held) → all_fit g hs ≡ true → slice_get hs i ≡ Some h → done_fits g h.node h.done ≡ true
done_here g [] i h all e = absurd cc
done_here g (x ∷ xs) zero h all e =
    let s : x ≡ h = cc in
    subst (λ (y : Held). done_fits g y.node y.done ≡ true) s (and_parts _ _ (and_parts (held_fits g x) _ all).0).1
done_here g (x ∷ xs) (suc i) h all e = done_here g xs i h (and_parts (held_fits g x) _ all).1 e

-- the plain node at a place
pub plain_here : (g : Grammar) (hs : List Held) (i : ℕ) (h : Held) (p : plain.Held) → slice_get hs i ≡ Some h → slice_get (all_of g hs) i ≡ Some p → held_of g h ≡ p
plain_here g hs i h p e f = same_Some _ _ (ap (option_map (held_of g)) (sym e) ∙ sym (slice_get-map (held_of g) hs i) ∙ f)
