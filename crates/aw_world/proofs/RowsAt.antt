-- The row of a node at a place of a workspace.
use Rattle.std.proofs.Common.{◌≡◌, ℕ, ◌+◌, ◌<◌, false, List, ◌∷◌, length, drop, map, ap, sym, ◌∙◌, refl, subst, Option, Some, None, slice_get}
use Rattle.std.specs.Prelude.{Result, option_and_then, option_map, IsSome}
use Rattle.std.proofs.lemmas.List.{length-map}
use Rattle.std.proofs.lemmas.Option.{slice_get-map, slice_get_within}
use Rattle.aw_term.specs.Artifacts.{row_text}
use Rattle.aw_term.specs.Configs.{Row, Config}
use Rattle.aw_term.specs.Rules.{get}
use Rattle.aw_term.proofs.GrammarTests.{grammars_are_one}
use Rattle.aw_grammar.specs.declared.grammar.Grammar.{Grammar}
use Rattle.aw_grammar.specs.GrammarOf.{grammar_of, words_of}
use Rattle.aw_node_list.specs.declared.held.Held.{Held}
use Rattle.aw_node_list.specs.HeldView.{held_of, all_of}
use Rattle.aw_out.specs.declared.error.PrintFault.{PrintFault}
use Rattle.aw_out.specs.Report.{Bounded, Prints}
use Rattle.aw_term.proofs.Gets.{get_some as got_site}
use Rattle.aw_law_sites.specs.Homes.{home}
use Rattle.aw_law_sites.specs.Sites.{empty_site}
use Rattle.aw_law_sites.specs.Worlds.{World, gather, site_at}
use Rattle.aw_law_worlds.specs.ReadRows.{IsRead, AreRead}
use Rattle.aw_world.specs.declared.workspace.Workspace.{Ghosts}
use Rattle.aw_world.specs.declared.merging.Spot.{Spot}
use Rattle.aw_world.specs.Merged.{merged, nodes_of, held_at}
use Rattle.aw_world.specs.Opened.{AreAllInOrder, AreAtHome}
use Rattle.aw_world.specs.PrintedRows.{PrintsRow}
use Rattle.aw_world.specs.Seen.{ArePlaced}
use Rattle.aw_world.specs.SpotRows.{PrintsSpot}
use Rattle.aw_world.proofs.Gathered.{gathered}
use Rattle.aw_world.proofs.Lines.{told_here, told_length, row_here}
use Rattle.aw_world.proofs.Pairings.{map_got}

stood_cases : {W : Type 0} (f : Ghosts W) (ws : List W) (s : Spot) (h : Held) (o : Option W) → slice_get ws s.site ≡ o → option_and_then (λ w. slice_get (f.its_nodes w) s.place) o ≡ Some h
    → (w : W) × (slice_get ws s.site ≡ Some w) × (slice_get (f.its_nodes w) s.place ≡ Some h)
stood_cases f ws s h None a b = absurd cc
stood_cases f ws s h (Some w) a b = (w, a, b)

-- the workspace at which a node stands
pub stood : {W : Type 0} (f : Ghosts W) (ws : List W) (s : Spot) (h : Held) → held_at f ws s ≡ Some h → (w : W) × (slice_get ws s.site ≡ Some w) × (slice_get (f.its_nodes w) s.place ≡ Some h)
stood f ws s h e = stood_cases f ws s h (slice_get ws s.site) refl e

within_cases : {W : Type 0} (f : Ghosts W) (ws : List W) (s : Spot) (o : Option W) → slice_get ws s.site ≡ o → IsSome (option_and_then (λ w. slice_get (f.its_nodes w) s.place) o) → s.site < length ws
within_cases f ws s None e h = absurd cc
within_cases f ws s (Some w) e h = slice_get_within ws s.site w e

pub stood_within : {W : Type 0} (f : Ghosts W) (ws : List W) (s : Spot) → IsSome (held_at f ws s) → s.site < length ws
stood_within f ws s h = within_cases f ws s (slice_get ws s.site) refl h

pub there : {A : Type 0} (o : Option A) (x : A) → o ≡ Some x → IsSome o
there o x e = subst (λ z. IsSome z) (sym e) refl

module _ {W : Type 0} (f : Ghosts W) (hold : (w : W) → (f.seen w).held ≡ all_of (f.its_grammar w) (f.its_nodes w)) (d : Grammar) (ws : List W) (placed : ArePlaced f d ws)
    (homes : AreAtHome f (grammar_of d) ws) (v : World) (shown : map (λ w. f.seen w) ws ≡ v.sites) where
  all : gather v.sites ≡ all_of (grammar_of d) (merged (nodes_of f ws))
  all = ap gather (sym shown) ∙ gathered f hold (grammar_of d) ws placed.grammar

  -- the row that is printed at a place
  pub row_at : (spots : List Spot) → AreAllInOrder f ws spots → (rows : Config) → AreRead (grammar_of d) v rows → (i : ℕ) (s : Spot) → slice_get spots i ≡ Some s
      → (old new : Bounded) (r : Result Unit PrintFault) → PrintsSpot f d ws s old new r
      → (q : Row) × (drop i rows ≡ q ∷ drop (i + 1) rows) × Prints (row_text (words_of d) q) old new r
  row_at spots order rows read i s is old new r printed =
      let p = grammar_of d in
      let (h, e, k) = told_here (held_at f ws) spots (merged (nodes_of f ws)) i s order is in
      let here : slice_get (gather v.sites) i ≡ Some (held_of p h) = ap (λ hs. slice_get hs i) all ∙ slice_get-map (held_of p) (merged (nodes_of f ws)) i ∙ ap (option_map (held_of p)) k in
      let (q, R, dropped) = row_here (λ x q. IsRead p (site_at v (home p x.node)).equations x q) (gather v.sites) rows i (i + 1) (held_of p h) read here refl in
      let (w, at, place) = stood f ws s h e in
      let at_home : home p h.node ≡ s.site = homes s.site s.place w h at place in
      let mine : get (empty_site false s.site) v.sites s.site ≡ f.seen w = ap (λ ss. get (empty_site false s.site) ss s.site) (sym shown)
      ∙ map_got (λ w. f.seen w) (empty_site false s.site) ws s.site w at in
      let held : (get (empty_site false s.site) v.sites s.site).held ≡ all_of p (f.its_nodes w) =
      ap (λ z. z.held) mine ∙ hold w ∙ ap (λ z. all_of z (f.its_nodes w)) (grammars_are_one (f.its_grammar w) p (placed.grammar s.site w at)) in
      let stands : slice_get (get (empty_site false s.site) v.sites s.site).held s.place ≡ Some (held_of p h) =
      ap (λ hs. slice_get hs s.place) held ∙ slice_get-map (held_of p) (f.its_nodes w) s.place ∙ ap (option_map (held_of p)) place in
      let own : IsRead p (get (empty_site false s.site) v.sites s.site).equations (held_of p h) q = subst (λ a. IsRead p (site_at v a).equations (held_of p h) q) at_home R in
      (q, dropped, subst (λ ss. PrintsRow d (get (empty_site false s.site) ss s.site) s.place old new r) shown printed (held_of p h) q stands own)

  -- there are as many places as nodes
  pub order_length : (spots : List Spot) → AreAllInOrder f ws spots → length spots ≡ length (gather v.sites)
  order_length spots order =
      told_length (held_at f ws) spots (merged (nodes_of f ws)) order
      ∙ sym (ap length all ∙ length-map (merged (nodes_of f ws)) (held_of (grammar_of d)))
