-- What holds of a world of the program because events lead to it.
use Rattle.std.proofs.Common.{◌≡◌, ℕ, zero, suc, ◌≤◌, arith, Bool, false, List, [], ◌∷◌, length, map, ap, sym, ◌∙◌, subst, Some}
use Rattle.std.specs.Prelude.{slice_get, option_map}
use Rattle.std.specs.Coded.{le_prop}
use Rattle.std.proofs.Math.Logic.{∥∥₁_elim, ∥∥₁_map}
use mathlib.Core.Logic.{∥∥₁_prop}
use Rattle.std.proofs.Math.Nat.{ℕ_set}
use Rattle.std.proofs.lemmas.List.{length-map}
use Rattle.std.proofs.lemmas.Option.{slice_get-map, same_Some}
use Rattle.aw_list.specs.Members.{Member}
use Rattle.aw_list.proofs.Members.{member_got}
use Rattle.aw_term.specs.Rules as R
use Rattle.aw_term.specs.Artifacts.{Words}
use Rattle.aw_term.specs.WellFormed.{Each}
use Rattle.aw_term.specs.Held as P
use Rattle.aw_term.proofs.GrammarTests.{grammars_are_one}
use Rattle.aw_term.proofs.Gets.{get_some as got_site}
use Rattle.aw_accept.specs.declared.accepted.Accepted.{Accepted}
use Rattle.aw_grammar.specs.declared.grammar.Grammar.{Grammar}
use Rattle.aw_grammar.specs.GrammarOf.{grammar_of, words_of}
use Rattle.aw_choice.specs.declared.choice.Choice.{Choice}
use Rattle.aw_choice.specs.ChoiceView.{choice_of}
use Rattle.aw_node_list.specs.HeldView.{held_of, all_of}
use Rattle.aw_law_sites.specs.Laws.{IsAccepted}
use Rattle.aw_law_sites.specs.Homes.{home}
use Rattle.aw_law_sites.specs.Sites.{Site, empty_site}
use Rattle.aw_law_sites.specs.Bounds.{bound_of}
use Rattle.aw_law_sites.specs.Worlds as V
use Rattle.aw_law_sites.specs.Worlds.{MayCome, world_after}
use Rattle.aw_law_worlds.proofs.Nearing.{within_bound}
use Rattle.aw_law_worlds.proofs.WorldLaws.{invariant_law, headline}
use Rattle.aw_msg.specs.declared.message.Message.{Message}
use Rattle.aw_msg.specs.MessageView.{message_of}
use Rattle.aw_world.specs.declared.workspace.Workspace.{Ghosts}
use Rattle.aw_world.specs.Opened.{AreAtHome}
use Rattle.aw_law_sites.specs.Joint.{Joint}
use Rattle.aw_law_worlds.specs.Invariant.{IsInvariant}
use Rattle.aw_world.specs.Seen.{ArePlaced, IsReached, world_of}
use Rattle.aw_world.specs.Staying.{IsConfigured}
use Rattle.aw_world.proofs.Pairings.{map_got}

-- ---- what is known of the plain world

module _ (words : Words) (g : R.Grammar) (accepted : IsAccepted words g) (loads : Bool) (es : List V.Move) (may : Each (MayCome g) es) where
  homes_law : (a : ℕ) (h : P.Held) → Member h (V.site_at (world_after g loads es) a).held → home g h.node ≡ a
  homes_law a h m = let (x, I) = invariant_law words g accepted loads es may in (I.held a h m).1

  configured_law : IsConfigured g (world_after g loads es).taken
  configured_law = let (c, e, i, f) = headline words g accepted loads es may in (c, e, i)

-- ---- the same of the program's world

module _ {W : Type 0} (f : Ghosts W) (a : Accepted) (loads : Bool) (ws : List W) (ms : List Message) (bs : List Bool) (ts : List Choice) (h : ∥ IsReached f a.grammar loads ws ms bs ts ∥₁) where
  abbrev d : Grammar
  d = a.grammar

  abbrev p : R.Grammar
  p = grammar_of a.grammar

  pub reached_homes : ((w : W) → (f.seen w).held ≡ all_of (f.its_grammar w) (f.its_nodes w)) → ArePlaced f a.grammar ws → AreAtHome f (grammar_of a.grammar) ws
  reached_homes hold placed i j w x e at =
      ∥∥₁_elim d.well_formed (ℕ_set _ _) (λ wf. ∥∥₁_elim a.sound (ℕ_set _ _) (λ so. ∥∥₁_elim h (ℕ_set _ _) (λ r.
      let v = world_after p loads r.0 in
      let same : f.its_grammar w ≡ p = grammars_are_one (f.its_grammar w) p (placed.grammar i w e) in
      let held : (V.site_at v i).held ≡ all_of p (f.its_nodes w) =
      ap (λ (u : V.World). (V.site_at u i).held) (sym r.2) ∙ ap (λ (s : Site). s.held) (map_got (λ w. f.seen w) (empty_site false i) ws i w e) ∙ hold w ∙ ap (λ g. all_of g (f.its_nodes w)) same in
      homes_law (words_of d) p (wf, so) loads r.0 r.1 i (held_of p x)
      (subst (Member (held_of p x)) (sym held) (member_got (all_of p (f.its_nodes w)) j (held_of p x) (slice_get-map (held_of p) (f.its_nodes w) j ∙ ap (option_map (held_of p)) at))))))

  pub reached_bound : length ms ≤ bound_of (grammar_of a.grammar) (map choice_of ts)
  reached_bound =
      ∥∥₁_elim d.well_formed le_prop (λ w. ∥∥₁_elim a.sound le_prop (λ s. ∥∥₁_elim h le_prop (λ r.
      let b = within_bound (words_of d) p (w, s) loads r.0 r.1 in
      let m : length (world_after p loads r.0).messages ≡ length ms = ap (λ (u : V.World). length u.messages) (sym r.2) ∙ length-map ms (message_of p) in
      let t = ap (λ (u : V.World). bound_of p u.taken) (sym r.2) in
      omega (arith, b, m, t))))

  pub reached_configured : ∥ IsConfigured (grammar_of a.grammar) (map choice_of ts) ∥₁
  reached_configured =
      ∥∥₁_elim d.well_formed ∥∥₁_prop (λ w. ∥∥₁_elim a.sound ∥∥₁_prop (λ s. ∥∥₁_map h (λ r.
      subst (λ (u : V.World). IsConfigured p u.taken) (sym r.2) (configured_law (words_of d) p (w, s) loads r.0 r.1))))

  pub reached_together : ∥ ((v : V.World) × (world_of f a.grammar ws ms bs ts ≡ v) × (x : Joint) × IsInvariant p loads v x) ∥₁
  reached_together =
      ∥∥₁_elim d.well_formed ∥∥₁_prop (λ w. ∥∥₁_elim a.sound ∥∥₁_prop (λ s. ∥∥₁_map h (λ r.
      (let (x, fits) = invariant_law (words_of d) p (w, s) loads r.0 r.1 in (world_after p loads r.0, r.2, x, fits)))))
