-- What is printed of a quiet world.
use Rattle.std.proofs.Common.{◌≡◌, ℕ, List, [], length, map, ap, sym, ◌∙◌, subst, Some, None}
use Rattle.std.specs.Prelude.{Result}
use Rattle.std.proofs.Math.Logic.{∥∥₁_elim}
use Rattle.std.proofs.Math.Nat.{ℕ_set}
use Rattle.aw_term.specs.Artifacts.{artifact_text}
use Rattle.aw_term.specs.Choices.{Choice, undivided}
use Rattle.aw_term.specs.Configs.{Config}
use Rattle.aw_grammar.specs.GrammarOf.{grammar_of, words_of}
use Rattle.aw_choice.specs.ChoiceView.{choice_of}
use Rattle.aw_law_sites.specs.Laws.{SameChoices}
use Rattle.aw_out.specs.declared.error.PrintFault.{PrintFault}
use Rattle.aw_out.specs.Report.{Bounded, Prints}
use Rattle.aw_law_sites.specs.Worlds as V
use Rattle.aw_law_sites.specs.Worlds.{world_after, gather}
use Rattle.aw_law_sites.proofs.SideBySide.{Pairs-length as pairs_length}
use Rattle.aw_law_worlds.proofs.WorldLaws.{artifacts_law, headline}
use Rattle.aw_world.specs.declared.workspace.Workspace.{Ghosts}
use Rattle.aw_world.specs.declared.world.World.{World}
use Rattle.aw_world.specs.Reactions.{PrintsRows, PrintsArtifacts}
use Rattle.aw_world.specs.Shown.{Shows, first_open}
use Rattle.aw_world.proofs.PrintProps.{prints_prop}

-- the same choices in the same order
same_choices : (cs : List Choice) → SameChoices cs cs
same_choices cs = (λ c m. m, λ c m. m)

module _ {W : Type 0} (f : Ghosts W) (w : World W f) (quiet : first_open w ≡ None) where
  is_quiet : (v : V.World) → Shows f w v → V.IsQuiet v
  is_quiet v S = ap (λ (u : V.World). V.first_false 0 u.delivered) (sym S) ∙ quiet

  -- the rows that are read are the artifacts
  pub prints_quiet : (old new : Bounded) (r : Result Unit PrintFault) → ((v : V.World) → Shows f w v → PrintsRows w.accepted.now.grammar v old new
      r) → PrintsArtifacts w.accepted.now.grammar w.taken.items old new r
  prints_quiet old new r prints c e =
      let d = w.accepted.now.grammar in
      let p = grammar_of d in
      let prop = prints_prop (artifact_text (words_of d) c) old new r in
      ∥∥₁_elim d.well_formed prop (λ wf. ∥∥₁_elim w.accepted.now.sound prop (λ so. ∥∥₁_elim w.reached prop (λ x.
      let v = world_after p w.loads x.0 in
      let u : undivided p [] v.taken ≡ Some c = ap (λ (u : V.World). undivided p [] u.taken) (sym x.2) ∙ e in
      let (rows, read, same) = (artifacts_law (words_of d) p (wf, so) w.loads x.0 x.1 (is_quiet v x.2) v.taken (same_choices v.taken) c u).0 in
      subst (λ t. Prints t old new r) (sym same) (prints v x.2 rows read))))

  -- there are as many nodes as rows
  pub quiet_length : (n : ℕ) → ((v : V.World) → Shows f w v → n ≡ length (gather v.sites)) → (c : Config) →
      undivided (grammar_of w.accepted.now.grammar) [] (map choice_of w.taken.items) ≡ Some c → n ≡ length c
  quiet_length n count c e =
      let d = w.accepted.now.grammar in
      let p = grammar_of d in
      ∥∥₁_elim d.well_formed (ℕ_set _ _) (λ wf. ∥∥₁_elim w.accepted.now.sound (ℕ_set _ _) (λ so. ∥∥₁_elim w.reached (ℕ_set _ _) (λ x.
      let v = world_after p w.loads x.0 in
      let u : undivided p [] v.taken ≡ Some c = ap (λ (u : V.World). undivided p [] u.taken) (sym x.2) ∙ e in
      let (c', e', i, h) = headline (words_of d) p (wf, so) w.loads x.0 x.1 in
      count v x.2 ∙ pairs_length _ (gather v.sites) c (h (is_quiet v x.2) v.taken (same_choices v.taken) c u).agree)))
