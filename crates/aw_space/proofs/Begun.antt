-- What taking a start keeps.
use Rattle.std.proofs.Common.{◌≡◌, ℕ, true, List, [], ◌∷◌, ◌++◌, slice_get, refl, ap, sym, ◌∙◌, eq-eqb}
use Rattle.std.proofs.Math.Logic.{∥∥₁_elim}
use Rattle.std.proofs.Math.Bool.{Bool-set}
use Rattle.std.proofs.lemmas.Bool.{and_from}
use Rattle.aw_term.specs.Names.{Node, root}
use Rattle.aw_term.specs.Rules as P
use Rattle.aw_term.specs.Rules.{sort_of}
use Rattle.aw_term.specs.Choices as Q
use Rattle.aw_term.specs.WellFormed.{takes_of}
use Rattle.aw_choice.specs.ChoiceView.{choice_of}
use Rattle.aw_choice.specs.declared.choice.Choice.{Choice}
use Rattle.aw_grammar.specs.declared.grammar.Grammar.{Grammar}
use Rattle.aw_grammar.specs.GrammarOf.{grammar_of, words_of}
use Rattle.aw_base.specs.NodeNames.{is_start}
use Rattle.aw_store.specs.Equations.{Map}
use Rattle.aw_node_list.specs.declared.held.Held.{Held}
use Rattle.aw_node_list.specs.HeldView.{all_of}
use Rattle.aw_node_list.specs.InOrder.{insert_in}
use Rattle.aw_law_sites.specs.Joint.{outcome_in}
use Rattle.aw_law_worlds.proofs.Sorts.{sort_of_root}
use Rattle.aw_law_sites.specs.ValidNames.{takes_as}
use Rattle.aw_space.specs.Openings.{opened}
use Rattle.aw_space.specs.Sound.{AreHome}
use Rattle.aw_space.specs.Spaces.{is_home, space_on, space_after}
use Rattle.aw_space.specs.SpaceView.{space_of}
use Rattle.aw_space.specs.Valid.{IsValid}
use Rattle.aw_space.proofs.KeptSound.{own_inserted, done_inserted, all_done_kept, all_rooted_more, rooted_inserted}
use Rattle.aw_space.proofs.KeptValid.{fit_inserted}
use Rattle.aw_space.proofs.MadeNames.{start_takes}
use Rattle.aw_space.proofs.Taken.{begun}

module _ (gr : Grammar) (role s l : ℕ) (start : is_start (slice_get (grammar_of gr).sorts s) ≡ true) where
  abbrev g : P.Grammar
  g = grammar_of gr

  pub takes_none : takes_as g (sort_of g (root s l)) [] ≡ true
  takes_none =
      ap (λ o. takes_as g o []) (sort_of_root g s l start)
      ∙ ∥∥₁_elim gr.well_formed (Bool-set _ _) (λ w. eq-eqb 0 (takes_of (slice_get g.sorts s)) (sym (start_takes (words_of gr) g w s start)))

  pub home_begun : (hs : List Held) (k : Map) → is_home g role (root s l) ≡ true → AreHome g role hs k → AreHome g role (insert_in (opened s l) hs) k
  home_begun hs k home old =
      let h = opened s l in
      let more = λ (m : Node). done_inserted m h hs in
      record {
        own = own_inserted g role h hs (and_from _ _ home takes_none) old.own;
        done = all_done_kept g role hs (insert_in h hs) k more old.done;
        rooted = rooted_inserted g role (insert_in h hs) h hs refl (all_rooted_more g role hs (insert_in h hs) hs more old.rooted);
      }

  pub valid_begun : (hs : List Held) (k : Map) → IsValid g hs k → IsValid g (insert_in (opened s l) hs) k
  valid_begun hs k valid = record { nodes = fit_inserted g (opened s l) hs refl valid.nodes; equations = valid.equations }

  pub space_begun : (hs : List Held) (cs : List Choice) (k : Map) (c : Choice) → choice_of c ≡ Q.Start s l → outcome_in (all_of g hs) k g (Q.Start s l) ≡ Q.Starts →
      space_of g (insert_in (opened s l) hs) (cs ++ c ∷ []) k ≡ space_after g role (space_of g hs cs k) (Q.Start s l)
  space_begun hs cs k c is starts = begun g hs cs k c s l start is ∙ ap (space_on g role (space_of g hs cs k) (Q.Start s l)) (sym starts)
