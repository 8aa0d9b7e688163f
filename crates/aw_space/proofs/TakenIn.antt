-- A space that took in a call, if there is one, and equations.
use Rattle.std.proofs.Common.{◌≡◌, ℕ, true, List, Option, ap, sym, ◌∙◌, subst}
use Rattle.std.specs.Prelude.{Result, Ok, Err, OnOk, OnErr, option_map}
use Rattle.aw_term.specs.Names.{Ref}
use Rattle.aw_term.specs.Rules.{Grammar}
use Rattle.aw_choice.specs.declared.choice.Choice.{Choice}
use Rattle.aw_store.specs.Equations.{Equation, Map}
use Rattle.aw_store.specs.NamedRefs.{all_named, Grows}
use Rattle.aw_node_list.specs.declared.held.Held.{Held}
use Rattle.aw_node_list.specs.HeldView.{all_of}
use Rattle.aw_node_list.specs.InOrder.{IsInOrder}
use Rattle.aw_law_sites.specs.Receiving.{add_all}
use Rattle.aw_space.specs.Keeping.{KeepsFacts, KeepsNodes}
use Rattle.aw_space.specs.Missing.{missing_node, with_node, inherited_by}
use Rattle.aw_space.specs.Placings.{MayBeCalledIf, MayBeLearnt, called_by, placed_call}
use Rattle.aw_space.specs.Sound.{IsSound}
use Rattle.aw_space.specs.Spaces.{taken_in}
use Rattle.aw_space.specs.SpaceView.{space_of}
use Rattle.aw_space.specs.Valid.{IsValid}
use Rattle.aw_space.specs.declared.placing.Placing.{Placing}
use Rattle.aw_space.proofs.Called.{sound_missing, valid_missing, view_missing}
use Rattle.aw_space.proofs.Staying.{facts_same, facts_told, nodes_same, nodes_called}
use Rattle.aw_space.proofs.Told.{told_done, told_valid}

sound_told : (g : Grammar) (role : ℕ) (hs : List Held) (k : Map) (names : List Ref) (es : List Equation) → MayBeLearnt g role es → IsSound g role hs k names → IsSound g role hs (add_all k es) names
sound_told g role hs k names es may sound = record {
  ordered = sound.ordered;
  own = sound.own;
  done = told_done g role hs k es may.others sound.done;
  rooted = sound.rooted;
  named = sound.named;
}

module _ (g : Grammar) (role : ℕ) (hs ks : List Held) (k l : Map) (p : Option Placing) (es : List Equation) (held : ks ≡ with_node (missing_node p hs) hs) (told : l ≡ add_all k es)
    (call : MayBeCalledIf g role (called_by g p)) (may : MayBeLearnt g role es) where
  pub taken_sound : (names more : List Ref) → all_named more (inherited_by (missing_node p hs)) ≡ true → IsInOrder ks → Grows names more → IsSound g role hs k names → IsSound g role ks l more
  taken_sound names more named ordered grows sound =
      subst (λ m. IsSound g role ks m more) (sym told) (subst (λ xs. IsSound g role xs (add_all k es) more) (sym held)
      (sound_told g role (with_node (missing_node p hs) hs) k more es may (sound_missing g role p hs k names more call sound (subst IsInOrder held ordered) grows named)))

  pub taken_valid : IsValid g hs k → IsValid g ks l
  taken_valid valid =
      let put = valid_missing g role p hs k call valid in
      subst (λ m. IsValid g ks m) (sym told) (subst (λ xs. IsValid g xs (add_all k es)) (sym held) (record { nodes = put.nodes; equations = told_valid g k es may.ok put.equations }))

module _ {E : Type 0} (g : Grammar) (hs ks : List Held) (k l : Map) (p : Option Placing) (es : List Equation) (o : Result (Unit {0}) E) where
  -- it is the plain one, by grammars that are the same
  pub taken_space : (asked new : Grammar) (cs ds : List Choice) → g ≡ asked → new ≡ g → ds ≡ cs → OnOk o (ks ≡ with_node (missing_node p hs) hs) → OnOk o (l ≡ add_all k es) →
      OnOk o (space_of new ks ds l ≡ taken_in (called_by asked p) es (space_of g hs cs k))
  taken_space asked new cs ds same still kept e f = go o e f
    where
      go : (o : Result (Unit {0}) E) → OnOk o (ks ≡ with_node (missing_node p hs) hs) → OnOk o (l ≡ add_all k es) → OnOk o (space_of new ks ds l ≡ taken_in (called_by asked p) es (space_of g hs cs k))
      go (Ok x) e f =
          let held = ap (all_of g) e ∙ view_missing g p hs in
          (λ i. space_of (still i) ks (kept i) l) ∙ (λ i. record { held = held i; choices = (space_of g hs cs k).choices; equations = f i })
          ∙ (λ i. taken_in (called_by (same i) p) es (space_of g hs cs k))
      go (Err x) e f = tt

  pub taken_facts : OnOk o (l ≡ add_all k es) → OnErr o (l ≡ k) → KeepsFacts k l
  taken_facts f f' = go o f f'
    where
      go : (o : Result (Unit {0}) E) → OnOk o (l ≡ add_all k es) → OnErr o (l ≡ k) → KeepsFacts k l
      go (Ok x) f f' = facts_told k l es f
      go (Err x) f f' = facts_same k l f'

  pub taken_nodes : OnOk o (ks ≡ with_node (missing_node p hs) hs) → OnErr o (ks ≡ hs) → KeepsNodes (all_of g hs) (all_of g ks)
  taken_nodes e e' = go o e e'
    where
      go : (o : Result (Unit {0}) E) → OnOk o (ks ≡ with_node (missing_node p hs) hs) → OnErr o (ks ≡ hs) → KeepsNodes (all_of g hs) (all_of g ks)
      go (Ok x) e e' = subst (KeepsNodes (all_of g hs)) (sym (ap (all_of g) e ∙ view_missing g p hs)) (nodes_called (option_map (placed_call g) p) (all_of g hs))
      go (Err x) e e' = nodes_same (all_of g hs) (all_of g ks) (ap (all_of g) e')
