-- A space into which a node came, and one in which a rule was taken.
use Rattle.std.proofs.Common.{◌≡◌, ℕ, true, List, ◌++◌, ap, sym, ◌∙◌, subst}
use Rattle.aw_term.specs.Names.{Ref}
use Rattle.aw_term.specs.Rules.{Grammar}
use Rattle.aw_choice.specs.declared.choice.Choice.{Choice}
use Rattle.aw_store.specs.Equations.{Equation, Map}
use Rattle.aw_store.specs.NamedRefs.{all_named, Grows}
use Rattle.aw_store.proofs.NameLemmas.{all_named-grown}
use Rattle.aw_node_list.specs.declared.held.Held.{Held}
use Rattle.aw_node_list.specs.InOrder.{IsInOrder, insert_in, insert_all_in, done_at}
use Rattle.aw_space.specs.Sound.{all_inherited, AreHome, IsSound}
use Rattle.aw_space.specs.Taken.{MayBeHeld, MayBeTaken}
use Rattle.aw_space.specs.Valid.{IsValid}
use Rattle.aw_space.proofs.KeptSound.{named_inserted, named_all_inserted, inherited_done}

-- what a space holds is its role's
pub sound_home : (g : Grammar) (role : ℕ) (hs : List Held) (k : Map) (names : List Ref) → IsSound g role hs k names → AreHome g role hs k
sound_home g role hs k names sound = record { own = sound.own; done = sound.done; rooted = sound.rooted }

home_sound : (g : Grammar) (role : ℕ) (hs : List Held) (k : Map) (names : List Ref) → AreHome g role hs k → IsInOrder hs → all_named names (all_inherited hs) ≡ true → IsSound g role hs k names
home_sound g role hs k names home ordered named = record { ordered = ordered; own = home.own; done = home.done; rooted = home.rooted; named = named }

module _ (g : Grammar) (role : ℕ) (hs ks : List Held) (k l : Map) (names more : List Ref) (ordered : IsInOrder ks) (grows : Grows names more) (sound : IsSound g role hs k names) where
  old_named : all_named more (all_inherited hs) ≡ true
  old_named = all_named-grown names more (all_inherited hs) grows sound.named

  -- a node is held
  module _ (h : Held) (may : MayBeHeld g role hs k h) (held : ks ≡ insert_in h hs) (same : l ≡ k) where
    pub held_sound : all_named more h.inherited ≡ true → IsSound g role ks l more
    held_sound named =
        subst (λ m. IsSound g role ks m more) (sym same) (subst (λ xs. IsSound g role xs k more) (sym held)
        (home_sound g role (insert_in h hs) k more may.belong.home (subst IsInOrder held ordered) (named_inserted more h hs named old_named)))

    pub held_valid : IsValid g ks l
    held_valid = subst (λ m. IsValid g ks m) (sym same) (subst (λ xs. IsValid g xs k) (sym held) may.belong.valid)

  -- a rule is taken
  module _ (i : ℕ) (c : Choice) (es : List Equation) (own : List Held) (may : MayBeTaken g role hs k i c es own) (held : ks ≡ insert_all_in own (done_at c i hs)) (told : l ≡ k ++ es) where
    pub rule_sound : all_named more (all_inherited own) ≡ true → IsSound g role ks l more
    rule_sound named =
        subst (λ m. IsSound g role ks m more) (sym told) (subst (λ xs. IsSound g role xs (k ++ es) more) (sym held)
        (home_sound g role (insert_all_in own (done_at c i hs)) (k ++ es) more may.belong.home (subst IsInOrder held ordered)
        (named_all_inserted more own (done_at c i hs) named (ap (all_named more) (inherited_done c i hs) ∙ old_named))))

    pub rule_valid : IsValid g ks l
    rule_valid = subst (λ m. IsValid g ks m) (sym told) (subst (λ xs. IsValid g xs (k ++ es)) (sym held) may.belong.valid)
