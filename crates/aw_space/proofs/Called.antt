-- A space with one more called node.
use Rattle.std.proofs.Common.{◌≡◌, ℕ, Bool, true, false, List, Option, Some, None, refl, ap, sym, ◌∙◌, subst}
use Rattle.std.specs.Prelude.{not, ◌&&◌, ◌||◌, unwrap_or, option_map}
use Rattle.std.proofs.lemmas.Bool.{and_parts, and_from}
use Rattle.aw_term.specs.Names.{Node, Ref}
use Rattle.aw_term.specs.Rules.{Grammar, sort_of}
use Rattle.aw_term.specs.Held.{insert_held}
use Rattle.aw_store.specs.Equations.{Map}
use Rattle.aw_store.specs.NamedRefs.{all_named, Grows}
use Rattle.aw_store.proofs.NameLemmas.{all_named-grown}
use Rattle.aw_node_list.specs.declared.held.Held.{Held}
use Rattle.aw_node_list.specs.HeldView.{sort_or, held_of, all_of}
use Rattle.aw_node_list.specs.InOrder.{IsInOrder, place_in, insert_in}
use Rattle.aw_node_list.proofs.HeldViews.{view_inserted, held_nowhere, held_here}
use Rattle.aw_law_sites.specs.Joint.{called_held}
use Rattle.aw_law_sites.specs.Homes.{has_steps, parent}
use Rattle.aw_law_sites.specs.ValidNames.{refs_ok, takes_as}
use Rattle.aw_law_sites.specs.Reacting.{add_held}
use Rattle.aw_space.specs.Missing.{missing_on, missing_node, with_node, inherited_by, LacksIf}
use Rattle.aw_space.specs.Placings.{MayBeCalled, MayBeCalledIf, called_open, placed_call}
use Rattle.aw_space.specs.Sound.{all_inherited, IsSound}
use Rattle.aw_space.specs.Spaces.{is_home, call_of, with_call}
use Rattle.aw_space.specs.Valid.{IsValid}
use Rattle.aw_space.specs.declared.placing.Placing.{Placing}
use Rattle.aw_space.proofs.KeptSound.{named_inserted, own_inserted, done_inserted, all_done_kept, all_rooted_more, rooted_inserted}
use Rattle.aw_space.proofs.KeptValid.{fit_inserted}

-- ---- one node more

rooted_other : (a b c : Bool) → b ≡ false → (not (a && b) || c) ≡ true
rooted_other a b c e = ap (λ x. not (a && x) || c) e ∙ none a
  where
    none : (a : Bool) → (not (a && false) || c) ≡ true
    none true = refl
    none false = refl

pub sound_called : (g : Grammar) (role : ℕ) (hs : List Held) (k : Map) (names names' : List Ref) (n : Node) (rs : List Ref) → MayBeCalled g role (call_of g n rs) →
    IsSound g role hs k names → IsInOrder (insert_in (called_open n rs) hs) →
    Grows names names' → all_named names' rs ≡ true → IsSound g role (insert_in (called_open n rs) hs) k names'
sound_called g role hs k names names' n rs may sound ordered grows named =
    let h = called_open n rs in
    let ks = insert_in h hs in
    let more = λ (m : Node). done_inserted m h hs in
    record {
      ordered = ordered;
      own = own_inserted g role h hs (and_from _ _ may.here (and_parts (takes_as g (sort_of g n) rs) (refs_ok g rs) may.ok).0) sound.own;
      done = all_done_kept g role hs ks k more sound.done;
      rooted = rooted_inserted g role ks h hs (rooted_other (has_steps n.steps) (is_home g role (parent n)) _ may.parent) (all_rooted_more g role hs ks hs more sound.rooted);
      named = named_inserted names' h hs named (all_named-grown names names' (all_inherited hs) grows sound.named);
    }

pub valid_called : (g : Grammar) (role : ℕ) (hs : List Held) (k : Map) (n : Node) (rs : List Ref) → MayBeCalled g role (call_of g n rs) → IsValid g hs k → IsValid g (insert_in (called_open n rs) hs) k
valid_called g role hs k n rs may valid = record {
  nodes = fit_inserted g (called_open n rs) hs (and_from _ _ (and_parts (takes_as g (sort_of g n) rs) (refs_ok g rs) may.ok).1 refl) valid.nodes;
  equations = valid.equations;
}

pub sort_or-zero : (o : Option ℕ) → sort_or o ≡ unwrap_or o 0
sort_or-zero None = refl
sort_or-zero (Some s) = refl

called_view : (g : Grammar) (n : Node) (rs : List Ref) → held_of g (called_open n rs) ≡ called_held (call_of g n rs)
called_view g n rs = let e = sort_or-zero (sort_of g n) in λ i. record { node = n; sort = e i; inherited = rs; state = (called_held (call_of g n rs)).state }

pub view_called : (g : Grammar) (n : Node) (rs : List Ref) (hs : List Held) → all_of g (insert_in (called_open n rs) hs) ≡ insert_held (called_held (call_of g n rs)) (all_of g hs)
view_called g n rs hs = view_inserted g (called_open n rs) hs ∙ ap (λ h. insert_held h (all_of g hs)) (called_view g n rs)

pub grown_sound : (g : Grammar) (role : ℕ) (hs ks : List Held) (k : Map) (names names' : List Ref) → IsSound g role hs k names → Grows names names' → ks ≡ hs → IsSound g role ks k names'
grown_sound g role hs ks k names names' sound grows e = subst (λ xs. IsSound g role xs k names') (sym e) (record {
  ordered = sound.ordered;
  own = sound.own;
  done = sound.done;
  rooted = sound.rooted;
  named = all_named-grown names names' (all_inherited hs) grows sound.named;
})

-- ---- the node of a call that is not held yet

pub lacks_missing : (o : Option ℕ) (p : Placing) (hs : List Held) → place_in p.node hs ≡ o → LacksIf (missing_on o p) hs
lacks_missing None p hs e = e
lacks_missing (Some i) p hs e = tt

pub missing_lacks : (p : Option Placing) (hs : List Held) → LacksIf (missing_node p hs) hs
missing_lacks None hs = tt
missing_lacks (Some p) hs = lacks_missing (place_in p.node hs) p hs refl

view_cases : (g : Grammar) (p : Placing) (hs : List Held) (o : Option ℕ) → place_in p.node hs ≡ o → all_of g (with_node (missing_on o p) hs) ≡ with_call (Some (placed_call g p)) (all_of g hs)
view_cases g p hs None e = view_called g p.node p.inherited hs ∙ sym (ap (λ x. add_held x (placed_call g p) (all_of g hs)) (held_nowhere g p.node hs e))
view_cases g p hs (Some i) e = sym (ap (λ x. add_held x (placed_call g p) (all_of g hs)) (held_here g p.node hs i e).3)

-- it is added as the plain one is
pub view_missing : (g : Grammar) (p : Option Placing) (hs : List Held) → all_of g (with_node (missing_node p hs) hs) ≡ with_call (option_map (placed_call g) p) (all_of g hs)
view_missing g None hs = refl
view_missing g (Some p) hs = view_cases g p hs (place_in p.node hs) refl

sound_cases : (g : Grammar) (role : ℕ) (p : Placing) (hs : List Held) (k : Map) (names names' : List Ref) (o : Option ℕ) → MayBeCalled g role (placed_call g p) →
    IsSound g role hs k names → IsInOrder (with_node (missing_on o p) hs) →
    Grows names names' → all_named names' (inherited_by (missing_on o p)) ≡ true → IsSound g role (with_node (missing_on o p) hs) k names'
sound_cases g role p hs k names names' None may sound ordered grows named = sound_called g role hs k names names' p.node p.inherited may sound ordered grows named
sound_cases g role p hs k names names' (Some i) may sound ordered grows named = grown_sound g role hs hs k names names' sound grows refl

pub sound_missing : (g : Grammar) (role : ℕ) (p : Option Placing) (hs : List Held) (k : Map) (names names' : List Ref) → MayBeCalledIf g role (option_map (placed_call g) p) →
    IsSound g role hs k names →
    IsInOrder (with_node (missing_node p hs) hs) → Grows names names' → all_named names' (inherited_by (missing_node p hs)) ≡ true → IsSound g role (with_node (missing_node p hs) hs) k names'
sound_missing g role None hs k names names' may sound ordered grows named = grown_sound g role hs hs k names names' sound grows refl
sound_missing g role (Some p) hs k names names' may sound ordered grows named = sound_cases g role p hs k names names' (place_in p.node hs) may sound ordered grows named

valid_cases : (g : Grammar) (role : ℕ) (p : Placing) (hs : List Held) (k : Map) (o : Option ℕ) → MayBeCalled g role (placed_call g p) → IsValid g hs k → IsValid g (with_node (missing_on o p) hs) k
valid_cases g role p hs k None may valid = valid_called g role hs k p.node p.inherited may valid
valid_cases g role p hs k (Some i) may valid = valid

pub valid_missing : (g : Grammar) (role : ℕ) (p : Option Placing) (hs : List Held) (k : Map) → MayBeCalledIf g role (option_map (placed_call g) p) → IsValid g hs k →
    IsValid g (with_node (missing_node p hs) hs) k
valid_missing g role None hs k may valid = valid
valid_missing g role (Some p) hs k may valid = valid_cases g role p hs k (place_in p.node hs) may valid
