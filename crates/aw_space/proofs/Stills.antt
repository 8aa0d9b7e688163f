-- What stays of a space where its store names more references, and where room is made.
use Rattle.std.proofs.Common.{◌≡◌, ℕ, ◌<◌, ◌≤◌, List, length, Option, Some, None, refl, sym, ◌∙◌, subst, All}
use Rattle.std.proofs.lemmas.List.Elements.{All-weaker}
use Rattle.aw_term.specs.Names.{Ref}
use Rattle.aw_term.specs.Rules.{Grammar}
use Rattle.aw_grammar.specs.GrammarOf.{grammar_of}
use Rattle.aw_store.specs.Equations.{Map}
use Rattle.aw_store.specs.NamedRefs.{Grows}
use Rattle.aw_store.specs.declared.facts.Facts.{Ghosts}
use Rattle.aw_store.proofs.NameLemmas.{grows_more}
use Rattle.aw_node_list.specs.Row.{Row}
use Rattle.aw_node_list.specs.declared.held.Held.{Held}
use Rattle.aw_standing.specs.KeptStates.{HasRoom, IsKept}
use Rattle.aw_standing.specs.declared.kept.Kept.{Kept}
use Rattle.aw_space.specs.InSpace.{IsStill, IsNamedIn, IsReadyIn, AreReadyIn}
use Rattle.aw_space.specs.Openings.{IsReady, all_tests, tests_of}
use Rattle.aw_space.specs.Seen.{grammar_in}
use Rattle.aw_space.specs.Sound.{IsSound}
use Rattle.aw_space.specs.Valid.{IsValid}
use Rattle.aw_space.specs.declared.opening.Opening.{Opening}
use Rattle.aw_space.specs.declared.space.Space.{Space}
use Rattle.aw_space.proofs.Called.{grown_sound}
use Rattle.aw_space.proofs.Openings.{ready_grows}
use Rattle.aw_space.proofs.Waking.{grown_same, kept_placed}

-- all that holds of a space
pub record InStep (g : Grammar) (role : ℕ) (row : Row) (k : Map) (names : List Ref) (kept : Kept) : Type 0 where
  pub sound : IsSound g role row.items k names
  pub valid : IsValid g row.items k
  pub stands : IsKept g row k names kept

module _ (g : Grammar) (role : ℕ) (row : Row) (k : Map) (names : List Ref) (kept : Kept) (sound : IsSound g role row.items k names) (valid : IsValid g row.items k)
    (stands : IsKept g row k names kept) where
  -- where references are named
  pub step_named : (l : Map) (more : List Ref) → l ≡ k → Grows names more → InStep g role row l more kept
  step_named l more is grows = record {
    sound = subst (λ m. IsSound g role row.items m more) (sym is) (grown_sound g role row.items row.items k names more sound grows refl);
    valid = subst (λ m. IsValid g row.items m) (sym is) valid;
    stands = grown_same g row k l names more kept is grows stands;
  }

  -- where room for nodes is made
  pub step_placed : (new : Row) → new.items ≡ row.items → new.numbers ≡ row.numbers → InStep g role new k names kept
  step_placed new is same = record {
    sound = subst (λ xs. IsSound g role xs k names) (sym is) sound;
    valid = subst (λ xs. IsValid g xs k) (sym is) valid;
    stands = kept_placed g row new k names kept is same stands;
  }

module _ {F : Type 0} (f : Ghosts F) where
  -- one after the other
  pub still_then : (a b c : Space F f) → IsStill f a b → IsStill f b c → IsStill f a c
  still_then a b c s t = record {
    grammar = t.grammar ∙ s.grammar;
    role = t.role ∙ s.role;
    nodes = t.nodes ∙ s.nodes;
    choices = t.choices ∙ s.choices;
    equations = t.equations ∙ s.equations;
    names = grows_more _ _ _ s.names t.names;
  }

  module _ (a b : Space F f) (s : IsStill f a b) where
    -- what holds of grammar, role, nodes and equations
    pub still_along : (P : Grammar → ℕ → List Held → Map → Type 0) → P (grammar_in f a) a.role a.held.items (f.map a.facts) → P (grammar_in f b) b.role b.held.items (f.map b.facts)
    still_along P p =
        subst (λ x. P (grammar_of x) b.role b.held.items (f.map b.facts)) (sym s.grammar)
        (subst (λ r. P (grammar_in f a) r b.held.items (f.map b.facts)) (sym s.role)
        (subst (λ hs. P (grammar_in f a) a.role hs (f.map b.facts)) (sym s.nodes)
        (subst (λ k. P (grammar_in f a) a.role a.held.items k) (sym s.equations) p)))

    -- what is to be kept of nodes
    pub named_still : (o : Opening) → IsNamedIn f a o → IsNamedIn f b o
    named_still o r = subst (λ x. IsReady (grammar_of x) (f.names b.facts) o) (sym s.grammar) (ready_grows (grammar_in f a) (f.names a.facts) (f.names b.facts) s.names o r)

    pub all_named_still : (os : List Opening) → All (IsNamedIn f a) os → All (IsNamedIn f b) os
    all_named_still os r = All-weaker (IsNamedIn f a) (IsNamedIn f b) named_still os r

    module _ (held : b.held ≡ a.held) (kept : b.kept ≡ a.kept) where
      pub all_ready_still : (os : List Opening) → AreReadyIn f a os → AreReadyIn f b os
      all_ready_still os r = record {
        ready = all_named_still os r.ready;
        place = subst (λ (x : Row). length os ≤ x.room) (sym held) r.place;
        room = subst (λ x. HasRoom x (length os) (all_tests os)) (sym kept) r.room;
      }

      pub ready_if_still : (o : Option Opening) → IsReadyIn f a o → IsReadyIn f b o
      ready_if_still None r = tt
      ready_if_still (Some o) r = (named_still o r.0, subst (λ (x : Row). 0 < x.room) (sym held) r.1, subst (λ x. HasRoom x 1 (tests_of o)) (sym kept) r.2)
