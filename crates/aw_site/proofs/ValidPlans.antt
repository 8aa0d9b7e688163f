-- What a plan is made of is valid: what a sender holds, what a choice makes, and what a call brings.
use Rattle.std.proofs.Common.{◌≡◌, ℕ, true, List, [], ◌∷◌, ◌++◌, map, Option, Some, None, refl, ap, sym, ◌∙◌, subst}
use Rattle.std.proofs.lemmas.Bool.{and_parts}
use Rattle.aw_term.specs.Rules as P
use Rattle.aw_term.specs.Choices.{Choice}
use Rattle.aw_term.specs.WellFormed.{Each}
use Rattle.aw_grammar.specs.declared.grammar.Grammar.{Grammar}
use Rattle.aw_grammar.specs.GrammarOf.{grammar_of}
use Rattle.aw_base.specs.ChoiceFits.{choice_ok}
use Rattle.aw_store.specs.EquationView.{equation_of}
use Rattle.aw_store.specs.declared.equation.Equation.{Equation}
use Rattle.aw_store.specs.declared.facts.Facts.{Ghosts}
use Rattle.aw_apply.specs.Made.{Call}
use Rattle.aw_apply.specs.declared.making.Made.{Made}
use Rattle.aw_apply.specs.declared.making.MadeChild.{MadeChild}
use Rattle.aw_node_list.specs.HeldView.{all_of}
use Rattle.aw_law_sites.specs.Joint.{outcome_in}
use Rattle.aw_law_sites.specs.ValidNames.{refs_ok, equations_ok, call_ok}
use Rattle.aw_law_sites.specs.Worlds.{node_of}
use Rattle.aw_space.specs.declared.space.Space.{Space}
use Rattle.aw_space.specs.Outcomes.{IsMade}
use Rattle.aw_space.specs.Placings.{MayBeCalledIf}
use Rattle.aw_space.specs.Seen.{space_seen}
use Rattle.aw_space.specs.Spaces.{is_home, outcome}
use Rattle.aw_site.specs.Came.{inherited_by}
use Rattle.aw_site.specs.Views.{child_call}
use Rattle.aw_site.proofs.ChosenSites.{children_calls, making_sorts}
use Rattle.aw_site.proofs.MadeValid.{makes_valid}
use Rattle.aw_site.proofs.SentNames.{equations_append}

-- valid equations and valid children
abbrev pub AreValid : P.Grammar → Made → Type 0
AreValid g m = (equations_ok g (map equation_of m.equations) ≡ true) × Each (λ (c : MadeChild). call_ok g (child_call g c) ≡ true) m.children

each_map : (g : P.Grammar) (cs : List MadeChild) → Each (λ (c : Call). call_ok g c ≡ true) (map (child_call g) cs) → Each (λ (c : MadeChild). call_ok g (child_call g c) ≡ true) cs
each_map g [] all = tt
each_map g (c ∷ cs) all = (all.0, each_map g cs all.1)

-- what a valid call inherits, if there is one
pub inherited_valid : (g : P.Grammar) (role : ℕ) (o : Option Call) → MayBeCalledIf g role o → refs_ok g (inherited_by o) ≡ true
inherited_valid g role None may = refl
inherited_valid g role (Some c) may = (and_parts _ (refs_ok g c.inherited) may.ok).1

module _ {F : Type 0} (f : Ghosts F) (space : Space F f) where
  -- all equations that a sender holds are valid, where those behind the store are
  pub holds_valid : (g other : Grammar) (facts : F) (es more : List Equation) → g ≡ space.accepted.now.grammar → other ≡ g → facts ≡ space.facts → more ≡ es
      → equations_ok (grammar_of g) (map equation_of es) ≡ true → equations_ok (grammar_of other) (f.map facts ++ map equation_of more) ≡ true
  holds_valid g other facts es more same also lent slice ok =
      (λ i. equations_ok (grammar_of ((also ∙ same) i)) (f.map (lent i) ++ map equation_of (slice i)))
      ∙ equations_append (grammar_of space.accepted.now.grammar) (f.map space.facts) (map equation_of es) space.valid.equations
      (subst (λ (x : Grammar). equations_ok (grammar_of x) (map equation_of es) ≡ true) same ok)

  -- what a choice makes that may be asked here
  made_here : (c : Choice) (m : Made) → let g = grammar_of space.accepted.now.grammar in
      choice_ok g c ≡ true → is_home g space.role (node_of c) ≡ true → IsMade m c (outcome g (space_seen f space) c) → AreValid g m
  made_here c m ok here made =
      let gr = space.accepted.now.grammar in
      let g = grammar_of gr in
      let hs = space.held.items in
      let k = f.map space.facts in
      let valid = makes_valid gr space.role hs k (f.names space.facts) space.sound space.valid c ok here in
      let calls = ap (map (child_call g)) made.children ∙ children_calls g _ (making_sorts g hs k c (outcome_in (all_of g hs) k g c) ok refl) in (
        ap (equations_ok g) made.equations ∙ valid.0,
        each_map g m.children (subst (Each (λ (d : Call). call_ok g d ≡ true)) (sym calls) valid.1),
      )

  pub made_valid : (g : Grammar) (c : Choice) (m : Made) → g ≡ space.accepted.now.grammar → choice_ok (grammar_of g) c ≡ true → is_home (grammar_of g) space.role (node_of c) ≡ true
      → IsMade m c (outcome (grammar_of g) (space_seen f space) c) → AreValid (grammar_of g) m
  made_valid g c m same ok here made =
      subst (λ (x : Grammar). AreValid (grammar_of x) m) (sym same)
      (made_here c m
      (subst (λ (x : Grammar). choice_ok (grammar_of x) c ≡ true) same ok)
      (subst (λ (x : Grammar). is_home (grammar_of x) space.role (node_of c) ≡ true) same here)
      (subst (λ (x : Grammar). IsMade m c (outcome (grammar_of x) (space_seen f space) c)) same made))
