-- What a choice makes at a space of the program is valid: its equations, and the calls of its children.
use Rattle.std.proofs.Common.{◌≡◌, ℕ, true, List, length, Some, slice_get, is_some, ap, refl, sym, ◌∙◌, subst}
use Rattle.std.proofs.Math.Logic.{∥∥₁_elim}
use Rattle.std.proofs.Math.Bool.{Bool-set}
use Rattle.std.proofs.lemmas.Bool.{and_parts, and_from}
use Rattle.aw_list.specs.Members.{Member}
use Rattle.aw_term.specs.Names.{Node, Ref}
use Rattle.aw_term.specs.Rules as P
use Rattle.aw_term.specs.Rules.{Ground, sort_of}
use Rattle.aw_term.specs.Trees.{Head}
use Rattle.aw_term.specs.Choices.{Choice, Start, Develop, Outcome, Refused, Starts, Takes, answer_of}
use Rattle.aw_term.specs.WellFormed.{Each}
use Rattle.aw_grammar.specs.declared.grammar.Grammar.{Grammar}
use Rattle.aw_grammar.specs.GrammarOf.{grammar_of, words_of}
use Rattle.aw_base.specs.ChoiceFits.{choice_ok, args_ok, ref_ok}
use Rattle.aw_iograph.specs.Occurrences.{pattern_entries}
use Rattle.aw_store.specs.Equations.{Is, Map, find}
use Rattle.aw_apply.specs.Made.{Call, Making, made}
use Rattle.aw_node_list.specs.declared.held.Held.{Held}
use Rattle.aw_node_list.specs.HeldView.{sort_or, all_of}
use Rattle.aw_law_sites.specs.Joint.{outcome_in}
use Rattle.aw_law_worlds.proofs.GuardBinds.{all_bound, all_many}
use Rattle.aw_law_worlds.proofs.Sorts.{some_sort}
use Rattle.aw_law_sites.specs.ValidNames.{refs_ok, equations_ok, call_ok}
use Rattle.aw_law_sites.specs.Worlds.{node_of}
use Rattle.aw_law_sites.proofs.Lists.{each_of}
use Rattle.aw_space.specs.Sound.{IsSound}
use Rattle.aw_space.specs.Spaces.{is_home, making}
use Rattle.aw_space.specs.Valid.{IsValid}
use Rattle.aw_space.proofs.Carried.{new_valid}
use Rattle.aw_space.proofs.KeptValid.{refs_here}
use Rattle.aw_space.proofs.MadeNames.{each_ref, kid_valid}
use Rattle.aw_space.proofs.TakenOn.{Took, took}
use Rattle.aw_site.proofs.SentNames.{found_ok}

-- valid equations and valid calls
abbrev pub MakesValid : P.Grammar → Choice → Outcome Ref Ref → Type 0
MakesValid g c x = (equations_ok g (making c x).equations ≡ true) × Each (λ (d : Call). call_ok g d ≡ true) (making c x).calls

module _ (gr : Grammar) (role : ℕ) (hs : List Held) (k : Map) (names : List Ref) (sound : IsSound (grammar_of gr) role hs k names) (valid : IsValid (grammar_of gr) hs k) where
  abbrev g : P.Grammar
  g = grammar_of gr

  -- a rule that is taken
  module _ (n : Node) (r : ℕ) (args : List Ground) (ok : choice_ok g (Develop n r args) ≡ true) (here : is_home g role n ≡ true) (t : Took g hs k n r args) where
    abbrev mk : Making
    mk = made n r t.rule.rule args t.rule.bound

    fit : args_ok g args ≡ true
    fit = (and_parts (is_some (slice_get g.rules r)) (args_ok g args) (and_parts (is_some (sort_of g n)) _ ok).1).1

    sorted : sort_of g n ≡ Some t.rule.rule.sort
    sorted =
        let (s, e) = some_sort g n (and_parts (is_some (sort_of g n)) _ ok).0 in
        e ∙ ap Some (sym (t.rule.of_sort ∙ ap (λ m. sort_or (sort_of g m)) t.node ∙ ap sort_or e))

    many : length t.rule.bound ≡ length (pattern_entries 1 t.rule.rule.patterns)
    many = all_many k 1 1 t.rule.rule.patterns t.held.inherited t.rule.bound t.rule.met

    part_ok : (s : Ref) (h : Head) (rs : List Ref) (u : Ref) → find k s ≡ Some (Is h rs) → Member u rs → ref_ok g u ≡ true
    part_ok s h rs u e m = each_ref g rs (and_parts _ (refs_ok g rs) (and_parts (ref_ok g s) _ (found_ok g k s (Is h rs) valid.equations e)).1).1 u m

    bound_ok : (u : Ref) → Member u t.rule.bound → ref_ok g u ≡ true
    bound_ok = all_bound k (λ u. ref_ok g u ≡ true) part_ok 1 t.rule.rule.patterns t.held.inherited t.rule.bound
        (each_ref g t.held.inherited (refs_here g hs t.at t.held valid.nodes t.there)) t.rule.met

    kid_ok : (c : Call) → Member c mk.calls → call_ok g c ≡ true
    kid_ok c m = ∥∥₁_elim gr.well_formed (Bool-set _ _) (λ w.
        let kid = kid_valid (words_of gr) g w n r t.rule.rule t.rule.is_rule sorted args t.rule.given fit t.rule.bound many bound_ok c m in
        and_from _ _ kid.1 kid.2)

    taken_valid : MakesValid g (Develop n r args) (Takes t.rule.rule t.rule.bound)
    taken_valid = (new_valid gr role hs k names sound valid n r args ok here t, each_of (λ (c : Call). call_ok g c ≡ true) mk.calls kid_ok)

  on_outcome : (c : Choice) (x : Outcome Ref Ref) → choice_ok g c ≡ true → is_home g role (node_of c) ≡ true → outcome_in (all_of g hs) k g c ≡ x → MakesValid g c x
  on_outcome (Start s l) (Refused a) ok here e = (refl, tt)
  on_outcome (Start s l) Starts ok here e = (refl, tt)
  on_outcome (Start s l) (Takes rule bound) ok here e = (refl, tt)
  on_outcome (Develop n r args) (Refused a) ok here e = (refl, tt)
  on_outcome (Develop n r args) Starts ok here e = (refl, tt)
  on_outcome (Develop n r args) (Takes rule bound) ok here e =
      let t = took g hs k n r args (ap answer_of e) in
      subst (MakesValid g (Develop n r args)) (sym t.rule.takes ∙ e) (taken_valid n r args ok here t)

  -- what a choice that may be asked makes here
  pub makes_valid : (c : Choice) → choice_ok g c ≡ true → is_home g role (node_of c) ≡ true → MakesValid g c (outcome_in (all_of g hs) k g c)
  makes_valid c ok here = on_outcome c (outcome_in (all_of g hs) k g c) ok here refl
