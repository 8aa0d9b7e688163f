-- What is foreseen, by the outcome.
use Rattle.std.proofs.Common.{◌≡◌, ℕ, true, List, [], map, Option, Some, None, slice_get, refl, ap, sym, ◌∙◌, subst}
use Rattle.std.specs.declared.vec.Vec.{Vec}
use Rattle.std.specs.declared.alloc.Global.{Global}
use Rattle.std.specs.Prelude.{is_some}
use Rattle.std.proofs.lemmas.Bool.{and_parts}
use Rattle.aw_term.specs.Names.{Node, Ref, root}
use Rattle.aw_term.specs.Rules.{Ground, Rule, Grammar, sort_of}
use Rattle.aw_term.specs.Choices as Q
use Rattle.aw_term.specs.Choices.{Develop, Start}
use Rattle.aw_choice.specs.ChoiceView.{answer_of}
use Rattle.aw_choice.specs.declared.choice.Answer.{Answer}
use Rattle.aw_choice.specs.declared.choice.Answer.TheVariants as answer
use Rattle.aw_base.specs.ChoiceFits.{choice_ok, args_ok}
use Rattle.aw_store.specs.EquationView.{equation_of}
use Rattle.aw_apply.specs.Made as M
use Rattle.aw_apply.specs.MadeView.{as_child}
use Rattle.aw_apply.specs.declared.making.Made.{Made}
use Rattle.aw_space.specs.declared.outcome.Outcome.{Outcome}
use Rattle.aw_node_list.specs.declared.held.Held.{Held}
use Rattle.aw_node_list.specs.HeldView.{all_of}
use Rattle.aw_node_list.specs.InOrder.{place_in}
use Rattle.aw_node_list.proofs.HeldViews.{held_here, held_nowhere}
use Rattle.aw_term.specs.Held as J
use Rattle.aw_law_sites.specs.Joint.{by_root}
use Rattle.aw_space.specs.Outcomes.{IsOutcome}
use Rattle.aw_space.specs.Weighing.{Weighs}
use Rattle.aw_space.specs.Spaces.{making}
use Rattle.aw_apply.specs.Telling.{weighed_of}
use Rattle.aw_apply.specs.declared.telling.Weighed.{Weighed}
use Rattle.aw_apply.specs.declared.telling.Weighed.TheVariants as weighed

some_is : {A : Type 0} (o : Option A) → is_some o ≡ true → (x : A) × (o ≡ Some x)
some_is None e = absurd cc
some_is (Some x) e = (x, refl)

-- the rule of a choice that may be asked
pub asked_rule : (g : Grammar) (n : Node) (r : ℕ) (args : List Ground) → choice_ok g (Develop n r args) ≡ true → (rule : Rule) × (slice_get g.rules r ≡ Some rule)
asked_rule g n r args ok = some_is (slice_get g.rules r) (and_parts (is_some (slice_get g.rules r)) (args_ok g args) (and_parts (is_some (sort_of g n)) _ ok).1).0

refused_on : (o : Outcome) (n : Node) (r : ℕ) (args : List Ground) (a : Answer) (x : Q.Outcome Ref Ref) → Q.Refused (answer_of a) ≡ x → o.answer ≡ a → o.made.equations ≡ [] →
    o.made.children ≡ [] → IsOutcome o (Develop n r args) x
refused_on o n r args a x e f es cs = record {
  answer = ap answer_of f ∙ ap Q.answer_of e;
  made = record {
    equations = ap (map equation_of) es ∙ ap (λ y. (making (Develop n r args) y).equations) e;
    children = cs ∙ ap (λ y. map as_child (making (Develop n r args) y).calls) e;
  };
}

-- a refusal makes nothing
pub refused_foretold : (g : Grammar) (o : Outcome) (n : Node) (r : ℕ) (args : List Ground) (w : Weighed) (a : Answer) (x : Q.Outcome Ref Ref) →
    choice_ok g (Develop n r args) ≡ true → Weighs g r w x → w ≡ weighed.Refused a → o.answer ≡ a → o.made.equations ≡ [] → o.made.children ≡ [] → IsOutcome o (Develop n r args) x
refused_foretold g o n r args w a x ok weighs is f es cs =
    let rule = asked_rule g n r args ok in
    refused_on o n r args a x (ap (weighed_of rule.0) (sym is) ∙ weighs rule.0 rule.1) f es cs

takes_on : (m : Made) (place : ℕ) (n : Node) (r : ℕ) (args : List Ground) (rule : Rule) (bound : List Ref) (x : Q.Outcome Ref Ref) → Q.Takes rule bound ≡ x →
    map equation_of m.equations ≡ (M.made n r rule args bound).equations → m.children ≡ map as_child (M.made n r rule args bound).calls →
    IsOutcome (record { answer = answer.Taken; made = m; place = place }) (Develop n r args) x
takes_on m place n r args rule bound x e es cs = record {
  answer = ap Q.answer_of e;
  made = record {
    equations = es ∙ ap (λ y. (making (Develop n r args) y).equations) e;
    children = cs ∙ ap (λ y. map as_child (making (Develop n r args) y).calls) e;
  };
}

-- a rule that is taken makes what it makes
pub taken_foretold : (g : Grammar) (m : Made) (place : ℕ) (n : Node) (r : ℕ) (args : List Ground) (w : Weighed) (bound : Vec Ref Global) (x : Q.Outcome Ref Ref) →
    choice_ok g (Develop n r args) ≡ true → Weighs g r w x → w ≡ weighed.Takes bound →
    ((rule : Rule) → slice_get g.rules r ≡ Some rule → map equation_of m.equations ≡ (M.made n r rule args bound.items).equations) →
    ((rule : Rule) → slice_get g.rules r ≡ Some rule → m.children ≡ map as_child (M.made n r rule args bound.items).calls) →
    IsOutcome (record { answer = answer.Taken; made = m; place = place }) (Develop n r args) x
taken_foretold g m place n r args w bound x ok weighs is es cs =
    let rule = asked_rule g n r args ok in
    takes_on m place n r args rule.0 bound.items x (ap (weighed_of rule.0) (sym is) ∙ weighs rule.0 rule.1) (es rule.0 rule.1) (cs rule.0 rule.1)

known_on : (o : Outcome) (s k : ℕ) (a : Answer) (x : Q.Outcome Ref Ref) → answer_of a ≡ Q.answer_of x → making (Start s k) x ≡ making (Start s k) Q.Starts → o.answer ≡ a →
    o.made.equations ≡ [] → o.made.children ≡ [] → IsOutcome o (Start s k) x
known_on o s k a x e m f es cs = record {
  answer = ap answer_of f ∙ e;
  made = record {
    equations = ap (map equation_of) es ∙ ap (λ (y : M.Making). y.equations) (sym m);
    children = cs ∙ ap (λ (y : M.Making). map as_child y.calls) (sym m);
  };
}

-- a start of a case that is held
pub known_foretold : (g : Grammar) (o : Outcome) (s k : ℕ) (hs : List Held) (i : ℕ) → place_in (root s k) hs ≡ Some i → o.answer ≡ answer.Known → o.made.equations ≡ [] →
    o.made.children ≡ [] → IsOutcome o (Start s k) (by_root (J.held_of (root s k) (all_of g hs)))
known_foretold g o s k hs i e f es cs =
    let w = held_here g (root s k) hs i e in
    subst (λ x. IsOutcome o (Start s k) (by_root x)) (sym w.3) (known_on o s k answer.Known (Q.Refused Q.Known) refl refl f es cs)

-- a start of a new case
pub starts_foretold : (g : Grammar) (o : Outcome) (s k : ℕ) (hs : List Held) → place_in (root s k) hs ≡ None → o.answer ≡ answer.Taken → o.made.equations ≡ [] →
    o.made.children ≡ [] → IsOutcome o (Start s k) (by_root (J.held_of (root s k) (all_of g hs)))
starts_foretold g o s k hs e f es cs =
    subst (λ x. IsOutcome o (Start s k) (by_root x)) (sym (held_nowhere g (root s k) hs e)) (known_on o s k answer.Taken Q.Starts refl refl f es cs)
