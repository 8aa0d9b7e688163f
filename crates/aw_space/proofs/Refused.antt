-- A choice that is not taken changes nothing.
use Rattle.std.proofs.Common.{◌≡◌, ℕ, Bool, true, false, refl, ◌∙◌}
use Rattle.std.specs.Prelude.{IsTrue, ◌↔◌}
use Rattle.aw_term.specs.Names.{Ref}
use Rattle.aw_term.specs.Rules.{Grammar}
use Rattle.aw_term.specs.Choices as Q
use Rattle.aw_choice.specs.ChoiceView.{answer_of}
use Rattle.aw_choice.specs.declared.choice.Answer.{Answer}
use Rattle.aw_choice.specs.declared.choice.Answer.TheVariants.{Known, NotHere, Developed, NotItsRule, Arguments, Waits, Differs, Circle, TooDeep, Taken}
use Rattle.aw_space.specs.Spaces.{Space, outcome, space_on, space_after}

taken_is : (a : Answer) → answer_of a ≡ Q.Taken → a ≡ Taken
taken_is Known e = absurd cc
taken_is NotHere e = absurd cc
taken_is Developed e = absurd cc
taken_is NotItsRule e = absurd cc
taken_is Arguments e = absurd cc
taken_is (Waits r) e = absurd cc
taken_is (Differs p) e = absurd cc
taken_is (Circle r) e = absurd cc
taken_is TooDeep e = absurd cc
taken_is Taken e = refl

pub told_refused : (b : Bool) (a : Answer) (x : Q.Answer Ref) → (IsTrue b ↔ (a ≡ Taken)) → answer_of a ≡ x → b ≡ false → x ≡ Q.Taken → ⊥
told_refused true a x w e t f = absurd cc
told_refused false a x w e t f = let wrong : false ≡ true = w.1 (taken_is a (e ∙ f)) in absurd cc

refused_cases : (g : Grammar) (role : ℕ) (s : Space) (c : Q.Choice) (x : Q.Outcome Ref Ref) → (Q.answer_of x ≡ Q.Taken → ⊥) → space_on g role s c x ≡ s
refused_cases g role s c (Q.Refused a) f = refl
refused_cases g role s c Q.Starts f = absurd (f refl)
refused_cases g role s c (Q.Takes rule bound) f = absurd (f refl)

pub refused_stays : (g : Grammar) (role : ℕ) (s : Space) (c : Q.Choice) → (Q.answer_of (outcome g s c) ≡ Q.Taken → ⊥) → space_after g role s c ≡ s
refused_stays g role s c f = refused_cases g role s c (outcome g s c) f
