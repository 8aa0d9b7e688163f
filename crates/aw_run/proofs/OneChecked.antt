-- One thing is told of a specification that is accepted.
use Rattle.std.proofs.Common.{◌≡◌, ℕ, Bool, true, false, List, [], ◌∷◌, ◌++◌, sym, ◌∙◌}
use Rattle.aw_term.specs.Rules.{Grammar}
use Rattle.aw_term.specs.Artifacts.{Words}
use Rattle.aw_base.specs.declared.declared.Triple.{Triple}
use Rattle.aw_check_text.proofs.OneTold.{one-text}
use Rattle.aw_check_text.proofs.OneApart.{one-roles, one-waiting}
use Rattle.aw_run.specs.Checked.{TellsApart, TellsFree, TellsChecked}

one-apart : (ds : List Triple) (offers : List ℕ) (w : Words) (g : Grammar) (a b : List ℕ) → TellsApart ds offers w g a → TellsApart ds offers w g b → a ≡ b
one-apart [] offers w g a b x y = x ∙ sym y
one-apart (d ∷ ds) offers w g a b x y = one-roles offers (d ∷ ds) w g a b x y

one-free : (free : Bool) (w : Words) (g : Grammar) (a b : List ℕ) → TellsFree free w g a → TellsFree free w g b → a ≡ b
one-free false w g a b x y = x ∙ sym y
one-free true w g a b x y = one-waiting w g a b x y

joined : (a a' b b' c c' : List ℕ) → a ≡ a' → b ≡ b' → c ≡ c' → a ++ (b ++ c) ≡ a' ++ (b' ++ c')
joined a a' b b' c c' first second third = λ i. first i ++ (second i ++ third i)

pub one-checked : (ds : List Triple) (offers : List ℕ) (free : Bool) (w : Words) (g : Grammar) (a b : List ℕ) → TellsChecked ds offers free w g a → TellsChecked ds offers free w g b → a ≡ b
one-checked ds offers free w g a b (pairs, roles, waits, accepted, apart, waiting, is) (pairs', roles', waits', accepted', apart', waiting', is') =
    is ∙ joined pairs pairs' roles roles' waits waits' (one-text w g pairs pairs' accepted accepted')
    (one-apart ds offers w g roles roles' apart apart') (one-free free w g waits waits' waiting waiting') ∙ sym is'
