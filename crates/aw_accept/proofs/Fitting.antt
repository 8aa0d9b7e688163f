-- A well-formed grammar gives as many results as its sorts say.
use Rattle.std.proofs.Common.{List, [], ◌∷◌, subst, sym, inl, inr}
use Rattle.aw_list.specs.Members.{Member}
use Rattle.aw_list.proofs.Members.{never}
use Rattle.aw_term.specs.Rules.{Grammar}
use Rattle.aw_term.specs.Artifacts.{Words}
use Rattle.aw_term.specs.WellFormed.{Each, RuleFits, ChildFits, IsWellFormed, variables}
use Rattle.aw_grammar.proofs.Fits.{each_at}
use Rattle.aw_accept.specs.Acyclic.{IsGivenGrammar}

pub each_member : {A : Type 0} (P : A → Type 0) (xs : List A) (x : A) → Each P xs → Member x xs → P x
each_member P [] x each m = never m
each_member P (y ∷ ys) x each (inl e) = subst P (sym e) each.0
each_member P (y ∷ ys) x each (inr m) = each_member P ys x each.1 m

pub given_of : (w : Words) (g : Grammar) → IsWellFormed w g → IsGivenGrammar g
given_of w g formed = record {
  results = λ r m. (each_member (RuleFits g) g.rules r formed.rules m).gives;
  outs = λ r m k d e. (each_at (ChildFits g (variables r)) r.children k d (each_member (RuleFits g) g.rules r formed.rules m).children e).gives;
}
