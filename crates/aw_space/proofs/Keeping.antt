-- What adding an equation keeps of a space.
use Rattle.std.proofs.Common.{◌≡◌, ℕ, true, false, List, [], ◌∷◌, ◌++◌, refl, ap, sym, subst}
use Rattle.std.specs.Prelude.{Result, Ok, Err, IfOk, OnErr, not, ◌||◌}
use Rattle.std.proofs.lemmas.Bool.{and_parts, and_from}
use Rattle.aw_term.specs.Rules.{Grammar}
use Rattle.aw_store.specs.Equations as Q
use Rattle.aw_store.specs.Equations.{Map}
use Rattle.aw_store.specs.EquationView.{equation_of}
use Rattle.aw_store.specs.StoreView.{Adds}
use Rattle.aw_store.specs.declared.equation.Equation.{Equation}
use Rattle.aw_store.specs.declared.facts.Added.{Added}
use Rattle.aw_store.specs.declared.facts.Added.TheVariants as added
use Rattle.aw_node_list.specs.declared.held.Held.{Held}
use Rattle.aw_space.specs.Sound.{all_done, is_done}
use Rattle.aw_law_sites.specs.ValidNames.{equation_ok, equations_ok}
use Rattle.aw_space.specs.Spaces.{is_home}
use Rattle.aw_space.specs.Keeping.{KeepsFacts}
use Rattle.aw_space.proofs.KeptValid.{valid_append}
use Rattle.aw_space.proofs.Staying.{facts_same, facts_more}

pub done-push : (g : Grammar) (role : ℕ) (hs : List Held) (k : Map) (e : Q.Equation) → all_done g role hs k ≡ true →
    (not (is_home g role e.left.node) || is_done e.left.node hs) ≡ true → all_done g role hs (k ++ e ∷ []) ≡ true
done-push g role hs [] e all one = and_from _ _ one refl
done-push g role hs (f ∷ fs) e all one = let (a, b) = and_parts (not (is_home g role f.left.node) || is_done f.left.node hs) _ all in and_from _ _ a (done-push g role hs fs e b one)

added_done : (g : Grammar) (role : ℕ) (hs : List Held) (old new : Map) (e : Equation) (a : Added) → Adds old e a new → is_home g role e.left.node ≡ false →
    all_done g role hs old ≡ true → all_done g role hs new ≡ true
added_done g role hs old new e added.New w other all =
    subst (λ k. all_done g role hs k ≡ true) (sym w.1) (done-push g role hs old (equation_of e) all (ap (λ b. not b || is_done e.left.node hs) other))
added_done g role hs old new e added.Same w other all = subst (λ k. all_done g role hs k ≡ true) (sym w.1) all
added_done g role hs old new e (added.Conflict kept came) w other all = subst (λ k. all_done g role hs k ≡ true) (sym w.3) all

-- an equation of another role says nothing of this role's nodes
pub learnt_done : {E : Type 0} (g : Grammar) (role : ℕ) (hs : List Held) (old new : Map) (e : Equation) (r : Result Added E) → IfOk r (λ a. Adds old e a new) →
    OnErr r (new ≡ old) → is_home g role e.left.node ≡ false → all_done g role hs old ≡ true → all_done g role hs new ≡ true
learnt_done g role hs old new e (Ok a) w n other all = added_done g role hs old new e a w other all
learnt_done g role hs old new e (Err x) w n other all = subst (λ k. all_done g role hs k ≡ true) (sym n) all

added_valid : (g : Grammar) (old new : Map) (e : Equation) (a : Added) → Adds old e a new → equation_ok g (equation_of e) ≡ true → equations_ok g old ≡ true → equations_ok g new ≡ true
added_valid g old new e added.New w ok all = subst (λ k. equations_ok g k ≡ true) (sym w.1) (valid_append g old (equation_of e ∷ []) all (and_from _ _ ok refl))
added_valid g old new e added.Same w ok all = subst (λ k. equations_ok g k ≡ true) (sym w.1) all
added_valid g old new e (added.Conflict kept came) w ok all = subst (λ k. equations_ok g k ≡ true) (sym w.3) all

-- a valid equation keeps all valid
pub learnt_valid : {E : Type 0} (g : Grammar) (old new : Map) (e : Equation) (r : Result Added E) → IfOk r (λ a. Adds old e a new) → OnErr r (new ≡ old) →
    equation_ok g (equation_of e) ≡ true → equations_ok g old ≡ true → equations_ok g new ≡ true
learnt_valid g old new e (Ok a) w n ok all = added_valid g old new e a w ok all
learnt_valid g old new e (Err x) w n ok all = subst (λ k. equations_ok g k ≡ true) (sym n) all

added_facts : (old new : Map) (e : Equation) (a : Added) → Adds old e a new → KeepsFacts old new
added_facts old new e added.New w = facts_more old new (equation_of e ∷ []) w.1
added_facts old new e added.Same w = facts_same old new w.1
added_facts old new e (added.Conflict kept came) w = facts_same old new w.3

-- what an equation that is learnt keeps
pub learnt_facts : {E : Type 0} (old new : Map) (e : Equation) (r : Result Added E) → IfOk r (λ a. Adds old e a new) → OnErr r (new ≡ old) → KeepsFacts old new
learnt_facts old new e (Ok a) w n = added_facts old new e a w
learnt_facts old new e (Err x) w n = facts_same old new n
