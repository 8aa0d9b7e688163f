-- What a taken rule makes, by its three groups.
use Rattle.std.proofs.Common.{◌≡◌, ℕ, suc, ◌+◌, ◌<◌, ◌≤◌, List, [], ◌∷◌, ◌++◌, length, map, drop, get_or, ap, sym, ◌∙◌, arith, append_assoc, Some}
use Rattle.std.specs.Prelude.{slice_get, option_map}
use Rattle.std.proofs.lemmas.List.{at_drop_more}
use Rattle.std.proofs.lemmas.Option.{slice_get-map}
use Rattle.aw_term.specs.Trees.{Head, Never, Leaf, Made, join}
use Rattle.aw_term.specs.Names.{Node, Ref, result}
use Rattle.aw_term.specs.Rules.{Term, Ground, Child, Rule, get}
use Rattle.aw_term.specs.WellFormed.{symbols}
use Rattle.aw_term.specs.Views.{ground_of, term_of}
use Rattle.aw_term.specs.declared.term.Expr.{Expr}
use Rattle.aw_term.specs.declared.ground.Ground as grounds
use Rattle.aw_store.specs.Equations.{Body, Is, Equation}
use Rattle.aw_store.specs.EquationView.{equation_of}
use Rattle.aw_store.specs.declared.equation.Equation as declared_equation
use Rattle.aw_apply.specs.Made.{Laid, Making, lay_list, lay_result, lay_results, child_refs, no_ref, made}
use Rattle.aw_apply.specs.MadeView.{all_children, laid_behind, AreCalled, AreLaid, HasEntered, IsMade}
use Rattle.aw_apply.specs.declared.children.Called.{Called}
use Rattle.aw_apply.specs.declared.laid.LaidAll.{LaidAll}
use Rattle.aw_apply.specs.declared.making.MadeChild.{MadeChild}
use Rattle.aw_apply.proofs.LayLemmas.{lay_list-join, lays-next}

-- a result that is a constructor
pub result_equations : (n : Node) (f : ℕ → Ref) (k j : ℕ) (h : Head) (left : Ref) (body : Body) (ts : List Term) (all : Laid (List Ref)) (t : Term) →
    all ≡ lay_list n f k ts → body ≡ Is h all.roots → left ≡ result n j → t ≡ Made h (join ts) →
    record { left = left; body = body } ∷ all.equations ≡ (lay_result n f k j t).equations
result_equations n f k j h left body ts all t ea eb el et =
    ap (λ b. record { left = left; body = b } ∷ all.equations) eb
    ∙ ap (λ l. record { left = l; body = Is h all.roots } ∷ all.equations) el
    ∙ ap (λ (a : Laid (List Ref)). record { left = result n j; body = Is h a.roots } ∷ a.equations) (ea ∙ sym (lay_list-join n f k ts))
    ∙ ap (λ z. (lay_result n f k j z).equations) (sym et)

pub result_next : (n : Node) (f : ℕ → Ref) (k j : ℕ) (h : Head) (ts : List Term) (all : Laid (List Ref)) (t : Term) → all ≡ lay_list n f k ts →
    t ≡ Made h (join ts) → all.next ≡ (lay_result n f k j t).next
result_next n f k j h ts all t ea et =
    ap (λ (a : Laid (List Ref)). a.next) (ea ∙ sym (lay_list-join n f k ts)) ∙ ap (λ z. (lay_result n f k j z).next) (sym et)

pub lay_result-next : (n : Node) (f : ℕ → Ref) (k j : ℕ) (t : Term) → (lay_result n f k j t).next ≤ k + symbols t
lay_result-next n f k j (Leaf v) = omega arith
lay_result-next n f k j (Made h ts) = omega (arith, lays-next n f k ts)

-- one more result, and the rest follows it
pub results_follow : (n : Node) (f : ℕ → Ref) (k m next : ℕ) (xs : List Expr) (i : ℕ) (x : Expr) (old new more whole : List Equation) → i < length xs → x ≡ get_or xs i x →
    new ≡ old ++ more → more ≡ (lay_result n f k m (term_of x)).equations → next ≡ (lay_result n f k m (term_of x)).next →
    old ++ lay_results n f k m (map term_of (drop i xs)) ≡ whole →
    new ++ lay_results n f next (suc m) (map term_of (drop (i + 1) xs)) ≡ whole
results_follow n f k m next xs i x old new more whole l e en em ex w =
    ap (λ z. z ++ lay_results n f next (suc m) (map term_of (drop (i + 1) xs))) (en ∙ ap (λ z. old ++ z) em)
    ∙ append_assoc old (lay_result n f k m (term_of x)).equations _
    ∙ ap (λ z. old ++ ((lay_result n f k m (term_of x)).equations ++ lay_results n f z (suc m) (map term_of (drop (i + 1) xs)))) ex
    ∙ ap (λ z. old ++ z) (sym (ap (λ ys. lay_results n f k m (map term_of ys)) (at_drop_more (λ ys. ys) xs i x l ∙ ap (λ y. y ∷ drop (i + 1) xs) (sym e))))
    ∙ w

-- the arguments were laid down, and the references of all variables are known
pub entered_all : (n : Node) (f : Never → Ref) (old new : List declared_equation.Equation) (bound all : List Ref) (gs hs : List grounds.Ground) (e : LaidAll) (more : List Ref) →
    AreLaid old new e (lay_list n f 1 (map ground_of hs)) → hs ≡ gs → all ≡ bound ++ (e.roots.items ++ more) → HasEntered old new bound all e.next (lay_list n f 1 (map ground_of gs)) more
entered_all n f old new bound all gs hs e more el eh ea =
    let is = el ∙ ap (λ xs. laid_behind (map equation_of old) (lay_list n f 1 (map ground_of xs))) eh in record {
      laid = ap (λ (z : Laid (List Ref)). z.equations) is;
      known = ea ∙ ap (λ (z : Laid (List Ref)). bound ++ (z.roots ++ more)) is;
      numbered = ap (λ (z : Laid (List Ref)). z.next) is;
    }

-- the three groups together
pub made_all : (n : Node) (r : ℕ) (rule : Rule) (args : List Ground) (old first second third : List declared_equation.Equation)
    (bound all known : List Ref) (next : ℕ) (called : Called) (cs : List Child) (ts : List Term) →
    HasEntered old first bound all next (lay_list n (λ x. elim x [ ]) 1 args) (child_refs n r 1 rule.children) → known ≡ all → cs ≡ rule.children → ts ≡ rule.results →
    AreCalled first second called (all_children n r known next cs) → map equation_of third ≡ map equation_of second ++ lay_results n (get (no_ref n) known) called.next 1 ts →
    IsMade old third called.children.items (made n r rule args bound)
made_all n r rule args old first second third bound all known next called cs ts entered ek es et ec el =
    let a = lay_list n (λ (x : Never). elim x [ ]) 1 args in
    let refs = bound ++ (a.roots ++ child_refs n r 1 rule.children) in
    let k = ek ∙ entered.known in
    let m = entered.numbered in
    let c = all_children n r refs a.next rule.children in
    let laid : all_children n r known next cs ≡ c = λ i. all_children n r (k i) (m i) (es i) in
    let calls = ec ∙ ap (laid_behind (map equation_of first)) laid in
    let given = lay_results n (get (no_ref n) refs) c.next 1 rule.results in
    let results : lay_results n (get (no_ref n) known) called.next 1 ts ≡ given = λ i. lay_results n (get (no_ref n) (k i)) (calls i).next 1 (et i) in
    let both : map equation_of second ++ lay_results n (get (no_ref n) known) called.next 1 ts ≡ (map equation_of first ++ c.equations) ++ given = λ i. (calls i).equations ++ results i in record {
      equations = el ∙ both ∙ ap (λ z. (z ++ c.equations) ++ given) entered.laid ∙ append_assoc (map equation_of old ++ a.equations) c.equations given
          ∙ append_assoc (map equation_of old) a.equations (c.equations ++ given);
      children = ap (λ (z : Laid (List MadeChild)). z.roots) calls;
    }

-- the same, where nothing stood before
pub made_first : (old new all : List declared_equation.Equation) (given taken : List MadeChild) (m : Making) → IsMade old new given m → old ≡ [] → all ≡ new → taken ≡ given → IsMade [] all taken m
made_first old new all given taken m is none ea et = record {
  equations = ap (map equation_of) ea ∙ is.equations ∙ ap (λ es. map equation_of es ++ m.equations) none;
  children = et ∙ is.children;
}

-- the rule with a number, through its view
pub rule_found : {A B : Type 0} (f : A → B) (xs : List A) (i : ℕ) (x : A) (y : B) → slice_get xs i ≡ Some x → slice_get (map f xs) i ≡ Some y → f x ≡ y
rule_found f xs i x y e g = let h : Some (f x) ≡ Some y = sym (slice_get-map f xs i ∙ ap (option_map f) e) ∙ g in cc
