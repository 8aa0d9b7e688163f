-- A space with equations of other roles.
use Rattle.std.proofs.Common.{◌≡◌, ℕ, Bool, true, false, cond, List, [], ◌∷◌, Option, Some, None, refl, ap}
use Rattle.std.specs.Prelude.{not, ◌||◌}
use Rattle.std.proofs.lemmas.Bool.{and_parts, and_from}
use Rattle.aw_list.proofs.Everyday.{is_false}
use Rattle.aw_term.specs.Rules.{Grammar}
use Rattle.aw_term.specs.Held as P
use Rattle.aw_store.specs.Equations.{Body, Equation, Map, find}
use Rattle.aw_apply.specs.Made.{Call}
use Rattle.aw_apply.specs.Messages.{Clash, OfNode}
use Rattle.aw_node_list.specs.declared.held.Held.{Held}
use Rattle.aw_law_sites.specs.Receiving.{none_mine, refs_eq, add_on, add_all, call_clash, first_clash}
use Rattle.aw_law_sites.specs.ValidNames.{equation_ok, equations_ok}
use Rattle.aw_space.specs.Sound.{all_done, is_done}
use Rattle.aw_space.specs.Spaces.{Space, is_home, clash_with}
use Rattle.aw_space.proofs.Keeping.{done-push}
use Rattle.aw_space.proofs.KeptValid.{valid_append}

one_done : (g : Grammar) (role : ℕ) (hs : List Held) (k : Map) (e : Equation) (o : Option Body) → is_home g role e.left.node ≡ false → all_done g role hs k ≡ true →
    all_done g role hs (add_on o k e) ≡ true
one_done g role hs k e None other all = done-push g role hs k e all (ap (λ b. not b || is_done e.left.node hs) other)
one_done g role hs k e (Some b) other all = all

-- they say nothing of this role's nodes
pub told_done : (g : Grammar) (role : ℕ) (hs : List Held) (k : Map) (es : List Equation) → none_mine g role es ≡ true → all_done g role hs k ≡ true → all_done g role hs (add_all k es) ≡ true
told_done g role hs k [] others all = all
told_done g role hs k (e ∷ es) others all =
    let (a, b) = and_parts (not (is_home g role e.left.node)) (none_mine g role es) others in
    told_done g role hs (add_on (find k e.left) k e) es b (one_done g role hs k e (find k e.left) (is_false _ a) all)

one_valid : (g : Grammar) (k : Map) (e : Equation) (o : Option Body) → equation_ok g e ≡ true → equations_ok g k ≡ true → equations_ok g (add_on o k e) ≡ true
one_valid g k e None ok all = valid_append g k (e ∷ []) all (and_from _ _ ok refl)
one_valid g k e (Some b) ok all = all

pub told_valid : (g : Grammar) (k : Map) (es : List Equation) → equations_ok g es ≡ true → equations_ok g k ≡ true → equations_ok g (add_all k es) ≡ true
told_valid g k [] ok all = all
told_valid g k (e ∷ es) ok all =
    let (a, b) = and_parts (equation_ok g e) (equations_ok g es) ok in
    told_valid g (add_on (find k e.left) k e) es b (one_valid g k e (find k e.left) a all)

later_cases : (t : Bool) (c : Clash) (later : Option Clash) → cond t later (Some c) ≡ None → later ≡ None
later_cases true c later e = e
later_cases false c later e = absurd cc

call_free : (o : Option P.Held) (c : Call) (later : Option Clash) → call_clash o c later ≡ None → later ≡ None
call_free None c later e = e
call_free (Some h) c later e = later_cases (refs_eq h.inherited c.inherited) (record { kept = OfNode h.inherited; came = OfNode c.inherited }) later e

-- where neither call nor equations clash, the equations do not
pub equations_free : (c : Option Call) (es : List Equation) (s : Space) → clash_with c es s ≡ None → first_clash s.equations es ≡ None
equations_free None es s e = e
equations_free (Some c) es s e = call_free (P.held_of c.node s.held) c (first_clash s.equations es) e
