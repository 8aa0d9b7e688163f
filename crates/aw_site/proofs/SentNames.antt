-- Each message that a plain site sends has valid names and a valid load, where its equations are valid.
use Rattle.std.proofs.Common.{◌≡◌, ℕ, zero, suc, ◌≤◌, Bool, true, false, cond, List, [], ◌∷◌, ◌++◌, length, map, filter, Option, Some, None, nat_eq, refl, ap, sym, subst, arith}
use Rattle.std.specs.Prelude.{nat_le}
use Rattle.std.proofs.lemmas.Bool.{and_parts, and_from, le-leb}
use Rattle.std.proofs.lemmas.Option.{same_Some}
use Rattle.aw_term.specs.Names.{Ref, ref_eq, ref_lt}
use Rattle.aw_term.specs.Rules.{Grammar}
use Rattle.aw_term.specs.WellFormed.{Each}
use Rattle.aw_term.proofs.RefTests.{ref_eq-true}
use Rattle.aw_base.specs.ChoiceFits.{ref_ok}
use Rattle.aw_store.specs.Equations.{Body, Same, Is, Equation, Map, find, mentions}
use Rattle.aw_apply.specs.Made.{Call}
use Rattle.aw_apply.specs.Messages.{Message}
use Rattle.aw_law_sites.specs.Joint.{called_held}
use Rattle.aw_law_sites.specs.Asking.{all_mentions, all_inherited, ask_message}
use Rattle.aw_law_sites.specs.Homes.{home}
use Rattle.aw_law_sites.specs.InOrder.{insert_ref, in_order}
use Rattle.aw_law_sites.specs.Loads.{Given, may_give, given_on, next_given, walk, load_of}
use Rattle.aw_law_sites.specs.Sites.{Site}
use Rattle.aw_law_sites.specs.Telling.{tell, tells, tell_back, call_out, calls_out, calls_in, watchers_from}
use Rattle.aw_law_sites.specs.ValidNames.{refs_ok, body_ok, equation_ok, equations_ok, call_ok}
use Rattle.aw_site.specs.Sendable.{load_ok, may_send, all_sendable}

-- ---- references

pub refs_append : (g : Grammar) (rs ss : List Ref) → refs_ok g rs ≡ true → refs_ok g ss ≡ true → refs_ok g (rs ++ ss) ≡ true
refs_append g [] ss a b = b
refs_append g (r ∷ rs) ss a b = let (x, y) = and_parts (ref_ok g r) _ a in and_from _ _ x (refs_append g rs ss y b)

insert_cases : (g : Grammar) (a b : Bool) (r s : Ref) (ss ts : List Ref) → ref_ok g r ≡ true → refs_ok g (s ∷ ss) ≡ true → refs_ok g ts ≡ true →
    refs_ok g (cond a (r ∷ s ∷ ss) (cond b (s ∷ ss) (s ∷ ts))) ≡ true
insert_cases g true b r s ss ts here all more = and_from _ _ here all
insert_cases g false true r s ss ts here all more = all
insert_cases g false false r s ss ts here all more = and_from _ _ (and_parts (ref_ok g s) _ all).0 more

-- a valid reference among valid ones
pub inserted : (g : Grammar) (r : Ref) (ss : List Ref) → ref_ok g r ≡ true → refs_ok g ss ≡ true → refs_ok g (insert_ref r ss) ≡ true
inserted g r [] here all = and_from _ _ here refl
inserted g r (s ∷ ss) here all = insert_cases g (ref_lt r s) (ref_eq r s) r s ss (insert_ref r ss) here all (inserted g r ss here (and_parts (ref_ok g s) _ all).1)

pub ordered : (g : Grammar) (rs : List Ref) → refs_ok g rs ≡ true → refs_ok g (in_order rs) ≡ true
ordered g [] all = refl
ordered g (r ∷ rs) all = let (x, y) = and_parts (ref_ok g r) _ all in inserted g r (in_order rs) x (ordered g rs y)

keep_cases : (g : Grammar) (b : Bool) (r : Ref) (rs : List Ref) → ref_ok g r ≡ true → refs_ok g rs ≡ true → refs_ok g (cond b (r ∷ rs) rs) ≡ true
keep_cases g true r rs here all = and_from _ _ here all
keep_cases g false r rs here all = all

pub filtered : (g : Grammar) (p : Ref → Bool) (rs : List Ref) → refs_ok g rs ≡ true → refs_ok g (filter p rs) ≡ true
filtered g p [] all = refl
filtered g p (r ∷ rs) all = let (x, y) = and_parts (ref_ok g r) _ all in keep_cases g (p r) r (filter p rs) x (filtered g p rs y)

-- the references of a valid body
pub body_mentions : (g : Grammar) (b : Body) → body_ok g b ≡ true → refs_ok g (mentions b) ≡ true
body_mentions g (Same r) ok = and_from _ _ ok refl
body_mentions g (Is h rs) ok = (and_parts _ (refs_ok g rs) ok).1

-- the references in valid equations
pub mentioned : (g : Grammar) (es : List Equation) → equations_ok g es ≡ true → refs_ok g (all_mentions es) ≡ true
mentioned g [] ok = refl
mentioned g (e ∷ es) ok =
    let (x, y) = and_parts (equation_ok g e) _ ok in
    refs_append g (mentions e.body) (all_mentions es) (body_mentions g e.body (and_parts (ref_ok g e.left) _ x).1) (mentioned g es y)

own_cases : (g : Grammar) (role : ℕ) (b : Bool) (c : Call) (cs : List Call) → refs_ok g c.inherited ≡ true → refs_ok g (all_inherited (calls_in g role cs)) ≡ true
    → refs_ok g (all_inherited (cond b (called_held c ∷ calls_in g role cs) (calls_in g role cs))) ≡ true
own_cases g role true c cs here all = refs_append g c.inherited (all_inherited (calls_in g role cs)) here all
own_cases g role false c cs here all = all

-- the references that valid calls inherit
pub inherited_ok : (g : Grammar) (role : ℕ) (cs : List Call) → Each (λ (c : Call). call_ok g c ≡ true) cs → refs_ok g (all_inherited (calls_in g role cs)) ≡ true
inherited_ok g role [] ok = refl
inherited_ok g role (c ∷ cs) ok = own_cases g role (nat_eq (home g c.node) role) c cs (and_parts _ (refs_ok g c.inherited) ok.0).1 (inherited_ok g role cs ok.1)

-- ---- equations

pub equations_append : (g : Grammar) (k es : Map) → equations_ok g k ≡ true → equations_ok g es ≡ true → equations_ok g (k ++ es) ≡ true
equations_append g [] es a b = b
equations_append g (e ∷ k) es a b = let (x, y) = and_parts (equation_ok g e) _ a in and_from _ _ x (equations_append g k es y b)

found_cases : (g : Grammar) (c : Bool) (r : Ref) (e : Equation) (o : Option Body) (b : Body) → ref_eq r e.left ≡ c → cond c (Some e.body) o ≡ Some b → equation_ok g e ≡ true
    → (o ≡ Some b → equation_ok g (record { left = r; body = b }) ≡ true) → equation_ok g (record { left = r; body = b }) ≡ true
found_cases g true r e o b same f here later =
    let left = ref_eq-true r e.left same in
    let body = same_Some _ _ f in
    subst (λ (x : Equation). equation_ok g x ≡ true) (λ i. record { left = sym left i; body = body i }) here
found_cases g false r e o b same f here later = later f

-- an equation that is found
pub found_ok : (g : Grammar) (k : Map) (r : Ref) (b : Body) → equations_ok g k ≡ true → find k r ≡ Some b → equation_ok g (record { left = r; body = b }) ≡ true
found_ok g [] r b ok f = absurd cc
found_ok g (e ∷ k) r b ok f =
    let (x, y) = and_parts (equation_ok g e) _ ok in
    found_cases g (ref_eq r e.left) r e (find k r) b refl f x (found_ok g k r b y)

-- ---- messages

pub sendable_append : (g : Grammar) (ms ns : List Message) → all_sendable g ms ≡ true → all_sendable g ns ≡ true → all_sendable g (ms ++ ns) ≡ true
sendable_append g [] ns a b = b
sendable_append g (m ∷ ms) ns a b = let (x, y) = and_parts (may_send g m.kind) _ a in and_from _ _ x (sendable_append g ms ns y b)

-- questions for valid references
pub asks_valid : (g : Grammar) (role : ℕ) (rs : List Ref) → refs_ok g rs ≡ true → all_sendable g (map (ask_message g role) rs) ≡ true
asks_valid g role [] ok = refl
asks_valid g role (r ∷ rs) ok = let (x, y) = and_parts (ref_ok g r) _ ok in and_from _ _ x (asks_valid g role rs y)

module _ (g : Grammar) (s : Site) (ok : equations_ok g s.equations ≡ true) where
  given_cases : (may : Bool) (o : Option Body) (r : Ref) (rs : List Ref) (later : Option Given) (d : Given) → find s.equations r ≡ o → given_on may r o rs later ≡ Some d
      → (later ≡ Some d → equation_ok g d.equation ≡ true) → equation_ok g d.equation ≡ true
  given_cases true (Some b) r rs later d f e next = subst (λ x. equation_ok g x ≡ true) (ap (λ (x : Given). x.equation) (same_Some _ _ e)) (found_ok g s.equations r b ok f)
  given_cases true None r rs later d f e next = next e
  given_cases false o r rs later d f e next = next e

  given_ok : (seen rs : List Ref) (d : Given) → next_given g s seen rs ≡ Some d → equation_ok g d.equation ≡ true
  given_ok seen [] d e = absurd cc
  given_ok seen (r ∷ rs) d e = given_cases (may_give g s seen r) (find s.equations r) r rs (next_given g s seen rs) d refl e (given_ok seen rs d)

  -- what a walk gives is valid, and not too much
  abbrev IsLoad : ℕ → List Equation → Type 0
  IsLoad n es = (length es ≤ n) × (equations_ok g es ≡ true)

  walk_cases : (n : ℕ) (seen rs : List Ref) (o : Option Given) → ((seen' rs' : List Ref) → IsLoad n (walk n g s seen' rs')) → next_given g s seen rs ≡ o
      → IsLoad (suc n) (elim o as (λ _. List Equation) [ None ↦ [] | Some d ↦ d.equation ∷ walk n g s (d.equation.left ∷ seen) (mentions d.equation.body ++ d.rest) ])
  walk_cases n seen rs None later e = (omega arith, refl)
  walk_cases n seen rs (Some d) later e =
      let more = later (d.equation.left ∷ seen) (mentions d.equation.body ++ d.rest) in
      (omega (arith, more.0), and_from _ _ (given_ok seen rs d e) more.1)

  walk_valid : (n : ℕ) (seen rs : List Ref) → IsLoad n (walk n g s seen rs)
  walk_valid zero seen rs = (omega arith, refl)
  walk_valid (suc n) seen rs = walk_cases n seen rs (next_given g s seen rs) (λ seen' rs'. walk_valid n seen' rs') refl

  load_cases : (b : Bool) (es : List Equation) → IsLoad 64 es → load_ok g (cond b es []) ≡ true
  load_cases true es h = and_from (nat_le (length es) 64) _ (le-leb (length es) 64 h.0) h.1
  load_cases false es h = refl

  pub load_valid : (seen rs : List Ref) → load_ok g (load_of g s seen rs) ≡ true
  load_valid seen rs = load_cases s.loads (walk 64 g s seen rs) (walk_valid 64 seen rs)

  pub tell_valid : (e : Equation) (role : ℕ) → equation_ok g e ≡ true → may_send g (tell g s e role).kind ≡ true
  tell_valid e role here = and_from _ _ here (load_valid (e.left ∷ []) (mentions e.body))

  told_valid : (e : Equation) (roles : List ℕ) → equation_ok g e ≡ true → all_sendable g (map (tell g s e) roles) ≡ true
  told_valid e [] here = refl
  told_valid e (role ∷ roles) here = and_from _ _ (tell_valid e role here) (told_valid e roles here)

  -- valid equations for those who watch
  pub tells_valid : (es : List Equation) → equations_ok g es ≡ true → all_sendable g (tells g s es) ≡ true
  tells_valid [] all = refl
  tells_valid (e ∷ es) all =
      let (x, y) = and_parts (equation_ok g e) _ all in
      sendable_append g (map (tell g s e) (watchers_from 64 0 (s.watches e.left))) (tells g s es) (told_valid e (watchers_from 64 0 (s.watches e.left)) x) (tells_valid es y)

  out_cases : (b : Bool) (c : Call) (ms : List Message) → call_ok g c ≡ true → all_sendable g ms ≡ true → all_sendable g (cond b ms (call_out g s c ∷ ms)) ≡ true
  out_cases true c ms here all = all
  out_cases false c ms here all = and_from _ _ (and_from _ _ here (load_valid [] c.inherited)) all

  -- valid calls for other roles
  pub calls_valid : (cs : List Call) → Each (λ (c : Call). call_ok g c ≡ true) cs → all_sendable g (calls_out g s cs) ≡ true
  calls_valid [] all = refl
  calls_valid (c ∷ cs) all = out_cases (nat_eq (home g c.node) s.role) c (calls_out g s cs) all.0 (calls_valid cs all.1)

  back_cases : (o : Option Body) (r : Ref) (from : ℕ) → find s.equations r ≡ o → all_sendable g (tell_back g s o r from) ≡ true
  back_cases None r from e = refl
  back_cases (Some b) r from e = and_from _ _ (tell_valid (record { left = r; body = b }) from (found_ok g s.equations r b ok e)) refl

  -- the answer to a question
  pub back_valid : (r : Ref) (from : ℕ) → all_sendable g (tell_back g s (find s.equations r) r from) ≡ true
  back_valid r from = back_cases (find s.equations r) r from refl
