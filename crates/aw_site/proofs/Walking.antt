-- The walk of a load, one equation after the other.
use Rattle.std.proofs.Common.{◌≡◌, ℕ, suc, ◌+◌, ◌-◌, ◌<◌, Bool, true, false, cond, List, [], ◌∷◌, ◌++◌, map, reverse, Option, Some, None, refl, ap, sym, ◌∙◌, append_assoc, subst, arith}
use Rattle.std.specs.Prelude.{◌||◌, is_some, option_map}
use Rattle.std.proofs.lemmas.List.{reverse-append, append-nil, map-append}
use Rattle.std.proofs.Math.Bool.{or-false}
use Rattle.aw_term.specs.Names.{Ref, ref_eq}
use Rattle.aw_term.specs.Rules.{Grammar}
use Rattle.aw_store.specs.Equations as P
use Rattle.aw_store.specs.Equations.{find, mentions}
use Rattle.aw_store.specs.EquationView.{body_of, equation_of}
use Rattle.aw_store.specs.declared.equation.Body.{Body}
use Rattle.aw_store.specs.declared.equation.Equation.{Equation}
use Rattle.aw_law_sites.specs.InOrder.{has_ref}
use Rattle.aw_law_sites.specs.Loads.{Given, may_give, given_on, next_given, walk}
use Rattle.aw_law_sites.specs.Sites.{Site}
use Rattle.aw_site.specs.Walks.{Gives, GivesFirst, seen_with}

-- one more reference on the stack
pub reverse-push : {A : Type 0} (xs ys : List A) (x : A) → ys ≡ xs ++ x ∷ [] → reverse ys ≡ x ∷ reverse xs
reverse-push xs ys x e = ap reverse e ∙ reverse-append xs (x ∷ [])

seen_cases : (b h : Bool) (x : P.Body) (o : Option P.Body) → ((b || h) || is_some o) ≡ (h || is_some (cond b (Some x) o))
seen_cases true true x o = refl
seen_cases true false x o = refl
seen_cases false h x o = refl

-- a left side in a message is found among those of the load, or it was one before
pub seen_found : (r : Ref) (load : List Equation) (seen : List Ref) → has_ref r (seen_with load seen) ≡ (has_ref r seen || is_some (find (map equation_of load) r))
seen_found r [] seen = sym (or-false (has_ref r seen))
seen_found r (e ∷ es) seen = seen_found r es (e.left ∷ seen) ∙ seen_cases (ref_eq r e.left) (has_ref r seen) (body_of e.body) (find (map equation_of es) r)

pub seen_with-push : (load : List Equation) (e : Equation) (seen : List Ref) → seen_with (load ++ e ∷ []) seen ≡ e.left ∷ seen_with load seen
seen_with-push [] e seen = refl
seen_with-push (x ∷ load) e seen = seen_with-push load e (x.left ∷ seen)

-- what a reference gives that may give
pub given_yes : (may : Bool) (r : Ref) (o p : Option P.Body) (rs : List Ref) (later : Option Given) → may ≡ true → o ≡ p → given_on may r o rs later ≡ given_on true r p rs later
given_yes may r o p rs later e f = λ i. given_on (e i) r (f i) rs later

pub given_no : (may : Bool) (r : Ref) (o : Option P.Body) (rs : List Ref) (later : Option Given) → may ≡ false → given_on may r o rs later ≡ later
given_no may r o rs later e = ap (λ b. given_on b r o rs later) e

walk_more_on : (n : ℕ) (g : Grammar) (s : Site) (seen : List Ref) (e : Equation) (rs new : List Ref) (o : Option Given) → next_given g s seen rs ≡ o → Gives o (Some e) new
    → walk (suc n) g s seen rs ≡ equation_of e ∷ walk n g s (e.left ∷ seen) new
walk_more_on n g s seen e rs new None q h = elim h [ ]
walk_more_on n g s seen e rs new (Some d) q h =
    ap (λ o. elim o as (λ _. List P.Equation) [ None ↦ [] | Some d ↦ d.equation ∷ walk n g s (d.equation.left ∷ seen) (mentions d.equation.body ++ d.rest) ]) q
    ∙ ap (λ (x : P.Equation). x ∷ walk n g s (x.left ∷ seen) (mentions d.equation.body ++ d.rest)) h.0
    ∙ ap (λ ys. equation_of e ∷ walk n g s (e.left ∷ seen) ys) (sym h.1)

-- one equation more
pub walk_more : (n : ℕ) (g : Grammar) (s : Site) (seen : List Ref) (e : Equation) (rs new : List Ref) → Gives (next_given g s seen rs) (Some e) new →
    walk (suc n) g s seen rs ≡ equation_of e ∷ walk n g s (e.left ∷ seen) new
walk_more n g s seen e rs new h = walk_more_on n g s seen e rs new (next_given g s seen rs) refl h

walk_end_on : (n : ℕ) (g : Grammar) (s : Site) (seen rs new : List Ref) (o : Option Given) → next_given g s seen rs ≡ o → Gives o None new → walk (suc n) g s seen rs ≡ []
walk_end_on n g s seen rs new None q h =
    ap (λ o. elim o as (λ _. List P.Equation) [ None ↦ [] | Some d ↦ d.equation ∷ walk n g s (d.equation.left ∷ seen) (mentions d.equation.body ++ d.rest) ]) q
walk_end_on n g s seen rs new (Some d) q h = elim h [ ]

-- no equation more
pub walk_end : (n : ℕ) (g : Grammar) (s : Site) (seen rs new : List Ref) → Gives (next_given g s seen rs) None new → walk (suc n) g s seen rs ≡ []
walk_end n g s seen rs new h = walk_end_on n g s seen rs new (next_given g s seen rs) refl h

-- the loop of the walk
pub walked_more : (i most : ℕ) (g : Grammar) (s : Site) (load load' : List Equation) (first : List Ref) (e : Equation) (rs new : List Ref) (whole : List P.Equation)
    → i < most → Gives (next_given g s (seen_with load first) rs) (Some e) new → load' ≡ load ++ e ∷ []
    → map equation_of load ++ walk (most - i) g s (seen_with load first) rs ≡ whole
    → map equation_of load' ++ walk (most - (i + 1)) g s (seen_with load' first) new ≡ whole
walked_more i most g s load load' first e rs new whole l h p q =
    let n = most - (i + 1) in
    let count : most - i ≡ suc n = omega arith in
    ap (λ xs. map equation_of xs ++ walk n g s (seen_with xs first) new) p
    ∙ ap (λ ys. map equation_of (load ++ e ∷ []) ++ walk n g s ys new) (seen_with-push load e first)
    ∙ ap (λ xs. xs ++ walk n g s (e.left ∷ seen_with load first) new) (map-append equation_of load (e ∷ []))
    ∙ append_assoc (map equation_of load) (equation_of e ∷ []) (walk n g s (e.left ∷ seen_with load first) new)
    ∙ ap (λ xs. map equation_of load ++ xs) (sym (walk_more n g s (seen_with load first) e rs new h))
    ∙ ap (λ k. map equation_of load ++ walk k g s (seen_with load first) rs) (sym count)
    ∙ q

pub walked_end : (i most : ℕ) (g : Grammar) (s : Site) (load : List Equation) (first rs new : List Ref) (whole : List P.Equation) → i < most
    → Gives (next_given g s (seen_with load first) rs) None new → map equation_of load ++ walk (most - i) g s (seen_with load first) rs ≡ whole → map equation_of load ≡ whole
walked_end i most g s load first rs new whole l h q =
    let n = most - (i + 1) in
    let count : most - i ≡ suc n = omega arith in
    sym (append-nil (map equation_of load))
    ∙ ap (λ xs. map equation_of load ++ xs) (sym (walk_end n g s (seen_with load first) rs new h))
    ∙ ap (λ k. map equation_of load ++ walk k g s (seen_with load first) rs) (sym count)
    ∙ q

-- a reference that gave its equation
pub gave : (given later : Option Given) (r : Ref) (o : Option Body) (b : Body) (rs new : List Ref) → given ≡ given_on true r (option_map body_of o) rs
    later → o ≡ Some b → new ≡ mentions (body_of b) ++ rs
    → Gives given (Some (record { left = r; body = b })) new
gave given later r o b rs new e s p =
    subst (λ d. Gives d (Some (record { left = r; body = b })) new) (sym (e ∙ ap (λ o. given_on true r (option_map body_of o) rs later) s)) (refl, p)

-- the loop over the stack
module _ (g : Grammar) (s : Site) (seen whole stack rest : List Ref) (r : Ref) (e : Option Equation) (new : List Ref)
    (so_far : next_given g s seen (reverse stack) ≡ next_given g s seen (reverse whole)) (popped : stack ≡ rest ++ r ∷ [])
    (gives : GivesFirst (given_on (may_give g s seen r) r (find s.equations r) (reverse rest) (next_given g s seen (reverse rest))) (next_given g s seen (reverse rest)) e new) where
  now : next_given g s seen (r ∷ reverse rest) ≡ next_given g s seen (reverse whole)
  now = ap (next_given g s seen) (sym (reverse-push rest stack r popped)) ∙ so_far

  pub given_here : (x : Equation) → e ≡ Some x → Gives (next_given g s seen (reverse whole)) (Some x) new
  given_here x q =
      subst (λ d. Gives d (Some x) new) now
      (subst (λ e. GivesFirst (given_on (may_give g s seen r) r (find s.equations r) (reverse rest) (next_given g s seen (reverse rest))) (next_given g s seen (reverse rest)) e new) q gives)

  pub given_later : e ≡ None → next_given g s seen (reverse rest) ≡ next_given g s seen (reverse whole)
  given_later q =
      sym (subst (λ e. GivesFirst (given_on (may_give g s seen r) r (find s.equations r) (reverse rest) (next_given g s seen (reverse rest))) (next_given g s seen (reverse rest)) e new) q gives)
      ∙ now

-- what is given, by the load that stands in a slice
pub at_slice : (g : Grammar) (s : Site) (first rs new : List Ref) (slice load : List Equation) (o e : Option Equation) → slice ≡ load → o ≡ e
    → Gives (next_given g s (seen_with slice first) rs) o new → Gives (next_given g s (seen_with load first) rs) e new
at_slice g s first rs new slice load o e p q h = subst (λ e. Gives (next_given g s (seen_with load first) rs) e new) q (subst (λ l. Gives (next_given g s (seen_with l first) rs) o new) p h)
