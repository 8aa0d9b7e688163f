-- A wait over the equations of a workspace is one of the undivided configuration.
use Rattle.std.proofs.Common.{◌≡◌, ℕ, List, [], ◌∷◌, Option, Some, None, refl, sym, ap, ◌∙◌, subst, inl, inr}
use Rattle.std.proofs.lemmas.Option.{same_Some}
use Rattle.aw_list.specs.Members.{Member}
use Rattle.aw_list.proofs.Members.{never, member_got}
use Rattle.aw_term.specs.Trees.{Never}
use Rattle.aw_term.specs.Names.{Node, Ref, result}
use Rattle.aw_term.specs.Rules.{Value, Rule, Grammar}
use Rattle.aw_term.specs.Matching.{Matched, Yes, Waits, Differs, Circle, match_all}
use Rattle.aw_term.specs.Configs.{Pending, Row, Config}
use Rattle.aw_term.specs.Choices.{Choice, undivided}
use Rattle.aw_term.specs.Artifacts.{Words}
use Rattle.aw_iograph.specs.Dependence.{IO, HasNoCircle}
use Rattle.aw_accept.specs.Acyclic.{Pairs, IsGivenGrammar}
use Rattle.aw_accept.proofs.Fitting.{given_of}
use Rattle.aw_store.specs.Equations.{Body, Map, find}
use Rattle.aw_apply.specs.Guard.{guard_all}
use Rattle.aw_law_sites.specs.Joint.{Held, Joint, empty_joint, joint_run}
use Rattle.aw_law_sites.specs.Laws.{Agree, IsAccepted, IsSubmap}
use Rattle.aw_law_sites.proofs.Entering.{VariablesEnter, variables_enter}
use Rattle.aw_law_sites.proofs.Guarding.{Like, guard_all-match}
use Rattle.aw_law_sites.proofs.Lockstep.{Lockstep, LikeStates, run_lockstep, empty_lockstep}
use Rattle.aw_wait.specs.Waiting.{WaitsFor}
use Rattle.aw_wait.proofs.Stopping.{match_all-waits}
use Rattle.aw_world_waits.specs.SiteWaits.{IsUntaken, WaitsThereToo}
use Rattle.aw_world_waits.proofs.Steady.{guard_all-waits}
use Rattle.aw_world_waits.proofs.TakenRows.{untaken_pending}

beside : {A B : Type 0} (P : A → B → Type 0) (xs : List A) (ys : List B) (x : A) → Pairs P xs ys → Member x xs → (y : B) × Member y ys × P x y
beside P [] [] x w m = never m
beside P [] (y ∷ ys) x w m = never m
beside P (a ∷ xs) [] x w m = never w
beside P (a ∷ xs) (y ∷ ys) x w (inl e) = (y, inl refl, subst (λ z. P z y) (sym e) w.0)
beside P (a ∷ xs) (y ∷ ys) x w (inr m) = let (z, n, p) = beside P xs ys x w.1 m in (z, inr n, p)

like-waits : (k : Map) (m : Matched Ref Ref) (m' : Matched Value Ref) (s : Ref) → Like k m m' → m ≡ Waits s → m' ≡ Waits s
like-waits k (Waits r) (Waits u) s l e = let same : r ≡ s = cc in ap Waits (sym l ∙ same)
like-waits k (Waits r) (Yes xs) s l e = never l
like-waits k (Waits r) (Differs p) s l e = never l
like-waits k (Waits r) (Circle u) s l e = never l
like-waits k (Yes xs) m' s l e = absurd cc
like-waits k (Differs p) m' s l e = absurd cc
like-waits k (Circle r) m' s l e = absurd cc

module _ (g : Grammar) (cs : List Choice) (w : Joint) (c : Config) (e' : undivided g [] cs ≡ Some c) where
  -- a result of a node on which none was taken has no equation
  no_equation : (m : Node) (l : ℕ) → IsUntaken cs m → ((x : Ref) (b : Body) → find w.equations x ≡ Some b → (p : Row) × Member p c × (x.node ≡ p.node)
      × (p.state ≡ Pending → Never)) → find w.equations (result m l) ≡ None
  no_equation m l none lefts = by_find (find w.equations (result m l)) refl
    where
      by_find : (o : Option Body) → find w.equations (result m l) ≡ o → find w.equations (result m l) ≡ None
      by_find None f = f
      by_find (Some b) f =
          let (p, mp, np, sp) = lefts (result m l) b f in
          never (sp (untaken_pending g cs c e' p mp (subst (IsUntaken cs) np none)))

  module _ (fit : IsGivenGrammar g) (enter : VariablesEnter g) (ok : HasNoCircle g (IO g)) (J : Lockstep g fit enter ok w c) where
    waits_there : (k : Map) → IsSubmap k w.equations → (h : Held) → Member h w.held → h.state ≡ Pending → (r : Rule) → Member r g.rules → r.sort ≡ h.sort → (m : Node) (l : ℕ) → IsUntaken cs m
        → guard_all k 1 r.patterns h.inherited ≡ Waits (result m l) → WaitsFor g c h.node m
    waits_there k sub h mh open_ r mr sort m l none e =
        let (q, mq, A) = beside (λ h q. Agree w.equations h q) w.held c h J.pairs mh in
        let f = guard_all-waits k w.equations sub (result m l) (no_equation m l none J.lefts) 1 r.patterns h.inherited e in
        let x = like-waits w.equations (guard_all w.equations 1 r.patterns h.inherited) (match_all 1 r.patterns q.inherited) (result m l)
        (guard_all-match w.equations 1 r.patterns h.inherited q.inherited A.inherited) f in
        let (i, p, t, a, b, lo, st) = match_all-waits r.patterns q.inherited 1 (result m l) x in
        let (y, j, my, sy, ey, low, le) = J.good.1.whole q mq (result m l) (inl (t, member_got q.inherited i t b, st)) in
        ((y, my, sy, sym (ap (λ (x : Ref). x.node) ey)), q, l, mq, sym A.state ∙ open_, sym A.node, (r, mr, sort ∙ A.sort, x))

-- after any taken choices
pub waits_there_too : (w : Words) (g : Grammar) → IsAccepted w g → WaitsThereToo g
waits_there_too words g accepted cs w c run e k sub h mh open_ r mr sort m l none x =
    let fit = given_of words g accepted.0 in
    let enter = variables_enter words g accepted.0 in
    let all = run_lockstep g fit enter accepted.1 cs empty_joint [] (empty_lockstep g fit enter accepted.1) in
    let J = both (joint_run g empty_joint cs) (undivided g [] cs) fit enter run e all in
    waits_there g cs w c e fit enter accepted.1 J k sub h mh open_ r mr sort m l none x
  where
    both : (o : Option Joint) (o' : Option Config) (fit : IsGivenGrammar g) (enter : VariablesEnter g) → o ≡ Some w → o' ≡ Some c →
        LikeStates g fit enter accepted.1 o o' → Lockstep g fit enter accepted.1 w c
    both None o' fit enter f f' a = absurd cc
    both (Some v) None fit enter f f' a = absurd cc
    both (Some v) (Some d) fit enter f f' a = subst (λ d. Lockstep g fit enter accepted.1 w d) (same_Some d c f') (subst (λ v. Lockstep g fit enter accepted.1 v d) (same_Some v w f) a)
