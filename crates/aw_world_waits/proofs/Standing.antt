-- Each pair of a world stands in the undivided configuration of the choices taken.
use Rattle.std.proofs.Common.{◌≡◌, ℕ, Bool, true, false, cond, List, [], ◌∷◌, Option, Some, None, refl, sym, ap, ◌∙◌, subst, inl, inr}
use Rattle.std.proofs.lemmas.Bool.{eqb-true}
use Rattle.aw_list.specs.Members.{Member}
use Rattle.aw_list.proofs.Members.{never}
use Rattle.aw_term.specs.Artifacts.{Words, Item}
use Rattle.aw_term.specs.Choices.{Choice, TooDeep, Refused, Takes, after_guard, deep}
use Rattle.aw_term.specs.Matching.{Matched, Yes, Waits, Differs, Circle}
use Rattle.aw_term.specs.Names.{Node, Slot, Result, Part, Ref, result}
use Rattle.aw_term.specs.Rules.{Grammar, Rule}
use Rattle.aw_term.specs.Runs.{refusal_of}
use Rattle.aw_term.proofs.Gets.{get_some}
use Rattle.aw_iograph.specs.Graphs.{Plus, step, more}
use Rattle.aw_accept.proofs.Fitting.{given_of}
use Rattle.aw_apply.specs.Guard.{guard_all}
use Rattle.aw_law_sites.specs.Laws.{IsAccepted}
use Rattle.aw_law_sites.specs.Homes.{home}
use Rattle.aw_law_sites.specs.Sites.{Site, empty_site}
use Rattle.aw_law_sites.specs.Worlds.{site_at, gather, world_after}
use Rattle.aw_law_worlds.specs.Laws.{own_items}
use Rattle.aw_law_worlds.proofs.HeldOrdering.{gather-member}
use Rattle.aw_law_worlds.proofs.Places.{member-get}
use Rattle.aw_law_worlds.proofs.WorldLaws.{invariant_law, headline}
use Rattle.aw_wait.specs.Waiting.{WaitsFor}
use Rattle.aw_wait.proofs.WaitingRuns.{none_waits, some_waits_for_none}
use Rattle.aw_world_waits.proofs.SiteRuns.{waits_there_too}
use Rattle.aw_world_waits.specs.declared.pair.Pair.{Pair}
use Rattle.aw_world_waits.specs.Waiters.{of_result, waits_on, is_developed}
use Rattle.aw_world_waits.specs.Blocks.{pair_on, waiting}
use Rattle.aw_world_waits.specs.Laws.{IsTold, PairsStand, NoCircleIsTold, SomeIsToldFree}
use Rattle.aw_world_waits.proofs.Pairing.{of_item, of_own_items, of_open}
use Rattle.aw_world_waits.proofs.Taken.{untaken}

-- the node of a pair, and the one on which no choice was taken
pair_parts : (cs : List Choice) (k n m : Node) (o : Option Node) → Member {A = Pair} (record { node = n; on = m }) (pair_on cs k o) → (n ≡ k) × (o ≡ Some m) × (is_developed cs m ≡ false)
pair_parts cs k n m None i = never i
pair_parts cs k n m (Some j) i = go (is_developed cs j) refl i
  where
    go : (b : Bool) → is_developed cs j ≡ b → Member {A = Pair} (record { node = n; on = m }) (cond b [] (record { node = k; on = j } ∷ [])) → (n ≡ k) × (Some j ≡ Some m) × (is_developed cs m ≡ false)
    go true e i = never i
    go false e (inr z) = never z
    go false e (inl p) =
        let q : m ≡ j = ap (λ (p : Pair). p.on) p in
        (ap (λ (p : Pair). p.node) p, ap Some (sym q), ap (is_developed cs) q ∙ e)

slot_waits : (n : Node) (s : Slot) (m : Node) → of_result n s ≡ Some m → (l : ℕ) × (record { node = n; slot = s } ≡ result m l)
slot_waits n (Result l) m e = (l, let p : n ≡ m = cc in ap (λ n. result n l) p)
slot_waits n (Part k) m e = absurd cc

-- a rule that is refused since it waits for a result has a guard that does
guard_waits : (n : Node) (rule : Rule) (found : Matched Ref Ref) (m : Node) → waits_on (refusal_of (after_guard n rule found)) ≡ Some m → (l : ℕ) × (found ≡ Waits (result m l))
guard_waits n rule (Yes xs) m e = taken (deep n rule) e
  where
    taken : (b : Bool) → waits_on (refusal_of (cond b (Refused TooDeep) (Takes rule xs))) ≡ Some m → (l : ℕ) × (Yes xs ≡ Waits (result m l))
    taken true i = absurd cc
    taken false i = absurd cc
guard_waits n rule (Waits r) m e = let (l, p) = slot_waits r.node r.slot m e in (l, ap Waits p)
guard_waits n rule (Differs p) m e = absurd cc
guard_waits n rule (Circle r) m e = absurd cc

plus_map : {V : Type 0} (E F : V → V → Type 0) → ((a b : V) → E a b → F a b) → {a b : V} → Plus E a b → Plus F a b
plus_map E F f (step e) = step (f _ _ e)
plus_map E F f (more e p) = more (f _ _ e) (plus_map E F f p)

module _ (words : Words) (g : Grammar) (accepted : IsAccepted words g) where
  pub pairs_stand : PairsStand g
  pairs_stand loads es may c e n m told =
      let w = world_after g loads es in
      let (x, I) = invariant_law words g accepted loads es may in
      let (i, mi, mp) = of_item w.taken (own_items g w (gather w.sites)) (record { node = n; on = m }) told in
      let (same, waits, none) = pair_parts w.taken i.node n m (waits_on i.refusal) mp in
      let (h, mg, mo) = of_own_items g w (gather w.sites) i mi in
      let (s, ms, mh) = gather-member w.sites h mg in
      let (a, at) = member-get w.sites s ms in
      let own : Member h (site_at w a).held = subst (λ (s : Site). Member h s.held) (sym (get_some (empty_site false a) w.sites a s at)) mh in
      let k = (site_at w (home g h.node)).equations in
      let (open_, rule, j, mr, sort, is) = of_open g h.state k h i mo in
      let (l, stops) = guard_waits h.node rule (guard_all k 1 rule.patterns h.inherited) m (subst (λ (i : Item). waits_on i.refusal ≡ Some m) is waits) in
      let there = waits_there_too words g accepted w.taken x c I.taken e k (I.known (home g h.node)) h (I.held a h own).0 open_ rule mr
      (eqb-true rule.sort h.sort sort) m l (untaken w.taken m none) stops in
      subst (λ n. WaitsFor g c n m) (sym (same ∙ ap (λ (i : Item). i.node) is)) there

  pub no_circle_told : NoCircleIsTold g
  no_circle_told free loads es may n p =
      let w = world_after g loads es in
      let (c, e, i, f) = headline words g accepted loads es may in
      none_waits g (given_of words g accepted.0) free w.taken c e n (plus_map (IsTold (waiting g w)) (WaitsFor g c) (λ a b t. pairs_stand loads es may c e a b t) p)

  pub some_told_free : SomeIsToldFree g
  some_told_free free loads es may c e n p =
      let (m, q, none) = some_waits_for_none g (given_of words g accepted.0) free (world_after g loads es).taken c e n p in
      (m, q, λ k t. none k (pairs_stand loads es may c e m k t))
