-- What may be chosen at the nodes of a quiet world.
use Rattle.std.proofs.Common.{ℕ, suc, cond, List, [], ◌∷◌, ◌++◌, Some, refl, ap, ◌∙◌, ◌≡◌}
use Rattle.std.specs.Prelude.{nat_eq}
use Rattle.aw_list.proofs.Members.{never}
use Rattle.aw_term.specs.Names.{Ref}
use Rattle.aw_term.specs.Rules.{Rule, Grammar, Value}
use Rattle.aw_term.specs.Matching.{match_all}
use Rattle.aw_term.specs.Configs.{State, Pending, Done, Row, Config}
use Rattle.aw_term.specs.Choices.{Outcome, Refused, Starts, Takes, after_guard}
use Rattle.aw_term.specs.Artifacts.{Words}
use Rattle.aw_term.specs.Runs.{refusal_of, item_at, rule_items, row_items, worklist}
use Rattle.aw_term.specs.Held.{Held}
use Rattle.aw_accept.specs.Acyclic.{Pairs}
use Rattle.aw_store.specs.Equations.{Map}
use Rattle.aw_apply.specs.Guard.{guard_all}
use Rattle.aw_law_sites.specs.Laws.{Agree, IsAccepted}
use Rattle.aw_law_sites.proofs.Guarding.{guard_all-match}
use Rattle.aw_law_sites.proofs.OutcomesAlike.{OutLike, guard_like}
use Rattle.aw_law_sites.specs.Homes.{home}
use Rattle.aw_law_sites.specs.Worklists.{site_item, site_items, open_items}
use Rattle.aw_law_sites.specs.Worlds.{World, site_at, gather, world_after}
use Rattle.aw_law_worlds.specs.Laws.{QuietWorklists, own_items}
use Rattle.aw_law_worlds.proofs.WorldLaws.{quiet_law}

same_refusal : (k : Map) (o : Outcome Ref Ref) (o' : Outcome Value Ref) → OutLike k o o' → refusal_of o ≡ refusal_of o'
same_refusal k (Refused a) (Refused b) l = ap Some l
same_refusal k Starts Starts l = refl
same_refusal k (Takes r xs) (Takes s ys) l = refl
same_refusal k (Refused a) Starts l = never l
same_refusal k (Refused a) (Takes s ys) l = never l
same_refusal k Starts (Refused b) l = never l
same_refusal k Starts (Takes s ys) l = never l
same_refusal k (Takes r xs) (Refused b) l = never l
same_refusal k (Takes r xs) Starts l = never l

module _ (k : Map) (h : Held) (q : Row) (A : Agree k h q) where
  same_item : (i : ℕ) (rule : Rule) → site_item k h i rule ≡ item_at q i rule
  same_item i rule =
      let l = guard_like k h.node rule (guard_all k 1 rule.patterns h.inherited) (match_all 1 rule.patterns q.inherited) (guard_all-match k 1 rule.patterns h.inherited q.inherited A.inherited) in
      let r = same_refusal k _ _ l ∙ ap (λ n. refusal_of (after_guard n rule (match_all 1 rule.patterns q.inherited))) A.node in
      λ j. record { node = A.node j; rule = i; refusal = r j }

  same_items : (i : ℕ) (rules : List Rule) → site_items k h i rules ≡ rule_items q i rules
  same_items i [] = refl
  same_items i (rule ∷ rules) =
      let e = same_item i rule in
      let es = same_items (suc i) rules in
      λ j. cond (nat_eq rule.sort (A.sort j)) (e j ∷ es j) (es j)

  same_open : (g : Grammar) (s : State) → open_items g s k h ≡ row_items g s q
  same_open g Pending = same_items 0 g.rules
  same_open g (Done r args) = refl

same_worklist : (g : Grammar) (w : World) (hs : List Held) (c : Config) → Pairs (λ h q. Agree (site_at w (home g h.node)).equations h q) hs c → own_items g w hs ≡ worklist g c
same_worklist g w [] [] p = refl
same_worklist g w [] (q ∷ c) p = never p
same_worklist g w (h ∷ hs) [] p = never p
same_worklist g w (h ∷ hs) (q ∷ c) p =
    let k = (site_at w (home g h.node)).equations in
    let e = ap (λ s. open_items g s k h) p.0.state ∙ same_open k h q p.0 g q.state in
    let es = same_worklist g w hs c p.1 in
    λ j. e j ++ es j

pub worklists_law : (words : Words) (g : Grammar) → IsAccepted words g → QuietWorklists g
worklists_law words g accepted loads es a =
    let (c, e, f) = quiet_law words g accepted loads es a in
    (c, e, λ quiet. same_worklist g (world_after g loads es) (gather (world_after g loads es).sites) c (f quiet).agree)
