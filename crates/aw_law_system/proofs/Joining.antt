-- The journals of a system are joint: the moves that remain are an order of their events.
use Rattle.std.specs.Prelude.{nat_eq, slice_get}
use Rattle.std.proofs.Common.{◌≡◌, ℕ, Bool, true, false, cond, List, [], ◌∷◌, ◌++◌, Option, Some, None, refl, sym, ap, ◌∙◌, subst, inl, eq-eqb}
use Rattle.aw_list.specs.Members.{Member}
use Rattle.aw_list.proofs.Members.{never, member_left, member_right}
use Rattle.aw_term.specs.Choices.{Choice, Taken}
use Rattle.aw_term.specs.Rules.{Grammar}
use Rattle.aw_term.specs.WellFormed.{Each}
use Rattle.aw_typed.specs.Types.{Types}
use Rattle.aw_typed.specs.TypeFaults.{arg_ok}
use Rattle.aw_apply.specs.Messages.{Message, Received, New, Repeat, Conflict, NotMine, BadName}
use Rattle.aw_law_sites.specs.Choosing.{Chosen, No, Did, choose}
use Rattle.aw_law_sites.specs.Homes.{home}
use Rattle.aw_law_sites.specs.Reacting.{receive}
use Rattle.aw_law_sites.specs.SiteEvents.{Chose, Got, got, all_events}
use Rattle.aw_law_sites.specs.Sites.{Reaction}
use Rattle.aw_law_sites.specs.Worlds.{World, empty_world, site_at, node_of, Answered, IsNew, chosen_at, received_at, deliver_on, Move, Chooses, Delivers, step, MayCome}
use Rattle.aw_law_nodes.specs.Crashes.{Kept, new_kept}
use Rattle.aw_law_nodes.proofs.ListParts.{map-get}
use Rattle.aw_law_journals.specs.Journals.{Entry, of_role, AllFit}
use Rattle.aw_law_system.specs.Systems.{Act, system_after, IsRun}
use Rattle.aw_law_system.specs.Laws.{IsEvent, AreEvents, IsLeft, JournalsAreJoint}

-- a choice that is an event is answered so
took-reply : (w : World) (r : ℕ) (c : Choice) (z : Chosen) → IsEvent (chosen_at w r c z).reply → (chosen_at w r c z).reply ≡ Answered Taken
took-reply w r c (No a) e = ap Answered e
took-reply w r c (Did x) e = refl

-- a delivery that is an event is of a message that is new
got-reply : (w : World) (k to : ℕ) (z : Received Reaction) → IsEvent (received_at w k to z).reply → (received_at w k to z).reply ≡ IsNew
got-reply w k to (New x) e = refl
got-reply w k to Repeat e = never e
got-reply w k to (Conflict a b) e = never e
got-reply w k to NotMine e = never e
got-reply w k to BadName e = never e

got-new : (g : Grammar) (w : World) (k : ℕ) (o : Option Message) → IsEvent (deliver_on g w k o).reply → (m : Message) × (o ≡ Some m) × ((deliver_on g w k o).reply ≡ IsNew)
got-new g w k None e = never e
got-new g w k (Some m) e = (m, refl, got-reply w k m.to (receive g (site_at w m.to) m) e)

-- one entry more
entry-cons : (r : ℕ) (x : Entry) (xs : List Entry) → of_role r (x ∷ xs) ≡ cond (nat_eq x.role r) (x.event ∷ []) [] ++ of_role r xs
entry-cons r x xs = go (nat_eq x.role r)
  where
    go : (b : Bool) → cond b (x.event ∷ of_role r xs) (of_role r xs) ≡ cond b (x.event ∷ []) [] ++ of_role r xs
    go true = refl
    go false = refl

module _ (t : Types) (g : Grammar) where
  -- moves that are events, as entries of journals
  entries : (w : World) (fs : List Move) → AreEvents g w fs → Each (MayCome g) fs → ((c : Choice) → Member (Chose c) (all_events g w (home g (node_of c)) fs) → arg_ok t g c ≡ true)
      → (xs : List Entry) × ((r : ℕ) → of_role r xs ≡ all_events g w r fs) × AllFit t g w xs fs
  entries w [] e k f = ([], λ r. refl, tt)
  entries w (Chooses c ∷ fs) e k f =
      let a = home g (node_of c) in
      let v = (step g w (Chooses c)).world in
      let here : Member (Chose c) (all_events g w a (Chooses c ∷ fs)) =
      member_left (Chose c) (cond (nat_eq a a) (Chose c ∷ []) []) (all_events g v a fs) (subst (λ b. Member (Chose c) (cond b (Chose c ∷ []) [])) (sym (eq-eqb a a refl)) (inl refl)) in
      let (xs, own, fit) = entries v fs e.1 k.1 (λ d i. f d (member_right (Chose d) (cond (nat_eq a (home g (node_of d))) (Chose c ∷ []) []) (all_events g v (home g (node_of d)) fs) i)) in (
        record { role = a; event = Chose c } ∷ xs,
        λ r. entry-cons r (record { role = a; event = Chose c }) xs ∙ ap (λ hs. cond (nat_eq a r) (Chose c ∷ []) [] ++ hs) (own r),
        ((refl, k.0, f c here, refl, took-reply w a c (choose g (site_at w a) c) e.0), fit),
      )
  entries w (Delivers k ∷ fs) e q f =
      let v = (step g w (Delivers k)).world in
      let (m, sent, new) = got-new g w k (slice_get w.messages k) e.0 in
      let (xs, own, fit) = entries v fs e.1 q.1 (λ d i. f d (member_right (Chose d) (got (slice_get w.messages k) (home g (node_of d))) (all_events g v (home g (node_of d)) fs) i)) in (
        record { role = m.to; event = Got m } ∷ xs,
        λ r. entry-cons r (record { role = m.to; event = Got m }) xs ∙ (λ i. got (sym sent i) r ++ own r i),
        ((refl, sent, new), fit),
      )

  pub journals_are_joint : ((as_ : List Act) → IsRun g true as_ → (fs : List Move) × IsLeft g true (system_after g true as_) fs) → JournalsAreJoint t g
  journals_are_joint world as_ run fits =
      let s = system_after g true as_ in
      let (fs, L) = world as_ run in
      let (xs, own, fit) = entries (empty_world g true) fs L.events L.may_come (λ c i. fits c (subst (Member (Chose c)) (L.journals (home g (node_of c))) i)) in
      (fs, L, (xs, λ r. own r ∙ (L.journals r ∙ sym (map-get (λ (k : Kept). k.events) (new_kept false r) s.kept r)), fit))
