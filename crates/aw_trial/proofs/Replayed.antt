-- The events of a trial are a schedule, and settling brings nothing again.
use Rattle.std.proofs.Common.{◌≡◌, ℕ, zero, suc, Bool, cond, true, false, List, [], ◌∷◌, ◌++◌, length, map, Some, None, refl, ap, sym, ◌∙◌, subst, inl, inr, ◌+◌, arith}
use Rattle.std.specs.Prelude.{slice_get, Option, is_some, nat_eq, nat_le, ◌⊎◌}
use Rattle.std.proofs.lemmas.Bool.{and_from}
use Rattle.aw_term.specs.Names.{Node}
use Rattle.aw_term.specs.Rules.{Grammar, get, sort_of}
use Rattle.aw_term.specs.Artifacts.{Words}
use Rattle.aw_term.specs.Choices.{Start, Develop, undivided, or_same}
use Rattle.aw_term.specs.Runs.{artifacts}
use Rattle.aw_term.specs.WellFormed.{Each}
use Rattle.aw_choice.specs.Events.{Event, Chooses, Delivers, Settles}
use Rattle.aw_base.specs.ChoiceFits.{args_ok}
use Rattle.aw_base.specs.NodeNames.{is_start}
use Rattle.aw_law_sites.specs.Laws.{IsAccepted}
use Rattle.aw_standing.specs.Records.{rules_of}
use Rattle.aw_apply.specs.Messages.{Received, Repeat, New}
use Rattle.aw_law_sites.specs.Sites.{Reaction}
use Rattle.aw_law_sites.specs.Reacting.{receive}
use Rattle.aw_law_sites.specs.Worlds as V
use Rattle.aw_law_sites.specs.Worlds.{World, MayCome, empty_world, world_after, undelivered, deliver, deliver_on, received_at, settle, gather, site_at}
use Rattle.aw_law_sites.specs.Bounds.{settled}
use Rattle.aw_law_sites.specs.Outputs.{MayStand, after_event, after_events, all_moves, all_lines}
use Rattle.aw_world.specs.Opened.{open_nodes}
use Rattle.aw_law_worlds.proofs.Headlining.{events_run, events_may, headline_law}
use Rattle.aw_law_worlds.proofs.Settling.{run_both}
use Rattle.aw_law_worlds.proofs.WorldLaws.{knowledge_law, repeats_law, quiet_law, bound_law, settle_law, invariant_law}
use Rattle.aw_trial.proofs.Steps.{rules_declared}
use Rattle.aw_trial.specs.Counts.{config_of}
use Rattle.aw_trial.specs.Laws.{SettlesFresh, after_turns, schedule_of, AreReplayed}
use Rattle.aw_trial.specs.Draws.{next_below, drew}
use Rattle.aw_trial.specs.declared.tally.Tally.{Tally}
use Rattle.aw_trial.specs.Turns.{State, start_case, argument_for, drew_argument, params_of, develop, rules_for, among_rules, among_nodes, choose_some, among_messages, deliver_some, turn_on}

-- ---- lists of events
after_more : (g : Grammar) (v : World) (es : List Event) (e : Event) → after_events g v (es ++ e ∷ []) ≡ after_event g (after_events g v es) e
after_more g v [] e = refl
after_more g v (x ∷ es) e = after_more g (after_event g v x) es e

each_more : (P : Event → Type 0) (es : List Event) (e : Event) → Each P es → P e → Each P (es ++ e ∷ [])
each_more P [] e all here = (here, tt)
each_more P (x ∷ es) e all here = (all.0, each_more P es e all.1 here)

-- ---- the events so far may stand in a schedule, and lead to the world
record IsDrawn (g : Grammar) (s : State) : Type 0 where
  may : Each (MayStand g) s.events
  world : after_events g (empty_world g false) s.events ≡ s.world

adds : (g : Grammar) (s : State) (e : Event) (t : Tally) → IsDrawn g s → MayStand g e → IsDrawn g (record { world = after_event g s.world e; tally = t; events = s.events ++ e ∷ [] })
adds g s e t d here = record {
  may = each_more (MayStand g) s.events e d.may here;
  world = after_more g (empty_world g false) s.events e ∙ ap (λ v. after_event g v e) d.world;
}

counts : (g : Grammar) (s : State) (t : Tally) → IsDrawn g s → IsDrawn g (record s { tally = t })
counts g s t d = record { may = d.may; world = d.world }

args_fit : (g : Grammar) (p : ℕ) (t : Tally) → args_ok g (argument_for p t) ≡ true
args_fit g zero t = refl
args_fit g (suc p) t = refl

develops : (g : Grammar) (n : Node) (r : ℕ) (s : State) → is_some (sort_of g n) ≡ true → is_some (slice_get g.rules r) ≡ true → IsDrawn g s → IsDrawn g (develop g n r s)
develops g n r s named declared d =
    adds g (record s { tally = drew_argument (params_of (slice_get g.rules r)) s.tally }) (Chooses (Develop n r (argument_for (params_of (slice_get g.rules r)) s.tally))) _ (counts g s _ d)
    (and_from _ _ named (and_from _ _ declared (args_fit g (params_of (slice_get g.rules r)) s.tally)))

get_all : {A : Type 0} (P : A → Type 0) (x : A) (xs : List A) (i : ℕ) → P x → ((j : ℕ) (y : A) → slice_get xs j ≡ Some y → P y) → P (get x xs i)
get_all P x [] i here all = here
get_all P x (y ∷ xs) zero here all = all 0 y refl
get_all P x (y ∷ xs) (suc i) here all = get_all P x xs i here (λ j. all (suc j))

picks_rule : (g : Grammar) (n : Node) (rules : List ℕ) (s : State) → is_some (sort_of g n) ≡ true → ((i r : ℕ) → slice_get rules i ≡ Some r → is_some (slice_get g.rules r) ≡ true)
    → IsDrawn g s → IsDrawn g (among_rules g n rules s)
picks_rule g n [] s named all d = d
picks_rule g n (r ∷ rs) s named all d =
    develops g n (get r (r ∷ rs) (next_below (suc (length rs)) s.tally)) (record s { tally = drew s.tally }) named
    (get_all (λ r. is_some (slice_get g.rules r) ≡ true) r (r ∷ rs) (next_below (suc (length rs)) s.tally) (all 0 r refl) all) (counts g s _ d)

of_sort : (g : Grammar) (n : Node) (o : Option ℕ) (s : State) → sort_of g n ≡ o → IsDrawn g s → IsDrawn g (among_rules g n (rules_for g o) s)
of_sort g n None s e d = d
of_sort g n (Some k) s e d = picks_rule g n (rules_of k 0 g.rules) s (ap is_some e) (rules_declared k g.rules (rules_of k 0 g.rules) refl) d

picks_node : (g : Grammar) (nodes : List Node) (s : State) → IsDrawn g s → IsDrawn g (among_nodes g nodes s)
picks_node g [] s d = d
picks_node g (n ∷ ns) s d =
    let m = get n (n ∷ ns) (next_below (suc (length ns)) s.tally) in
    of_sort g m (sort_of g m) (record s { tally = drew s.tally }) refl (counts g s _ d)

picks_message : (g : Grammar) (m : ℕ) (s : State) → IsDrawn g s → IsDrawn g (among_messages g m s)
picks_message g zero s d = d
picks_message g (suc m) s d = adds g s (Delivers (next_below (suc m) s.tally)) _ d tt

module _ (g : Grammar) (start : is_start (slice_get g.sorts 0) ≡ true) where
  turns_on : (k : ℕ) (s : State) → IsDrawn g s → IsDrawn g (turn_on g k s)
  turns_on k s d = first (nat_eq k 0) (nat_le k 3)
    where
      first : (a b : Bool) → IsDrawn g (cond a (start_case g s) (cond b (choose_some g s) (deliver_some g s)))
      first true b = adds g s (Chooses (Start 0 s.tally.starts)) _ d start
      first false true = picks_node g (open_nodes (gather s.world.sites)) s d
      first false false = picks_message g (length s.world.messages) s d

  all_drawn : (count n : ℕ) → IsDrawn g (after_turns g count n)
  all_drawn zero n = record { may = tt; world = refl }
  all_drawn (suc count) n =
      let s = after_turns g count n in
      turns_on (next_below 8 s.tally) (record s { tally = drew s.tally }) (counts g s _ (all_drawn count n))

-- ---- the replay of these events
module _ (words : Words) (g : Grammar) (accepted : IsAccepted words g) where
  -- once it is settled, it is quiet
  quiet_then : (v : World) (es : List V.Move) → Each (MayCome g) es → world_after g false es ≡ v → V.IsQuiet (settled g v)
  quiet_then v es may e = subst (λ x. V.IsQuiet (settled g x)) e (bound_law words g accepted false es may).1

  there : (v : World) (es : List V.Move) → Each (MayCome g) es → world_after g false es ≡ v → undivided g [] v.taken ≡ Some (config_of g v)
  there v es may e =
      let (c, same, h) = quiet_law words g accepted false es may in
      let same' : undivided g [] v.taken ≡ Some c = ap (λ (x : World). undivided g [] x.taken) (sym e) ∙ same in
      same' ∙ ap Some (sym (ap (or_same []) same'))

  pub are_replayed : AreReplayed words g
  are_replayed start count n =
      let s = after_turns g count n in
      let d = all_drawn g start count n in
      let es = schedule_of g count n in
      let v0 = empty_world g false in
      let stand : Each (MayStand g) es = each_more (MayStand g) s.events Settles d.may tt in
      let ends : after_events g v0 es ≡ settled g s.world = after_more g v0 s.events Settles ∙ ap (settled g) d.world in
      let moves = all_moves g v0 es in
      let may : Each (MayCome g) moves = events_may g v0 es stand in
      let run_all : world_after g false moves ≡ after_events g v0 es = events_run g v0 es in
      let before : world_after g false (all_moves g v0 s.events) ≡ s.world = events_run g v0 s.events ∙ d.world in
      let quiet : V.IsQuiet (after_events g v0 es) = subst V.IsQuiet (sym ends) (quiet_then s.world (all_moves g v0 s.events) (events_may g v0 s.events d.may) before) in
      let config : undivided g [] (after_events g v0 es).taken ≡ Some (config_of g (after_events g v0 es)) = there (after_events g v0 es) moves may run_all in
      record {
        stand = stand;
        world = ends;
        output =
            (headline_law words g accepted false es stand).any_order quiet (after_events g v0 es).taken ((λ c m. m), (λ c m. m)) (config_of g (after_events g v0 es)) config
            ∙ ap (λ v. all_lines words g v0 es ++ artifacts words (config_of g v)) ends;
      }

-- ---- settling
-- the first that is not set is not set
first_open : (i : ℕ) (bs : List Bool) (k : ℕ) → V.first_false i bs ≡ Some k → (j : ℕ) × (k ≡ i + j) × (slice_get bs j ≡ Some false)
first_open i [] k e = absurd cc
first_open i (true ∷ bs) k e = let (j, l, f) = first_open (suc i) bs k e in (suc j, omega (arith, l), f)
first_open i (false ∷ bs) k e = let same : i ≡ k = cc in (0, omega (arith, same), refl)

open_there : (v : World) (k : ℕ) → undelivered v ≡ Some k → slice_get v.delivered k ≡ Some false
open_there v k e = let (j, l, f) = first_open 0 v.delivered k e in
    let same : k ≡ j = omega (arith, l) in
    ap (slice_get v.delivered) same ∙ f

at_place : {A B : Type 0} (xs : List A) (ys : List B) (i : ℕ) (y : B) → length ys ≡ length xs → slice_get ys i ≡ Some y → (x : A) × (slice_get xs i ≡ Some x)
at_place [] [] i y l e = absurd cc
at_place [] (b ∷ ys) i y l e = absurd (omega (arith, l))
at_place (a ∷ xs) [] i y l e = absurd (omega (arith, l))
at_place (a ∷ xs) (b ∷ ys) zero y l e = (a, refl)
at_place (a ∷ xs) (b ∷ ys) (suc i) y l e = at_place xs ys i y (omega (arith, l)) e

new_at : (v : World) (k to : ℕ) (r : Received Reaction) → (x : Reaction) × (r ≡ New x) → (received_at v k to r).reply ≡ V.IsNew
new_at v k to r (x, e) = ap (λ y. (received_at v k to y).reply) e

module _ (words : Words) (g : Grammar) (accepted : IsAccepted words g) where
  fresh_at : (es : List V.Move) → Each (MayCome g) es → (k : ℕ) → undelivered (world_after g false es) ≡ Some k → (deliver g (world_after g false es) k).reply ≡ V.IsNew
  fresh_at es may k e =
      let v = world_after g false es in
      let (x, I) = invariant_law words g accepted false es may in
      let stands = open_there v k e in
      let (m, sent) = at_place v.messages v.delivered k false I.marks stands in
      let known : (receive g (site_at v m.to) m ≡ Repeat) ⊎ ((y : Reaction) × (receive g (site_at v m.to) m ≡ New y)) = knowledge_law words g accepted false es may k m sent in
      let unknown : receive g (site_at v m.to) m ≡ Repeat → ⊥ = λ rep.
      let done = (repeats_law words g accepted false es may k m sent).1 refl rep in
      let z : Some false ≡ Some true = sym stands ∙ done in absurd cc in
      ap (λ o. (deliver_on g v k o).reply) sent
      ∙ new_at v k m.to (receive g (site_at v m.to) m) (elim known [
        | inl rep ↦ absurd (unknown rep)
        | inr new ↦ new
      ])

  delivers_may : (ks : List ℕ) → Each (MayCome g) (map V.Delivers ks)
  delivers_may [] = tt
  delivers_may (k ∷ ks) = (tt, delivers_may ks)

  each_both : (es fs : List V.Move) → Each (MayCome g) es → Each (MayCome g) fs → Each (MayCome g) (es ++ fs)
  each_both [] fs a b = b
  each_both (e ∷ es) fs a b = (a.0, each_both es fs a.1 b)

  pub settles_fresh : SettlesFresh g
  settles_fresh es may n k e =
      let v = world_after g false es in
      let (ks, same) = settle_law g n v in
      let all = es ++ map V.Delivers ks in
      let led : settle n g v ≡ world_after g false all = same ∙ sym (run_both g (empty_world g false) es (map V.Delivers ks)) in
      let there = fresh_at all (each_both es (map V.Delivers ks) may (delivers_may ks)) k (ap undelivered (sym led) ∙ e) in
      ap (λ w. (deliver g w k).reply) led ∙ there
