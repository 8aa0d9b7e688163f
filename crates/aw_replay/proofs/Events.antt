-- A list of events, one after the other.
use Rattle.std.proofs.Common.{◌≡◌, ℕ, zero, suc, ◌+◌, ◌<◌, arith, List, [], ◌∷◌, ◌++◌, length, take, drop, map, get_or, ap, sym, ◌∙◌, refl, subst}
use Rattle.aw_term.specs.Rules.{Grammar}
use Rattle.aw_term.specs.Artifacts.{Words}
use Rattle.aw_term.specs.WellFormed.{Each}
use Rattle.aw_law_sites.specs.Worlds.{World, Move, run, step}
use Rattle.aw_sched.specs.declared.event.Event.{Event}
use Rattle.aw_sched.specs.declared.event.Event.TheVariants.{Choose, Deliver, Settle, List as List_}
use Rattle.aw_sched.specs.Answers.{event_seen, MayCome}
use Rattle.aw_law_sites.specs.Outputs.{MayStand, after_event, after_events, event_lines, all_lines, moves_of, all_moves}
use Rattle.aw_choice.specs.Events as P
use Rattle.aw_law_worlds.proofs.Headlining.{event_runs, events_run}

pub each_here : (Q : Event → Type 0) (es : List Event) (i : ℕ) (e : Event) → i < length es → e ≡ get_or es i e → Each Q es → Q e
each_here Q [] i e l s a = absurd (omega (arith, l))
each_here Q (x ∷ es) zero e l s a = subst Q (sym s) a.0
each_here Q (x ∷ es) (suc i) e l s a = each_here Q es i e (omega (arith, l)) s a.1

-- what may be read in a schedule may stand among events
may_stand : (g : Grammar) (e : Event) → MayCome g e → MayStand g (event_seen e)
may_stand g (Choose c) m = m
may_stand g (Deliver k) m = tt
may_stand g Settle m = tt
may_stand g (List_ role) m = tt

pub all_may_stand : (g : Grammar) (es : List Event) → Each (MayCome g) es → Each (MayStand g) (map event_seen es)
all_may_stand g [] m = tt
all_may_stand g (e ∷ es) m = (may_stand g e m.0, all_may_stand g es m.1)

-- one event more was done
pub events_more : (g : Grammar) (v : World) (es : List Event) (i j : ℕ) (e : Event) → j ≡ i + 1 → i < length es → e ≡ get_or es i e
    → after_event g (after_events g v (map event_seen (take i es))) (event_seen e) ≡ after_events g v (map event_seen (take j es))
events_more g v [] i j e n l s = absurd (omega (arith, l))
events_more g v (x ∷ es) zero zero e n l s = absurd (omega (arith, n))
events_more g v (x ∷ es) zero (suc zero) e n l s = ap (λ z. after_event g v (event_seen z)) s
events_more g v (x ∷ es) zero (suc (suc j)) e n l s = absurd (omega (arith, n))
events_more g v (x ∷ es) (suc i) zero e n l s = absurd (omega (arith, n))
events_more g v (x ∷ es) (suc i) (suc j) e n l s = events_more g (after_event g v (event_seen x)) es i j e (omega (arith, n)) (omega (arith, l)) s

-- the lines of one event stand in front of those behind it
pub lines_drop : (w : Words) (g : Grammar) (u : World) (es : List Event) (i j : ℕ) (e : Event) → j ≡ i + 1 → i < length es → e ≡ get_or es i e
    → all_lines w g u (map event_seen (drop i es)) ≡ event_lines w g u (event_seen e) ++ all_lines w g (after_event g u (event_seen e)) (map event_seen (drop j es))
lines_drop w g u [] i j e n l s = absurd (omega (arith, l))
lines_drop w g u (x ∷ es) zero zero e n l s = absurd (omega (arith, n))
lines_drop w g u (x ∷ es) zero (suc zero) e n l s = ap (λ z. event_lines w g u (event_seen z) ++ all_lines w g (after_event g u (event_seen z)) (map event_seen es)) (sym s)
lines_drop w g u (x ∷ es) zero (suc (suc j)) e n l s = absurd (omega (arith, n))
lines_drop w g u (x ∷ es) (suc i) zero e n l s = absurd (omega (arith, n))
lines_drop w g u (x ∷ es) (suc i) (suc j) e n l s = lines_drop w g u es i j e (omega (arith, n)) (omega (arith, l)) s

abbrev no_moves : List Move
no_moves = []

none_taken : (m : ℕ) → take m no_moves ≡ no_moves
none_taken zero = refl
none_taken (suc m) = refl

front : (as' bs : List Move) (m : ℕ) → (n : ℕ) × (take n (as' ++ bs) ≡ take m as')
front [] bs m = (0, sym (none_taken m))
front (a ∷ as') bs zero = (0, refl)
front (a ∷ as') bs (suc m) = let (n, e) = front as' bs m in (suc n, ap (λ z. a ∷ z) e)

behind : (g : Grammar) (v : World) (as' bs : List Move) (n : ℕ) → (k : ℕ) × (run g v (take k (as' ++ bs)) ≡ run g (run g v as') (take n bs))
behind g v [] bs n = (n, refl)
behind g v (a ∷ as') bs n = let (k, e) = behind g (step g v a).world as' bs n in (suc k, e)

pub all_taken : (as' : List Move) → (n : ℕ) × (take n as' ≡ as')
all_taken [] = (0, refl)
all_taken (a ∷ as') = let (n, e) = all_taken as' in (suc n, ap (λ z. a ∷ z) e)

-- some first moves of an event behind others
pub last_some : (g : Grammar) (v : World) (es : List P.Event) (e : P.Event) (m : ℕ)
    → (n : ℕ) × (run g v (take n (all_moves g v (es ++ e ∷ []))) ≡ run g (after_events g v es) (take m (moves_of g (after_events g v es) e)))
last_some g v [] e m = let (n, q) = front (moves_of g v e) [] m in (n, ap (run g v) q)
last_some g v (x ∷ es) e m =
    let u = after_event g v x in
    let (n, q) = last_some g u es e m in
    let (k, r) = behind g v (moves_of g v x) (all_moves g u (es ++ e ∷ [])) n in
    (k, r ∙ ap (λ z. run g z (take n (all_moves g u (es ++ e ∷ [])))) (event_runs g v x) ∙ q)

-- all moves of events
pub all_some : (g : Grammar) (v : World) (es : List P.Event) → (n : ℕ) × (run g v (take n (all_moves g v es)) ≡ after_events g v es)
all_some g v es = let (n, q) = all_taken (all_moves g v es) in (n, ap (run g v) q ∙ events_run g v es)

-- some first moves of one event, after those of the events before it
pub some_before : (g : Grammar) (v : World) (es : List Event) (i : ℕ) (e : Event) → i < length es → e ≡ get_or es i e → (m : ℕ)
    → (n : ℕ) × (run g v (take n (all_moves g v (map event_seen es))) ≡ run g (after_events g v (map event_seen (take i es)))
    (take m (moves_of g (after_events g v (map event_seen (take i es))) (event_seen e))))
some_before g v [] i e l s m = absurd (omega (arith, l))
some_before g v (x ∷ es) zero e l s m =
    let (n, q) = front (moves_of g v (event_seen x)) (all_moves g (after_event g v (event_seen x)) (map event_seen es)) m in
    (n, ap (run g v) q ∙ ap (λ z. run g v (take m (moves_of g v (event_seen z)))) (sym s))
some_before g v (x ∷ es) (suc i) e l s m =
    let u = after_event g v (event_seen x) in
    let (n, q) = some_before g u es i e (omega (arith, l)) s m in
    let (k, r) = behind g v (moves_of g v (event_seen x)) (all_moves g u (map event_seen es)) n in
    (k, r ∙ ap (λ z. run g z (take n (all_moves g u (map event_seen es)))) (event_runs g v (event_seen x)) ∙ q)
