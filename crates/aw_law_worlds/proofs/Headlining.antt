-- What holds of the output of events, from the laws of worlds.
use Rattle.std.proofs.Common.{◌≡◌, ℕ, zero, suc, ◌+◌, arith, List, [], ◌∷◌, ◌++◌, Option, Some, None, ap, sym, ◌∙◌, refl, subst, inl, inr}
use Rattle.std.specs.Prelude.{take, drop, ◌⊎◌}
use Rattle.aw_list.specs.Members.{Member}
use Rattle.aw_list.proofs.Members.{never}
use Rattle.aw_term.specs.Rules.{Grammar}
use Rattle.aw_term.specs.Trees.{Never}
use Rattle.aw_term.specs.WellFormed.{Each}
use Rattle.aw_term.specs.Choices.{Start, Develop, Developed, Refused, Takes, undivided, answer}
use Rattle.aw_term.specs.Artifacts.{Words}
use Rattle.aw_term.specs.Names.{root}
use Rattle.aw_term.proofs.Eaches.{each_append, each_right}
use Rattle.aw_choice.specs.Events.{Event, Chooses, Delivers, Settles, Lists}
use Rattle.aw_accept.proofs.Fitting.{given_of}
use Rattle.aw_law_sites.specs.Laws.{IsAccepted}
use Rattle.aw_law_sites.proofs.Entering.{variables_enter}
use Rattle.aw_law_sites.proofs.SameConfigs.{same_configuration}
use Rattle.aw_law_sites.specs.Homes.{home}
use Rattle.aw_law_sites.specs.Choosing.{outcome}
use Rattle.aw_law_sites.specs.Worlds.{World, Move, MayCome, step, deliver, settle, undelivered, empty_world, run, site_at}
use Rattle.aw_law_sites.specs.Bounds.{bound_of}
use Rattle.aw_law_sites.specs.Outputs.{after_event, after_events, all_lines, artifacts_on, ending_on, settle_moves, moves_of, all_moves, MayStand}
use Rattle.aw_law_worlds.specs.Headline.{OutputsHold, EventsAreMoves}
use Rattle.aw_law_worlds.proofs.Settling.{run_both}
use Rattle.aw_law_worlds.proofs.WorldLaws.{rule_law, start_law, stays_law, homes_law, circle_law, bound_law, answers_law, headline}
use Rattle.aw_law_worlds.proofs.Arriving.{answered_by_arrivals}
use Rattle.aw_law_worlds.specs.Holding.{EquationsStay, NodesStay}
use Rattle.aw_law_sites.specs.Worlds as V

settle_on : (g : Grammar) (n : ℕ) (v : World) → ((u : World) → run g u (settle_moves n g u) ≡ settle n g u) → (o : Option ℕ)
    → run g v (elim o [ None ↦ [] | Some k ↦ V.Delivers k ∷ settle_moves n g (deliver g v k).world ]) ≡ elim o [ None ↦ v | Some k ↦ settle n g (deliver g v k).world ]
settle_on g n v h None = refl
settle_on g n v h (Some k) = h (deliver g v k).world

settle_runs : (g : Grammar) (n : ℕ) (v : World) → run g v (settle_moves n g v) ≡ settle n g v
settle_runs g zero v = refl
settle_runs g (suc n) v = settle_on g n v (λ u. settle_runs g n u) (undelivered v)

pub event_runs : (g : Grammar) (v : World) (e : Event) → run g v (moves_of g v e) ≡ after_event g v e
event_runs g v (Chooses c) = refl
event_runs g v (Delivers k) = refl
event_runs g v Settles = settle_runs g (bound_of g v.taken) v
event_runs g v (Lists role) = refl

-- events are their choices and deliveries
pub events_run : (g : Grammar) → EventsAreMoves g
events_run g v [] = refl
events_run g v (e ∷ es) =
    run_both g v (moves_of g v e) (all_moves g (after_event g v e) es)
    ∙ ap (λ u. run g u (all_moves g (after_event g v e) es)) (event_runs g v e) ∙ events_run g (after_event g v e) es

settle_may_on : (g : Grammar) (n : ℕ) (v : World) → ((u : World) → Each (MayCome g) (settle_moves n g u)) → (o : Option ℕ)
    → Each (MayCome g) (elim o [ None ↦ [] | Some k ↦ V.Delivers k ∷ settle_moves n g (deliver g v k).world ])
settle_may_on g n v h None = tt
settle_may_on g n v h (Some k) = (tt, h (deliver g v k).world)

settle_may : (g : Grammar) (n : ℕ) (v : World) → Each (MayCome g) (settle_moves n g v)
settle_may g zero v = tt
settle_may g (suc n) v = settle_may_on g n v (λ u. settle_may g n u) (undelivered v)

pub event_may : (g : Grammar) (v : World) (e : Event) → MayStand g e → Each (MayCome g) (moves_of g v e)
event_may g v (Chooses c) m = (m, tt)
event_may g v (Delivers k) m = (tt, tt)
event_may g v Settles m = settle_may g (bound_of g v.taken) v
event_may g v (Lists role) m = tt

pub events_may : (g : Grammar) (v : World) (es : List Event) → Each (MayStand g) es → Each (MayCome g) (all_moves g v es)
events_may g v [] m = tt
events_may g v (e ∷ es) m = each_append (MayCome g) (moves_of g v e) _ (event_may g v e m.0) (events_may g (after_event g v e) es m.1)

pub each_take : {A : Type 0} (P : A → Type 0) (n : ℕ) (es : List A) → Each P es → Each P (take n es)
each_take P zero es a = tt
each_take P (suc n) [] a = tt
each_take P (suc n) (e ∷ es) a = (a.0, each_take P n es a.1)

pub each_drop : {A : Type 0} (P : A → Type 0) (n : ℕ) (es : List A) → Each P es → Each P (drop n es)
each_drop P zero es a = a
each_drop P (suc n) [] a = tt
each_drop P (suc n) (e ∷ es) a = each_drop P n es a.1

take_none : {A : Type 0} (k : ℕ) (xs : List A) → xs ≡ [] → take k xs ≡ []
take_none zero xs e = refl
take_none (suc k) [] e = refl
take_none (suc k) (x ∷ xs) e = absurd cc

-- the first n, and k of those behind them
take_sum : {A : Type 0} (n k m : ℕ) (xs : List A) → m ≡ n + k → take m xs ≡ take n xs ++ take k (drop n xs)
take_sum zero k m xs e = let same : m ≡ k = omega (arith, e) in ap (λ i. take i xs) same
take_sum (suc n) k zero xs e = absurd (omega (arith, e))
take_sum (suc n) k (suc m) [] e = sym (take_none k [] refl)
take_sum (suc n) k (suc m) (x ∷ xs) e = ap (λ ys. x ∷ ys) (take_sum n k m xs (omega (arith, e)))

-- one more of these moves, or none is left
take_more : (P : Move → Type 0) (g : Grammar) (v : World) (n : ℕ) (es : List Move) → Each P es
    → ((e : Move) × P e × Member e (take (suc n) es) × (run g v (take (suc n) es) ≡ (step g (run g v (take n es)) e).world)) ⊎ (run g v (take (suc n) es) ≡ run g v (take n es))
take_more P g v zero [] a = inr refl
take_more P g v zero (e ∷ es) a = inl (e, a.0, inl refl, refl)
take_more P g v (suc n) [] a = inr refl
take_more P g v (suc n) (e ∷ es) a = elim (take_more P g (step g v e).world n es a.1) [
  | inl z ↦ inl (z.0, z.1, inr z.2, z.3)
  | inr z ↦ inr z
]

not_here : {e x : Move} (ms : List Move) → Member e ms → (Member x ms → Never) → Member x (e ∷ []) → Never
not_here {e} {x} ms m n (inl p) = n (subst (λ z. Member z ms) (sym p) m)
not_here {e} {x} ms m n (inr i) = never i

pub headline_law : (w : Words) (g : Grammar) → IsAccepted w g → OutputsHold w g
headline_law w g accepted loads es may =
    let start = empty_world g loads in
    let moves = all_moves g start es in
    let ok = events_may g start es may in
    record {
      acyclic = λ n. let (c, e, i, f) = headline w g accepted loads (take n moves) (each_take (MayCome g) n moves ok) in (c, e, i);
      enabled = λ n a node r args rule bound e.
          elim (take_more (MayCome g) g start n moves ok) [
            | inl s ↦ subst (λ v. (outcome g (site_at v a) (Develop node r args) ≡ Takes rule bound) ⊎ (outcome g (site_at v a) (Develop node r args) ≡ Refused Developed)) (sym s.3)
                (rule_law w g accepted loads (take n moves) (each_take (MayCome g) n moves ok) (s.0 ∷ []) (s.1, tt) a node r args rule bound e)
            | inr s ↦ inl (ap (λ v. outcome g (site_at v a) (Develop node r args)) s ∙ e)
          ];
      started = λ n s k e none.
          elim (take_more (MayCome g) g start n moves ok) [
            | inl z ↦ ap (λ v. outcome g (site_at v (home g (root s k))) (Start s k)) z.3
                ∙ start_law w g accepted loads (take n moves) (each_take (MayCome g) n moves ok) (z.0 ∷ []) (z.1, tt) s k e (not_here (take (suc n) moves) z.2 none)
            | inr z ↦ ap (λ v. outcome g (site_at v (home g (root s k))) (Start s k)) z ∙ e
          ];
      any_order = λ quiet ds same d u.
          let z = events_run g start es in
          let (c, e, i, f) = headline w g accepted loads moves ok in
          let e' : undivided g [] (after_events g start es).taken ≡ Some c = ap (λ v. undivided g [] v.taken) (sym z) ∙ e in
          let k : c ≡ d = same_configuration g (given_of w g accepted.0) (variables_enter w g accepted.0) accepted.1 (after_events g start es).taken ds same.0 same.1 c d e' u in
          ap (λ t. all_lines w g start es ++ t) (ap (ending_on w g (after_events g start es)) quiet ∙ ap (artifacts_on w) (e' ∙ ap Some k));
      merged = λ n quiet ds same d u. let (c, e, i, f) = headline w g accepted loads (take n moves) (each_take (MayCome g) n moves ok) in f quiet ds same d u;
      answers = λ n quiet d u x.
          let (c, e, f) = answers_law w g accepted loads (take n moves) (each_take (MayCome g) n moves ok) in
          let p : c ≡ d = cc (e, u) in
          f quiet x ∙ ap (λ q. answer g q x) p;
      arrived = λ before behind c is.
          answered_by_arrivals w g loads before c (events_run g) (homes_law w g accepted c (each_right (MayStand g) before (Chooses c ∷ behind) (subst (Each (MayStand g)) is may)).0);
      stays = λ n k a.
          let now = run g start (take n moves) in
          let behind = take k (drop n moves) in
          let later : run g start (take (n + k) moves) ≡ run g now behind = ap (run g start) (take_sum n k (n + k) moves refl) ∙ run_both g start (take n moves) behind in
          subst (λ v. EquationsStay (site_at now a).equations (site_at v a).equations × NodesStay (site_at now a).held (site_at v a).held) (sym later)
          (stays_law w g accepted loads (take n moves) (each_take (MayCome g) n moves ok) behind (each_take (MayCome g) k (drop n moves) (each_drop (MayCome g) n moves ok)) a);
      no_circle = λ n. circle_law w g accepted loads (take n moves) (each_take (MayCome g) n moves ok);
      bounded = λ n. (bound_law w g accepted loads (take n moves) (each_take (MayCome g) n moves ok)).0;
    }
