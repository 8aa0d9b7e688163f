-- The choices among events that were read fit, and so do those of them that are taken.
use Rattle.std.proofs.Common.{◌≡◌, ℕ, zero, suc, List, [], ◌∷◌, map, take, Bool, Option, Some, None, true, refl, sym, ap, ◌∙◌, subst}
use Rattle.std.specs.Prelude.{option_and_then}
use Rattle.aw_term.specs.Rules.{Grammar}
use Rattle.aw_term.specs.Configs.{Config}
use Rattle.aw_term.specs.Choices.{Choice, outcome, taken, or_same, undivided}
use Rattle.aw_term.specs.Artifacts.{Words}
use Rattle.aw_term.specs.Runs.{after_all}
use Rattle.aw_term.specs.WellFormed.{Each, IsWellFormed}
use Rattle.aw_term.proofs.Eaches.{each_append}
use Rattle.aw_base.specs.ChoiceFits.{choice_ok}
use Rattle.aw_choice.specs.Events as E
use Rattle.aw_typed.specs.Types.{Types, AreFor}
use Rattle.aw_typed.specs.TypeFaults.{type_fault, arg_ok}
use Rattle.aw_typed.specs.WellTyped.{AreFitting, IsWellTyped}
use Rattle.aw_typed.proofs.TypedRuns.{all_well_typed}
use Rattle.aw_sched.specs.declared.event.Event.{Event}
use Rattle.aw_sched.specs.declared.event.Event.TheVariants.{Choose, Deliver, Settle, List as Lists}
use Rattle.aw_sched.specs.Answers.{event_seen, MayCome, HasTypes}
use Rattle.aw_law_sites.specs.Homes.{home}
use Rattle.aw_law_sites.specs.Choosing.{Chosen, No, Did, choose}
use Rattle.aw_law_sites.specs.Worlds.{World, Move, Chooses, Delivers, chosen_at, node_of, site_at, step, deliver, undelivered, empty_world, run}
use Rattle.aw_law_sites.specs.Bounds.{bound_of}
use Rattle.aw_law_sites.specs.Outputs.{after_event, settle_moves, moves_of, all_moves, moment}
use Rattle.aw_law_worlds.proofs.Headlining.{each_take}
use Rattle.aw_law_worlds.proofs.Settling.{deliver_taken}
use Rattle.aw_replay.specs.ChoicesIn.{choices_in}

-- a choice may be asked, and its arguments fit
abbrev pub Fits : Types → Grammar → Choice → Type 0
Fits t g x = (choice_ok g x ≡ true) × (arg_ok t g x ≡ true)

pub read_fit : (t : Types) (g : Grammar) (es : List Event) → Each (MayCome g) es → Each (HasTypes t g) es → AreFitting t g (choices_in (map event_seen es))
read_fit t g [] may fit = tt
read_fit t g (Choose x ∷ es) may fit = ((may.0, fit.0), read_fit t g es may.1 fit.1)
read_fit t g (Deliver k ∷ es) may fit = read_fit t g es may.1 fit.1
read_fit t g (Settle ∷ es) may fit = read_fit t g es may.1 fit.1
read_fit t g (Lists role ∷ es) may fit = read_fit t g es may.1 fit.1

-- ---- the undivided run takes some of its choices
abbrev TakesSome : Grammar → Config → (Choice → Type 0) → Config → Type 0
TakesSome g c Q d = (ys : List Choice) × Each Q ys × (undivided g c ys ≡ Some d)

taken_on : (g : Grammar) (c : Config) (x : Choice) (xs : List Choice) (Q : Choice → Type 0) → Q x → ((d : Config) → TakesSome g d Q (after_all g d xs)) →
    (o : Option Config) → taken g c x (outcome g c x) ≡ o → TakesSome g c Q (after_all g (or_same c o) xs)
taken_on g c x xs Q q rest None e = rest c
taken_on g c x xs Q q rest (Some d) e = let (ys, a, u) = rest d in (x ∷ ys, (q, a), ap (option_and_then (λ d. undivided g d ys)) e ∙ u)

takes_some : (g : Grammar) (c : Config) (xs : List Choice) (Q : Choice → Type 0) → Each Q xs → TakesSome g c Q (after_all g c xs)
takes_some g c [] Q all = ([], tt, refl)
takes_some g c (x ∷ xs) Q all = taken_on g c x xs Q all.0 (λ d. takes_some g d xs Q all.1) (taken g c x (outcome g c x)) refl

-- ---- what is taken in a world is among the choices made
abbrev Has : (Choice → Type 0) → Move → Type 0
Has Q (Chooses x) = Q x
Has Q (Delivers k) = Unit {0}

settle_on : (g : Grammar) (Q : Choice → Type 0) (n : ℕ) (v : World) → ((u : World) → Each (Has Q) (settle_moves n g u)) → (o : Option ℕ)
    → Each (Has Q) (elim o [ None ↦ [] | Some k ↦ Delivers k ∷ settle_moves n g (deliver g v k).world ])
settle_on g Q n v h None = tt
settle_on g Q n v h (Some k) = (tt, h (deliver g v k).world)

settle_has : (g : Grammar) (Q : Choice → Type 0) (n : ℕ) (v : World) → Each (Has Q) (settle_moves n g v)
settle_has g Q zero v = tt
settle_has g Q (suc n) v = settle_on g Q n v (λ u. settle_has g Q n u) (undelivered v)

moves_have : (g : Grammar) (Q : Choice → Type 0) (v : World) (es : List E.Event) → Each Q (choices_in es) → Each (Has Q) (all_moves g v es)
moves_have g Q v [] all = tt
moves_have g Q v (E.Chooses x ∷ es) all = (all.0, moves_have g Q (after_event g v (E.Chooses x)) es all.1)
moves_have g Q v (E.Delivers k ∷ es) all = (tt, moves_have g Q (after_event g v (E.Delivers k)) es all)
moves_have g Q v (E.Settles ∷ es) all = each_append (Has Q) (moves_of g v E.Settles) _ (settle_has g Q (bound_of g v.taken) v) (moves_have g Q (after_event g v E.Settles) es all)
moves_have g Q v (E.Lists role ∷ es) all = moves_have g Q v es all

chosen_has : (Q : Choice → Type 0) (v : World) (role : ℕ) (x : Choice) (o : Chosen) → Q x → Each Q v.taken → Each Q (chosen_at v role x o).world.taken
chosen_has Q v role x (No a) q all = all
chosen_has Q v role x (Did r) q all = each_append Q v.taken (x ∷ []) all (q, tt)

run_has : (g : Grammar) (Q : Choice → Type 0) (v : World) (ms : List Move) → Each (Has Q) ms → Each Q v.taken → Each Q (run g v ms).taken
run_has g Q v [] moves all = all
run_has g Q v (Chooses x ∷ ms) moves all =
    run_has g Q (step g v (Chooses x)).world ms moves.1 (chosen_has Q v (home g (node_of x)) x (choose g (site_at v (home g (node_of x))) x) moves.0 all)
run_has g Q v (Delivers k ∷ ms) moves all = run_has g Q (step g v (Delivers k)).world ms moves.1 (subst (λ xs. Each Q xs) (sym (deliver_taken g v k)) all)

-- ---- so what is reached is well typed
pub plain_typed : (t : Types) (w : Words) (g : Grammar) (es : List E.Event) → IsWellFormed w g → AreFor g t → type_fault t g ≡ None → AreFitting t g (choices_in es) →
    t.typed ≡ true → (n : ℕ) → IsWellTyped t g (after_all g [] (take n (choices_in es)))
plain_typed t w g es formed are none fit typed n =
    let (ys, a, u) = takes_some g [] (take n (choices_in es)) (Fits t g) (each_take (Fits t g) n (choices_in es) fit) in
    all_well_typed w g t formed typed are none ys (after_all g [] (take n (choices_in es))) a u

pub replay_typed : (t : Types) (w : Words) (g : Grammar) (loads : Bool) (es : List E.Event) → IsWellFormed w g → AreFor g t → type_fault t g ≡ None → AreFitting t g (choices_in es) →
    t.typed ≡ true → (n : ℕ) (c : Config) → undivided g [] (moment g loads es n).taken ≡ Some c → IsWellTyped t g c
replay_typed t w g loads es formed are none fit typed n c u =
    let start = empty_world g loads in
    let moves = all_moves g start es in
    let has = each_take (Has (Fits t g)) n moves (moves_have g (Fits t g) start es fit) in
    all_well_typed w g t formed typed are none (moment g loads es n).taken c (run_has g (Fits t g) start (take n moves) has tt) u
