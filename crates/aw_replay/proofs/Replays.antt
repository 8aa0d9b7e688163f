-- What holds of replayed events because the grammar was accepted.
use Rattle.std.proofs.Common.{ℕ, Bool, List, [], ◌∷◌, ◌++◌, subst, None}
use Rattle.std.specs.Prelude.{Option}
use Rattle.std.proofs.Math.Logic.{∥∥₁_elim, ∥∥₁_map}
use Rattle.std.proofs.Props.{props}
use mathlib.Core.Logic.{∥∥₁_prop}
use Rattle.aw_term.specs.Artifacts.{Words}
use Rattle.aw_term.specs.Rules.{Grammar}
use Rattle.aw_term.specs.WellFormed.{Each}
use Rattle.aw_accept.specs.declared.accepted.Accepted.{Accepted}
use Rattle.aw_grammar.specs.GrammarOf.{grammar_of, words_of}
use Rattle.aw_choice.specs.Events.{Event, Settles}
use Rattle.aw_law_sites.specs.Laws.{IsAccepted}
use Rattle.aw_law_sites.specs.Bounds.{settled}
use Rattle.aw_law_sites.specs.Outputs.{MayStand, after_events, all_moves}
use Rattle.aw_law_sites.specs.Worlds as V
use Rattle.aw_law_sites.specs.Worlds.{empty_world}
use Rattle.aw_law_worlds.specs.Headline.{HeadlineHolds}
use Rattle.aw_law_worlds.proofs.Headlining.{headline_law, events_run, events_may}
use Rattle.aw_law_worlds.proofs.WorldLaws.{bound_law}
use Rattle.aw_replay.specs.Telling.{SettlingEnds}

pub replay_headline : (a : Accepted) (loads : Bool) (es : List Event) → Each (MayStand (grammar_of a.grammar)) es → ∥ HeadlineHolds (words_of a.grammar) (grammar_of a.grammar) loads es ∥₁
replay_headline a loads es may =
    ∥∥₁_elim a.grammar.well_formed ∥∥₁_prop (λ w. ∥∥₁_map a.sound (λ s. headline_law (words_of a.grammar) (grammar_of a.grammar) (w, s) loads es may))

each_front : (P : Event → Type 0) (as' bs : List Event) → Each P (as' ++ bs) → Each P as'
each_front P [] bs e = tt
each_front P (a ∷ as') bs e = (e.0, each_front P as' bs e.1)

option_set : IsSet (Option ℕ)
option_set = hlevel props

quiet_after : (words : Words) (g : Grammar) → IsAccepted words g → (loads : Bool) (before : List Event) → Each (MayStand g) before → V.IsQuiet (settled g (after_events g (empty_world g loads) before))
quiet_after words g accepted loads before may =
    let start = empty_world g loads in
    subst (λ w. V.IsQuiet (settled g w)) (events_run g start before) (bound_law words g accepted loads (all_moves g start before) (events_may g start before may)).1

pub settling_ends : (a : Accepted) (loads : Bool) (es : List Event) → Each (MayStand (grammar_of a.grammar)) es → SettlingEnds (grammar_of a.grammar) loads es
settling_ends a loads es may before later e =
    let p = grammar_of a.grammar in
    let front = each_front (MayStand p) before (Settles ∷ later) (subst (Each (MayStand p)) e may) in
    let prop = option_set (V.undelivered (settled p (after_events p (empty_world p loads) before))) None in
    ∥∥₁_elim a.grammar.well_formed prop (λ w. ∥∥₁_elim a.sound prop (λ s. quiet_after (words_of a.grammar) p (w, s) loads before front))
