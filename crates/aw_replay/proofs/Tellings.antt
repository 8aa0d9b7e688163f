-- Events that are replayed one after the other.
use Rattle.std.proofs.Common.{◌≡◌, ℕ, ◌+◌, ◌<◌, Bool, List, [], ◌∷◌, ◌++◌, length, Ok, Err, refl, sym, ap, subst, ◌∙◌, arith, append_assoc, append-nil, length-append}
use Rattle.std.specs.Prelude.{OnErr, OnOk, take}
use Rattle.std.specs.declared.result.Result.{Result}
use Rattle.aw_accept.specs.declared.accepted.Accepted.{Accepted}
use Rattle.aw_choice.specs.Events.{Event}
use Rattle.aw_grammar.specs.GrammarOf.{grammar_of, words_of}
use Rattle.aw_out.specs.Report.{Bounded, printed}
use Rattle.aw_out.specs.declared.error.PrintFault.{PrintFault}
use Rattle.aw_out.specs.declared.error.PrintFault.TheVariants.{NoMemory, TooLarge}
use Rattle.aw_law_sites.specs.Outputs.{after_event, after_events, all_lines, ending, event_lines, moves_of}
use Rattle.aw_law_sites.specs.Worlds.{World, empty_world, run}
use Rattle.aw_term.specs.Artifacts.{Words}
use Rattle.aw_term.specs.Rules.{Grammar}
use Rattle.aw_world.specs.declared.workspace.Workspace.{Ghosts}
use Rattle.aw_world.specs.Shown.{Shows}
use Rattle.aw_replay.specs.Replays.{Ends, HasHeadline, HasMadeFirst, HasTold, IsPastLimit, MakesSome, TellsMore, Underway, lines_from_empty, most, whole_output}
use Rattle.aw_replay.specs.Telling.{Does, DoesSome, EndsReport, PrintsEnding, PrintsEvent}
use Rattle.aw_replay.proofs.Events.{all_some, last_some}
use Rattle.aw_replay.proofs.Replays.{replay_headline, settling_ends}

-- the world behind an event that comes last
after_last : (g : Grammar) (v : World) (es : List Event) (e : Event) → after_event g (after_events g v es) e ≡ after_events g v (es ++ e ∷ [])
after_last g v [] e = refl
after_last g v (x ∷ es) e = after_last g (after_event g v x) es e

-- the lines of some events stand in front of those behind them
lines_more : (w : Words) (g : Grammar) (v : World) (es fs : List Event) → all_lines w g v (es ++ fs) ≡ all_lines w g v es ++ all_lines w g (after_events g v es) fs
lines_more w g v [] fs = refl
lines_more w g v (x ∷ es) fs =
    ap (λ t. event_lines w g v x ++ t) (lines_more w g (after_event g v x) es fs)
    ∙ sym (append_assoc (event_lines w g v x) (all_lines w g (after_event g v x) es) (all_lines w g (after_events g (after_event g v x) es) fs))

lines_last : (w : Words) (g : Grammar) (v : World) (es : List Event) (e : Event) → all_lines w g v es ++ event_lines w g (after_events g v es) e ≡ all_lines w g v (es ++ e ∷ [])
lines_last w g v es e = ap (λ t. all_lines w g v es ++ t) (sym (append-nil (event_lines w g (after_events g v es) e))) ∙ sym (lines_more w g v es (e ∷ []))

-- where the lines of the first events are too long, the output of all is
pub longer : (a : Accepted) (carried : Bool) (es fs : List Event) → most < length (lines_from_empty a carried es) → most < length (whole_output a carried (es ++ fs))
longer a carried es fs past =
    let w = words_of a.grammar in
    let g = grammar_of a.grammar in
    let v = empty_world g carried in
    let cut : length (lines_from_empty a carried (es ++ fs)) ≡ length (lines_from_empty a carried es) + length
    (all_lines w g (after_events g v es) fs) = ap length (lines_more w g v es fs) ∙ length-append (all_lines w g v es)
    (all_lines w g (after_events g v es) fs) in
    let whole : length (whole_output a carried (es ++ fs)) ≡ length (lines_from_empty a carried (es ++ fs)) + length
    (ending w g (after_events g v (es ++ fs))) = length-append (lines_from_empty a carried (es ++ fs)) (ending w g (after_events g v (es ++ fs))) in
    omega (arith, past, cut, whole)

module _ {W : Type 0} (f : Ghosts W) where
  -- one event more was done, and its lines were printed
  pub tells_more : (old new : Underway f) (e : Event) (result : Result Unit PrintFault) → new.0.accepted.now ≡ old.0.accepted.now → new.0.loads ≡ old.0.loads →
      OnOk result (Does f old.0 new.0 e) → PrintsEvent f old.0 e old.1.report new.1.report result → OnOk result (TellsMore f old new e)
  tells_more old new e (Err fault) accepted loads does prints = tt
  tells_more old new e (Ok done) accepted loads does prints = λ a carried es h.
      let w = words_of a.grammar in
      let g = grammar_of a.grammar in
      let v = after_events g (empty_world g carried) es in
      record {
        accepted = accepted ∙ h.accepted;
        loads = loads ∙ h.loads;
        shows = subst (Shows f new.0) (after_last g (empty_world g carried) es e) (subst (λ (x : Accepted). Shows f new.0 (after_event (grammar_of x.grammar) v e)) h.accepted (does v h.shows));
        told =
            (prints v h.shows).ok
            ∙ ap (λ (r : Bounded). printed r (event_lines (words_of old.0.accepted.now.grammar) (grammar_of old.0.accepted.now.grammar) v e)) h.told
            ∙ ap (λ (x : Accepted). printed (record { text = lines_from_empty a carried es; limit = most }) (event_lines (words_of x.grammar) (grammar_of x.grammar) v e)) h.accepted
            ∙ ap (λ (t : List ℕ). record { text = t; limit = most }) (lines_last w g (empty_world g carried) es e);
      }

  -- some first choices and deliveries of one event more were made
  pub makes_some : (old new : Underway f) (e : Event) (result : Result Unit PrintFault) → OnErr result (DoesSome f old.0 new.0 e) → OnErr result (MakesSome f old new e)
  makes_some old new e (Ok done) some = tt
  makes_some old new e (Err fault) some = λ a carried es h.
      let g = grammar_of a.grammar in
      let v = after_events g (empty_world g carried) es in
      let here = some v h.shows in
      let there : Shows f new.0 (run g v (take here.0 (moves_of g v e))) =
      subst (λ (x : Accepted). Shows f new.0 (run (grammar_of x.grammar) v (take here.0 (moves_of (grammar_of x.grammar) v e)))) h.accepted here.1 in
      let last = last_some g (empty_world g carried) es e here.0 in
      (last.0, subst (Shows f new.0) (sym last.1) there)

  -- all choices and deliveries of the events that were replayed
  pub made_all : (r : Underway f) (a : Accepted) (carried : Bool) (es : List Event) → HasTold f r a carried es → HasMadeFirst f r.0 a carried es
  made_all r a carried es h =
      let g = grammar_of a.grammar in
      let all = all_some g (empty_world g carried) es in
      (all.0, subst (Shows f r.0) (sym all.1) h.shows)

  -- its lines were too long behind those before
  pub past_limit : (old : Underway f) (e : Event) (new : Bounded) (result : Result Unit PrintFault) → PrintsEvent f old.0 e old.1.report new result → result ≡ Err TooLarge → IsPastLimit f old e
  past_limit old e new result prints large a carried es h =
      let w = words_of a.grammar in
      let g = grammar_of a.grammar in
      let v = after_events g (empty_world g carried) es in
      let here = subst (λ (r : Bounded). r.limit < length r.text + length (event_lines (words_of old.0.accepted.now.grammar)
      (grammar_of old.0.accepted.now.grammar) v e)) h.told ((prints v h.shows).too_large large) in
      let past : most < length (lines_from_empty a carried es) + length (event_lines w g v e) =
      subst (λ (x : Accepted). most < length (lines_from_empty a carried es) + length (event_lines (words_of x.grammar) (grammar_of x.grammar)
      v e)) h.accepted here in
      let all : length (lines_from_empty a carried (es ++ e ∷ [])) ≡ length (lines_from_empty a carried es) + length (event_lines w g v e) =
      sym (ap length (lines_last w g (empty_world g carried) es e)) ∙ length-append (lines_from_empty a carried es) (event_lines w g v e) in
      omega (arith, past, all)

  -- the ending was printed behind all lines
  ends_told : (r : Underway f) (new : Bounded) → PrintsEnding f r.0 r.1.report new (Ok tt) → (a : Accepted) (carried : Bool) (es : List Event) →
      HasTold f r a carried es → new ≡ record { text = whole_output a carried es; limit = most }
  ends_told r new prints a carried es h =
      let g = grammar_of a.grammar in
      let v = after_events g (empty_world g carried) es in
      (prints v h.shows).ok
      ∙ ap (λ (x : Bounded). printed x (ending (words_of r.0.accepted.now.grammar) (grammar_of r.0.accepted.now.grammar) v)) h.told
      ∙ ap (λ (x : Accepted). printed (record { text = lines_from_empty a carried es; limit = most }) (ending (words_of x.grammar) (grammar_of x.grammar) v)) h.accepted

  -- it was too long there
  pub ends_past : (r : Underway f) (new : Bounded) (result : Result Unit PrintFault) → PrintsEnding f r.0 r.1.report new result →
      result ≡ Err TooLarge → (a : Accepted) (carried : Bool) (es : List Event) → HasTold f r a carried es → most < length (whole_output a carried es)
  ends_past r new result prints large a carried es h =
      let w = words_of a.grammar in
      let g = grammar_of a.grammar in
      let v = after_events g (empty_world g carried) es in
      let here = subst (λ (x : Bounded). x.limit < length x.text + length (ending (words_of r.0.accepted.now.grammar)
      (grammar_of r.0.accepted.now.grammar) v)) h.told ((prints v h.shows).too_large large) in
      let past : most < length (lines_from_empty a carried es) + length (ending w g v) =
      subst (λ (x : Accepted). most < length (lines_from_empty a carried es) + length
      (ending (words_of x.grammar) (grammar_of x.grammar) v)) h.accepted here in
      let all : length (whole_output a carried es) ≡ length (lines_from_empty a carried es) + length (ending w g v) = length-append (lines_from_empty a carried es) (ending w g v) in
      omega (arith, past, all)

  ends_fault : (r : Underway f) (new : Bounded) (fault : PrintFault) → PrintsEnding f r.0 r.1.report new (Err fault) → Ends f r (Err fault)
  ends_fault r new TooLarge prints = ends_past r new (Err TooLarge) prints refl
  ends_fault r new NoMemory prints = tt

  pub ends_either : (r : Underway f) (result : Result Bounded PrintFault) → EndsReport f r.0 r.1.report result → Ends f r result
  ends_either r (Ok new) prints = ends_told r new prints
  ends_either r (Err fault) prints = ends_fault r prints.0 fault prints.1

  pub has_headline : (r : Underway f) → HasHeadline f r
  has_headline r a carried es h may = (replay_headline a carried es may, settling_ends a carried es may)
