-- What a mark that waits knows: where a chase leads from what it waits for, its rule waits.
use Rattle.std.proofs.Common.{◌≡◌, ◌<◌, ℕ, Bool, true, false, cond, List, length, map, Option, Some, None, slice_get, refl, sym, ap, ◌∙◌}
use Rattle.std.specs.Prelude.{is_some, option_and_then}
use Rattle.std.proofs.lemmas.Option.{slice_get_within}
use Rattle.aw_term.specs.Names.{Node, Ref}
use Rattle.aw_term.specs.Rules.{Rule, Grammar}
use Rattle.aw_term.specs.Matching.{Matched, Yes, Waits, Differs, Circle}
use Rattle.aw_term.specs.Choices.{WaitsFor, TooDeep, Refused, Takes, after_guard, deep}
use Rattle.aw_term.specs.Runs.{refusal_of}
use Rattle.aw_store.specs.Equations.{Map, find}
use Rattle.aw_store.specs.Chase.{Chased, Found, Missing, Round, chase}
use Rattle.aw_store.specs.ChaseView.{IsChasedTo}
use Rattle.aw_store.specs.NamedRefs.{body_at}
use Rattle.aw_store.specs.declared.facts.Chase.{Chase}
use Rattle.aw_store.specs.declared.facts.Chase.TheVariants as answer
use Rattle.aw_store.proofs.ChaseEnds.{found-more, round-more}
use Rattle.aw_store.proofs.ChaseLemmas.{chase_in-none}
use Rattle.aw_apply.specs.Guard.{guard_all}
use Rattle.aw_apply.specs.Named.{as_named}
use Rattle.aw_law_sites.specs.Laws.{IsSubmap}
use Rattle.aw_law_sites.proofs.Moving.{missing-past, guard_all-moves}
use Rattle.aw_node_list.specs.declared.held.Held.{Held}
use Rattle.aw_standing.specs.declared.record.Mark.{Mark}
use Rattle.aw_standing.specs.Standings.{kept_refusal, told_refusal}
use Rattle.aw_standing.specs.Records.{IsTold, WaitsAtEnd}
use Rattle.aw_standing.specs.Due.{waiting_mark}
use Rattle.aw_standing.proofs.GuardWaits.{guard-waits, missing_in}

-- a rule that waits does so by its guard
pub told_waits : (n : Node) (rule : Rule) (m : Matched Ref Ref) (o : Option Ref) → Some (WaitsFor o) ≡ refusal_of (after_guard n rule (as_named m)) → (r : Ref) × (m ≡ Waits r) × (o ≡ Some r)
told_waits n rule (Waits r) o e = (r, refl, cc)
told_waits n rule (Differs p) o e = absurd cc
told_waits n rule (Circle r) o e = absurd cc
told_waits n rule (Yes xs) o e = absurd (by (deep n rule) e)
  where
    by : (b : Bool) → Some (WaitsFor o) ≡ refusal_of (cond b (Refused TooDeep) (Takes rule (map Some xs))) → ⊥
    by true e = absurd cc
    by false e = absurd cc

-- where it waits for this reference, so does its guard
guard_told : (k : Map) (h : Held) (rule : Rule) (r : Ref) → Some (WaitsFor (Some r)) ≡ told_refusal k h.node h.inherited rule → guard_all k 1 rule.patterns h.inherited ≡ Waits r
guard_told k h rule r e =
    let (q, g, o) = told_waits h.node rule (guard_all k 1 rule.patterns h.inherited) (Some r) e in
    let same : q ≡ r = cc in
    g ∙ ap Waits same

-- a mark that says how its rule stands waits for a reference without an equation
pub told_ends : (g : Grammar) (k : Map) (names : List Ref) (h : Held) (m : Mark) → IsTold g k names h m → WaitsAtEnd g k names h m
told_ends g k names h m told rule slot r end declared waits here on =
    let says : Some (WaitsFor (Some r)) ≡ told_refusal k h.node h.inherited rule = ap (λ o. Some (WaitsFor o)) (sym here) ∙ ap (kept_refusal names) (sym waits) ∙ told rule declared in
    let none = guard-waits k r 1 rule.patterns h.inherited (guard_told k h rule r says) in
    let at = chase_in-none (length k) k r none in
    let same : r ≡ end = cc in
    sym says ∙ ap (λ q. Some (WaitsFor (Some q))) same

-- over more equations a chase may lead on, and there the rule waits
pub ends_grown : (g : Grammar) (k l : Map) (names : List Ref) (h : Held) (m : Mark) → IsSubmap k l → WaitsAtEnd g k names h m → WaitsAtEnd g l names h m
ends_grown g k l names h m more ends rule slot r end declared waits here on = by (chase k r) refl
  where
    by : (c : Chased) → chase k r ≡ c → told_refusal l h.node h.inherited rule ≡ Some (WaitsFor (Some end))
    by (Found head parts) e = let a = found-more k l more r head parts e in absurd cc
    by Round e = let a = round-more k l more r e in absurd cc
    by (Missing s) e =
        let old = guard_told k h rule s (sym (ends rule slot r s declared waits here e)) in
        ap (λ w. refusal_of (after_guard h.node rule (as_named w))) (guard_all-moves k l more s end (missing-past k l more r s end e on) 1 rule.patterns h.inherited old)

-- a mark that waits now for what the chase led to says how its rule stands
pub led_told : (g : Grammar) (k : Map) (names : List Ref) (h : Held) (rule slot at : ℕ) (r end : Ref) → slice_get names slot ≡ Some r → chase k r ≡ Missing end → slice_get names at ≡ Some end →
    WaitsAtEnd g k names h (waiting_mark rule slot) → IsTold g k names h (waiting_mark rule at)
led_told g k names h rule slot at r end here on there ends it declared = ap (λ o. Some (WaitsFor o)) there ∙ sym (ends it slot r end declared refl here on)

-- what the chase led to has no equation
pub led_lacks : (k : Map) (names : List Ref) (at : ℕ) (r end : Ref) → chase k r ≡ Missing end → slice_get names at ≡ Some end → body_at k names at ≡ None
led_lacks k names at r end on there = ap (option_and_then (find k)) there ∙ missing_in k end (length k) r on

pub led_nowhere : (k : Map) (names : List Ref) (slot : ℕ) (a : Chase) (end : Ref) → ((at : ℕ) → a ≡ answer.Missing at → ⊥) → IsChasedTo k names slot (Missing end) a → ⊥
led_nowhere k names slot (answer.Missing at) end not w = not at refl
led_nowhere k names slot (answer.Found at) end not w = elim w [ ]
led_nowhere k names slot (answer.Circle at) end not w = elim w [ ]

-- a slot whose reference has an equation is one of the store
pub known_live : (k : Map) (names : List Ref) (slot : ℕ) → is_some (body_at k names slot) ≡ true → slot < length names
known_live k names slot e = by (slice_get names slot) refl e
  where
    by : (o : Option Ref) → slice_get names slot ≡ o → is_some (option_and_then (find k) o) ≡ true → slot < length names
    by None f t = absurd cc
    by (Some r) f t = slice_get_within names slot r f
