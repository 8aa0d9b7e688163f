-- What is kept stays so where names come, and where equations come but for the rules that wait for their left sides.
use Rattle.std.proofs.Common.{◌≡◌, ℕ, ◌<◌, ◌≤◌, Bool, true, false, cond, List, length, map, Option, Some, None, slice_get, refl, sym, ap, ◌∙◌, arith, length-append}
use Rattle.std.proofs.lemmas.Bool.{ltb-true, lt-ltb}
use Rattle.aw_list.proofs.Everyday.{get_within as name_at}
use Rattle.aw_term.specs.Names.{Node, Ref}
use Rattle.aw_term.specs.Rules.{Rule, Grammar}
use Rattle.aw_term.specs.Matching.{Matched, Yes, Waits, Differs, Circle}
use Rattle.aw_term.specs.Choices.{WaitsFor, CircleAt, TooDeep, Refused, Takes, after_guard, deep}
use Rattle.aw_term.specs.Runs.{refusal_of}
use Rattle.aw_store.specs.Equations.{Map}
use Rattle.aw_store.specs.NamedRefs.{is_named, Grows}
use Rattle.aw_store.proofs.SlotLemmas.{slot-grown, AreNamed-grown}
use Rattle.aw_apply.specs.Guard.{guard_all}
use Rattle.aw_apply.specs.Named.{as_named}
use Rattle.aw_law_sites.specs.Laws.{IsSubmap}
use Rattle.aw_law_sites.proofs.Guarding.{Final, guard_all-keeps}
use Rattle.aw_node_list.specs.declared.held.Held.{Held}
use Rattle.aw_work.specs.declared.block.Triple.{Triple}
use Rattle.aw_standing.specs.declared.record.Stands.{Stands}
use Rattle.aw_standing.specs.declared.record.Stands.TheVariants as stands
use Rattle.aw_standing.specs.declared.record.Record.{Record}
use Rattle.aw_standing.specs.Standings.{kept_refusal, told_refusal, waits_for_one, is_one_of}
use Rattle.aw_standing.specs.Records.{IsFit, IsOf, has_live}
use Rattle.aw_standing.specs.KeptStates.{AreKept, AreLate}
use Rattle.aw_standing.proofs.GuardWaits.{guard-waits}
use Rattle.aw_standing.proofs.WaitEnds.{told_waits, ends_grown}

-- a rule that meets a circle does so by its guard
told_circle : (n : Node) (rule : Rule) (m : Matched Ref Ref) (o : Option Ref) → Some (CircleAt o) ≡ refusal_of (after_guard n rule (as_named m)) → (r : Ref) × (m ≡ Circle r) × (o ≡ Some r)
told_circle n rule (Circle r) o e = (r, refl, cc)
told_circle n rule (Waits r) o e = absurd cc
told_circle n rule (Differs p) o e = absurd cc
told_circle n rule (Yes xs) o e = absurd (by (deep n rule) e)
  where
    by : (b : Bool) → Some (CircleAt o) ≡ refusal_of (cond b (Refused TooDeep) (Takes rule (map Some xs))) → ⊥
    by true e = absurd cc
    by false e = absurd cc

module _ (names more : List Ref) (grows : Grows names more) where
  longer : length names ≤ length more
  longer = let (ms, e) = grows in omega (arith, ap length e, length-append names ms)

  refusal_stays : (n : Node) (rule : Rule) (m : Matched Ref Ref) (s : Stands) → kept_refusal names s ≡ refusal_of (after_guard n rule (as_named m)) →
      kept_refusal more s ≡ refusal_of (after_guard n rule (as_named m))
  refusal_stays n rule m stands.Ready e = e
  refusal_stays n rule m (stands.Differs place) e = e
  refusal_stays n rule m stands.TooDeep e = e
  refusal_stays n rule m (stands.Waits slot) e =
      let (r, f, o) = told_waits n rule m (slice_get names slot) e in
      ap (λ z. Some (WaitsFor z)) (slot-grown names more slot r grows o ∙ sym o) ∙ e
  refusal_stays n rule m (stands.Circle slot) e =
      let (r, f, o) = told_circle n rule m (slice_get names slot) e in
      ap (λ z. Some (CircleAt z)) (slot-grown names more slot r grows o ∙ sym o) ∙ e

  not_before : (late : List Ref) (s : Stands) → waits_for_one more late s ≡ false → waits_for_one names late s ≡ false
  not_before late stands.Ready e = refl
  not_before late (stands.Differs place) e = refl
  not_before late (stands.Circle slot) e = refl
  not_before late stands.TooDeep e = refl
  not_before late (stands.Waits slot) e = by (slice_get names slot) refl
    where
      by : (o : Option Ref) → slice_get names slot ≡ o → is_one_of late o ≡ false
      by None f = refl
      by (Some r) f = ap (is_one_of late) (sym (slot-grown names more slot r grows f)) ∙ e

  live_stays : (s : Stands) → has_live (length names) s ≡ true → has_live (length more) s ≡ true
  live_stays stands.Ready e = refl
  live_stays (stands.Differs place) e = refl
  live_stays stands.TooDeep e = refl
  live_stays (stands.Waits slot) e = lt-ltb slot (length more) (omega (arith, longer, ltb-true slot (length names) e))
  live_stays (stands.Circle slot) e = lt-ltb slot (length more) (omega (arith, longer, ltb-true slot (length names) e))

  -- a record stays fit, and of its node
  pub fit_grows : (g : Grammar) (x : Record) → IsFit g names x → IsFit g more x
  fit_grows g x f = record {
    live = λ i d l. omega (arith, f.live i d l, longer);
    takes = f.takes;
    rules = f.rules;
    rising = f.rising;
    stand = λ j m e. live_stays m.stands (f.stand j m e);
  }

  pub of_grows : (g : Grammar) (h : Held) (x : Record) → IsOf g names h x → IsOf g more h x
  of_grows g h x o = record { sort = o.sort; slots = AreNamed-grown names more x.slots.items h.inherited grows o.slots; deep = o.deep; rules = o.rules }

  -- a slot of the store has the name that it had
  named_before : (slot : ℕ) (r : Ref) → slot < length names → slice_get more slot ≡ Some r → slice_get names slot ≡ Some r
  named_before slot r live here = let (q, e) = name_at names slot live in e ∙ sym (slot-grown names more slot q grows e) ∙ here

  -- what is kept stays so where names come
  pub kept_named : (g : Grammar) (hs : List Held) (k : Map) (late : List Ref) (ns : List ℕ) (xs : List Record) (ts : List Triple) → AreKept g hs k names late ns xs ts →
      AreKept g hs k more late ns xs ts
  kept_named g hs k late ns xs ts f = record {
    fits = record { counted = f.fits.counted; apart = f.fits.apart; known = f.fits.known; fit = λ i n x e u. fit_grows g x (f.fits.fit i n x e u); waiting = f.fits.waiting };
    beside = f.beside;
    of_node = λ i n h x e u v. of_grows g h x (f.of_node i n h x e u v);
    told = λ i n h x e u v j m w not rule d. refusal_stays h.node rule (guard_all k 1 rule.patterns h.inherited) m.stands (f.told i n h x e u v j m w (not_before late m.stands not) rule d);
    ends = λ i n j h x m e u v w rule slot r end d waits here on.
        let live = ltb-true slot (length names) (ap (has_live (length names)) (sym waits) ∙ (f.fits.fit i n x e v).stand j m w) in
        f.ends i n j h x m e u v w rule slot r end d waits (named_before slot r live here) on;
  }

module _ (k l : Map) (names late later : List Ref) (more : IsSubmap k l) (covers : AreLate k l late later) where
  late_before : (s : Stands) → waits_for_one names later s ≡ false → waits_for_one names late s ≡ false
  late_before stands.Ready e = refl
  late_before (stands.Differs place) e = refl
  late_before (stands.Circle slot) e = refl
  late_before stands.TooDeep e = refl
  late_before (stands.Waits slot) e = by (slice_get names slot) e
    where
      by : (o : Option Ref) → is_one_of later o ≡ false → is_one_of late o ≡ false
      by None f = refl
      by (Some r) f = (covers r f).0

  -- a rule that waits for none of the late references stands as it stood
  told_stays : (n : Node) (rs : List Ref) (rule : Rule) (s : Stands) → waits_for_one names later s ≡ false → kept_refusal names s ≡ told_refusal k n rs rule →
      told_refusal l n rs rule ≡ told_refusal k n rs rule
  told_stays n rs rule s not told = ap (λ m. refusal_of (after_guard n rule (as_named m))) (guard_all-keeps k l more 1 rule.patterns rs (final (guard_all k 1 rule.patterns rs) refl))
    where
      waits : (s : Stands) (r : Ref) → waits_for_one names later s ≡ false → kept_refusal names s ≡ Some (WaitsFor (Some r)) → is_named later r ≡ false
      waits stands.Ready r a b = absurd cc
      waits (stands.Differs place) r a b = absurd cc
      waits (stands.Circle slot) r a b = absurd cc
      waits stands.TooDeep r a b = absurd cc
      waits (stands.Waits slot) r a b = let here : slice_get names slot ≡ Some r = cc in ap (is_one_of later) (sym here) ∙ a

      final : (m : Matched Ref Ref) → guard_all k 1 rule.patterns rs ≡ m → Final l m
      final (Yes xs) e = tt
      final (Differs p) e = tt
      final (Circle r) e = tt
      final (Waits r) e = (covers r (waits s r not (told ∙ ap (λ m. refusal_of (after_guard n rule (as_named m))) e))).1 (guard-waits k r 1 rule.patterns rs e)

  -- what is kept stays so where equations come, but for the rules that wait for their left sides
  pub kept_grown : (g : Grammar) (hs : List Held) (ns : List ℕ) (xs : List Record) (ts : List Triple) → AreKept g hs k names late ns xs ts → AreKept g hs l names later ns xs ts
  kept_grown g hs ns xs ts f = record {
    fits = f.fits;
    beside = f.beside;
    of_node = f.of_node;
    told = λ i n h x e u v j m w not rule d.
        let old = f.told i n h x e u v j m w (late_before m.stands not) rule d in
        old ∙ sym (told_stays h.node h.inherited rule m.stands not old);
    ends = λ i n j h x m e u v w. ends_grown g k l names h m more (f.ends i n j h x m e u v w);
  }
