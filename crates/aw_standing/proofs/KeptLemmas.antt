-- What is kept stays so, where rules are tested again, a node comes or is developed.
use Rattle.std.proofs.Common.{◌≡◌, ◌≢◌, ℕ, zero, suc, ◌+◌, ◌<◌, ◌⊎◌, inl, inr, Bool, true, false, cond, List, [], ◌∷◌, length, map, Option, Some, None}
use Rattle.std.proofs.Common.{slice_get, get_or, refl, sym, ap, ◌∙◌, subst, arith}
use Rattle.std.specs.Prelude.{count_by, slice_set, is_some, nat_eq, ◌||◌, All}
use Rattle.std.proofs.lemmas.List.Sums.{sum_by-cons}
use Rattle.std.specs.List.Sorted.{IsPermutation}
use Rattle.std.proofs.lemmas.List.Sorted.{sum_by-IsPermutation}
use Rattle.std.proofs.lemmas.Bool.{eq-eqb}
use Rattle.std.proofs.lemmas.Bool.Decides.{eqb_tells}
use Rattle.aw_term.specs.Names.{Ref}
use Rattle.aw_term.specs.Rules.{Grammar}
use Rattle.aw_term.proofs.RefTests.{ref_eq-true}
use Rattle.aw_store.specs.Refs.{ref_eq}
use Rattle.aw_store.specs.Equations.{Map}
use Rattle.aw_store.specs.NamedRefs.{is_named, body_at, IsNamedOnce}
use Rattle.aw_term.specs.WellFormed.{takes_of}
use Rattle.aw_node_list.specs.declared.held.Held.{Held}
use Rattle.aw_node_list.specs.HeldView.{state_of}
use Rattle.aw_work.specs.declared.block.Triple.{Triple}
use Rattle.aw_work.specs.Triples.{triple, waiting_at}
use Rattle.aw_standing.specs.declared.record.Stands.{Stands}
use Rattle.aw_standing.specs.declared.record.Stands.TheVariants as stands
use Rattle.aw_standing.specs.declared.record.Mark.{Mark}
use Rattle.aw_standing.specs.declared.record.Record.{Record}
use Rattle.aw_standing.specs.Standings.{waits_for_one, is_one_of}
use Rattle.aw_standing.specs.Records.{AreRising, IsFit, IsOf, IsTold, AreTold, WaitsAtEnd, stand_at, with_stands, mark_rule, open_rules, has_live, is_of_sort}
use Rattle.aw_standing.specs.Due.{due_of, due_marks, due_record, due, AreSame, waiting_mark}
use Rattle.aw_standing.specs.Tested.{IsSet, LacksBody}
use Rattle.aw_node_list.specs.Picked.{AreApart}
use Rattle.aw_standing.specs.KeptStates.{AreFit, AreKept}
use Rattle.aw_standing.proofs.Places.{IsSetAt}
use Rattle.aw_standing.proofs.WaitEnds.{told_ends}
use Rattle.aw_standing.proofs.DueLemmas.{marks_stand, due_changed, due_at, due_is, is_triple, triple_counts, NodeWaits}

-- a mark in a list where one stands otherwise now
abbrev pub Stood : Stands → ℕ → List Mark → Mark → ℕ → Mark → Type 0
Stood s j ms m q z = ((q ≡ j) × (z ≡ with_stands m s)) ⊎ ((q ≢ j) × (slice_get ms q ≡ Some z))

stood_on : (s : Stands) (j : ℕ) (ms : List Mark) (k m : Mark) (q : ℕ) (z : Mark) → Stood s j ms m q z → Stood s (suc j) (k ∷ ms) m (suc q) z
stood_on s j ms k m q z (inl (a, b)) = inl (ap suc a, b)
stood_on s j ms k m q z (inr (d, e)) = inr ((λ f. d (omega (arith, f))), e)

pub get-stand_at : (s : Stands) (j : ℕ) (ms : List Mark) (m : Mark) (q : ℕ) (z : Mark) → slice_get ms j ≡ Some m → slice_get (stand_at s j ms) q ≡ Some z → Stood s j ms m q z
get-stand_at s j [] m q z e f = absurd cc
get-stand_at s zero (k ∷ ms) m zero z e f = let same : k ≡ m = cc in let there : with_stands k s ≡ z = cc in inl (refl, sym there ∙ ap (λ y. with_stands y s) same)
get-stand_at s zero (k ∷ ms) m (suc q) z e f = inr ((λ g. absurd (omega (arith, g))), f)
get-stand_at s (suc j) (k ∷ ms) m zero z e f = inr ((λ g. absurd (omega (arith, g))), f)
get-stand_at s (suc j) (k ∷ ms) m (suc q) z e f = stood_on s j ms k m q z (get-stand_at s j ms m q z e f)

pub rules-stand_at : (s : Stands) (j : ℕ) (ms : List Mark) → map mark_rule (stand_at s j ms) ≡ map mark_rule ms
rules-stand_at s j [] = refl
rules-stand_at s zero (k ∷ ms) = refl
rules-stand_at s (suc j) (k ∷ ms) = ap (λ z. k.rule ∷ z) (rules-stand_at s j ms)

pub length-stand_at : (s : Stands) (j : ℕ) (ms : List Mark) → length (stand_at s j ms) ≡ length ms
length-stand_at s j [] = refl
length-stand_at s zero (k ∷ ms) = refl
length-stand_at s (suc j) (k ∷ ms) = ap suc (length-stand_at s j ms)

-- a record that was written at a place, or another one that stood before
abbrev pub WasWritten : ℕ → Record → List Record → ℕ → Record → Type 0
WasWritten n y xs m z = ((m ≡ n) × (z ≡ y)) ⊎ ((m ≢ n) × (slice_get xs m ≡ Some z))

pub written : (xs ys : List Record) (n : ℕ) (y : Record) → IsSetAt xs ys n y → (m : ℕ) (z : Record) → slice_get ys m ≡ Some z → WasWritten n y xs m z
written xs ys n y set m z e = by (eqb_tells m n)
  where
    by : ((nat_eq m n ≡ true) × (m ≡ n)) ⊎ ((nat_eq m n ≡ false) × (m ≢ n)) → WasWritten n y xs m z
    by (inl (t, same)) = let a : slice_get ys n ≡ Some z = ap (slice_get ys) (sym same) ∙ e in let h = set.here in let b : z ≡ y = cc in inl (same, b)
    by (inr (t, other)) = inr (other, sym (set.others m other) ∙ e)

module _ (g : Grammar) (names : List Ref) (n j : ℕ) (m : Mark) (s : Stands) (x y : Record) (ts us : List Triple) (mark : slice_get x.marks.items j ≡ Some m) (live : has_live (length names) s ≡ true)
    (set : IsSet n j m s x y ts us) where
  -- a record stays fit where a mark is set
  pub fit_set : IsFit g names x → IsFit g names y
  fit_set f = record {
    live = subst (λ v. All (λ q. q < length names) v.items) (sym set.slots) f.live;
    takes = ap (λ v. length v.items) set.slots ∙ f.takes ∙ ap (λ q. takes_of (slice_get g.sorts q)) (sym set.sort);
    rules = λ q z e. rules_by q z (get-stand_at s j x.marks.items m q z mark (ap (λ l. slice_get l q) (sym set.marks) ∙ e));
    rising = subst AreRising (sym (ap (map mark_rule) set.marks ∙ rules-stand_at s j x.marks.items)) f.rising;
    stand = λ q z e. stand_by q z (get-stand_at s j x.marks.items m q z mark (ap (λ l. slice_get l q) (sym set.marks) ∙ e));
  }
    where
      rules_by : (q : ℕ) (z : Mark) → Stood s j x.marks.items m q z → is_of_sort y.sort (slice_get g.rules z.rule) ≡ true
      rules_by q z (inl (a, b)) = ap (λ w. is_of_sort w (slice_get g.rules z.rule)) set.sort ∙ ap (λ (v : Mark). is_of_sort x.sort (slice_get g.rules v.rule)) b ∙ f.rules j m mark
      rules_by q z (inr (_, e)) = ap (λ w. is_of_sort w (slice_get g.rules z.rule)) set.sort ∙ f.rules q z e

      stand_by : (q : ℕ) (z : Mark) → Stood s j x.marks.items m q z → has_live (length names) z.stands ≡ true
      stand_by q z (inl (a, b)) = ap (λ (v : Mark). has_live (length names) v.stands) b ∙ live
      stand_by q z (inr (_, e)) = f.stand q z e

-- what is written at a place
pub set_stand : (s : Stands) (i : ℕ) (ms : List Mark) (m : Mark) → i < length ms → m ≡ get_or ms i m → slice_set ms i (with_stands m s) ≡ stand_at s i ms
set_stand s i [] m l e = absurd (omega (arith, l))
set_stand s zero (k ∷ ms) m l e = ap (λ z. with_stands z s ∷ ms) e
set_stand s (suc i) (k ∷ ms) m l e = ap (λ z. k ∷ z) (set_stand s i ms m (omega (arith, l)) e)

module _ (g : Grammar) (k : Map) (names : List Ref) (slot n rule : ℕ) (s : Stands) (ns : List ℕ) (xs ys : List Record) (ts us : List Triple) (i j : ℕ) (x y : Record)
    (at : slice_get ns i ≡ Some n) (here : slice_get xs n ≡ Some x) (mark : slice_get x.marks.items j ≡ Some (waiting_mark rule slot))
    (live : has_live (length names) s ≡ true) (stood : IsSet n j (waiting_mark rule slot) s x y ts us) (set : IsSetAt xs ys n y) where
  fit_again : IsFit g names x → IsFit g names y
  fit_again f = fit_set g names n j (waiting_mark rule slot) s x y ts us mark live stood f

  waiting_again : AreApart ns → AreSame (triple slot n rule ∷ ts) (due xs ns) → AreSame us (due ys ns)
  waiting_again apart same p =
      let changed = due_changed p ns xs ys i n apart at set.others in
      let old = ap (λ o. count_by p (due_record n o)) here in
      let new = ap (λ o. count_by p (due_record n o)) set.here in
      let marks = ap (λ l. count_by p (due_marks n l)) stood.marks in
      let stand = marks_stand p n s j x.marks.items (waiting_mark rule slot) mark in
      let one = sum_by-cons (λ t. cond (p t) 1 0) (triple slot n rule) ts in
      let alone = sum_by-cons (λ t. cond (p t) 1 0) (triple slot n rule) [] in
      omega (arith, changed, old, new, marks, stand, one, alone, same p, stood.waiting p)

  pub fits_again : AreFit g names ns xs (triple slot n rule ∷ ts) → AreFit g names ns ys us
  fits_again f = record {
    counted = omega (arith, f.counted, set.length);
    apart = f.apart;
    known = λ q m e. omega (arith, f.known q m e, set.length);
    fit = λ q m z e w. fit_by q m z e (written xs ys n y set m z w);
    waiting = waiting_again f.apart f.waiting;
  }
    where
      fit_by : (q m : ℕ) (z : Record) → slice_get ns q ≡ Some m → WasWritten n y xs m z → IsFit g names z
      fit_by q m z e (inl (same, b)) = subst (IsFit g names) (sym b) (fit_again (f.fit i n x at here))
      fit_by q m z e (inr (other, w)) = f.fit q m z e w

  pub kept_again : (hs : List Held) (late : List Ref) →
      ((h : Held) → IsOf g names h x → WaitsAtEnd g k names h (waiting_mark rule slot) → IsTold g k names h (with_stands (waiting_mark rule slot) s)) →
      AreKept g hs k names late ns xs (triple slot n rule ∷ ts) → AreKept g hs k names late ns ys us
  kept_again hs late says f = record {
    fits = fits_again f.fits;
    beside = f.beside;
    of_node = λ q m h z e u w. of_by q m h z e u (written xs ys n y set m z w);
    told = λ q m h z e u w. told_by q m h z e u (written xs ys n y set m z w);
    ends = λ q m a h z v e u w. ends_by q m a h z v e u (written xs ys n y set m z w);
  }
    where
      here_of : (q m : ℕ) (h : Held) → m ≡ n → slice_get ns q ≡ Some m → slice_get hs q ≡ Some h → IsOf g names h x
      here_of q m h same e u = f.of_node q n h x (e ∙ ap Some same) u here

      says_now : (q m : ℕ) (h : Held) → m ≡ n → slice_get ns q ≡ Some m → slice_get hs q ≡ Some h → IsTold g k names h (with_stands (waiting_mark rule slot) s)
      says_now q m h same e u = says h (here_of q m h same e u) (f.ends q n j h x (waiting_mark rule slot) (e ∙ ap Some same) u here mark)

      of_by : (q m : ℕ) (h : Held) (z : Record) → slice_get ns q ≡ Some m → slice_get hs q ≡ Some h → WasWritten n y xs m z → IsOf g names h z
      of_by q m h z e u (inr (other, w)) = f.of_node q m h z e u w
      of_by q m h z e u (inl (same, b)) = subst (IsOf g names h) (sym b) (of_new (here_of q m h same e u))
        where
          of_new : IsOf g names h x → IsOf g names h y
          of_new o = record {
            sort = o.sort ∙ sym stood.sort;
            slots = ap (λ v. map (slice_get names) v.items) stood.slots ∙ o.slots;
            deep = stood.deep ∙ o.deep;
            rules = ap (map mark_rule) stood.marks ∙ rules-stand_at s j x.marks.items ∙ o.rules ∙ ap (λ q. open_rules g q (state_of h.done)) (sym stood.sort);
          }

      told_by : (q m : ℕ) (h : Held) (z : Record) → slice_get ns q ≡ Some m → slice_get hs q ≡ Some h → WasWritten n y xs m z → AreTold g k names late h z.marks.items
      told_by q m h z e u (inr (other, w)) = f.told q m h z e u w
      told_by q m h z e u (inl (same, b)) = subst (λ (v : Record). AreTold g k names late h v.marks.items) (sym b)
          (λ a v w late_not. told_mark a v late_not (get-stand_at s j x.marks.items _ a v mark (ap (λ l. slice_get l a) (sym stood.marks) ∙ w)))
        where
          told_mark : (a : ℕ) (v : Mark) → waits_for_one names late v.stands ≡ false → Stood s j x.marks.items (waiting_mark rule slot) a v → IsTold g k names h v
          told_mark a v not (inl (c, d)) = subst (IsTold g k names h) (sym d) (says_now q m h same e u)
          told_mark a v not (inr (_, w)) = f.told q n h x (e ∙ ap Some same) u here a v w not

      ends_by : (q m a : ℕ) (h : Held) (z : Record) (v : Mark) → slice_get ns q ≡ Some m → slice_get hs q ≡ Some h → WasWritten n y xs m z → slice_get z.marks.items a ≡ Some v →
          WaitsAtEnd g k names h v
      ends_by q m a h z v e u (inr (other, w)) p = f.ends q m a h z v e u w p
      ends_by q m a h z v e u (inl (same, b)) p =
          ends_mark (get-stand_at s j x.marks.items _ a v mark (ap (λ l. slice_get l a) (sym stood.marks) ∙ ap (λ (r : Record). slice_get r.marks.items a) (sym b) ∙ p))
        where
          ends_mark : Stood s j x.marks.items (waiting_mark rule slot) a v → WaitsAtEnd g k names h v
          ends_mark (inl (c, d)) = told_ends g k names h v (subst (IsTold g k names h) (sym d) (says_now q m h same e u))
          ends_mark (inr (_, w)) = f.ends q n a h x v (e ∙ ap Some same) u here w

  none_for : (q : ℕ) (s : Stands) → s ≢ stands.Waits q → waiting_at q (due_of n rule s) ≡ 0
  none_for q stands.Ready d = refl
  none_for q (stands.Differs place) d = refl
  none_for q (stands.Circle c) d = refl
  none_for q stands.TooDeep d = refl
  none_for q (stands.Waits c) d = by (eqb_tells c q)
    where
      by : ((nat_eq c q ≡ true) × (c ≡ q)) ⊎ ((nat_eq c q ≡ false) × (c ≢ q)) → waiting_at q (due_of n rule (stands.Waits c)) ≡ 0
      by (inl (t, same)) = absurd (d (ap stands.Waits same))
      by (inr (t, other)) = ap (λ b. 0 + cond b 1 0) t

  -- a rule that waits again does not wait for a slot whose reference has an equation
  pub waits_elsewhere : LacksBody k names s → (q : ℕ) → is_some (body_at k names q) ≡ true → waiting_at q us ≡ waiting_at q ts
  waits_elsewhere lacks q learnt =
      let other : s ≢ stands.Waits q = λ e. absurd (not_none (body_at k names q) learnt (lacks q e)) in
      omega (arith, stood.waiting (λ t. nat_eq t.slot q), none_for q s other)
    where
      not_none : {A : Type 0} (o : Option A) → is_some o ≡ true → o ≡ None → ⊥
      not_none None t e = absurd cc
      not_none (Some a) t e = absurd cc

-- the record and the mark of a triple that was taken out
pub taken_waits : (g : Grammar) (names : List Ref) (slot n rule : ℕ) (ns : List ℕ) (xs : List Record) (ts : List Triple) → AreFit g names ns xs (triple slot n rule ∷ ts) → NodeWaits ns xs slot n rule
taken_waits g names slot n rule ns xs ts f =
    due_is slot n rule ns xs (omega (arith, f.waiting (is_triple slot n rule), triple_counts slot n rule ts))

-- where nothing waits for the slot of a reference, none of the rules waits for that one
module _ (g : Grammar) (hs : List Held) (k : Map) (names : List Ref) (ns : List ℕ) (xs : List Record) (ts : List Triple) (slot : ℕ) (r : Ref) (late : List Ref)
    (once : IsNamedOnce names) (named : slice_get names slot ≡ Some r) (none : waiting_at slot ts ≡ 0) where
  not_late : AreFit g names ns xs ts → (i n : ℕ) (x : Record) (j : ℕ) (m : Mark) → slice_get ns i ≡ Some n → slice_get xs n ≡ Some x → slice_get x.marks.items j ≡ Some m →
      waits_for_one names late m.stands ≡ false → waits_for_one names (r ∷ late) m.stands ≡ false
  not_late f i n x j m e u v not = by m.stands refl not
    where
      late_by : (slot' : ℕ) (o : Option Ref) → m.stands ≡ stands.Waits slot' → slice_get names slot' ≡ o → is_one_of late o ≡ false → is_one_of (r ∷ late) o ≡ false
      late_by slot' None s w y = refl
      late_by slot' (Some q) s w y = eq_by (ref_eq q r) refl
        where
          eq_by : (b : Bool) → ref_eq q r ≡ b → is_one_of (r ∷ late) (Some q) ≡ false
          eq_by false c = ap (λ b. b || is_named late q) c ∙ y
          eq_by true c =
              let same : slot' ≡ slot = once slot' slot r (w ∙ ap Some (ref_eq-true q r c)) named in
              let due = due_at (λ t. nat_eq t.slot slot) ns xs i n x j m e u v in
              let here = ap (λ z. waiting_at slot (due_of n m.rule z)) (s ∙ ap stands.Waits same) in
              let one = ap (λ b. 0 + cond b 1 0) (eq-eqb slot slot refl) in
              absurd (omega (arith, due, here, one, none, f.waiting (λ t. nat_eq t.slot slot)))

      by : (s : Stands) → m.stands ≡ s → waits_for_one names late s ≡ false → waits_for_one names (r ∷ late) s ≡ false
      by stands.Ready e' y = refl
      by (stands.Differs place) e' y = refl
      by (stands.Circle c) e' y = refl
      by stands.TooDeep e' y = refl
      by (stands.Waits c) e' y = late_by c (slice_get names c) e' refl y

  pub kept_learnt : AreKept g hs k names (r ∷ late) ns xs ts → AreKept g hs k names late ns xs ts
  kept_learnt f = record {
    fits = f.fits;
    beside = f.beside;
    of_node = f.of_node;
    told = λ i n h x e u v j m w not. f.told i n h x e u v j m w (not_late f.fits i n x j m e v w not);
    ends = f.ends;
  }

-- of the same triples in another order the same is kept
pub fits_same : (g : Grammar) (names : List Ref) (ns ms : List ℕ) (xs ys : List Record) (ts us : List Triple) → ms ≡ ns → ys ≡ xs →
    ((p : Triple → Bool) → count_by p us ≡ count_by p ts) → AreFit g names ns xs ts → AreFit g names ms ys us
fits_same g names ns ms xs ys ts us e d same f =
    subst (λ z. AreFit g names z ys us) (sym e) (subst (λ z. AreFit g names ns z us) (sym d)
    (record { counted = f.counted; apart = f.apart; known = f.known; fit = f.fit; waiting = λ p. same p ∙ f.waiting p }))

pub kept_same : (g : Grammar) (hs : List Held) (k : Map) (names late : List Ref) (ns ms : List ℕ) (xs ys : List Record) (ts us : List Triple) → ms ≡ ns → ys ≡ xs →
    ((p : Triple → Bool) → count_by p us ≡ count_by p ts) →
    AreKept g hs k names late ns xs ts → AreKept g hs k names late ms ys us
kept_same g hs k names late ns ms xs ys ts us e d same f =
    subst (λ z. AreKept g hs k names late z ys us) (sym e) (subst (λ z. AreKept g hs k names late ns z us) (sym d)
    (record { fits = fits_same g names ns ns xs xs ts us refl refl same f.fits; beside = f.beside; of_node = f.of_node; told = f.told; ends = f.ends }))

pub count_same : (p : Triple → Bool) (ts us : List Triple) → IsPermutation ts us → count_by p us ≡ count_by p ts
count_same p ts us same = sum_by-IsPermutation (λ z. cond (p z) 1 0) ts us same

pub one_record : (xs : List Record) (i : ℕ) (x y : Record) → slice_get xs i ≡ Some x → slice_get xs i ≡ Some y → x ≡ y
one_record xs i x y e f = cc
